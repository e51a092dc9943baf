use Rattle.std.proofs.Common.{List, [], ◌∷◌, map, get_or, take, Ok, sym, ap, ◌∙◌, subst}
use Rattle.std.proofs.lemmas.List.{map-append, take_more, take_all}
use Rattle.rules.specs.Refusal.{granting}
use Rattle.event.specs.Pending.{pick}
use Rattle.backend.specs.declared.tables.Tables.{Tables}
use Rattle.law.specs.Call.{Call}
use Rattle.law.specs.Run.{after_calls, Ran}
use Rattle.host.specs.Calls.{call_of}
use Rattle.host.specs.View.{fresh, seen}
use Rattle.host.specs.declared.call.Call.TheVariants.{Take}
use Rattle.host.proofs.Running.{is_new, after_more, ran_none, ran_more}
use Rattle.host.proofs.whole.run.Goals as goal

pub loop-call-init : goal.loop-call-init
unfolding after_calls
loop-call-init g c =
    let b = g.B.Device in
    let n = g.N.Device in
    let m = c.args.memory.now in
    let x = b.meaning c.args.block.now in
    let y = n.meaning c.args.net.now in
    let new = is_new c.args.frames m _ (sym c.in_ok-host.ensures.started) in
    let same = ap (λ (H : Tables). record { host = H; memory = m; bay0 = x; bay1 = y }) new in
    (same, λ p q. ran_none b.rules n.rules pick (fresh c.args.frames m x y) _ (record { count = c.args.frames; new = sym c.in_ok-host.ensures.started ∙ ap Ok new; idle0 = p; idle1 = q }) same)

pub loop-call-preserved : goal.loop-call-preserved
loop-call-preserved g c =
    let b = g.B.Device in
    let n = g.N.Device in
    let calls = c.args.calls.now in
    let i = c.loop-call.call-index in
    let u = fresh c.args.frames c.args.memory.now (b.meaning c.args.block.now) (n.meaning c.args.net.now) in
    let v = seen c.call.new.self c.call.new.memory (b.meaning c.call.new.block) (n.meaning c.call.new.net) in
    let one_more = sym (ap (map call_of) (take_more calls i (Take 0 0) c.loop-call-test.true) ∙ map-append call_of (take i calls) (get_or calls i (Take 0 0) ∷ [])) in (
      after_more b.rules n.rules pick u _ _ _ _ v c.loop-call.invariant.0 c.call.ensures.step ∙ ap (after_calls b.rules n.rules pick u) one_more,
      λ p q. subst (λ (xs : List Call). Ran b.rules n.rules pick u xs v) one_more (ran_more b.rules n.rules pick u _ _ _ _ _ (c.loop-call.invariant.1 p q) c.call.ensures.step),
    )

pub returns : goal.returns
returns g c =
    let b = g.B.Device in
    let n = g.N.Device in
    let u = fresh c.args.frames c.args.memory.now (b.meaning c.args.block.now) (n.meaning c.args.net.now) in
    let w = seen c.loop-call.host c.loop-call.memory (b.meaning c.loop-call.block) (n.meaning c.loop-call.net) in
    let all = take_all c.loop-call.call-index c.args.calls.now c.loop-call-test.false in
    record {
      started = ap (granting {U = Unit} (λ _. tt)) c.in_ok-host.ensures.started;
      parts = tt;
      refused = tt;
      steps = c.loop-call.invariant.0 ∙ ap (λ xs. after_calls b.rules n.rules pick u (map call_of xs)) all;
      lawful = λ p q. subst (λ xs. Ran b.rules n.rules pick u (map call_of xs) w) all (c.loop-call.invariant.1 p q);
    }
