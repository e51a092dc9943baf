use Rattle.std.proofs.Common.{◌≡◌, ◌<◌, true, cond, ltb, Ok, Err, ap, ◌∙◌, arith, rules}
use Rattle.std.proofs.lemmas.Result.{err_from_is_err_and}
use Rattle.std.proofs.lemmas.Bool.Decides.{nat_tests}
use Rattle.rules.specs.Refusal.{either_of}
use Rattle.event.specs.Pending.{pick}
use Rattle.ring.specs.declared.fault.RingFault.TheVariants.{BadBay}
use Rattle.answer.specs.declared.fault.HostFault.TheVariants.{OfRing}
use Rattle.law.specs.Call.{Complete}
use Rattle.law.specs.Step.{proceeds, told, completed_in, bay_numbered}
use Rattle.host.specs.View.{seen}
use Rattle.host.proofs.Bays.{kept_refused, kept_barred, kept_block, kept_net}
use Rattle.host.proofs.state.Host.complete.Goals as goal

pub returns-in_err-fitting : goal.returns-in_err-fitting
returns-in_err-fitting g c =
    let p = err_from_is_err_and c.from_residual.result c.from_residual.ensures.1 in
    kept_refused g.B.Device.laws g.N.Device.laws c.in_err-fitting.ensures.answer (p.1 ∙ ap Err p.2)

pub returns-in-BlockBay : goal.returns-in-BlockBay
unfolding proceeds
returns-in-BlockBay g c =
    let b = g.B.Device in
    let n = g.N.Device in
    let w = seen c.args.self.now c.args.memory.now (b.meaning c.args.block.now) (n.meaning c.args.net.now) in
    let bay : c.args.bay ≡ 0 = search rules in
    kept_block b.laws n.laws c.in_ok-fitting.ensures.answer c.complete.ensures c.passed_up.ensures
    (ap (λ k. proceeds b.rules n.rules pick w (Complete k)) bay)

pub returns-in-NetBay : goal.returns-in-NetBay
unfolding proceeds
returns-in-NetBay g c =
    let b = g.B.Device in
    let n = g.N.Device in
    let w = seen c.args.self.now c.args.memory.now (b.meaning c.args.block.now) (n.meaning c.args.net.now) in
    let bay : c.args.bay ≡ 1 = search rules in
    kept_net b.laws n.laws c.in_ok-fitting.ensures.answer c.complete-in-NetBay.ensures c.passed_up-in-NetBay.ensures
    (ap (λ k. proceeds b.rules n.rules pick w (Complete k)) bay)

pub returns-in_err-map_err : goal.returns-in_err-map_err
unfolding proceeds
returns-in_err-map_err g c =
    let b = g.B.Device in
    let n = g.N.Device in
    let w = seen c.args.self.now c.args.memory.now (b.meaning c.args.block.now) (n.meaning c.args.net.now) in
    let refused : c.from_residual-in_err-map_err.result ≡ Err (OfRing BadBay) = search rules in
    let above : 1 < c.args.bay = search rules in
    let past : ltb 1 c.args.bay ≡ true = search (rules, arith, nat_tests) in
    rw refused
    (kept_barred b.laws n.laws c.in_ok-fitting.ensures.answer
    (ap (λ k. either_of (cond k (Err BadBay) (Ok tt)) (λ _. completed_in b.rules n.rules (bay_numbered c.args.bay) w) (λ e. record { answer = told (Err (OfRing e)); world = w })) past))
