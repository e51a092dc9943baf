use Rattle.std.proofs.Common.{◌≡◌, [], map, take}
use Rattle.event.specs.Pending.{pick}
use Rattle.law.specs.Run.{after_calls, Ran}
use Rattle.host.specs.Calls.{call_of}
use Rattle.host.specs.View.{fresh, seen}
use Rattle.host.proofs.whole.run.Given as goal

abbrev pub invariant-loop-call : goal.invariant-loop-call
invariant-loop-call g l =
    let b = g.B.Device in
    let n = g.N.Device in
    let u = fresh l.initial.frames l.initial.memory (b.meaning l.initial.block) (n.meaning l.initial.net) in
    let made = map call_of (take l.call-index l.calls) in
    let now = seen l.host l.memory (b.meaning l.block) (n.meaning l.net) in
    (now ≡ after_calls b.rules n.rules pick u made)
    × (b.rules.orders (b.meaning l.initial.block) ≡ [] → n.rules.orders (n.meaning l.initial.net) ≡ [] → Ran b.rules n.rules pick u made now)
