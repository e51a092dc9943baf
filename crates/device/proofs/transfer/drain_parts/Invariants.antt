use Rattle.std.proofs.Common.{◌≡◌, drop}
use Rattle.device.specs.Transfer.{draining_parts, drained_parts}
use Rattle.device.proofs.transfer.drain_parts.Given as goal

abbrev pub invariant-loop-part : goal.invariant-loop-part
invariant-loop-part g l =
    let d = g.D.Device in
    let m = d.meaning l.device in
    let m₀ = d.meaning l.initial.device in
    (draining_parts d.rules m l.ticket l.next (drop l.part-index l.parts) l.memory ≡ draining_parts d.rules m₀ l.ticket l.at l.parts l.memory)
    × (drained_parts d.rules m l.ticket l.next (drop l.part-index l.parts) l.memory ≡ drained_parts d.rules m₀ l.ticket l.at l.parts l.memory)
