use Rattle.std.proofs.Common.{◌≡◌, length, drop}
use Rattle.device.specs.Transfer.{filling_parts, filled_parts}
use Rattle.device.proofs.transfer.fill_parts.Given as goal

abbrev pub invariant-loop-part : goal.invariant-loop-part
invariant-loop-part g l =
    let d = g.D.Device in
    let m = d.meaning l.initial.device in
    let n = length l.initial.memory in
    (d.meaning l.device ≡ m)
    × (filling_parts d.rules m l.ticket l.next (drop l.part-index l.parts) n ≡ filling_parts d.rules m l.ticket l.at l.parts n)
    × (filled_parts d.rules m l.ticket l.next (drop l.part-index l.parts) l.memory ≡ filled_parts d.rules m l.ticket l.at l.parts l.initial.memory)
