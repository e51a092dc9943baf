use Rattle.std.proofs.Common.{◌≡◌, length, take}
use Rattle.blkif.proofs.Segments.{segments_at}
use Rattle.blkif.proofs.block.BlockRequestCoded112.decode.Given as goal

abbrev pub invariant-loop-i : goal.invariant-loop-i
invariant-loop-i l = (length l.segments ≡ 11) × (take l.i l.segments ≡ segments_at l.i 24 l.slot)
