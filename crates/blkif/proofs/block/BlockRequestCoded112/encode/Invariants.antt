use Rattle.std.proofs.Common.{◌≡◌, ◌+◌, ◌*◌, ◌++◌, length, take}
use Rattle.std.specs.List.{flat_map, AllByRecursion as All}
use Rattle.blkif.proofs.Segments.{head_of, bytes_of, Fits}
use Rattle.blkif.proofs.block.BlockRequestCoded112.encode.Given as goal

abbrev pub invariant-loop-i : goal.invariant-loop-i
invariant-loop-i l = (length l.out ≡ 112) × (take (24 + 8 * l.i) l.out ≡ head_of l.self ++ flat_map bytes_of (take l.i l.self.segments)) × All Fits (take l.i l.self.segments)
