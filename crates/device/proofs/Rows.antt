-- Bytes out of a row: how many; and bytes written into one.
use Rattle.std.proofs.Common.{◌≡◌, ℕ, ◌+◌, ◌≤◌, List, length, arith}
use borrow.Rule.Slice.PartMut.{put_mid}
use lib.Seq.{sets, sets-eq}
use Rattle.std.proofs.lemmas.Grind.{common_steps}
use Rattle.std.proofs.lemmas.List.{length-take, length-append, length-replicate}
use Rattle.device.specs.Row.{row_at}

pub length_row : (xs : List ℕ) (i n : ℕ) → length (row_at xs i n) ≡ n
length_row xs i n = simp (length-take, length-append, length-replicate) (omega arith)

-- a write to k bytes of a row from i on
pub row_written : (xs ys : List ℕ) (i k : ℕ) → k ≡ length ys → i + length ys ≤ length xs → put_mid i k xs ys ≡ sets xs i ys
row_written xs ys i k e le = grind (arith, common_steps, sets-eq)
