-- Frames as parts of the memory: frame f has the 4,096 bytes from 4,096 × f on.
use Rattle.std.specs.Prelude.{◌≡◌, ℕ, ◌+◌, ◌*◌, Bool, List, [], ◌∷◌, ◌++◌, length, take, drop, replicate, Ok, Result, ◌≢◌, nat_lt}
use Rattle.rules.specs.Refusal.{Rule, refuse_first, after_ok}
use Rattle.frame.specs.declared.fault.FrameFault.{FrameFault}
use Rattle.frame.specs.declared.fault.FrameFault.TheVariants.{NoFrame, OutOfFrame}

-- the n bytes of m from k on
abbrev pub bytes_at : ℕ → ℕ → List ℕ → List ℕ
bytes_at k n m = take n (drop k m)

-- m with the bytes bs from k on
abbrev pub placed : ℕ → List ℕ → List ℕ → List ℕ
placed k bs m = take k m ++ (bs ++ drop (k + length bs) m)

-- the bytes of the frame f
abbrev pub frame_bytes : ℕ → List ℕ → List ℕ
frame_bytes f m = bytes_at (4096 * f) 4096 m

-- m with every byte of the frame f at 0
abbrev pub zeroed : ℕ → List ℕ → List ℕ
zeroed f m = placed (4096 * f) (replicate 4096 0) m

-- n bytes at this offset of a frame end past it
abbrev pub past_frame : ℕ → ℕ → Bool
past_frame offset n = nat_lt 4096 (offset + n)

-- when a memory of size bytes has no such part of a frame
abbrev pub part_rules : ℕ → ℕ → ℕ → ℕ → List (Rule FrameFault)
part_rules size f offset n = (nat_lt size (4096 * f + 4096), NoFrame) ∷ (past_frame offset n, OutOfFrame) ∷ []

abbrev pub part_verdict : ℕ → ℕ → ℕ → ℕ → Result Unit FrameFault
part_verdict size f offset n = refuse_first (part_rules size f offset n) (Ok tt)

-- every other frame is as it was
abbrev pub OthersKept : ℕ → List ℕ → List ℕ → Type 0
OthersKept f before after = (g : ℕ) → (g ≢ f) → frame_bytes g after ≡ frame_bytes g before

-- a part of a frame was written, or the write refused
pub record Written (m : List ℕ) (f offset : ℕ) (bs : List ℕ) (r : Result Unit FrameFault) (m' : List ℕ) : Type 0 where
  pub answer : r ≡ part_verdict (length m) f offset (length bs)
  pub after : m' ≡ after_ok r m (λ _. placed (4096 * f + offset) bs m)
  pub others : OthersKept f m m'

-- a part of a frame was read, or the read refused and the buffer left as it was
pub record ReadPart (m : List ℕ) (f offset : ℕ) (buffer : List ℕ) (r : Result Unit FrameFault) (buffer' : List ℕ) : Type 0 where
  pub answer : r ≡ part_verdict (length m) f offset (length buffer)
  pub filled : buffer' ≡ after_ok r buffer (λ _. bytes_at (4096 * f + offset) (length buffer) m)
