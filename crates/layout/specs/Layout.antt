-- Layouts: a message is a list of parts, and this says what its bytes and its values are.
-- Every number has its lowest byte first.
use Rattle.std.specs.Prelude.{ℕ, zero, suc, ◌+◌, ◌*◌, ◌/◌, ◌%◌, ◌^◌, ◌<◌, List, [], ◌∷◌, ◌++◌, replicate, slice_index}

-- a part of a message: a field of w bytes, or w bytes that no field covers
pub data Part : Type 0 where
  field : ℕ → Part
  gap : ℕ → Part

-- the w lowest bytes of x, lowest first
abbrev pub le : ℕ → ℕ → List ℕ
le zero x = []
le (suc w) x = x % 256 ∷ le w (x / 256)

-- the w bytes of bs from k on
abbrev pub bytes_from : ℕ → ℕ → List ℕ → List ℕ
bytes_from zero k bs = []
bytes_from (suc w) k bs = slice_index bs k ∷ bytes_from w (k + 1) bs

-- the number that the w bytes of bs from k on write, lowest first
abbrev pub number : ℕ → ℕ → List ℕ → ℕ
number zero k bs = 0
number (suc w) k bs = slice_index bs k + 256 * number w (k + 1) bs

-- the bytes of a message whose fields have these values, with 0 where no field stands
abbrev pub written : List Part → List ℕ → List ℕ
written [] vs = []
written (gap w ∷ ps) vs = replicate w 0 ++ written ps vs
written (field w ∷ ps) [] = replicate w 0 ++ written ps []
written (field w ∷ ps) (v ∷ vs) = le w v ++ written ps vs

-- the values of the fields of a message that begins at the byte k of bs
abbrev pub read_at : ℕ → List Part → List ℕ → List ℕ
read_at k [] bs = []
read_at k (gap w ∷ ps) bs = read_at (k + w) ps bs
read_at k (field w ∷ ps) bs = number w k bs ∷ read_at (k + w) ps bs

-- the values of the fields of the message bs
abbrev pub read : List Part → List ℕ → List ℕ
read ps bs = read_at 0 ps bs

-- the bytes that a field covers, of a message that begins at the byte k of bs, and 0 for each other
abbrev pub covered_at : ℕ → List Part → List ℕ → List ℕ
covered_at k [] bs = []
covered_at k (gap w ∷ ps) bs = replicate w 0 ++ covered_at (k + w) ps bs
covered_at k (field w ∷ ps) bs = bytes_from w k bs ++ covered_at (k + w) ps bs

-- the bytes of the message bs that a field covers, and 0 for each other
abbrev pub covered : List Part → List ℕ → List ℕ
covered ps bs = covered_at 0 ps bs

-- there is one value for each field, and it fits there
abbrev pub Fit : List Part → List ℕ → Type 0
Fit [] [] = Unit {0}
Fit [] (v ∷ vs) = ⊥
Fit (gap w ∷ ps) vs = Fit ps vs
Fit (field w ∷ ps) [] = ⊥
Fit (field w ∷ ps) (v ∷ vs) = (v < 256 ^ w) × Fit ps vs

-- how many bytes a message has
abbrev pub size : List Part → ℕ
size [] = 0
size (gap w ∷ ps) = w + size ps
size (field w ∷ ps) = w + size ps
