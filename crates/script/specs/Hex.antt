-- Hexadecimal digits and bytes.
use Rattle.std.specs.Prelude.{◌≡◌, ℕ, ◌+◌, ◌-◌, ◌*◌, Bool, cond, ◌&&◌, List, [], ◌∷◌, ◌++◌, Some, None, Ok, Err, Option, Result, nat_le}
use Rattle.script.specs.declared.error.LineError.{LineError}
use Rattle.script.specs.declared.error.LineError.TheVariants.{NoSuchCall, WrongWords, NotNumber, NotHalf, NotHex, NoMemory}

abbrev within : ℕ → ℕ → ℕ → Bool
within low high c = nat_le low c && nat_le c high

-- 0 to 9, a to f and A to F
abbrev pub hex_digit : ℕ → Option ℕ
hex_digit c = cond (within 48 57 c) (Some (c - 48)) (cond (within 97 102 c) (Some (c - 97 + 10)) (cond (within 65 70 c) (Some (c - 65 + 10)) None))

-- the byte that two digits write
abbrev pub two_digits : Option ℕ → Option ℕ → Option ℕ
two_digits (Some h) (Some l) = Some (h * 16 + l)
two_digits (Some h) None = None
two_digits None (Some l) = None
two_digits None None = None

-- what follows a byte, if there is one
abbrev pub with_byte : Option ℕ → (ℕ → Option (List ℕ)) → Option (List ℕ)
with_byte (Some b) next = next b
with_byte None next = None

-- the bytes that digits write two by two, behind those read before
abbrev pub hex_on : List ℕ → List ℕ → Option (List ℕ)
hex_on before [] = Some before
hex_on before (c ∷ []) = None
hex_on before (h ∷ l ∷ cs) = with_byte (two_digits (hex_digit h) (hex_digit l)) (λ b. hex_on (before ++ b ∷ []) cs)

-- the bytes of a word are read and kept somewhere, or it writes none, or memory is short
abbrev pub ReadsBytes : {V : Type 0} → (V → List ℕ) → List ℕ → Result V LineError → Type 0
ReadsBytes items word (Ok v) = hex_on [] word ≡ Some (items v)
ReadsBytes items word (Err NotHex) = hex_on [] word ≡ None
ReadsBytes items word (Err NoMemory) = Unit {0}
ReadsBytes items word (Err NoSuchCall) = ⊥
ReadsBytes items word (Err (WrongWords v)) = ⊥
ReadsBytes items word (Err NotNumber) = ⊥
ReadsBytes items word (Err NotHalf) = ⊥
