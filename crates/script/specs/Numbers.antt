-- Decimal numbers.
use Rattle.std.specs.Prelude.{◌≡◌, ℕ, ◌+◌, ◌-◌, ◌*◌, ◌^◌, ◌<◌, true, List, [], ◌∷◌, length, Ok, Err, Result}
use Rattle.std.specs.Str.{all_ascii_digits}
use Rattle.script.specs.declared.error.LineError.{LineError}

-- the number that digits write, behind what was read before
abbrev pub read_on : ℕ → List ℕ → ℕ
read_on n [] = n
read_on n (c ∷ cs) = read_on (10 * n + (c - 48)) cs

-- digits, at least one and no sign, that write a number of so many bits
abbrev pub Decimal : ℕ → List ℕ → Type 0
Decimal k ds = (all_ascii_digits ds ≡ true) × (0 < length ds) × (read_on 0 ds < 2 ^ k)

-- just such a word is read, and else it is this fault
abbrev pub ReadsNumber : ℕ → LineError → List ℕ → Result ℕ LineError → Type 0
ReadsNumber k fault word (Ok n) = Decimal k word × (n ≡ read_on 0 word)
ReadsNumber k fault word (Err e) = (Decimal k word → ⊥) × (e ≡ fault)
