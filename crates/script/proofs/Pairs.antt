-- Hexadecimal digits two by two, as hex::decode reads them.
use Rattle.std.proofs.Common.{◌≡◌, ℕ, ◌+◌, ◌*◌, ◌%◌, ◌==◌, Bool, true, false, if◌then◌else◌, List, [], ◌∷◌, ◌++◌, length, Option, Some, None, Result, Ok, Err, refl, sym, ap, ◌∙◌, arith}
use Rattle.std.proofs.Math.Seq.{append_snoc}
use Rattle.std.proofs.lemmas.Bool.{eqb-true}
use Rattle.std.proofs.lemmas.List.{append-nil}
use Rattle.hex.specs.Hex.{hex_digit_value, digit_or_error, decode_pairs, decode_of, ◌>>=◌}
use Rattle.hex.specs.declared.error.FromHexError.{FromHexError}
use Rattle.hex.specs.declared.error.FromHexError.TheVariants.{OddLength}
use Rattle.script.specs.Hex.{hex_digit, two_digits, with_byte, hex_on}

-- the bytes that were read, behind those read before
abbrev pub behind : List ℕ → Result (List ℕ) FromHexError → Option (List ℕ)
behind before (Ok bytes) = Some (before ++ bytes)
behind before (Err e) = None

-- a digit has one value
same_digit : (c : ℕ) → hex_digit c ≡ hex_digit_value c
same_digit c = grind arith

-- a byte more was read before
one_more : (before : List ℕ) (b : ℕ) (r : Result (List ℕ) FromHexError) → behind before (r >>= (λ bytes. Ok (b ∷ bytes))) ≡ behind (before ++ b ∷ []) r
one_more before b (Ok bytes) = ap Some (sym (append_snoc before b bytes))
one_more before b (Err e) = refl

-- the next two digits, with these values
pair_read : (before cs : List ℕ) (h l i : ℕ) (x y : Option ℕ) → ((b : ℕ) → hex_on (before ++ b ∷ []) cs ≡ behind (before ++ b ∷ []) (decode_pairs (i + 2) cs)) → with_byte (two_digits x y) (λ b. hex_on (before ++ b ∷ []) cs) ≡ behind before ((digit_or_error h i x >>= (λ a. digit_or_error l (i + 1) y >>= (λ b. Ok (a * 16 + b)))) >>= (λ byte. decode_pairs (i + 2) cs >>= (λ bytes. Ok (byte ∷ bytes))))
pair_read before cs h l i (Some a) (Some b) next = next (a * 16 + b) ∙ sym (one_more before (a * 16 + b) (decode_pairs (i + 2) cs))
pair_read before cs h l i (Some a) None next = refl
pair_read before cs h l i None (Some b) next = refl
pair_read before cs h l i None None next = refl

-- pairs of digits write the same bytes
pairs_read : (before ds : List ℕ) (i : ℕ) → hex_on before ds ≡ behind before (decode_pairs i ds)
unfolding decode_pairs
pairs_read before [] i = ap Some (sym (append-nil before))
pairs_read before (c ∷ []) i = refl
pairs_read before (h ∷ l ∷ cs) i =
    let next = λ (b : ℕ). hex_on (before ++ b ∷ []) cs in
    let high = ap (λ (x : Option ℕ). with_byte (two_digits x (hex_digit l)) next) (same_digit h) in
    let low = ap (λ (y : Option ℕ). with_byte (two_digits (hex_digit_value h) y) next) (same_digit l) in
    high ∙ low ∙ pair_read before cs h l i (hex_digit_value h) (hex_digit_value l) (λ b. pairs_read (before ++ b ∷ []) cs (i + 2))

-- whatever byte comes first, nothing is read
none_read : (x : Option ℕ) (f : ℕ → Option (List ℕ)) → ((b : ℕ) → f b ≡ None) → with_byte x f ≡ None
none_read (Some b) f none = none b
none_read None f none = refl

-- an odd number of digits writes no bytes
odd_is_none : (before ds : List ℕ) → length ds % 2 ≡ 1 → hex_on before ds ≡ None
odd_is_none before [] odd = absurd (omega arith)
odd_is_none before (c ∷ []) odd = refl
odd_is_none before (h ∷ l ∷ cs) odd = none_read (two_digits (hex_digit h) (hex_digit l)) (λ b. hex_on (before ++ b ∷ []) cs) (λ b. odd_is_none (before ++ b ∷ []) cs (omega arith))

by_length : (ds : List ℕ) (odd : Bool) → odd ≡ (length ds % 2 == 1) → hex_on [] ds ≡ behind [] (if odd then Err OddLength else decode_pairs 0 ds)
by_length ds true e = odd_is_none [] ds (eqb-true (length ds % 2) 1 (sym e))
by_length ds false e = pairs_read [] ds 0

-- the bytes of a word are those that decode gives
pub decoded : (ds : List ℕ) → hex_on [] ds ≡ behind [] (decode_of ds)
decoded ds = by_length ds (length ds % 2 == 1) refl
