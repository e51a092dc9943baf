-- Bits of a word.
use Rattle.std.proofs.Common.{◌≡◌, ℕ, zero, suc, false, eqb, ◌-◌, ◌*◌, ◌%◌, ◌^◌, ◌<◌, ◌≤◌, List, length, Result, Ok, Err, Some, Option, refl, ap, ◌∙◌, arith}
use lib.Bits.{bit_and, bit_or}
use Rattle.std.specs.Prelude.{slice_index, slice_set}
use Rattle.std.specs.Int.{w32}
use Rattle.std.specs.Int.Count.{count_trailing_zeros, trailing_of_zero}
use Rattle.std.specs.Option.{option_map}
use Rattle.std.specs.Result.{MatchResult, result_ok}
use Rattle.std.proofs.lemmas.Bool.{ne_eqb}
use Rattle.std.proofs.lemmas.List.{get_or-set_same}
use Rattle.std.proofs.lemmas.Nat.{one_shl}
use Rattle.std.proofs.lemmas.Nat.Bits.{bit_at_set_same, bit_at_set_other, bit_at_clear_same, bit_at_clear_other, bit_at-trailing_zeros}
use Rattle.event.specs.Pending.{bit, Only, pick, picked, Picked}
use Rattle.event.specs.declared.fault.EventFault.{EventFault}
use Rattle.event.specs.declared.fault.EventFault.TheVariants.{BadPort}
use Rattle.event.specs.declared.port.Port.{Port}

-- the bit of a port, as it is shifted into a word
pub one_bit : (p : ℕ) → p < 32 → 1 * 2 ^ p % 2 ^ 32 ≡ 2 ^ p
one_bit p h = one_shl p 32 h

-- marking a port sets its bit and no other
pub marking : (ws : List ℕ) (d p : ℕ) → length ws ≡ 8 → d < 8 → p < 32 → Only p 1 (slice_index ws d) (slice_index (slice_set ws d (bit_or (slice_index ws d) (1 * 2 ^ p % 2 ^ 32))) d)
marking ws d p l b h =
    let w = slice_index ws d in
    let inside : d < length ws = omega arith in
    rw (get_or-set_same ws d (bit_or w (1 * 2 ^ p % 2 ^ 32)) 0 inside)
    (record { here = bit_at_set_same w32 w p h; others = λ q l other. bit_at_set_other w32 w p h q other })

-- dropping a mark clears its bit and no other
pub dropping : (ws : List ℕ) (d p : ℕ) → length ws ≡ 8 → d < 8 → p < 32 → Only p 0 (slice_index ws d) (slice_index (slice_set ws d (bit_and (slice_index ws d) (4294967295 - 1 * 2 ^ p % 2 ^ 32))) d)
dropping ws d p l b h =
    let w = slice_index ws d in
    let inside : d < length ws = omega arith in
    rw (get_or-set_same ws d (bit_and w (4294967295 - 1 * 2 ^ p % 2 ^ 32)) 0 inside)
    (record { here = bit_at_clear_same w32 w p h; others = λ q l other. bit_at_clear_other w32 w p h q l other })

-- what is picked of a word that is not empty was pending
pub lowest : (w : ℕ) → 0 < w → w < 2 ^ 32 → (pick w < 32) × (bit w (pick w) ≡ 1)
unfolding pick
lowest w p h = let l = bit_at-trailing_zeros w32 w p h in (l.0, l.1)

-- the port whose number is a word's trailing zeros, if there is one, is what is picked of it and was pending
pub picks : (w : ℕ) → w < 2 ^ 32 → (r : Result Port EventFault) (o : Option Port) → o ≡ result_ok r
    → MatchResult r (λ p. p.number ≡ count_trailing_zeros 32 w) (λ fault. (32 ≤ count_trailing_zeros 32 w) × (fault ≡ BadPort))
    → (option_map (λ p. p.number) o ≡ picked w) × Picked w (option_map (λ p. p.number) o)
unfolding pick
picks zero h (Ok p) o s e = let below : p.number < 32 = p.below in absurd (omega (arith, e, trailing_of_zero 32))
picks zero h (Err fault) o s e = rw s (refl, refl)
picks (suc n) h (Ok p) o s e =
    let lowest = bit_at-trailing_zeros w32 (suc n) (omega arith) h in
    let some : eqb (suc n) 0 ≡ false = ne_eqb (suc n) 0 (λ z. omega arith) in
    rw s (rw some (ap Some e, (p.below, ap (bit (suc n)) e ∙ lowest.1)))
picks (suc n) h (Err fault) o s e =
    let lowest = bit_at-trailing_zeros w32 (suc n) (omega arith) h in
    let below : count_trailing_zeros 32 (suc n) < 32 = lowest.0 in
    absurd (omega (arith, e.0))
