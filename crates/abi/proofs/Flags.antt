-- A flag of a word, tested by a mask of one bit.
use Rattle.std.proofs.Common.{◌≡◌, ℕ, ◌+◌, ◌*◌, ◌/◌, ◌%◌, ◌^◌, ◌<◌, not, eqb, sym, ap, ◌∙◌, ap₂, inl, inr, add-zero, zero-mul, arith}
use lib.Bits.{bit_and}
use Rattle.std.proofs.lemmas.Bool.{cases_eq, ne_eqb, eq-eqb}
use Rattle.std.proofs.lemmas.Nat.{and_shr, and_mod, and_mask, and_comm, shr_split, pow_pos, div-mul-add, mod-mul-add}

-- what is left of n under the mask of the bit k
masked : (n k : ℕ) → bit_and n (2 ^ k) ≡ (n / 2 ^ k % 2) * 2 ^ k
masked n k =
    let pos = pow_pos k in
    let one : 2 ^ k / 2 ^ k ≡ 1 = ap (λ m. m / 2 ^ k) (sym (omega arith)) ∙ div-mul-add 1 (2 ^ k) 0 pos in
    let none : 2 ^ k % 2 ^ k ≡ 0 = ap (λ m. m % 2 ^ k) (sym (omega arith)) ∙ mod-mul-add 1 (2 ^ k) 0 pos in
    let high : bit_and n (2 ^ k) / 2 ^ k ≡ n / 2 ^ k % 2 = and_shr n (2 ^ k) k ∙ ap (bit_and (n / 2 ^ k)) one ∙ and_mask (n / 2 ^ k) 1 in
    let low : bit_and n (2 ^ k) % 2 ^ k ≡ 0 = and_mod n (2 ^ k) k ∙ ap (bit_and (n % 2 ^ k)) none ∙ and_comm (n % 2 ^ k) 0 in
    sym (shr_split (bit_and n (2 ^ k)) k) ∙ ap₂ (λ a b. a * 2 ^ k + b) high low ∙ add-zero (n / 2 ^ k % 2 * 2 ^ k)

-- a bit is 0 or 1, and so is nothing or something under its mask
bit : (q m : ℕ) → q < 2 → 0 < m → not (eqb (q * m) 0) ≡ eqb q 1
bit q m h p =
    elim (cases_eq q 0) [
      | inl z ↦ ap (λ x. not (eqb (x * m) 0)) z ∙ ap (λ x. not (eqb x 0)) (zero-mul m) ∙ ap (λ x. eqb x 1) (sym z)
      | inr s ↦
          let one : q ≡ 1 = omega arith in
          let some : q * m ≡ 0 → ⊥ = λ e. (let w : 1 * m ≡ 0 = ap (λ x. x * m) (sym one) ∙ e in omega arith) in
          ap not (ne_eqb (q * m) 0 some) ∙ sym (eq-eqb q 1 one)
    ]

pub flag_set : (n k : ℕ) → not (eqb (bit_and n (2 ^ k)) 0) ≡ eqb (n / 2 ^ k % 2) 1
flag_set n k = ap (λ x. not (eqb x 0)) (masked n k) ∙ bit (n / 2 ^ k % 2) (2 ^ k) (omega arith) (pow_pos k)
