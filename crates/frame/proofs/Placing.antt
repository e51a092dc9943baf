-- Bytes that are placed in a memory, and what lies elsewhere.
use Rattle.std.proofs.Common.{◌≡◌, ℕ, ◌+◌, ◌-◌, ◌*◌, ◌≤◌, ◌⊎◌, List, ◌++◌, length, take, drop, Ok, sym, refl, ap, ◌∙◌, subst, inl, inr, arith}
use borrow.Rule.Slice.PartMut.{put_mid}
use Rattle.std.proofs.lemmas.List.{drop-drop}
use Rattle.std.proofs.lemmas.Slice.{between_is, take-put_mid_below, drop-put_mid}
use Rattle.std.proofs.lemmas.Bool.{cases_order, ltb-false}
use Rattle.rules.proofs.Refusals.{none-held}
use Rattle.frame.specs.Memory.{bytes_at, placed, OthersKept, part_rules, part_verdict, Written}

-- a part of a slice that was overwritten, as a memory with bytes placed in it
pub put_is_placed : (a k : ℕ) (m ys bs : List ℕ) → ys ≡ bs → length bs ≡ k → put_mid a k m ys ≡ placed a bs m
put_is_placed a k m ys bs e l =
    ap (λ y. put_mid a k m y) e ∙ ap (λ t. take a m ++ (bs ++ t)) (drop-drop k a m ∙ ap (λ n. drop (a + n) m) (sym l))

-- n bytes from j on are the front of what ends behind them
from_front : (j n : ℕ) (m : List ℕ) → bytes_at j n m ≡ drop j (take (j + n) m)
from_front j n m =
    let e : n ≡ j + n - j = omega arith in
    ap (λ k. take k (drop j m)) e ∙ between_is m j (j + n)

-- what lies before the placed bytes, or behind them, is as it was
pub placed_elsewhere : (a : ℕ) (bs m : List ℕ) → a + length bs ≤ length m → (j n : ℕ) → (j + n ≤ a) ⊎ (a + length bs ≤ j)
    → bytes_at j n (placed a bs m) ≡ bytes_at j n m
placed_elsewhere a bs m h j n w =
    let p : put_mid a (length bs) m bs ≡ placed a bs m = put_is_placed a (length bs) m bs bs refl refl in
    let le : a ≤ length m = omega arith in
    ap (bytes_at j n) (sym p) ∙ elim w [
      | inl before ↦ from_front j n (put_mid a (length bs) m bs) ∙ ap (drop j) (take-put_mid_below a (length bs) m bs (j + n) before le) ∙ sym (from_front j n m)
      | inr behind ↦ ap (take n) (drop-put_mid a (length bs) m bs j behind le refl)
    ]

-- bytes that are placed in a frame leave every other frame as it was
pub placed_in_frame : (f offset : ℕ) (bs m : List ℕ) → offset + length bs ≤ 4096 → 4096 * f + 4096 ≤ length m
    → OthersKept f m (placed (4096 * f + offset) bs m)
placed_in_frame f offset bs m h l g other =
    placed_elsewhere (4096 * f + offset) bs m (omega arith) (4096 * g) 4096
    (elim (cases_order g f) [
      | inl same ↦ absurd (other same)
      | inr o ↦ elim o [ inl less ↦ inl (omega arith) | inr more ↦ inr (omega arith) ]
    ])

-- a part that is granted lies inside its frame, and the frame inside the memory
pub part_granted : (size f offset n : ℕ) → part_verdict size f offset n ≡ Ok tt → (4096 * f + 4096 ≤ size) × (offset + n ≤ 4096)
part_granted size f offset n e =
    let g = none-held (part_rules size f offset n) (Ok tt) tt e in
    (ltb-false size (4096 * f + 4096) g.0.0, ltb-false 4096 (offset + n) g.0.1.0)

-- bytes placed where a part lies are a write of that part
pub written : (m bs after : List ℕ) (f offset start : ℕ) → Ok tt ≡ part_verdict (length m) f offset (length bs) → start ≡ 4096 * f + offset → after ≡ placed start bs m
    → Written m f offset bs (Ok tt) after
written m bs after f offset start answer at e =
    let g = part_granted (length m) f offset (length bs) (sym answer) in
    let w : after ≡ placed (4096 * f + offset) bs m = e ∙ ap (λ k. placed k bs m) at in
    record { answer = answer; after = w; others = subst (OthersKept f m) (sym w) (placed_in_frame f offset bs m g.1 g.0) }
