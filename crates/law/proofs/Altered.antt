-- Parts that are filled alter only the frames in which they lie.
use Rattle.std.proofs.Common.{◌≡◌, ℕ, suc, ◌+◌, ◌*◌, ◌<◌, ◌≤◌, List, [], ◌∷◌, ◌++◌, length, get_or, take, drop, sym, refl, ap, ◌∙◌, inl, inr, arith}
use Rattle.std.proofs.lemmas.Bool.{ltb-false, cases_order}
use Rattle.rules.proofs.Refusals.{none-held, by_verdict}
use Rattle.frame.specs.Memory.{placed, frame_bytes}
use Rattle.frame.proofs.Placing.{placed_elsewhere}
use Rattle.device.specs.Laws.{Laws}
use Rattle.device.specs.Meaning.{Rules, serving}
use Rattle.device.specs.Transfer.{end_of, part_rules, overwritten, handing, filled_parts}
use Rattle.device.specs.declared.orders.Direction.TheVariants.{Inward}
use Rattle.device.specs.declared.transfer.Part.{Part}
use Rattle.law.proofs.Inv.{PartIn, no_part}

-- bytes over a part of the memory are placed there
pub overwritten_is : (p : Part) (ys m : List ℕ) → length ys ≡ p.length → overwritten p ys m ≡ placed p.start ys m
overwritten_is p ys m size = ap (λ n. take p.start m ++ (ys ++ drop (p.start + n) m)) (sym size)

-- they leave every frame but the one in which it lies
overwritten-others : (p : Part) (f g : ℕ) (ys m : List ℕ) → PartIn p f → (g ≡ f → ⊥) → length ys ≡ p.length → end_of p ≤ length m
    → frame_bytes g (overwritten p ys m) ≡ frame_bytes g m
overwritten-others p f g ys m lies other size within =
    let offset : ℕ = lies.offset in
    let start : p.start ≡ 4096 * f + offset = lies.start in
    let inside : offset + p.length ≤ 4096 = lies.inside in
    ap (frame_bytes g) (overwritten_is p ys m size)
    ∙ placed_elsewhere p.start ys m (omega arith) (4096 * g) 4096
    (elim (cases_order g f) [
      | inl e ↦ absurd (other e)
      | inr o ↦ elim o [ inl less ↦ inl (omega arith) | inr more ↦ inr (omega arith) ]
    ])

-- fills leave every frame in which no part lies
pub filled-others : {X : Type 0} (D : Rules X) → Laws D → (x : X) (t at : ℕ) (ps : List Part) (m : List ℕ) (g : ℕ)
    → ((i : ℕ) → i < length ps → (f : ℕ) × (PartIn (get_or ps i no_part) f × (g ≡ f → ⊥)))
    → frame_bytes g (filled_parts D x t at ps m) ≡ frame_bytes g m
filled-others D laws x t at [] m g lies = refl
filled-others D laws x t at (p ∷ ps) m g lies =
    let here = lies 0 (omega arith) in
    by_verdict (λ (after : List ℕ). frame_bytes g after ≡ frame_bytes g m) (handing D x t Inward at p (length m)) m
    (λ o. filled_parts D x t (at + p.length) ps (overwritten p (D.bytes x o at p.length) m)) refl
    (λ o granted.
    let h = none-held (part_rules (length m) at p) (serving D x t Inward (at + p.length)) o granted in
    let within : end_of p ≤ length m = ltb-false (length m) (end_of p) h.0.0 in
    filled-others D laws x t (at + p.length) ps (overwritten p (D.bytes x o at p.length) m) g (λ i below. lies (suc i) (omega arith))
    ∙ overwritten-others p here.0 g (D.bytes x o at p.length) m here.1.0 here.1.1 (laws.bytes_length x o at p.length) within)
