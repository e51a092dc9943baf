-- The first free place: it is free, and `position` finds it.
use Rattle.std.proofs.Common.{◌≡◌, ℕ, suc, ◌+◌, ◌<◌, not, List, [], ◌∷◌, length, is_some, Some, None, Option, refl, arith}
use Rattle.std.specs.List.{position_from}
use Rattle.rules.specs.Tables.{at, first_free}

pub first_free_is : {X : Type 0} (xs : List (Option X)) (k h : ℕ) → first_free k xs ≡ Some h → (j : ℕ) × (h ≡ k + j) × (j < length xs) × (at xs j ≡ None)
first_free_is [] k h e = absurd (let z : ◌≡◌ {A = ℕ} 0 1 = cc in omega arith)
first_free_is (None ∷ xs) k h e = (0, (let q : k ≡ h = cc in omega arith), omega arith, refl)
first_free_is (Some p ∷ xs) k h e = let i = first_free_is xs (k + 1) h e in (suc i.0, omega (arith, i.1), omega (arith, i.2), i.3)

-- the place that `position` finds by looking for one that is free
pub free-position : {X : Type 0} (k : ℕ) (xs : List (Option X)) → position_from (λ x. not (is_some x)) k xs ≡ first_free k xs
free-position k [] = refl
free-position k (None ∷ xs) = refl
free-position k (Some x ∷ xs) = free-position (k + 1) xs
