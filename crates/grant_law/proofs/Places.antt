-- Tables of places that are free or taken, whatever stands in them.
use Rattle.std.proofs.Common.{◌≡◌, ℕ, zero, suc, ◌+◌, ◌<◌, Bool, false, cond, List, [], ◌∷◌, length, get_or, set, replicate, Some, None, count_by, Option, refl, ap, ◌∙◌, arith}
use Rattle.std.proofs.lemmas.List.Sums.{sum_by-set}
use Rattle.std.proofs.lemmas.Option.{none-some}
use Rattle.rules.specs.Refusal.{if_some}
use Rattle.rules.specs.Tables.{at}

-- in a list of equal elements each is that one
pub at-replicate : {X : Type 0} (n i : ℕ) (x : X) → get_or (replicate n x) i x ≡ x
at-replicate zero i x = refl
at-replicate (suc n) zero x = refl
at-replicate (suc n) (suc i) x = at-replicate n i x

-- what holds of each element, and of one that is set, holds of each then
pub each_set : {X : Type 0} (P : ℕ → X → Type 0) (xs : List X) (i : ℕ) (y d : X) → P i y → ((j : ℕ) → P j (get_or xs j d)) → (j : ℕ) → P j (get_or (set xs i y) j d)
each_set P [] i y d p h j = h j
each_set P (x ∷ xs) zero y d p h zero = p
each_set P (x ∷ xs) zero y d p h (suc j) = h (suc j)
each_set P (x ∷ xs) (suc i) y d p h zero = h 0
each_set P (x ∷ xs) (suc i) y d p h (suc j) = each_set (λ k. P (suc k)) xs i y d p (λ k. h (suc k)) j

-- what stands in a table after a place of it was freed stood there before
pub stood_before : {X : Type 0} (xs : List (Option X)) (i k : ℕ) (x : X) → at (set xs i None) k ≡ Some x → at xs k ≡ Some x
stood_before [] i k x e = e
stood_before (y ∷ ys) zero zero x e = absurd (none-some x e)
stood_before (y ∷ ys) zero (suc k) x e = e
stood_before (y ∷ ys) (suc i) zero x e = e
stood_before (y ∷ ys) (suc i) (suc k) x e = stood_before ys i k x e

-- what holds whether a place is free or something is there holds of what is made of it
pub by_some : {X Y : Type 0} (P : Y → Type 0) (o : Option X) (y : Y) (f : X → Y) → (o ≡ None → P y) → ((x : X) → o ≡ Some x → P (f x)) → P (if_some o y f)
by_some P None y f p q = p refl
by_some P (Some x) y f p q = q x refl

-- where a place that was free is taken, one more is counted if what stands there then passes the test
pub counted_more : {X : Type 0} (p : Option X → Bool) (xs : List (Option X)) (i : ℕ) (x : X) → p None ≡ false → i < length xs → at xs i ≡ None
    → count_by p (set xs i (Some x)) ≡ count_by p xs + cond (p (Some x)) 1 0
counted_more {X} p xs i x none l e =
    let old : ◌≡◌ {A = ℕ} (cond (p (at xs i)) 1 0) 0 = ap (λ (o : Option X). cond {A = ℕ} (p o) 1 0) e ∙ ap (λ (b : Bool). cond {A = ℕ} b 1 0) none in
    omega (arith, old, sum_by-set (λ o. cond {A = ℕ} (p o) 1 0) xs i (Some x) None l)

-- and one less where it is freed
pub counted_less : {X : Type 0} (p : Option X → Bool) (xs : List (Option X)) (i : ℕ) (x : X) → p None ≡ false → i < length xs → at xs i ≡ Some x
    → count_by p (set xs i None) + cond (p (Some x)) 1 0 ≡ count_by p xs
counted_less {X} p xs i x none l e =
    let old : ◌≡◌ {A = ℕ} (cond (p (at xs i)) 1 0) (cond (p (Some x)) 1 0) = ap (λ (o : Option X). cond {A = ℕ} (p o) 1 0) e in
    let new : ◌≡◌ {A = ℕ} (cond (p None) 1 0) 0 = ap (λ (b : Bool). cond {A = ℕ} b 1 0) none in
    omega (arith, old, new, sum_by-set (λ o. cond {A = ℕ} (p o) 1 0) xs i None None l)
