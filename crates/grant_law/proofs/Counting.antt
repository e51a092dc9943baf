-- The counts of the records stay those of the handles.
use Rattle.std.proofs.Common.{◌≡◌, ℕ, ◌+◌, ◌^◌, ◌<◌, true, cond, ltb, List, length, get_or, set, Some, None, count_by, Option, sym, refl, ap, ◌∙◌, inl, inr, arith}
use Rattle.std.proofs.lemmas.List.{get_or-set_same, get_or-set_other}
use Rattle.std.proofs.lemmas.List.Sums.{sum_by-set, get_or-le-sum_by, count_by-le-length}
use Rattle.std.proofs.lemmas.Bool.{cases_eq, eq-eqb, ne_eqb, ltb-true, and_parts}
use Rattle.std.proofs.lemmas.Bool.Decides.{nat_tests}
use Rattle.rules.specs.Tables.{at}
use Rattle.grant.specs.Tables.{fresh, pinned}
use Rattle.grant.specs.Pin.{added, removed, recorded}
use Rattle.grant.specs.declared.tables.Record.{Record}
use Rattle.grant.specs.declared.tables.Mapping.{Mapping}
use Rattle.grant.specs.declared.tables.Mode.{Mode}
use Rattle.grant.specs.declared.tables.Mode.TheVariants.{Read, Write}
use Rattle.grant_law.specs.Sound.{same_mode, place_of, through, count_of, placed}

-- 1 where the handle maps through the entry at i in the mode m
abbrev one : ℕ → Mode → Option Mapping → ℕ
one i m h = cond (through i m h) 1 0

one_here : (p : Mapping) (m : Mode) → one (place_of p) m (Some p) ≡ cond (same_mode p.mode m) 1 0
one_here p m = rw (eq-eqb (place_of p) (place_of p) refl)

one_there : (p : Mapping) (m : Mode) (i : ℕ) → (place_of p ≡ i → ⊥) → one i m (Some p) ≡ 0
one_there p m i n = rw (ne_eqb (place_of p) i n)

same_self : (m : Mode) → same_mode m m ≡ true
same_self Read = refl
same_self Write = refl

-- one use more, where the count is far from its bound, and one less, where there is one
pub added-count : (a m : Mode) (f d : ℕ) (r : Record) → count_of a r < 2 ^ 10 → count_of m (added a (recorded f d r)) ≡ count_of m r + cond (same_mode a m) 1 0
added-count Read Read f d r h = omega arith
added-count Read Write f d r h = omega arith
added-count Write Read f d r h = omega arith
added-count Write Write f d r h = omega arith

pub removed-count : (a m : Mode) (r : Record) → 0 < count_of a r → count_of a r < 2 ^ 10 → count_of m (removed a r) + cond (same_mode a m) 1 0 ≡ count_of m r
removed-count Read Read r h l = omega arith
removed-count Read Write r h l = omega arith
removed-count Write Read r h l = omega arith
removed-count Write Write r h l = omega arith

pub placed-place : (p : Mapping) → placed (Some p) ≡ true → (p.owner < 8) × (p.reference < 32)
placed-place p h =
    let b = and_parts (ltb p.owner 8) (ltb p.reference 32) h in
    (ltb-true p.owner 8 b.0, ltb-true p.reference 32 b.1)

abbrev Counts : List Record → List (Option Mapping) → Type 0
Counts rs hs = (m : Mode) (i : ℕ) → i < 256 → count_of m (get_or rs i fresh) ≡ count_by (through i m) hs

module _ (rs : List Record) (hs : List (Option Mapping)) (size : length hs ≡ 512) (c : Counts rs hs) where
  -- a count is at most the number of handles
  pub counted_bound : (m : Mode) (i : ℕ) → i < 256 → count_of m (get_or rs i fresh) < 2 ^ 10
  counted_bound m i b = omega (arith, c m i b, count_by-le-length (through i m) hs)

  -- a handle in use counts at its record
  pub counted_use : (k : ℕ) (p : Mapping) → k < length hs → at hs k ≡ Some p → place_of p < 256 → 0 < count_of p.mode (get_or rs (place_of p) fresh)
  counted_use k p lt e b =
      let u : one (place_of p) p.mode (at hs k) ≡ 1 = rw e (one_here p p.mode ∙ ap (λ t. cond t 1 0) (same_self p.mode)) in
      omega (arith, u, c p.mode (place_of p) b, get_or-le-sum_by (one (place_of p) p.mode) hs k None lt)

  one-changed : (k : ℕ) (rs' : List Record) (h : Option Mapping) → k < length hs
      → ((m : Mode) (i : ℕ) → i < 256 → count_of m (get_or rs' i fresh) + one i m (at hs k) ≡ count_of m (get_or rs i fresh) + one i m h)
      → Counts rs' (set hs k h)
  one-changed k rs' h lt e m i b = omega (arith, e m i b, c m i b, sum_by-set (one i m) hs k h None lt)

  pub counted-pin : (k : ℕ) (p : Mapping) (d : ℕ) → k < length hs → at hs k ≡ None → length rs ≡ 256 → place_of p < 256
      → Counts (set rs (place_of p) (added p.mode (recorded p.frame d (get_or rs (place_of p) fresh)))) (set hs k (Some p))
  counted-pin k p d lt e n b = one-changed k _ (Some p) lt λ m i h.
      let r = get_or rs (place_of p) fresh in
      let l : place_of p < length rs = omega arith in
      elim (cases_eq i (place_of p)) [
        | inl q ↦ rw (q, e, get_or-set_same) (omega (arith, added-count p.mode m p.frame d r (counted_bound p.mode (place_of p) b), one_here p m))
        | inr n ↦ rw (e, get_or-set_other) (omega (arith, one_there p m i (λ q. n (sym q))))
      ]

  pub counted-unpin : (k : ℕ) (p : Mapping) → k < length hs → at hs k ≡ Some p → length rs ≡ 256 → place_of p < 256
      → Counts (set rs (place_of p) (removed p.mode (get_or rs (place_of p) fresh))) (set hs k None)
  counted-unpin k p lt e n b = one-changed k _ None lt λ m i h.
      let r = get_or rs (place_of p) fresh in
      let u = counted_use k p lt e b in
      let l : place_of p < length rs = omega arith in
      elim (cases_eq i (place_of p)) [
        | inl q ↦ rw (q, e, get_or-set_same) (omega (arith, removed-count p.mode m r u (counted_bound p.mode (place_of p) b), one_here p m))
        | inr n ↦ rw (e, get_or-set_other) (omega (arith, one_there p m i (λ q. n (sym q))))
      ]

-- somebody maps through a record with a count
pub use_pins : (m : Mode) (r : Record) → 0 < count_of m r → pinned r ≡ true
use_pins Read r h = grind (arith, nat_tests)
use_pins Write r h = grind (arith, nat_tests)

-- and through one that is pinned somebody maps
pub pinned-counts : (r : Record) → pinned r ≡ true → 0 < r.readers + r.writers
pinned-counts r h = grind (arith, nat_tests)
