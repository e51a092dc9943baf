-- The pins of a frame, as a record gets one use more or less.
use Rattle.std.proofs.Common.{◌≡◌, ℕ, ◌+◌, ◌^◌, ◌<◌, Bool, cond, eqb, sym, refl, ap, ◌∙◌, inl, inr, arith}
use Rattle.std.proofs.lemmas.Bool.{cases_eq, eq-eqb, ne_eqb}
use Rattle.grant.specs.Tables.{weight}
use Rattle.grant.specs.Pin.{added, removed, recorded}
use Rattle.grant.specs.declared.tables.Record.{Record}
use Rattle.grant.specs.declared.tables.Mode.{Mode}
use Rattle.grant.specs.declared.tables.Mode.TheVariants.{Read, Write}
use Rattle.grant_law.specs.Sound.{count_of}

abbrev uses : Record → ℕ
uses r = r.readers + r.writers

added_uses : (m : Mode) (f d : ℕ) (r : Record) → count_of m r < 2 ^ 10 → uses (added m (recorded f d r)) ≡ uses r + 1
added_uses Read f d r h = omega arith
added_uses Write f d r h = omega arith

removed_uses : (m : Mode) (r : Record) → 0 < count_of m r → count_of m r < 2 ^ 10 → uses (removed m r) + 1 ≡ uses r
removed_uses Read r h l = omega arith
removed_uses Write r h l = omega arith

pub added-told : (m : Mode) (f d : ℕ) (r : Record) → ((added m (recorded f d r)).frame ≡ f) × ((added m (recorded f d r)).mapper ≡ d)
added-told Read f d r = (refl, refl)
added-told Write f d r = (refl, refl)

pub removed-told : (m : Mode) (r : Record) → ((removed m r).frame ≡ r.frame) × ((removed m r).mapper ≡ r.mapper)
removed-told Read r = (refl, refl)
removed-told Write r = (refl, refl)

-- what a record weighs, by its frame
weight-here : (f : ℕ) (r : Record) → r.frame ≡ f → weight f r ≡ uses r
weight-here f r e = rw (eq-eqb r.frame f e)

weight_there : (f : ℕ) (r : Record) → (r.frame ≡ f → ⊥) → weight f r ≡ 0
weight_there f r n = rw (ne_eqb r.frame f n)

-- a record with no use weighs nothing
weight-unused : (f : ℕ) (r : Record) → uses r ≡ 0 → weight f r ≡ 0
weight-unused f r z = elim (cases_eq r.frame f) [ inl e ↦ weight-here f r e ∙ z | inr n ↦ weight_there f r n ]

-- one use more weighs one more on its frame; a record in use was on that frame before
pub added-weight : (m : Mode) (g d f : ℕ) (r : Record) → count_of m r < 2 ^ 10 → (0 < uses r → r.frame ≡ g)
    → weight f (added m (recorded g d r)) ≡ weight f r + cond (eqb g f) 1 0
added-weight m g d f r l h =
    let r' = added m (recorded g d r) in
    let told = (added-told m g d r).0 in
    let more = added_uses m g d r l in
    elim (cases_eq g f) [
      | inl e ↦
          let after = weight-here f r' (told ∙ e) in
          let before : weight f r ≡ uses r = elim (cases_eq (uses r) 0) [ inl z ↦ weight-unused f r z ∙ sym z | inr n ↦ weight-here f r (h (omega arith) ∙ e) ] in
          rw (eq-eqb g f e) (omega arith)
      | inr n ↦
          let after = weight_there f r' (λ e. n (sym told ∙ e)) in
          let before : weight f r ≡ 0 = elim (cases_eq (uses r) 0) [ inl z ↦ weight-unused f r z | inr s ↦ weight_there f r (λ e. n (sym (h (omega arith)) ∙ e)) ] in
          rw (ne_eqb g f n) (omega arith)
    ]

-- one use less weighs one less on its frame
pub removed-weight : (m : Mode) (f : ℕ) (r : Record) → 0 < count_of m r → count_of m r < 2 ^ 10
    → weight f (removed m r) + cond (eqb r.frame f) 1 0 ≡ weight f r
removed-weight m f r u l =
    let r' = removed m r in
    let told = (removed-told m r).0 in
    let less = removed_uses m r u l in
    elim (cases_eq r.frame f) [
      | inl e ↦
          let after = weight-here f r' (told ∙ e) in
          let before = weight-here f r e in
          let unit : ◌≡◌ {A = ℕ} (cond (eqb r.frame f) 1 0) 1 = ap (λ (b : Bool). cond {A = ℕ} b 1 0) (eq-eqb r.frame f e) in
          omega arith
      | inr n ↦
          let after = weight_there f r' (λ e. n (sym told ∙ e)) in
          let before = weight_there f r n in
          let unit : ◌≡◌ {A = ℕ} (cond (eqb r.frame f) 1 0) 0 = ap (λ (b : Bool). cond {A = ℕ} b 1 0) (ne_eqb r.frame f n) in
          omega arith
    ]
