-- A map that is accepted leaves the tables sound.
use Rattle.std.proofs.Common.{◌≡◌, ℕ, ◌+◌, ◌<◌, Bool, true, false, cond, ◌&&◌, eqb, length, Some, None, count_by, sym, refl, ap, ◌∙◌, subst, inl, inr, arith}
use Rattle.std.proofs.lemmas.List.{length-set, get_or-set_same, get_or-set_other}
use Rattle.std.proofs.lemmas.List.Sums.{sum_by-set}
use Rattle.std.proofs.lemmas.Bool.{cases_eq, lt-ltb, and_from}
use Rattle.std.proofs.lemmas.Bool.Decides.{nat_tests}
use Rattle.rules.specs.Tables.{at}
use Rattle.frame.specs.Owners.{owns}
use Rattle.frame.specs.declared.owners.Frames.{Frames}
use Rattle.grant.specs.Tables.{fresh, place, key, record_at, pinned, pins, weight, of_frame}
use Rattle.grant.specs.Pin.{pin, added, recorded}
use Rattle.grant.specs.declared.tables.Record.{Record}
use Rattle.grant.specs.declared.tables.Mapping.{Mapping}
use Rattle.grant.specs.declared.tables.Grants.{Grants}
use Rattle.grant_law.specs.Sound.{Sound, place_of, placed}
use Rattle.grant_law.proofs.Places.{each_set, counted_more}
use Rattle.grant_law.proofs.Counting.{counted_bound, counted_use, counted-pin, placed-place, use_pins}
use Rattle.grant_law.proofs.Weights.{added-weight, added-told}

pub and_true : (b : Bool) → (b && true) ≡ b
and_true true = refl
and_true false = refl

-- a record in use is pinned
some_use : (r : Record) → 0 < r.readers + r.writers → pinned r ≡ true
some_use r h = grind (arith, nat_tests)

-- a mapping p of the domain d under the free handle h, by an entry that its record does not contradict
module _ (F : Frames) (G : Grants) (d h : ℕ) (p : Mapping) (s : Sound F G)
    (domain : d < 8) (handle : h < 64) (owner : p.owner < 8) (reference : p.reference < 32)
    (free : at G.handles (key d h) ≡ None)
    (mine : owns F p.owner p.frame ≡ true)
    (same : pinned (record_at G (place_of p)) ≡ true → ((record_at G (place_of p)).mapper ≡ d) × ((record_at G (place_of p)).frame ≡ p.frame)) where
  place-below : place_of p < 256
  place-below = omega arith

  place_inside : place_of p < length G.records
  place_inside = omega (arith, place-below, s.records_size)

  key-inside : key d h < length G.handles
  key-inside = omega (arith, s.handles_size)

  -- the record then: the mapping's own at its place, and elsewhere as before
  at_place : (i : ℕ) → i ≡ place_of p → ((record_at (pin d h p G) i).frame ≡ p.frame) × ((record_at (pin d h p G) i).mapper ≡ d)
  at_place i e =
      let inside = place_inside in
      let g : record_at (pin d h p G) i ≡ added p.mode (recorded p.frame d (record_at G (place_of p))) = rw (e, get_or-set_same) in
      rw g (added-told p.mode p.frame d (record_at G (place_of p)))

  pin-told : (d' h' : ℕ) (q : Mapping) → d' < 8 → h' < 64 → at (pin d h p G).handles (key d' h') ≡ Some q
      → ((record_at (pin d h p G) (place_of q)).frame ≡ q.frame) × ((record_at (pin d h p G) (place_of q)).mapper ≡ d')
  pin-told d' h' q b l e =
      let inside = key-inside in
      elim (cases_eq (key d' h') (key d h)) [
        | inl i ↦
            let x : d' ≡ d = omega arith in
            let g : Some p ≡ Some q = sym (get_or-set_same G.handles (key d h) (Some p) None inside) ∙ rw i at e in
            let z : p ≡ q = cc in
            let y = at_place (place_of q) (ap place_of (sym z)) in
            (y.0 ∙ ap (λ (v : Mapping). v.frame) z, y.1 ∙ sym x)
        | inr n ↦
            let e' : at G.handles (key d' h') ≡ Some q = rw get_or-set_other at e in
            let told = s.told d' h' q b l e' in
            elim (cases_eq (place_of q) (place_of p)) [
              | inl i ↦
                  let w = placed-place q (rw e' at (s.all_placed (key d' h'))) in
                  let size = s.handles_size in
                  let used = counted_use G.records G.handles size s.counts (key d' h') q (omega arith) e' (omega arith) in
                  let pinned-here : pinned (record_at G (place_of p)) ≡ true = subst (λ j. pinned (record_at G j) ≡ true) i (use_pins q.mode (record_at G (place_of q)) used) in
                  let as_before = same pinned-here in
                  let y = at_place (place_of q) i in
                  let r : record_at G (place_of p) ≡ record_at G (place_of q) = ap (λ j. record_at G j) (sym i) in (
                    y.0 ∙ sym as_before.1 ∙ ap (λ (v : Record). v.frame) r ∙ told.0,
                    y.1 ∙ sym as_before.0 ∙ ap (λ (v : Record). v.mapper) r ∙ told.1,
                  )
              | inr far ↦ rw get_or-set_other told
            ]
      ]

  pin-owned : (o n : ℕ) → o < 8 → n < 32 → pinned (record_at (pin d h p G) (place o n)) ≡ true → owns F o (record_at (pin d h p G) (place o n)).frame ≡ true
  pin-owned o n b l is-pinned =
      elim (cases_eq (place o n) (place_of p)) [
        | inl e ↦
            let x : o ≡ p.owner = omega arith in
            let y = (at_place (place o n) e).0 in
            subst (λ v. owns F v (record_at (pin d h p G) (place o n)).frame ≡ true) (sym x) (subst (λ v. owns F p.owner v ≡ true) (sym y) mine)
        | inr far ↦ rw get_or-set_other (s.owned o n b l (rw get_or-set_other at is-pinned))
      ]

  pin-pins : (f : ℕ) → pins (pin d h p G).records f ≡ count_by (of_frame false f) (pin d h p G).handles
  pin-pins f =
      let r = record_at G (place_of p) in
      let r' = added p.mode (recorded p.frame d r) in
      let bound = counted_bound G.records G.handles s.handles_size s.counts p.mode (place_of p) place-below in
      let heavier = added-weight p.mode p.frame d f r bound (λ u. (same (some_use r u)).1) in
      let new : ◌≡◌ {A = ℕ} (cond (of_frame false f (Some p)) 1 0) (cond (eqb p.frame f) 1 0) = ap (λ (b : Bool). cond {A = ℕ} b 1 0) (and_true (eqb p.frame f)) in
      omega (
        arith,
        sum_by-set (weight f) G.records (place_of p) r' fresh place_inside,
        heavier,
        s.frame_pins f,
        counted_more (of_frame false f) G.handles (key d h) p refl key-inside free,
        new,
      )

  pub pinned_sound : Sound F (pin d h p G)
  pinned_sound = record {
    owners_size = s.owners_size;
    entries_size = length-set G.entries (place_of p) _ ∙ s.entries_size;
    records_size = length-set G.records (place_of p) _ ∙ s.records_size;
    handles_size = length-set G.handles (key d h) _ ∙ s.handles_size;
    all_placed = each_set (λ k o. placed o ≡ true) G.handles (key d h) (Some p) None (and_from _ _ (lt-ltb p.owner 8 owner) (lt-ltb p.reference 32 reference)) s.all_placed;
    counts = counted-pin G.records G.handles s.handles_size s.counts (key d h) p d key-inside free s.records_size place-below;
    told = pin-told;
    owned = pin-owned;
    frame_pins = pin-pins;
  }
