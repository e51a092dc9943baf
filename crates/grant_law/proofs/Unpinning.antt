-- A handle that is freed leaves the tables sound.
use Rattle.std.proofs.Common.{◌≡◌, ℕ, ◌^◌, ◌<◌, Bool, true, false, cond, eqb, length, Some, None, count_by, sym, refl, ap, ◌∙◌, subst, inl, inr, arith}
use Rattle.std.proofs.lemmas.List.{length-set, get_or-set_same, get_or-set_other}
use Rattle.std.proofs.lemmas.List.Sums.{sum_by-set}
use Rattle.std.proofs.lemmas.Bool.{cases_eq, lt-ltb}
use Rattle.rules.specs.Tables.{at}
use Rattle.frame.specs.Owners.{owns}
use Rattle.frame.specs.declared.owners.Frames.{Frames}
use Rattle.grant.specs.Tables.{fresh, place, key, record_at, pinned, pins, weight, of_frame, in_use}
use Rattle.grant.specs.Pin.{unused, freed, unpin, released, removed}
use Rattle.grant.specs.declared.tables.Mapping.{Mapping}
use Rattle.grant.specs.declared.tables.Grants.{Grants}
use Rattle.grant_law.specs.Sound.{Sound, place_of, placed, count_of}
use Rattle.grant_law.proofs.Counting.{counted_bound, counted_use, counted-unpin, placed-place, use_pins}
use Rattle.grant_law.proofs.Weights.{removed-weight, removed-told}
use Rattle.grant_law.proofs.Verdicts.{in_use_is}
use Rattle.grant_law.proofs.Pinning.{and_true}
use Rattle.grant_law.proofs.Places.{each_set, stood_before, by_some, counted_less}

-- the mapping p is in use under the handle h of the domain d
module _ (F : Frames) (G : Grants) (d h : ℕ) (p : Mapping) (s : Sound F G)
    (domain : d < 8) (handle : h < 64) (here : at G.handles (key d h) ≡ Some p) where
  within : (p.owner < 8) × (p.reference < 32)
  within = placed-place p (rw here at (s.all_placed (key d h)))

  place-below : place_of p < 256
  place-below = omega (arith, within.0, within.1)

  place_inside : place_of p < length G.records
  place_inside = omega (arith, place-below, s.records_size)

  key-inside : key d h < length G.handles
  key-inside = omega (arith, s.handles_size)

  -- the tables then, with the entry known to be there
  abbrev after : Grants
  after = freed (key d h) (unused (place_of p) p.mode G)

  pub unpin-is : unpin d h p G ≡ after
  unpin-is = ap (λ (b : Bool). freed (key d h) (cond b (unused (place_of p) p.mode G) G)) (lt-ltb (place_of p) 256 place-below)

  used : 0 < count_of p.mode (record_at G (place_of p))
  used = counted_use G.records G.handles s.handles_size s.counts (key d h) p key-inside here place-below

  bound : count_of p.mode (record_at G (place_of p)) < 2 ^ 10
  bound = counted_bound G.records G.handles s.handles_size s.counts p.mode (place_of p) place-below

  -- every record has the frame and the mapper that it had, and was pinned if it is
  record-after : (j : ℕ) → (pinned (record_at after j) ≡ true → pinned (record_at G j) ≡ true)
      × ((record_at after j).frame ≡ (record_at G j).frame) × ((record_at after j).mapper ≡ (record_at G j).mapper)
  record-after j =
      let inside = place_inside in
      elim (cases_eq j (place_of p)) [
        | inl e ↦
            let r = record_at G (place_of p) in
            let told = removed-told p.mode r in
            rw (e, get_or-set_same) ((λ _. use_pins p.mode r used), told.0, told.1)
        | inr n ↦ rw get_or-set_other ((λ v. v), refl, refl)
      ]

  after-pins : (f : ℕ) → pins after.records f ≡ count_by (of_frame false f) after.handles
  after-pins f =
      let r = record_at G (place_of p) in
      let lighter = removed-weight p.mode f r used bound in
      let told = (s.told d h p domain handle here).0 in
      let frame : ◌≡◌ {A = ℕ} (cond (eqb r.frame f) 1 0) (cond (eqb p.frame f) 1 0) = ap (λ g. cond {A = ℕ} (eqb g f) 1 0) told in
      let old : ◌≡◌ {A = ℕ} (cond (of_frame false f (Some p)) 1 0) (cond (eqb p.frame f) 1 0) = ap (λ (b : Bool). cond {A = ℕ} b 1 0) (and_true (eqb p.frame f)) in
      omega (
        arith,
        sum_by-set (weight f) G.records (place_of p) (removed p.mode r) fresh place_inside,
        lighter,
        s.frame_pins f,
        counted_less (of_frame false f) G.handles (key d h) p refl key-inside here,
        old,
        frame,
      )

  pub after-sound : Sound F after
  after-sound = record {
    owners_size = s.owners_size;
    entries_size = length-set G.entries (place_of p) _ ∙ s.entries_size;
    records_size = length-set G.records (place_of p) _ ∙ s.records_size;
    handles_size = length-set G.handles (key d h) _ ∙ s.handles_size;
    all_placed = each_set (λ k o. placed o ≡ true) G.handles (key d h) None None refl s.all_placed;
    counts = counted-unpin G.records G.handles s.handles_size s.counts (key d h) p key-inside here s.records_size place-below;
    told = λ d' h' q b l e. (let was = s.told d' h' q b l (stood_before G.handles (key d h) (key d' h') q e) in let r = record-after (place_of q) in (r.1 ∙ was.0, r.2 ∙ was.1));
    owned = λ o n b l is-pinned. (let r = record-after (place o n) in subst (λ v. owns F o v ≡ true) (sym r.1) (s.owned o n b l (r.0 is-pinned)));
    frame_pins = after-pins;
  }

  pub unpinned_sound : Sound F (unpin d h p G)
  unpinned_sound = subst (Sound F) (sym unpin-is) after-sound

pub released_sound : (F : Frames) (G : Grants) (d h : ℕ) → d < 8 → Sound F G → Sound F (released d h G)
released_sound F G d h b s =
    by_some (Sound F) (in_use G d h) G (λ p. unpin d h p G) (λ _. s) λ p q.
    let i = in_use_is G d h p q in
    unpinned_sound F G d h p s b i.0 i.1
