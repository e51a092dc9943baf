-- The steps that need no counting, and all of them together.
use Rattle.std.proofs.Common.{◌≡◌, ℕ, ◌+◌, ◌*◌, ◌<◌, true, false, cond, ltb, List, length, get_or, Some, None, Ok, Option, sym, refl, ap, ◌∙◌, subst, inl, inr, arith}
use Rattle.std.proofs.lemmas.List.{length-set, get_or-set_other}
use Rattle.std.proofs.lemmas.List.Sums.{get_or-le-sum_by}
use Rattle.std.proofs.lemmas.List.Folds.{sum_by-replicate}
use Rattle.std.proofs.lemmas.Bool.{cases_eq, eq-eqb, and_parts, both_ways}
use Rattle.abi.specs.declared.entry.GrantEntry.{GrantEntry}
use Rattle.frame.specs.Owners.{owns, owner_of, is_domain, with_owner}
use Rattle.frame.specs.declared.owners.Frames.{Frames}
use Rattle.grant.specs.Tables.{fresh, new_grants, place, key, record_at, pinned, pins, weight, of_frame}
use Rattle.grant.specs.Entries.{with_entry}
use Rattle.grant.specs.Map.{Grant, map_verdict, mapping_of, mode_of}
use Rattle.grant.specs.Pin.{pin}
use Rattle.grant.specs.declared.tables.Record.{Record}
use Rattle.grant.specs.declared.tables.Mapping.{Mapping}
use Rattle.grant.specs.declared.tables.Mode.{Mode}
use Rattle.grant.specs.declared.tables.Mode.TheVariants.{Read, Write}
use Rattle.grant.specs.declared.tables.Grants.{Grants}
use Rattle.grant_law.specs.Sound.{Sound, StaysSound, through, count_of}
use Rattle.grant_law.proofs.Places.{at-replicate}
use Rattle.grant_law.proofs.Counting.{counted_bound, pinned-counts}
use Rattle.grant_law.proofs.Verdicts.{map_accepted}
use Rattle.grant_law.proofs.Pinning.{pinned_sound}
use Rattle.grant_law.proofs.Unpinning.{released_sound}

no_count : (m : Mode) → count_of m fresh ≡ 0
no_count Read = refl
no_count Write = refl

-- adding nothing, whatever the frame
fresh-weight : (f : ℕ) → weight f fresh ≡ 0
fresh-weight f = elim (cases_eq 0 f) [ inl e ↦ rw (eq-eqb 0 f e) | inr n ↦ grind (arith, n) ]

first_sound : (F : Frames) → length F.owners ≡ 256 → Sound F new_grants
first_sound F size = record {
  owners_size = size;
  entries_size = refl;
  records_size = refl;
  handles_size = refl;
  all_placed = λ k. rw (at-replicate {X = Option Mapping} 512 k None);
  counts = λ m i b. rw (at-replicate 256 i fresh) (no_count m ∙ sym (sum_by-replicate (λ h. cond {A = ℕ} (through i m h) 1 0) 512 None));
  told = λ d h p b l e. absurd (let g : None ≡ Some p = sym (at-replicate 512 (key d h) None) ∙ e in let z : ◌≡◌ {A = ℕ} 0 1 = cc in omega arith);
  owned = λ d n b l p. absurd (both_ways (pinned fresh) refl (rw (at-replicate 256 (place d n) fresh) at p));
  frame_pins = λ f. sum_by-replicate (weight f) 256 fresh ∙ ap (λ w. 256 * w) (fresh-weight f) ∙ sym (sum_by-replicate (λ h. cond {A = ℕ} (of_frame false f h) 1 0) 512 None);
}

entry_sound : (F : Frames) (G : Grants) (i : ℕ) (e : GrantEntry) → Sound F G → Sound F (with_entry i e G)
entry_sound F G i e s = record {
  owners_size = s.owners_size;
  entries_size = length-set G.entries i e ∙ s.entries_size;
  records_size = s.records_size;
  handles_size = s.handles_size;
  all_placed = s.all_placed;
  counts = s.counts;
  told = s.told;
  owned = s.owned;
  frame_pins = s.frame_pins;
}

-- another owner of f leaves what is owned of the other frames
owns_elsewhere : (F : Frames) (f : ℕ) (o : Option ℕ) (d g : ℕ) → (g ≡ f → ⊥) → owns F d g ≡ true → owns (with_owner f o F) d g ≡ true
owns_elsewhere F f o d g n h = rw get_or-set_other h

-- frames change, and grants do not
owner_sound : (F : Frames) (G : Grants) (f : ℕ) (o : Option ℕ)
    → ((d n : ℕ) → d < 8 → n < 32 → pinned (record_at G (place d n)) ≡ true → (record_at G (place d n)).frame ≡ f → ⊥)
    → Sound F G → Sound (with_owner f o F) G
owner_sound F G f o apart s = record {
  owners_size = length-set F.owners f o ∙ s.owners_size;
  entries_size = s.entries_size;
  records_size = s.records_size;
  handles_size = s.handles_size;
  all_placed = s.all_placed;
  counts = s.counts;
  told = s.told;
  owned = λ d n b l p. owns_elsewhere F f o d (record_at G (place d n)).frame (apart d n b l p) (s.owned d n b l p);
  frame_pins = s.frame_pins;
}

unowned : (F : Frames) (d g f : ℕ) → owner_of F f ≡ None → g ≡ f → owns F d g ≡ true → ⊥
unowned F d g f free e h =
    let w = (and_parts (ltb g F.count) (is_domain d (owner_of F g)) h).1 in
    both_ways false refl (rw (e, free) at w)

settled_sound : (F : Frames) (G : Grants) (f d : ℕ) → owner_of F f ≡ None → Sound F G → Sound (with_owner f (Some d) F) G
settled_sound F G f d free s = owner_sound F G f (Some d) (λ o n b l p e. unowned F o (record_at G (place o n)).frame f free e (s.owned o n b l p)) s

-- a frame with a pinned record has pins
pins-at : (rs : List Record) (k f : ℕ) → k < length rs → pinned (get_or rs k fresh) ≡ true → (get_or rs k fresh).frame ≡ f → pins rs f ≡ 0 → ⊥
pins-at rs k f l p e z =
    let r = get_or rs k fresh in
    let w : weight f r ≡ r.readers + r.writers = rw (eq-eqb r.frame f e) in
    omega (arith, w, pinned-counts r p, get_or-le-sum_by (weight f) rs k fresh l)

let_go_sound : (F : Frames) (G : Grants) (f : ℕ) → pins G.records f ≡ 0 → Sound F G → Sound (with_owner f None F) G
let_go_sound F G f z s = owner_sound F G f None (λ o n b l p e. pins-at G.records (place o n) f (omega (arith, s.records_size)) p e z) s

pinning_sound : (F : Frames) (G : Grants) (d owner reference mode : ℕ) (g : Grant) → d < 8
    → map_verdict F G d owner reference mode ≡ Ok g → Sound F G → Sound F (pin d g.handle g.mapping G)
pinning_sound F G d owner reference mode g b q s =
    let a = map_accepted F G d owner reference mode g b s.handles_size q in
    subst (λ p. Sound F (pin d g.handle p G)) (sym a.made)
    (pinned_sound F G d g.handle (mapping_of G owner reference (mode_of mode)) s b a.handle a.domain a.within a.free
    (subst (λ (p : Mapping). owns F owner p.frame ≡ true) a.made a.owned) a.same)

pub stays_sound : StaysSound
stays_sound = record {
  at_first = first_sound;
  entry_written = entry_sound;
  settled = settled_sound;
  let_go = let_go_sound;
  pinning = pinning_sound;
  unpinning = released_sound;
  bounded = λ F G m i b s. counted_bound G.records G.handles s.handles_size s.counts m i b;
}
