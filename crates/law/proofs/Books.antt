-- Frames, entries and mappings: what the account has of them stays the host's, step by step.
use Rattle.std.proofs.Common.{◌≡◌, ℕ, zero, suc, ◌+◌, ◌-◌, ◌*◌, ◌/◌, ◌%◌, ◌<◌, ◌≤◌, Bool, true, false, cond, not, ◌&&◌, ◌||◌, eqb, ltb, ◌⊎◌, List, [], ◌∷◌, map, length, get_or, take, drop, set, replicate, Some, None, Ok, Err, sum_by, count_by, Option, Result, sym, refl, ap, ◌∙◌, subst, inl, inr, arith}
use lib.Bits.{bit_and, bit_or}
use lib.ListN.{get_or-map}
use Rattle.std.specs.List.{between}
use Rattle.std.specs.Option.{option_map}
use Rattle.std.proofs.lemmas.Nat.{and_mod, and_mask, or_mod, or_comm}
use Rattle.std.proofs.lemmas.List.Edits.{get_or-between}
use Rattle.std.proofs.lemmas.List.{length-set, length-map, length-take, get_or-set_same, get_or-set_other, get_or_past, set_past, map-set, take-map, drop-map}
use Rattle.std.proofs.lemmas.List.Sums.{sum_by-cons}
use Rattle.std.proofs.lemmas.List.Folds.{sum_by-replicate}
use Rattle.std.proofs.lemmas.Bool.{cases_eq, cases_lt, eq-eqb, ne_eqb, ltb-true, le-ltb, cond-false, eqb-true, and_parts, or_cases, cases_Bool, both_ways}
use Rattle.abi.specs.declared.entry.GrantEntry.{GrantEntry}
use Rattle.rules.specs.Refusal.{if_some}
use Rattle.rules.specs.Tables.{at, first_free, some_of}
use Rattle.frame.specs.Owners.{owns, owner_of, is_domain, new_frames, with_owner}
use Rattle.frame.specs.declared.owners.Frames.{Frames}
use Rattle.grant.specs.Tables.{blank, place, key, entry_at, record_at, lowest, handles_of, in_use, pinned, pins, of_frame, writes, maps_frame, writes_frame}
use Rattle.grant.specs.Entries.{with_entry, with_flags}
use Rattle.grant.specs.Map.{names, mode_of, mapping_of, Grant, map_verdict, unmap_verdict}
use Rattle.grant.specs.Pin.{pin, unpin, released, unused, freed, removed, flagged, unwritten, unflagged}
use Rattle.grant.specs.declared.fault.GrantFault.{GrantFault}
use Rattle.grant.specs.declared.fault.GrantFault.TheVariants.{NoMapping}
use Rattle.grant.specs.declared.tables.Record.{Record}
use Rattle.grant.specs.declared.tables.Mapping.{Mapping}
use Rattle.grant.specs.declared.tables.Mode.{Mode}
use Rattle.grant.specs.declared.tables.Mode.TheVariants.{Read, Write}
use Rattle.grant.specs.declared.tables.Grants.{Grants}
use Rattle.grant_law.specs.Sound.{Sound, place_of}
use Rattle.grant_law.proofs.Counting.{placed-place, counted_use, use_pins}
use Rattle.grant_law.proofs.Pinning.{and_true}
use Rattle.grant_law.proofs.Steps.{stays_sound}
use Rattle.grant_law.proofs.Places.{at-replicate, stood_before, counted_more, counted_less}
use Rattle.grant_law.proofs.Unpinning.{unpin-is, after-sound}
use Rattle.grant_law.proofs.Verdicts.{Accepted, map_accepted, in_use_is}
use Rattle.law.specs.World.{new_host}
use Rattle.law.specs.Account.{Account, MappingNote, nothing_yet, counted, noted_owner, noted_entry, mapping_noted, mapping_ended}
use Rattle.law.specs.Keeps.{Maps, Writes, Granted, on_frame}
use Rattle.law.proofs.Inv.{Books, BooksOf}

-- what is the same of two lists of one length stays so, if it is the same of what is set in both
pub same_set : {X Y : Type 0} (f : X → Y) (d x y : X) (xs ys : List X) (i : ℕ) → length xs ≡ length ys → f x ≡ f y
    → ((j : ℕ) → f (get_or xs j d) ≡ f (get_or ys j d)) → (j : ℕ) → f (get_or (set xs i x) j d) ≡ f (get_or (set ys i y) j d)
same_set f d x y xs ys i l e same j =
    elim (cases_eq j i) [
      | inl q ↦ elim (cases_lt i (length xs)) [
        | inl b ↦
            let b' : i < length ys = omega arith in
            rw (q, get_or-set_same xs i x d b, get_or-set_same ys i y d b') e
        | inr b ↦
            let b' : length ys ≤ i = omega arith in
            rw (set_past xs i x b, set_past ys i y b') (same j)
      ]
      | inr n ↦ rw (get_or-set_other xs i j x d n, get_or-set_other ys i j y d n) (same j)
    ]

-- what is the same of an element that is set as of the one before is as it was everywhere
pub kept_set : {X Y : Type 0} (f : X → Y) (d x : X) (xs : List X) (i : ℕ) → f x ≡ f (get_or xs i d) → (j : ℕ) → f (get_or (set xs i x) j d) ≡ f (get_or xs j d)
kept_set f d x [] i e j = refl
kept_set f d x (y ∷ xs) zero e zero = e
kept_set f d x (y ∷ xs) zero e (suc j) = refl
kept_set f d x (y ∷ xs) (suc i) e zero = refl
kept_set f d x (y ∷ xs) (suc i) e (suc j) = kept_set f d x xs i e j

-- the mapping of a note
abbrev pub mapping_in : Option MappingNote → Option Mapping
mapping_in o = option_map (λ (n : MappingNote). n.mapping) o

-- a new host's books
pub books_start : (n : ℕ) → BooksOf (new_host n).frames (new_host n).grants nothing_yet
unfolding new_host nothing_yet
books_start n = record {
  sound = stays_sound.at_first (new_frames n) refl;
  owners_same = refl;
  entries_size = refl;
  maps-size = refl;
  unmaps-size = refl;
  type_same = λ i. refl;
  domid_same = λ i. refl;
  frame_same = λ i. refl;
  handles_same = refl;
  named = λ d h n b e. absurd (let g : None ≡ Some n = sym (at-replicate 512 (key d h) None) ∙ e in let z : ◌≡◌ {A = ℕ} 0 1 = cc in omega arith);
  under = λ d h n b e. absurd (let g : None ≡ Some n = sym (at-replicate 512 (key d h) None) ∙ e in let z : ◌≡◌ {A = ℕ} 0 1 = cc in omega arith);
  counted = λ f b. (let e : count_by (on_frame f) (replicate 512 None) ≡ 0 = sum_by-replicate (λ o. cond {A = ℕ} (on_frame f o) 1 0) 512 None in rw (at-replicate {X = ℕ} 256 f 0) (omega arith));
}

-- the owner of a frame changes, in both
books_owner : (F : Frames) (G : Grants) (a : Account) (f : ℕ) (o : Option ℕ) → Sound (with_owner f o F) G → BooksOf F G a → BooksOf (with_owner f o F) G (noted_owner f o a)
books_owner F G a f o s b = record {
  sound = s;
  owners_same = ap (λ (xs : List (Option ℕ)). set xs f o) b.owners_same;
  entries_size = b.entries_size;
  maps-size = b.maps-size;
  unmaps-size = b.unmaps-size;
  type_same = b.type_same;
  domid_same = b.domid_same;
  frame_same = b.frame_same;
  handles_same = b.handles_same;
  named = b.named;
  under = b.under;
  counted = b.counted;
}

-- a frame that nobody owned is taken
pub books_taken : (F : Frames) (G : Grants) (a : Account) (f d : ℕ) → owner_of F f ≡ None → BooksOf F G a → BooksOf (with_owner f (Some d) F) G (noted_owner f (Some d) a)
books_taken F G a f d free b = books_owner F G a f (Some d) (stays_sound.settled F G f d free b.sound) b

-- a frame without pins is given back
pub books_given : (F : Frames) (G : Grants) (a : Account) (f : ℕ) → pins G.records f ≡ 0 → BooksOf F G a → BooksOf (with_owner f None F) G (noted_owner f None a)
books_given F G a f z b = books_owner F G a f None (stays_sound.let_go F G f z b.sound) b

-- two entries that grant the same are written, in both
books_both_entries : (F : Frames) (G : Grants) (a : Account) (i : ℕ) (e e' : GrantEntry) → e.flags % 4 ≡ e'.flags % 4 → e.domid ≡ e'.domid → e.frame ≡ e'.frame
    → BooksOf F G a → BooksOf F (with_entry i e G) (noted_entry i e' a)
books_both_entries F G a i e e' t n f b =
    let size : length G.entries ≡ length a.entries = b.sound.entries_size ∙ sym b.entries_size in
    record {
      sound = stays_sound.entry_written F G i e b.sound;
      owners_same = b.owners_same;
      entries_size = length-set a.entries i e' ∙ b.entries_size;
      maps-size = b.maps-size;
      unmaps-size = b.unmaps-size;
      type_same = same_set (λ (x : GrantEntry). x.flags % 4) blank e e' G.entries a.entries i size t b.type_same;
      domid_same = same_set (λ (x : GrantEntry). x.domid) blank e e' G.entries a.entries i size n b.domid_same;
      frame_same = same_set (λ (x : GrantEntry). x.frame) blank e e' G.entries a.entries i size f b.frame_same;
      handles_same = b.handles_same;
      named = b.named;
      under = b.under;
      counted = b.counted;
    }

-- an entry is written
pub books_entry : (F : Frames) (G : Grants) (a : Account) (i : ℕ) (e : GrantEntry) → BooksOf F G a → BooksOf F (with_entry i e G) (noted_entry i e a)
books_entry F G a i e b = books_both_entries F G a i e e refl refl refl b

-- an entry is ended
pub books_ended : (F : Frames) (G : Grants) (a : Account) (i : ℕ) → BooksOf F G a
    → BooksOf F (with_entry i (with_flags 0 (entry_at G i)) G) (noted_entry i (with_flags 0 (get_or a.entries i blank)) a)
books_ended F G a i b = books_both_entries F G a i (with_flags 0 (entry_at G i)) (with_flags 0 (get_or a.entries i blank)) refl (b.domid_same i) (b.frame_same i) b

-- what was mapped to some y is some x with f x ≡ y
pub mapped_from : {X Y : Type 0} (f : X → Y) (o : Option X) (y : Y) → option_map f o ≡ Some y → (x : X) × ((o ≡ Some x) × (f x ≡ y))
mapped_from f (Some x) y e = (x, (refl, cc))
mapped_from f None y e = absurd (let z : ◌≡◌ {A = ℕ} 0 1 = cc in omega arith)

-- and what was mapped to none is none
pub mapped-none : {X Y : Type 0} (f : X → Y) (o : Option X) → option_map f o ≡ None → o ≡ None
mapped-none f (Some x) e = absurd (let z : ◌≡◌ {A = ℕ} 0 1 = cc in omega arith)
mapped-none f None e = refl

module _ (F : Frames) (G : Grants) (a : Account) (b : BooksOf F G a) where
  -- a handle is its note's mapping
  pub at-handle : (k : ℕ) → at G.handles k ≡ mapping_in (at a.mappings k)
  at-handle k = ap (λ (hs : List (Option Mapping)). at hs k) b.handles_same ∙ get_or-map mapping_in a.mappings k None

  -- there are as many notes as handles
  pub mappings-size : length a.mappings ≡ 512
  mappings-size = sym (length-map a.mappings mapping_in) ∙ ap (λ (hs : List (Option Mapping)). length hs) (sym b.handles_same) ∙ b.sound.handles_size

  -- a handle in use has a note, of its mapping
  pub in_force : (k : ℕ) (p : Mapping) → at G.handles k ≡ Some p → (n : MappingNote) × ((at a.mappings k ≡ Some n) × (n.mapping ≡ p))
  in_force k p e = mapped_from (λ (n : MappingNote). n.mapping) (at a.mappings k) p (sym (at-handle k) ∙ e)

  -- a noted mapping is the handle's
  pub handle-of : (k : ℕ) (n : MappingNote) → at a.mappings k ≡ Some n → at G.handles k ≡ Some n.mapping
  handle-of k n e = at-handle k ∙ ap mapping_in e

  -- a free handle has no note
  pub no_note : (k : ℕ) → at G.handles k ≡ None → at a.mappings k ≡ None
  no_note k e = mapped-none (λ (n : MappingNote). n.mapping) (at a.mappings k) (sym (at-handle k) ∙ e)

-- higher bits that are set leave the type of an entry, in its two low bits, as it was
or_high : (n k : ℕ) → k % 4 ≡ 0 → bit_or n k % 4 ≡ n % 4
or_high n k e =
    let m : bit_or n k % 4 ≡ bit_or (n % 4) (k % 4) = or_mod n k 2 in
    m ∙ ap (bit_or (n % 4)) e ∙ or_comm (n % 4) 0

-- the same of bits that are cleared
and_high : (n k : ℕ) → k % 4 ≡ 3 → bit_and n k % 4 ≡ n % 4
and_high n k e =
    let m : bit_and n k % 4 ≡ bit_and (n % 4) (k % 4) = and_mod n k 2 in
    let l : bit_and (n % 4) 3 ≡ n % 4 % 4 = and_mask (n % 4) 2 in
    m ∙ ap (bit_and (n % 4)) e ∙ l ∙ omega arith

-- the type of an entry that is mapped once more, and of one that is mapped once less
flagged_type : (m : Mode) (n : ℕ) → flagged m n % 4 ≡ n % 4
flagged_type Read n = or_high n 8 refl
flagged_type Write n = or_high (bit_or n 8) 16 refl ∙ or_high n 8 refl

-- whichever of two flags it is
cond_type : (b : Bool) (x y n : ℕ) → x % 4 ≡ n % 4 → y % 4 ≡ n % 4 → cond b x y % 4 ≡ n % 4
cond_type true x y n p q = p
cond_type false x y n p q = q

-- when 16 goes, if it does
unwritten_type : (r : Record) (n : ℕ) → unwritten r n % 4 ≡ n % 4
unwritten_type r n = cond_type (eqb r.writers 0) (bit_and n 65519) n n (and_high n 65519 refl) refl

-- and when 8 goes
unflagged_type : (r : Record) (n : ℕ) → unflagged r n % 4 ≡ n % 4
unflagged_type r n = cond_type (pinned r) (unwritten r n) (bit_and (unwritten r n) 65527) n (unwritten_type r n) (and_high (unwritten r n) 65527 refl ∙ unwritten_type r n)

-- a frame of the domain d has d for its owner
pub domain_is : (d : ℕ) (o : Option ℕ) → is_domain d o ≡ true → o ≡ Some d
domain_is d (Some x) e = ap Some (eqb-true x d e)
domain_is d None e = absurd (both_ways false refl e)

-- a frame that a domain owns exists, and is that domain's
pub owns_parts : (F : Frames) (d f : ℕ) → owns F d f ≡ true → (f < F.count) × (owner_of F f ≡ Some d)
owns_parts F d f e =
    let w = and_parts (ltb f F.count) (is_domain d (owner_of F f)) e in
    (ltb-true f F.count w.0, domain_is d (owner_of F f) w.1)

-- one more of the frame g
pub counted-up : (g f : ℕ) (xs : List ℕ) → f < length xs → get_or (counted g xs) f 0 ≡ get_or xs f 0 + cond (eqb g f) 1 0
counted-up g f xs b =
    elim (cases_eq f g) [
      | inl e ↦ rw (e, get_or-set_same xs g (get_or xs g 0 + 1) 0 (rw e at b), eq-eqb g g refl)
      | inr n ↦ rw (get_or-set_other xs g f (get_or xs g 0 + 1) 0 n, ne_eqb g f (λ e. n (sym e))) (omega arith)
    ]

-- an accepted map is noted
module _ (F : Frames) (G : Grants) (a : Account) (d o n md : ℕ) (g : Grant)
    (domain : d < 8) (verdict : map_verdict F G d o n md ≡ Ok g) (b : BooksOf F G a) where
  -- the entry as the account has it
  abbrev the-entry : GrantEntry
  the-entry = get_or a.entries (place o n) blank

  -- what the account notes
  abbrev the-note : MappingNote
  the-note = record { mapping = record { owner = o; reference = n; frame = the-entry.frame; mode = mode_of md }; under = the-entry }

  -- what the host says by accepting
  map-says : Accepted F G d o n md g
  map-says = map_accepted F G d o n md g domain b.sound.handles_size verdict

  -- the noted mapping is the granted one
  noted-is-granted : the-note.mapping ≡ g.mapping
  noted-is-granted =
      let e : mapping_of G o n (mode_of md) ≡ the-note.mapping = ap (λ (f : ℕ). let p : Mapping = record { owner = o; reference = n; frame = f; mode = mode_of md } in p) (b.frame_same (place o n)) in
      sym e ∙ sym map-says.made

  -- the noted entry names the mapper
  the-note-names : names the-entry d ≡ true
  the-note-names =
      let w = map-says.granted in
      let t : eqb ((entry_at G (place o n)).flags % 4) 1 ≡ eqb (the-entry.flags % 4) 1 = ap (λ x. eqb x 1) (b.type_same (place o n)) in
      let m : eqb (entry_at G (place o n)).domid d ≡ eqb the-entry.domid d = ap (λ x. eqb x d) (b.domid_same (place o n)) in
      sym (ap (λ (x : Bool). x && eqb (entry_at G (place o n)).domid d) t ∙ ap (λ (x : Bool). eqb (the-entry.flags % 4) 1 && x) m) ∙ w

  -- the handle is one of the table
  the-key : key d g.handle < length a.mappings
  the-key = omega (arith, mappings-size F G a b, map-says.handle)

  -- a note then is the new one, by the mapper d, or was there before
  note-after : (d' h : ℕ) (m : MappingNote) → h < 64 → at (set a.mappings (key d g.handle) (Some the-note)) (key d' h) ≡ Some m
      → ((d' ≡ d) × (the-note ≡ m)) ⊎ (at a.mappings (key d' h) ≡ Some m)
  note-after d' h m l e =
      elim (cases_eq (key d' h) (key d g.handle)) [
        | inl i ↦
            let x : d' ≡ d = omega (arith, map-says.handle) in
            let q : Some the-note ≡ Some m = sym (get_or-set_same a.mappings (key d g.handle) (Some the-note) None the-key) ∙ rw i at e in
            inl (x, cc)
        | inr n ↦ inr (sym (get_or-set_other a.mappings (key d g.handle) (key d' h) (Some the-note) None n) ∙ e)
      ]

  -- the books then
  pub books_pinned : BooksOf F (pin d g.handle g.mapping G) (mapping_noted d g.handle o n (mode_of md) a)
  books_pinned =
      let i : ℕ = place_of g.mapping in
      let e : GrantEntry = with_flags (flagged g.mapping.mode (entry_at G i).flags) (entry_at G i) in
      record {
        sound = stays_sound.pinning F G d o n md g domain verdict b.sound;
        owners_same = b.owners_same;
        entries_size = b.entries_size;
        maps-size = length-set a.maps the-entry.frame _ ∙ b.maps-size;
        unmaps-size = b.unmaps-size;
        type_same = λ j. kept_set (λ (x : GrantEntry). x.flags % 4) blank e G.entries i (flagged_type g.mapping.mode (entry_at G i).flags) j ∙ b.type_same j;
        domid_same = λ j. kept_set (λ (x : GrantEntry). x.domid) blank e G.entries i refl j ∙ b.domid_same j;
        frame_same = λ j. kept_set (λ (x : GrantEntry). x.frame) blank e G.entries i refl j ∙ b.frame_same j;
        handles_same =
            ap (λ (hs : List (Option Mapping)). set hs (key d g.handle) (Some g.mapping)) b.handles_same
            ∙ ap (λ (p : Mapping). set (map mapping_in a.mappings) (key d g.handle) (Some p)) (sym noted-is-granted)
            ∙ sym (map-set mapping_in a.mappings (key d g.handle) (Some the-note));
        named = λ d' h m l q. elim (note-after d' h m l q) [
          | inl new ↦ subst (λ (x : MappingNote). names x.under d' ≡ true) new.1 (subst (λ (x : ℕ). names the-entry x ≡ true) (sym new.0) the-note-names)
          | inr old ↦ b.named d' h m l old
        ];
        under = λ d' h m l q. elim (note-after d' h m l q) [
          | inl new ↦ subst (λ (x : MappingNote). x.under.frame ≡ x.mapping.frame) new.1 refl
          | inr old ↦ b.under d' h m l old
        ];
        counted = λ f l. omega (
          arith,
          b.counted f l,
          counted-up the-entry.frame f a.maps (omega (arith, b.maps-size)),
          counted_more (on_frame f) a.mappings (key d g.handle) the-note refl the-key (no_note F G a b (key d g.handle) map-says.free),
        );
      }

-- a handle of a domain that is freed is noted
module _ (F : Frames) (G : Grants) (a : Account) (d h : ℕ) (m : MappingNote) (domain : d < 8) (handle : h < 64) (b : BooksOf F G a)
    (noted : at a.mappings (key d h) ≡ Some m) where
  abbrev the-mapping : Mapping
  the-mapping = m.mapping

  -- the handle is in use
  there : at G.handles (key d h) ≡ Some the-mapping
  there = handle-of F G a b (key d h) m noted

  -- the tables then, with the entry known to be there
  abbrev after : Grants
  after = freed (key d h) (unused (place_of the-mapping) the-mapping.mode G)

  -- its note is in the table
  key-inside : key d h < length a.mappings
  key-inside = omega (arith, mappings-size F G a b)

  -- the books of a host with the tables G', and the note gone
  abbrev BooksAfter : Grants → Type 0
  BooksAfter G' = Books F G' a.owners a.entries (set a.mappings (key d h) None) a.maps (counted the-mapping.frame a.unmaps)

  -- they hold of those tables
  books-after : BooksAfter after
  books-after =
      let i : ℕ = place_of the-mapping in
      let r : Record = removed the-mapping.mode (record_at G i) in
      let e : GrantEntry = with_flags (unflagged r (entry_at G i).flags) (entry_at G i) in
      record {
        sound = after-sound F G d h the-mapping b.sound domain handle there;
        owners_same = b.owners_same;
        entries_size = b.entries_size;
        maps-size = b.maps-size;
        unmaps-size = length-set a.unmaps the-mapping.frame _ ∙ b.unmaps-size;
        type_same = λ j. kept_set (λ (x : GrantEntry). x.flags % 4) blank e G.entries i (unflagged_type r (entry_at G i).flags) j ∙ b.type_same j;
        domid_same = λ j. kept_set (λ (x : GrantEntry). x.domid) blank e G.entries i refl j ∙ b.domid_same j;
        frame_same = λ j. kept_set (λ (x : GrantEntry). x.frame) blank e G.entries i refl j ∙ b.frame_same j;
        handles_same =
            ap (λ (hs : List (Option Mapping)). set hs (key d h) None) b.handles_same
            ∙ sym (map-set mapping_in a.mappings (key d h) None);
        named = λ d' h' n l q. b.named d' h' n l (stood_before a.mappings (key d h) (key d' h') n q);
        under = λ d' h' n l q. b.under d' h' n l (stood_before a.mappings (key d h) (key d' h') n q);
        counted = λ f l. omega (
          arith,
          b.counted f l,
          counted-up the-mapping.frame f a.unmaps (omega (arith, b.unmaps-size)),
          counted_less (on_frame f) a.mappings (key d h) m refl key-inside noted,
        );
      }

  -- so they hold when the mapping ends
  noted-unpinned : BooksAfter (unpin d h the-mapping G)
  noted-unpinned = subst BooksAfter (sym (unpin-is F G d h the-mapping b.sound domain handle there)) books-after

-- a handle below 64 is in use if there is something at its place
pub in_use-here : (G : Grants) (d h : ℕ) → h < 64 → in_use G d h ≡ at G.handles (key d h)
in_use-here G d h b = cond-false (ltb 63 h) None (at G.handles (key d h)) (le-ltb 63 h (omega arith))

-- a mapping and its note end together
both_end : (P : Grants → Account → Type 0) (G : Grants) (a : Account) (o : Option Mapping) (m : Option MappingNote) (f : Mapping → Grants) (k : MappingNote → Account)
    → o ≡ mapping_in m → P G a → ((n : MappingNote) → m ≡ Some n → P (f n.mapping) (k n)) → P (if_some o G f) (if_some m a k)
both_end P G a o (Some n) f k e p q = subst (λ (x : Option Mapping). P (if_some x G f) (k n)) (sym e) (q n refl)
both_end P G a o None f k e p q = subst (λ (x : Option Mapping). P (if_some x G f) a) (sym e) p

-- a handle is freed, if it is in use
pub books_unpinned : (F : Frames) (G : Grants) (a : Account) (d h : ℕ) → d < 8 → h < 64 → BooksOf F G a → BooksOf F (released d h G) (mapping_ended d h a)
books_unpinned F G a d h domain handle b =
    both_end (λ (G' : Grants) (a' : Account). BooksOf F G' a') G a (in_use G d h) (at a.mappings (key d h)) (λ p. unpin d h p G) _
    (in_use-here G d h handle ∙ at-handle F G a b (key d h)) b
    (λ n e. noted-unpinned F G a d h n domain handle b e)

-- an unmap is accepted where the handle is in use
verdict_use : (o : Option Mapping) (p : Mapping) → if_some {Y = Result Mapping GrantFault} o (Err NoMapping) (λ q. Ok q) ≡ Ok p → o ≡ Some p
verdict_use (Some q) p e = let z : q ≡ p = cc in ap Some z
verdict_use None p e = absurd (let z : ◌≡◌ {A = ℕ} 0 1 = cc in omega arith)

-- what an accepted unmap says
pub unmap_accepted : (G : Grants) (d h : ℕ) (p : Mapping) → unmap_verdict G d h ≡ Ok p → (h < 64) × (at G.handles (key d h) ≡ Some p) × (unpin d h p G ≡ released d h G)
unmap_accepted G d h p v =
    let u = verdict_use (in_use G d h) p v in
    let w = in_use_is G d h p u in
    (w.0, w.1, ap (λ (o : Option Mapping). if_some o G (λ q. unpin d h q G)) (sym u))

-- a table and the table of what its places map to have their first free place in common
pub first_free-mapped : {X Y : Type 0} (f : X → Y) (k : ℕ) (xs : List (Option X)) → first_free k (map (option_map f) xs) ≡ first_free k xs
first_free-mapped f k [] = refl
first_free-mapped f k (Some x ∷ xs) = first_free-mapped f (k + 1) xs
first_free-mapped f k (None ∷ xs) = refl

-- a sum over a list that was mapped
pub sum_by-map : {X Y : Type 0} (g : X → Y) (u : Y → ℕ) (v : X → ℕ) → ((x : X) → u (g x) ≡ v x) → (xs : List X) → sum_by u (map g xs) ≡ sum_by v xs
sum_by-map g u v same [] = refl
sum_by-map g u v same (x ∷ xs) = sum_by-cons u (g x) (map g xs) ∙ omega (arith, same x, sum_by-map g u v same xs, sum_by-cons v x xs)

-- a part of a list that was mapped
pub between_map : {X Y : Type 0} (f : X → Y) (i j : ℕ) (xs : List X) → between i j (map f xs) ≡ map f (between i j xs)
between_map f i j xs = ap (take (j - i)) (drop-map f i xs) ∙ take-map f (j - i) (drop i xs)

-- a handle maps the frame f if its note does
same_frame : (f : ℕ) (o : Option MappingNote) → of_frame false f (mapping_in o) ≡ on_frame f o
same_frame f (Some n) = and_true (eqb n.mapping.frame f)
same_frame f None = refl

-- where some element of a list passes a test, there is one
pub some_of_is : {X : Type 0} (p : X → Bool) (d : X) (xs : List X) → some_of p xs ≡ true → (k : ℕ) × ((k < length xs) × (p (get_or xs k d) ≡ true))
some_of_is p d [] e = absurd (both_ways false refl e)
some_of_is p d (x ∷ xs) e =
    elim (or_cases (p x) (some_of p xs) e) [
      | inl here ↦ (0, (omega arith, here))
      | inr there ↦ let i = some_of_is p d xs there in (suc i.0, (omega (arith, i.1.0), i.1.1))
    ]

-- where a count is not 0, there is an element that counts
pub counted_is : {X : Type 0} (p : X → Bool) (d : X) (xs : List X) → 0 < count_by p xs → (k : ℕ) × ((k < length xs) × (p (get_or xs k d) ≡ true))
counted_is p d [] e = absurd (omega arith)
counted_is p d (x ∷ xs) e =
    elim (cases_Bool (p x)) [
      | inl here ↦ (0, (omega arith, here))
      | inr no_one ↦
          let z : ◌≡◌ {A = ℕ} (cond (p x) 1 0) 0 = ap (λ (t : Bool). cond {A = ℕ} t 1 0) no_one in
          let i = counted_is p d xs (omega (arith, z, sum_by-cons (λ y. cond {A = ℕ} (p y) 1 0) x xs)) in
          (suc i.0, (omega (arith, i.1.0), i.1.1))
    ]

-- a handle that maps a frame
pub of_frame_is : (w : Bool) (f : ℕ) (o : Option Mapping) → of_frame w f o ≡ true → (p : Mapping) × ((o ≡ Some p) × (p.frame ≡ f) × ((not w || writes p.mode) ≡ true))
of_frame_is w f (Some p) e =
    let u = and_parts (eqb p.frame f) (not w || writes p.mode) e in
    (p, (refl, eqb-true p.frame f u.0, u.1))
of_frame_is w f None e = absurd (both_ways false refl e)

-- a mode that writes is Write
writes_is : (m : Mode) → writes m ≡ true → m ≡ Write
writes_is Read e = absurd (both_ways false refl e)
writes_is Write e = refl

-- every place of the handles is a handle of a domain
place_parts : (k : ℕ) → k < 512 → (d : ℕ) × (h : ℕ) × ((d < 8) × ((h < 64) × (key d h ≡ k)))
place_parts k b = (k / 64, k % 64, (omega arith, (omega arith, omega arith)))

module _ (F : Frames) (G : Grants) (a : Account) (b : BooksOf F G a) where
  -- the frame of a handle in use exists, and is the entry's domain's
  pub frame-owned : (d h : ℕ) (p : Mapping) → d < 8 → h < 64 → at G.handles (key d h) ≡ Some p → (p.frame < F.count) × (owner_of F p.frame ≡ Some p.owner)
  frame-owned d h p domain handle e =
      let s = b.sound in
      let w = placed-place p (rw e at (s.all_placed (key d h))) in
      let used = counted_use G.records G.handles s.handles_size s.counts (key d h) p (omega (arith, s.handles_size)) e (omega arith) in
      let own = s.owned p.owner p.reference w.0 w.1 (use_pins p.mode (record_at G (place_of p)) used) in
      owns_parts F p.owner p.frame (subst (λ f. owns F p.owner f ≡ true) (s.told d h p domain handle e).0 own)

  -- each mapping in force was granted
  pub granted : (d h : ℕ) (n : MappingNote) → h < 64 → at a.mappings (key d h) ≡ Some n → Granted a d n
  granted d h n handle e =
      elim (cases_lt d 8) [
        | inl domain ↦
            let own = (frame-owned d h n.mapping domain handle (handle-of F G a b (key d h) n e)).1 in
            record {
              named = b.named d h n handle e;
              frame = b.under d h n handle e;
              owner = subst (λ (os : List (Option ℕ)). at os n.mapping.frame ≡ Some n.mapping.owner) b.owners_same own;
            }
        | inr past ↦ absurd (
            let q : None ≡ Some n = sym (get_or_past a.mappings (key d h) None (omega (arith, mappings-size F G a b))) ∙ e in
            let z : ◌≡◌ {A = ℕ} 0 1 = cc in
            omega arith
            )
      ]

  -- a handle of the domain d that maps the frame f, and for writing if that is asked
  own-handle : (w : Bool) (d f : ℕ) → some_of (of_frame w f) (handles_of d G.handles) ≡ true → (m : Maps a d f) × ((not w || writes m.note.mapping.mode) ≡ true)
  own-handle w d f e =
      let i = some_of_is (of_frame w f) None (handles_of d G.handles) e in
      let h : ℕ = i.0 in
      let l : h < 64 = omega (arith, i.1.0, length-take (64 * d + 64 - 64 * d) (drop (64 * d) G.handles)) in
      let q : at (handles_of d G.handles) h ≡ at G.handles (key d h) = get_or-between G.handles (64 * d) (64 * d + 64) h None (omega arith) in
      let p = of_frame_is w f (at G.handles (key d h)) (subst (λ (x : Option Mapping). of_frame w f x ≡ true) q i.1.1) in
      let n = in_force F G a b (key d h) p.0 p.1.0 in (
        record {
          handle = h;
          note = n.0;
          own = l;
          in_force = n.1.0;
          frame = ap (λ (x : Mapping). x.frame) n.1.1 ∙ p.1.1;
        },
        subst (λ (x : Mapping). (not w || writes x.mode) ≡ true) (sym n.1.1) p.1.2,
      )

  -- a domain that has a frame mapped has a mapping of it in force
  pub maps_from : (d f : ℕ) → maps_frame G d f ≡ true → Maps a d f
  maps_from d f e = (own-handle false d f e).0

  -- and one for writing
  pub writes_from : (d f : ℕ) → writes_frame G d f ≡ true → Writes a d f
  writes_from d f e = let m = own-handle true d f e in record { maps = m.0; mode = writes_is m.0.note.mapping.mode m.1 }

  -- the pins of a frame are the mappings of it in force
  pub pins-mappings : (f : ℕ) → pins G.records f ≡ count_by (on_frame f) a.mappings
  pins-mappings f =
      b.sound.frame_pins f
      ∙ ap (λ (hs : List (Option Mapping)). count_by (of_frame false f) hs) b.handles_same
      ∙ sum_by-map mapping_in (λ x. cond (of_frame false f x) 1 0) (λ x. cond (on_frame f x) 1 0) (λ x. ap (λ (t : Bool). cond {A = ℕ} t 1 0) (same_frame f x)) a.mappings

  -- and they are its accepted maps less its accepted unmaps
  pub pins-counted : (f : ℕ) → f < 256 → pins G.records f + get_or a.unmaps f 0 ≡ get_or a.maps f 0
  pins-counted f l = omega (arith, pins-mappings f, b.counted f l)

  -- a frame with pins has an owner
  pub pinned-owned : (f : ℕ) → 0 < pins G.records f → owner_of F f ≡ None → ⊥
  pinned-owned f l free =
      let i = counted_is (of_frame false f) None G.handles (omega (arith, b.sound.frame_pins f)) in
      let k : ℕ = i.0 in
      let p = of_frame_is false f (at G.handles k) i.1.1 in
      let w = place_parts k (omega (arith, i.1.0, b.sound.handles_size)) in
      let there : at G.handles (key w.0 w.1) ≡ Some p.0 = ap (λ (j : ℕ). at G.handles j) w.2.1.1 ∙ p.1.0 in
      let own = (frame-owned w.0 w.1 p.0 w.2.0 w.2.1.0 there).1 in
      let q : None ≡ Some p.0.owner = sym free ∙ ap (λ (g : ℕ). owner_of F g) (sym p.1.1) ∙ own in
      let z : ◌≡◌ {A = ℕ} 0 1 = cc in
      omega arith

  -- the account's next handle is the host's
  pub next_handle_same : lowest a.mappings 0 ≡ lowest G.handles 0
  next_handle_same =
      sym (first_free-mapped (λ (n : MappingNote). n.mapping) 0 (handles_of 0 a.mappings))
      ∙ ap (λ (hs : List (Option Mapping)). first_free 0 hs) (sym (between_map mapping_in 0 64 a.mappings))
      ∙ ap (λ (hs : List (Option Mapping)). lowest hs 0) (sym b.handles_same)
