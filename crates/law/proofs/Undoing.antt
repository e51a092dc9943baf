-- Segments that were mapped are unmapped again, the last first: nothing is left of them but flag bits, and the frame
-- and the mapper of a record.
use Rattle.std.proofs.Common.{◌≡◌, ℕ, ◌+◌, ◌%◌, ◌<◌, ◌≤◌, List, [], ◌∷◌, ◌++◌, map, length, get_or, set, Some, None, Ok, sym, refl, ap, ◌∙◌, subst, arith}
use Rattle.std.specs.Option.{option_map}
use Rattle.std.proofs.lemmas.List.{length-set, set-set, set-get_or}
use Rattle.std.proofs.lemmas.List.Elements.{All-push, All-from_get_or}
use Rattle.rules.specs.Tables.{at}
use Rattle.abi.specs.declared.entry.GrantEntry.{GrantEntry}
use Rattle.frame.specs.declared.owners.Frames.{Frames}
use Rattle.grant.specs.Tables.{key, blank}
use Rattle.grant.specs.Map.{Grant, map_verdict, mode_of}
use Rattle.grant.specs.declared.tables.Mode.{Mode}
use Rattle.grant.specs.declared.tables.Grants.{Grants}
use Rattle.request.specs.declared.content.Span.{Span}
use Rattle.request.specs.declared.fields.Miss.{Miss}
use Rattle.connection.specs.Tables.{handles_of}
use Rattle.connection.specs.declared.tables.Job.{Job}
use Rattle.backend.specs.Segments.{mode_for, part_in, MappingDone, pin_all, released_all}
use Rattle.law.specs.Account.{Account, MappingNote, mapping_noted, mapping_ended, mappings_ended}
use Rattle.law.proofs.Inv.{BooksOf}
use Rattle.grant_law.proofs.Verdicts.{map_accepted}
use Rattle.law.proofs.Books.{no_note}
use Rattle.law.proofs.Released.{ended_rest, ended_mappings, segments_released}
use Rattle.law.proofs.Cases.{by_either}
use Rattle.law.proofs.Segments.{next_is, next_job, next_grants, next_account, next_books, next_handles}

-- the two accounts have the same frames, entries and mappings
record SameBooks (a b : Account) : Type 0 where
  owners : a.owners ≡ b.owners
  entries : a.entries ≡ b.entries
  mappings : a.mappings ≡ b.mappings

-- they have them still after the same mapping ended
same_after : (d h : ℕ) (a b : Account) → SameBooks a b → SameBooks (mapping_ended d h a) (mapping_ended d h b)
same_after d h a b s =
    let x = ended_rest d h a in
    let y = ended_rest d h b in
    record {
      owners = x.owners ∙ s.owners ∙ sym y.owners;
      entries = x.entries ∙ s.entries ∙ sym y.entries;
      mappings = ended_mappings d h a ∙ ap (λ ms. set ms (key d h) None) s.mappings ∙ sym (ended_mappings d h b);
    }

-- after the mappings under a list of handles
same_after_all : (hs : List ℕ) (a b : Account) → SameBooks a b → SameBooks (mappings_ended hs a) (mappings_ended hs b)
same_after_all [] a b s = s
same_after_all (h ∷ hs) a b s = same_after 0 h (mappings_ended hs a) (mappings_ended hs b) (same_after_all hs a b s)

-- the last handle's mapping ends first
last_first : (hs : List ℕ) (h : ℕ) (a : Account) → mappings_ended (hs ++ h ∷ []) a ≡ mappings_ended hs (mapping_ended 0 h a)
last_first [] h a = refl
last_first (x ∷ hs) h a = ap (mapping_ended 0 x) (last_first hs h a)

-- a mapping that begins under a free handle and ends leaves the account's mappings as they were
noted_ended : (h o n : ℕ) (m : Mode) (a : Account) → at a.mappings (key 0 h) ≡ None → SameBooks (mapping_ended 0 h (mapping_noted 0 h o n m a)) a
noted_ended h o n m a e =
    let b : Account = mapping_noted 0 h o n m a in
    let x = ended_rest 0 h b in
    record {
      owners = x.owners;
      entries = x.entries;
      mappings = ended_mappings 0 h b ∙ set-set a.mappings (key 0 h) _ None ∙ sym (ap (set a.mappings (key 0 h)) e) ∙ set-get_or a.mappings (key 0 h) None;
    }

-- the tables G and the account a came from an account b by mappings that began under these handles in turn
record PinnedOn (F : Frames) (G : Grants) (a b : Account) (hs : List ℕ) : Type 0 where
  books : BooksOf F G a
  below : (i : ℕ) → i < length hs → get_or hs i 0 < 64
  back : SameBooks (mappings_ended hs a) b

-- nothing is left of the mappings that began
pub record Undone (F : Frames) (G G' : Grants) (a : Account) : Type 0 where
  pub books : BooksOf F G' a
  pub handles : G'.handles ≡ G.handles

-- the handles are freed: the first account's books are those of the tables again
undone : (F : Frames) (H G : Grants) (a b : Account) (hs : List ℕ) → BooksOf F H b → PinnedOn F G a b hs → Undone F H (released_all hs G) b
undone F H G a b hs k p =
    let r = (segments_released F G a hs p.books p.below).books in
    let es = p.back.entries in
    let same = r.handles_same ∙ ap (map (option_map (λ (n : MappingNote). n.mapping))) p.back.mappings in
    record {
      books = record {
        sound = r.sound;
        owners_same = k.owners_same;
        entries_size = k.entries_size;
        maps-size = k.maps-size;
        unmaps-size = k.unmaps-size;
        type_same = λ i. r.type_same i ∙ ap (λ (l : List GrantEntry). (get_or l i blank).flags % 4) es;
        domid_same = λ i. r.domid_same i ∙ ap (λ (l : List GrantEntry). (get_or l i blank).domid) es;
        frame_same = λ i. r.frame_same i ∙ ap (λ (l : List GrantEntry). (get_or l i blank).frame) es;
        handles_same = same;
        named = k.named;
        under = k.under;
        counted = k.counted;
      };
      handles = same ∙ sym k.handles_same;
    }

module _ (F : Frames) (H : Grants) (b : Account) (guest : ℕ) (start : BooksOf F H b) where
  -- a segment more is mapped
  pinned-more : (G : Grants) (a : Account) (i : ℕ) (j : Job) (s : Span) (g : Grant) → PinnedOn F G a b (handles_of j)
      → (k : BooksOf F G a) (c : j.count ≡ i) (l : i < 11) (hl : length j.handles ≡ 11) (pl : length j.parts ≡ 11)
      → (ok : map_verdict F G 0 guest s.reference (mode_for j.direction) ≡ Ok g)
      → PinnedOn F (next_grants F G a guest i j s g k c l hl pl ok) (next_account F G a guest i j s g k c l hl pl ok) b (handles_of (next_job F G a guest i j s g k c l hl pl ok))
  pinned-more G a i j s g p k c l hl pl ok =
      let yes = map_accepted F G 0 guest s.reference (mode_for j.direction) g (omega arith) k.sound.handles_size ok in
      let free : at a.mappings (key 0 g.handle) ≡ None = no_note F G a k (key 0 g.handle) yes.free in
      let a1 : Account = mapping_noted 0 g.handle guest s.reference (mode_of (mode_for j.direction)) a in
      let e = next_is F G a guest i j s g k c l hl pl ok in
      let x = same_after_all (handles_of j) (mapping_ended 0 g.handle a1) a (noted_ended g.handle guest s.reference (mode_of (mode_for j.direction)) a free) in
      let back : SameBooks (mappings_ended (handles_of j ++ g.handle ∷ []) a1) b = rw (last_first (handles_of j) g.handle a1) (record {
        owners = x.owners ∙ p.back.owners;
        entries = x.entries ∙ p.back.entries;
        mappings = x.mappings ∙ p.back.mappings;
      }) in
      rw (next_handles F G a guest i j s g k c l hl pl ok) (record {
        books = next_books F G a guest i j s g k c l hl pl ok;
        below = λ n. All-push (λ x. x < 64) (handles_of j) g.handle (All-from_get_or (λ x. x < 64) (handles_of j) 0 p.below) yes.handle n 0;
        back = subst (λ (h : ℕ). SameBooks (mappings_ended (handles_of j ++ g.handle ∷ []) (mapping_noted 0 h guest s.reference (mode_of (mode_for j.direction)) a)) b) (sym e) back;
      })

  -- a refused map undoes those before it, and the handles of all undo them
  abbrev Undoes : MappingDone → Type 0
  Undoes m = ((f : Miss) → m.fault ≡ Some f → Undone F H m.grants b) × (m.fault ≡ None → Undone F H (released_all (handles_of m.job) m.grants) b)

  -- whatever was mapped before, of the job's first handles
  pins-undone : (G : Grants) (a : Account) (i : ℕ) (j : Job) (ss : List Span) → PinnedOn F G a b (handles_of j)
      → j.count ≡ i → i + length ss ≤ 11 → length j.handles ≡ 11 → length j.parts ≡ 11 → Undoes (pin_all F guest i j G ss)
  pins-undone G a i j [] p c few hl pl = ((λ f e. absurd (let z : ◌≡◌ {A = ℕ} 0 1 = cc in omega arith)), λ e. undone F H G a b (handles_of j) start p)
  pins-undone G a i j (s ∷ ss) p c few hl pl =
      let k = p.books in
      let l : i < 11 = omega arith in
      by_either Undoes (map_verdict F G 0 guest s.reference (mode_for j.direction)) _ _
      (λ g ok. pins-undone (next_grants F G a guest i j s g k c l hl pl ok) (next_account F G a guest i j s g k c l hl pl ok) (i + 1) (next_job F G a guest i j s g k c l hl pl ok) ss
      (pinned-more G a i j s g p k c l hl pl ok) refl (omega arith)
      (length-set j.handles i g.handle ∙ hl) (length-set j.parts i (part_in g.mapping.frame s) ∙ pl))
      (λ x no. ((λ f e. undone F H G a b (handles_of j) start p), λ e. absurd (let z : ◌≡◌ {A = ℕ} 0 1 = cc in omega arith)))

-- with nothing mapped yet
pinned-none : (F : Frames) (G : Grants) (a : Account) (j : Job) → BooksOf F G a → j.count ≡ 0 → PinnedOn F G a a (handles_of j)
pinned-none F G a j k c = rw c (record { books = k; below = λ i l. absurd (omega arith); back = record { owners = refl; entries = refl; mappings = refl } })

-- a refused map: those before it are unmapped again
pub segments_refused : (F : Frames) (G : Grants) (a : Account) (guest : ℕ) (j : Job) (ss : List Span) (f : Miss)
    → BooksOf F G a → j.count ≡ 0 → length ss ≤ 11 → length j.handles ≡ 11 → length j.parts ≡ 11
    → (pin_all F guest 0 j G ss).fault ≡ Some f → Undone F G (pin_all F guest 0 j G ss).grants a
segments_refused F G a guest j ss f k c few hl pl e = (pins-undone F G a guest k G a 0 j ss (pinned-none F G a j k c) c (omega arith) hl pl).0 f e

-- every one was mapped, and is unmapped again, the last first
pub segments_undone : (F : Frames) (G : Grants) (a : Account) (guest : ℕ) (j : Job) (ss : List Span)
    → BooksOf F G a → j.count ≡ 0 → length ss ≤ 11 → length j.handles ≡ 11 → length j.parts ≡ 11
    → (pin_all F guest 0 j G ss).fault ≡ None
    → Undone F G (released_all (handles_of (pin_all F guest 0 j G ss).job) (pin_all F guest 0 j G ss).grants) a
segments_undone F G a guest j ss k c few hl pl e = (pins-undone F G a guest k G a 0 j ss (pinned-none F G a j k c) c (omega arith) hl pl).1 e
