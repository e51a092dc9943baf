-- Domain 0 maps the segments of a request in turn, in the tables and in the account.
use Rattle.std.proofs.Common.{◌≡◌, ℕ, suc, ◌+◌, ◌*◌, ◌<◌, ◌≤◌, cond, eqb, List, [], ◌∷◌, ◌++◌, length, get_or, is_some, Some, None, Ok, sum_by, count_by, Option, unwrap_or, sym, refl, ap, ◌∙◌, subst, inl, inr, arith}
use Rattle.std.proofs.lemmas.List.{length-set, get_or-set_same, get_or-set_other, get_or_past, take_more_set}
use Rattle.std.proofs.lemmas.List.Sums.{sum_by-cons, sum_by_push}
use Rattle.std.proofs.lemmas.Bool.{cases_eq, cases_lt, eq-eqb, ne_eqb}
use Rattle.rules.specs.Tables.{at}
use Rattle.device.specs.declared.transfer.Part.{Part}
use Rattle.frame.specs.declared.owners.Frames.{Frames}
use Rattle.grant.specs.Tables.{blank, place, key}
use Rattle.grant.specs.Map.{Grant, map_verdict, mode_of}
use Rattle.grant.specs.Pin.{pin}
use Rattle.grant.specs.declared.tables.Mapping.{Mapping}
use Rattle.grant.specs.declared.tables.Grants.{Grants}
use Rattle.request.specs.declared.content.Span.{Span}
use Rattle.connection.specs.Tables.{handles_of, parts_of}
use Rattle.connection.specs.declared.tables.Job.{Job}
use Rattle.backend.specs.Segments.{mode_for, part_in, with_segment, MappingDone, pin_all}
use Rattle.law.specs.Account.{Account, mapping_noted, next_handle, part_of, spans_noted}
use Rattle.law.proofs.Inv.{BooksOf, SegmentMapped, no_part}
use Rattle.grant_law.proofs.Verdicts.{Accepted, map_accepted}
use Rattle.law.proofs.Books.{owns_parts, books_pinned, next_handle_same}
use Rattle.law.proofs.Cases.{by_either}
use Rattle.law.proofs.Spans.{no_span}

-- 1 where domain 0's handle h is in use
abbrev used : Grants → ℕ → ℕ
used G h = cond {A = ℕ} (is_some (at G.handles (key 0 h))) 1 0

-- how often the handle h is a segment's of the job
abbrev uses_in : Job → ℕ → ℕ
uses_in j h = count_by (λ y. eqb y h) (handles_of j)

-- every segment was mapped
pub record AllPinned (F : Frames) (G G' : Grants) (a a' : Account) (i : ℕ) (j j' : Job) (ss : List Span) : Type 0 where
  pub books : BooksOf F G' a'
  pub count : j'.count ≡ i + length ss
  pub connection : j'.connection ≡ j.connection
  pub kind : j'.kind ≡ j.kind
  pub direction : j'.direction ≡ j.direction
  pub id : j'.id ≡ j.id
  pub operation : j'.operation ≡ j.operation
  pub handles_size : length j'.handles ≡ 11
  pub parts_size : length j'.parts ≡ 11
  pub connections : a'.connections ≡ a.connections
  pub jobs : a'.jobs ≡ a.jobs
  pub owners : a'.owners ≡ a.owners
  -- domain 0's handles: one more in use for each segment, the old ones as they were
  pub uses : (h : ℕ) → h < 64 → cond {A = ℕ} (is_some (at G'.handles (key 0 h))) 1 0 + count_by (λ y. eqb y h) (handles_of j) ≡ cond {A = ℕ} (is_some (at G.handles (key 0 h))) 1 0 + count_by (λ y. eqb y h) (handles_of j')
  pub kept : (k : ℕ) (p : Mapping) → at G.handles k ≡ Some p → at G'.handles k ≡ Some p
  -- all bytes together
  pub length_sum : sum_by (λ (p : Part). p.length) (parts_of j') ≡ sum_by (λ (p : Part). p.length) (parts_of j) + sum_by (λ (s : Span). s.length) ss
  -- earlier segments stay in their places, new ones are mapped
  pub earlier : (n : ℕ) → n < i → (get_or j'.handles n 0 ≡ get_or j.handles n 0) × (get_or j'.parts n no_part ≡ get_or j.parts n no_part)
  pub segments : ((n : ℕ) → n < length ss → (get_or ss n no_span).start + (get_or ss n no_span).length ≤ 4096)
      → (n : ℕ) → i ≤ n → n < i + length ss → SegmentMapped G'.handles j.direction (get_or j'.handles n 0) (get_or j'.parts n no_part)

-- one segment more, under the free handle of g, with the rest mapped behind it
module _ (F : Frames) (G : Grants) (a : Account) (guest i : ℕ) (j : Job) (s : Span) (g : Grant)
    (books : BooksOf F G a) (count : j.count ≡ i) (few : i < 11) (handles_size : length j.handles ≡ 11) (parts_size : length j.parts ≡ 11)
    (ok : map_verdict F G 0 guest s.reference (mode_for j.direction) ≡ Ok g) where
  -- what the accepted map says
  yes : Accepted F G 0 guest s.reference (mode_for j.direction) g
  yes = map_accepted F G 0 guest s.reference (mode_for j.direction) g (omega arith) books.sound.handles_size ok

  -- an owned frame is one of the table's, so the place of a byte in it is counted by 32 bits
  frame-below : g.mapping.frame < 256
  frame-below = elim (cases_lt g.mapping.frame 256) [
    | inl b ↦ b
    | inr past ↦
        let none : at F.owners g.mapping.frame ≡ None = get_or_past F.owners g.mapping.frame None (omega (arith, books.sound.owners_size)) in
        let some : at F.owners g.mapping.frame ≡ Some guest = (owns_parts F guest g.mapping.frame yes.owned).1 in
        absurd (let z : ◌≡◌ {A = ℕ} 0 1 = cc in omega arith)
  ]

  part-start : s.start + s.length ≤ 4096 → (part_in g.mapping.frame s).start ≡ 4096 * g.mapping.frame + s.start
  part-start l = let below : g.mapping.frame < 256 = frame-below in omega arith

  -- the account's part is the one that is put down
  pub part_is : s.start + s.length ≤ 4096 → part_of (get_or a.entries (place guest s.reference) blank).frame s ≡ part_in g.mapping.frame s
  part_is l =
      ap (λ f. part_of f s) (sym (ap (λ (p : Mapping). p.frame) yes.made ∙ books.frame_same (place guest s.reference)))
      ∙ ap (λ n. record { start = n; length = s.length }) (sym (part-start l))

  -- the account's next handle is the one granted
  pub next_is : next_handle a ≡ g.handle
  next_is = ap (λ (o : Option ℕ). unwrap_or o 0) (next_handle_same F G a books ∙ yes.lowest_is)

  -- the job, the tables and the account then
  abbrev pub next_job : Job
  next_job = with_segment i g.handle (part_in g.mapping.frame s) j

  abbrev pub next_grants : Grants
  next_grants = pin 0 g.handle g.mapping G

  abbrev pub next_account : Account
  next_account = mapping_noted 0 (next_handle a) guest s.reference (mode_of (mode_for j.direction)) a

  -- the account's books are those of the tables
  pub next_books : BooksOf F next_grants next_account
  next_books =
      subst (λ (h : ℕ). BooksOf F next_grants (mapping_noted 0 h guest s.reference (mode_of (mode_for j.direction)) a)) (sym next_is)
      (books_pinned F G a 0 guest s.reference (mode_for j.direction) g (omega arith) ok books)

  -- the job has the handle granted behind those that it had, and the part behind its parts
  pub next_handles : handles_of next_job ≡ handles_of j ++ g.handle ∷ []
  next_handles = rw count (take_more_set j.handles i g.handle (omega arith))

  pub next_parts : parts_of next_job ≡ parts_of j ++ part_in g.mapping.frame s ∷ []
  next_parts = rw count (take_more_set j.parts i (part_in g.mapping.frame s) (omega arith))

  -- the handle granted has its place in the table
  key-inside : key 0 g.handle < length G.handles
  key-inside = omega (arith, yes.handle, books.sound.handles_size)

  -- the handle granted is in use, and every other place is as it was
  there : at next_grants.handles (key 0 g.handle) ≡ Some g.mapping
  there = get_or-set_same G.handles (key 0 g.handle) (Some g.mapping) None key-inside

  elsewhere : (k : ℕ) → (k ≡ key 0 g.handle → ⊥) → at next_grants.handles k ≡ at G.handles k
  elsewhere k n = get_or-set_other G.handles (key 0 g.handle) k (Some g.mapping) None n

  -- a mapping in force stays
  stays : (k : ℕ) (p : Mapping) → at G.handles k ≡ Some p → at next_grants.handles k ≡ Some p
  stays k p e = elim (cases_eq k (key 0 g.handle)) [
    | inl q ↦ absurd (let f : at G.handles k ≡ None = ap (at G.handles) q ∙ yes.free in let z : ◌≡◌ {A = ℕ} 0 1 = cc in omega arith)
    | inr n ↦ elsewhere k n ∙ e
  ]

  -- the handle h is in use once more if it is the one granted
  once_more : (h : ℕ) → used next_grants h ≡ used G h + cond {A = ℕ} (eqb g.handle h) 1 0
  once_more h = elim (cases_eq g.handle h) [
    | inl e ↦ rw (← e, there, yes.free, eq-eqb g.handle g.handle refl)
    | inr n ↦ rw (elsewhere (key 0 h) (λ q. n (omega arith)), ne_eqb g.handle h n) (omega arith)
  ]

  -- and is the job's once more
  more-uses : (h : ℕ) → uses_in next_job h ≡ uses_in j h + cond {A = ℕ} (eqb g.handle h) 1 0
  more-uses h = ap (count_by (λ y. eqb y h)) next_handles ∙ sum_by_push (λ y. cond (eqb y h) 1 0) (handles_of j) g.handle

  -- the job's parts are longer by the span
  more_bytes : sum_by (λ (p : Part). p.length) (parts_of next_job) ≡ sum_by (λ (p : Part). p.length) (parts_of j) + s.length
  more_bytes = ap (sum_by (λ (p : Part). p.length)) next_parts ∙ sum_by_push (λ (p : Part). p.length) (parts_of j) (part_in g.mapping.frame s)

  module _ (G' : Grants) (a' : Account) (j' : Job) (ss : List Span) (r : AllPinned F next_grants G' next_account a' (i + 1) next_job j' ss) where
    -- the segment number i is mapped
    mapped-here : s.start + s.length ≤ 4096 → SegmentMapped G'.handles j.direction (get_or j'.handles i 0) (get_or j'.parts i no_part)
    mapped-here l =
        let e = r.earlier i (omega arith) in
        let h : get_or j'.handles i 0 ≡ g.handle = e.0 ∙ get_or-set_same j.handles i g.handle 0 (omega arith) in
        let p : get_or j'.parts i no_part ≡ part_in g.mapping.frame s = e.1 ∙ get_or-set_same j.parts i (part_in g.mapping.frame s) no_part (omega arith) in
        rw (h, p) (record {
          mapping = g.mapping;
          below = yes.handle;
          there = r.kept (key 0 g.handle) g.mapping there;
          lies = record { offset = s.start; start = part-start l; inside = l };
          mode = ap (λ (m : Mapping). m.mode) yes.made;
        })

    -- and so is each behind it
    more-segments : ((n : ℕ) → n < length (s ∷ ss) → (get_or (s ∷ ss) n no_span).start + (get_or (s ∷ ss) n no_span).length ≤ 4096)
        → (n : ℕ) → i ≤ n → n < i + length (s ∷ ss) → SegmentMapped G'.handles j.direction (get_or j'.handles n 0) (get_or j'.parts n no_part)
    more-segments l n low high = elim (cases_eq n i) [
      | inl e ↦ rw e (mapped-here (l 0 (omega arith)))
      | inr d ↦ r.segments (λ m b. l (suc m) (omega arith)) n (omega arith) (omega arith)
    ]

    -- this segment and the rest together
    pub one_more : AllPinned F G G' a a' i j j' (s ∷ ss)
    one_more = record {
      books = r.books;
      count = omega (arith, r.count);
      connection = r.connection;
      kind = r.kind;
      direction = r.direction;
      id = r.id;
      operation = r.operation;
      handles_size = r.handles_size;
      parts_size = r.parts_size;
      connections = r.connections;
      jobs = r.jobs;
      owners = r.owners;
      uses = λ h b. omega (arith, r.uses h b, once_more h, more-uses h);
      kept = λ k p e. r.kept k p (stays k p e);
      length_sum = omega (arith, r.length_sum, more_bytes, sum_by-cons (λ (x : Span). x.length) s ss);
      earlier = λ n b. (
        (r.earlier n (omega arith)).0 ∙ get_or-set_other j.handles i n g.handle 0 (λ e. omega arith),
        (r.earlier n (omega arith)).1 ∙ get_or-set_other j.parts i n (part_in g.mapping.frame s) no_part (λ e. omega arith),
      );
      segments = more-segments;
    }

-- every segment is mapped, and noted under the same handles and in the same places
pub segments_pinned : (F : Frames) (G : Grants) (a : Account) (guest i : ℕ) (j : Job) (ss : List Span) (hs : List ℕ) (ps : List Part)
    → BooksOf F G a → j.count ≡ i → i + length ss ≤ 11
    → ((n : ℕ) → n < length ss → (get_or ss n no_span).start + (get_or ss n no_span).length ≤ 4096)
    → length j.handles ≡ 11 → length j.parts ≡ 11 → hs ≡ handles_of j → ps ≡ parts_of j
    → (pin_all F guest i j G ss).fault ≡ None
    → AllPinned F G (pin_all F guest i j G ss).grants a (spans_noted guest (mode_of (mode_for j.direction)) hs ps a ss).account i j (pin_all F guest i j G ss).job ss
    × ((spans_noted guest (mode_of (mode_for j.direction)) hs ps a ss).handles ≡ handles_of (pin_all F guest i j G ss).job)
    × ((spans_noted guest (mode_of (mode_for j.direction)) hs ps a ss).parts ≡ parts_of (pin_all F guest i j G ss).job)
segments_pinned F G a guest i j [] hs ps b c few inside hl pl e d f = (
  record {
    books = b;
    count = omega arith;
    connection = refl;
    kind = refl;
    direction = refl;
    id = refl;
    operation = refl;
    handles_size = hl;
    parts_size = pl;
    connections = refl;
    jobs = refl;
    owners = refl;
    uses = λ h l. refl;
    kept = λ k p q. q;
    length_sum = omega arith;
    earlier = λ n l. (refl, refl);
    segments = λ l n low high. absurd (omega arith);
  },
  e,
  d,
)
segments_pinned F G a guest i j (s ∷ ss) hs ps b c few inside hl pl e d f =
    by_either
    (λ (m : MappingDone). m.fault ≡ None
    → AllPinned F G m.grants a (spans_noted guest (mode_of (mode_for j.direction)) hs ps a (s ∷ ss)).account i j m.job (s ∷ ss)
    × ((spans_noted guest (mode_of (mode_for j.direction)) hs ps a (s ∷ ss)).handles ≡ handles_of m.job)
    × ((spans_noted guest (mode_of (mode_for j.direction)) hs ps a (s ∷ ss)).parts ≡ parts_of m.job))
    (map_verdict F G 0 guest s.reference (mode_for j.direction))
    _ _
    (λ g ok p.
    let l : i < 11 = omega arith in
    let j1 : Job = next_job F G a guest i j s g b c l hl pl ok in
    let here : part_of (get_or a.entries (place guest s.reference) blank).frame s ≡ part_in g.mapping.frame s = part_is F G a guest i j s g b c l hl pl ok (inside 0 (omega arith)) in
    let same : hs ++ next_handle a ∷ [] ≡ handles_of j1 = rw (e, next_is F G a guest i j s g b c l hl pl ok) (sym (next_handles F G a guest i j s g b c l hl pl ok)) in
    let place_same : ps ++ part_of (get_or a.entries (place guest s.reference) blank).frame s ∷ [] ≡ parts_of j1 =
    ap (λ xs. xs ++ part_of (get_or a.entries (place guest s.reference) blank).frame s ∷ []) d ∙ ap (λ x. parts_of j ++ x ∷ []) here ∙ sym (next_parts F G a guest i j s g b c l hl pl ok) in
    let r = segments_pinned F (next_grants F G a guest i j s g b c l hl pl ok) (next_account F G a guest i j s g b c l hl pl ok) guest (i + 1) j1 ss
    (hs ++ next_handle a ∷ []) (ps ++ part_of (get_or a.entries (place guest s.reference) blank).frame s ∷ []) (next_books F G a guest i j s g b c l hl pl ok) refl (omega arith)
    (λ n below. inside (suc n) (omega arith))
    (length-set j.handles i g.handle ∙ hl) (length-set j.parts i (part_in g.mapping.frame s) ∙ pl) same place_same p in
    (one_more F G a guest i j s g b c l hl pl ok _ _ _ ss r.0, r.1, r.2))
    (λ x no p. absurd (let z : ◌≡◌ {A = ℕ} 0 1 = cc in omega arith))
    f
