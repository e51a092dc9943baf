-- The host's connections and jobs stay the account's, and domain 0's handles stay theirs.
use Rattle.std.proofs.Common.{◌≡◌, ℕ, ◌+◌, ◌*◌, ◌<◌, ◌≤◌, Bool, true, false, cond, eqb, List, length, get_or, take, set, replicate, is_some, Some, None, sum_by, count_by, Option, sym, refl, ap, ◌∙◌, subst, inl, inr, arith}
use Rattle.std.specs.Option.{option_map}
use Rattle.std.proofs.lemmas.List.{get_or-set_same, get_or-set_other, get_or-take, length-set, length-map, length-take-le, length_push, set-set}
use Rattle.std.proofs.lemmas.List.Sums.{sum_by-set, get_or-le-sum_by}
use Rattle.std.proofs.lemmas.List.Folds.{sum_by-replicate}
use Rattle.std.proofs.lemmas.Bool.{cases_eq, cases_lt, eq-eqb, ne_eqb, or_parts, both_ways}
use Rattle.abi.specs.Index.{shown}
use Rattle.rules.specs.Tables.{at}
use Rattle.device.specs.declared.orders.Direction.{Direction}
use Rattle.device.specs.declared.transfer.Part.{Part}
use Rattle.grant.specs.Tables.{key}
use Rattle.grant.specs.declared.tables.Mapping.{Mapping}
use Rattle.grant.specs.declared.tables.Mode.TheVariants.{Write}
use Rattle.ringpage.specs.declared.slot.Request.{Request}
use Rattle.connection.specs.Tables.{new_rings, next_ticket, has_two_jobs, has_jobs, with_connection, with_job, with_rsp_prod, handles_of}
use Rattle.connection.specs.declared.tables.Connection.{Connection}
use Rattle.connection.specs.declared.tables.Job.{Job}
use Rattle.connection.specs.declared.tables.Rings.{Rings}
use Rattle.backend.specs.Look.{consumed, consumed_on, next_index}
use Rattle.backend.specs.Respond.{responded_rings}
use Rattle.grant_law.proofs.Places.{at-replicate, counted_more, counted_less}
use Rattle.law.specs.Account.{ConnectionNote, JobNote, with_request, with_response}
use Rattle.law.specs.Keeps.{Pairing, host_pairing, noted_pairing, host_work, noted_work, Counted}
use Rattle.law.proofs.Inv.{Links, PageMapped, SegmentMapped, JobHeld, ring_has, segments_with, handle_uses, no_part}
use Rattle.law.proofs.Tickets.{none_some, same_some, taken_inside, at_set, set_taken, mapped_too, same_places, same_some_ness, same_set, two_in_sum, free_ticket, ticket_range, free_too}

-- the host's tables and the account's are taken or free at the same places
module _ (hs : List (Option Mapping)) (C : Rings) (conns : List (Option ConnectionNote)) (jobs : List (Option JobNote)) (L : Links hs C conns jobs) where
  pub connection-noted : (c : ℕ) (k : Connection) → at C.connections c ≡ Some k → (n : ConnectionNote) × ((at conns c ≡ Some n) × (noted_pairing n ≡ host_pairing k))
  connection-noted c k e = mapped_too host_pairing noted_pairing (at C.connections c) (at conns c) k (same_places host_pairing noted_pairing C.connections conns L.connections_same c) e

  pub no_connection_noted : (c : ℕ) → at C.connections c ≡ None → at conns c ≡ None
  no_connection_noted c e = free_too host_pairing noted_pairing (at C.connections c) (at conns c) (same_places host_pairing noted_pairing C.connections conns L.connections_same c) e

  pub connection-held : (c : ℕ) (n : ConnectionNote) → at conns c ≡ Some n → (k : Connection) × ((at C.connections c ≡ Some k) × (noted_pairing n ≡ host_pairing k))
  connection-held c n e =
      let w = mapped_too noted_pairing host_pairing (at conns c) (at C.connections c) n (sym (same_places host_pairing noted_pairing C.connections conns L.connections_same c)) e in
      (w.0, (w.1.0, sym w.1.1))

  pub job_noted_too : (t : ℕ) (j : Job) → at C.jobs t ≡ Some j → (x : JobNote) × ((at jobs t ≡ Some x) × (noted_work x ≡ host_work j))
  job_noted_too t j e = mapped_too host_work noted_work (at C.jobs t) (at jobs t) j (same_places host_work noted_work C.jobs jobs L.jobs_same t) e

  pub job-held_too : (t : ℕ) (x : JobNote) → at jobs t ≡ Some x → (j : Job) × ((at C.jobs t ≡ Some j) × (noted_work x ≡ host_work j))
  job-held_too t x e =
      let w = mapped_too noted_work host_work (at jobs t) (at C.jobs t) x (sym (same_places host_work noted_work C.jobs jobs L.jobs_same t)) e in
      (w.0, (w.1.0, sym w.1.1))

  pub next_ticket_same : (c : ℕ) → next_ticket jobs c ≡ next_ticket C.jobs c
  next_ticket_same c = ap (λ (b : Bool). cond b (2 * c + 1) (2 * c))
      (sym (same_some_ness host_work noted_work (at C.jobs (2 * c)) (at jobs (2 * c)) (same_places host_work noted_work C.jobs jobs L.jobs_same (2 * c))))

  -- the account's tables are as long as the host's
  pub notes_size : length conns ≡ 6
  notes_size = sym (length-map conns (option_map noted_pairing)) ∙ sym (ap length L.connections_same) ∙ length-map C.connections (option_map host_pairing) ∙ L.connections-size

  pub job_notes_size : length jobs ≡ 12
  job_notes_size = sym (length-map jobs (option_map noted_work)) ∙ sym (ap length L.jobs_same) ∙ length-map C.jobs (option_map host_work) ∙ L.jobs-size

  -- it is free where the host's is
  pub note_free : (t : ℕ) → at C.jobs t ≡ None → at jobs t ≡ None
  note_free t e = free_too host_work noted_work (at C.jobs t) (at jobs t) (same_places host_work noted_work C.jobs jobs L.jobs_same t) e

  -- and a connection's next ticket lies inside it
  pub ticket_inside : (c : ℕ) → c < 6 → next_ticket C.jobs c < length jobs
  ticket_inside c l = omega (arith, job_notes_size, (ticket_range C.jobs c).1)

  -- what ring k or a segment of job j has for a handle counts as a use of it
  ring-one : (k : Connection) (h : ℕ) → k.handle ≡ h → ◌≡◌ {A = ℕ} (cond (ring_has h (Some k)) 1 0) 1
  ring-one k h e = rw (eq-eqb k.handle h e)

  pub ring_uses : (c : ℕ) (k : Connection) (h : ℕ) → at C.connections c ≡ Some k → k.handle ≡ h → 1 ≤ count_by (ring_has h) C.connections
  ring_uses c k h e q =
      let u : ◌≡◌ {A = ℕ} (cond (ring_has h (at C.connections c)) 1 0) 1 = rw e (ring-one k h q) in
      omega (arith, u, get_or-le-sum_by (λ x. cond {A = ℕ} (ring_has h x) 1 0) C.connections c None (taken_inside C.connections c k e))

  -- the segments of one job are among those of all
  pub job_uses : (t : ℕ) (j : Job) (h : ℕ) → at C.jobs t ≡ Some j → segments_with h (Some j) ≤ sum_by (segments_with h) C.jobs
  job_uses t j h e = rw e at (get_or-le-sum_by (segments_with h) C.jobs t None (taken_inside C.jobs t j e))

  -- no handle is used twice
  pub one_use : (h : ℕ) → h < 64 → handle_uses C h ≤ 1
  one_use h l = elim (at hs (key 0 h)) as (λ o. handle_uses C h ≡ cond (is_some o) 1 0 → handle_uses C h ≤ 1) [ None ↦ λ e. omega arith | Some p ↦ λ e. omega arith ] (L.own h l)

  -- a ring's handle is no other ring's
  pub rings_apart : (c d : ℕ) (k m : Connection) → at C.connections c ≡ Some k → at C.connections d ≡ Some m → (d ≡ c → ⊥) → k.handle ≡ m.handle → ⊥
  rings_apart c d k m e f n q =
      let h = m.handle in
      let u : ◌≡◌ {A = ℕ} (cond (ring_has h (at C.connections c)) 1 0) 1 = rw e (ring-one k h q) in
      let v : ◌≡◌ {A = ℕ} (cond (ring_has h (at C.connections d)) 1 0) 1 = rw f (ring-one m h refl) in
      omega (
        arith,
        u,
        v,
        one_use h (L.page d m f).below,
        two_in_sum (λ x. cond {A = ℕ} (ring_has h x) 1 0) C.connections c d None None refl (taken_inside C.connections c k e) (taken_inside C.connections d m f) n,
      )

-- a segment's handle is one of the job's
pub segment_uses : (j : Job) (i : ℕ) → i < j.count → j.count ≤ length j.handles → 1 ≤ count_by (λ y. eqb y (get_or j.handles i 0)) (handles_of j)
segment_uses j i l m =
    let h = get_or j.handles i 0 in
    let inside : i < length (take j.count j.handles) = rw (length-take-le j.count j.handles m) l in
    let g = get_or-le-sum_by (λ y. cond {A = ℕ} (eqb y h) 1 0) (take j.count j.handles) i 0 inside in
    let u : ◌≡◌ {A = ℕ} (cond (eqb (get_or (take j.count j.handles) i 0) h) 1 0) 1 = rw (get_or-take j.count j.handles i 0 l, eq-eqb h h refl) in
    omega arith

-- what is mapped stays mapped under other handles hs' that still have it
page_kept : (hs hs' : List (Option Mapping)) (k : Connection) → (k.handle < 64 → at hs' (key 0 k.handle) ≡ at hs (key 0 k.handle)) → PageMapped hs k → PageMapped hs' k
page_kept hs hs' k same m = record { mapping = m.mapping; below = m.below; there = same m.below ∙ m.there; frame = m.frame; mode = m.mode }

segment_kept : (hs hs' : List (Option Mapping)) (way : Direction) (h : ℕ) (p : Part) → (h < 64 → at hs' (key 0 h) ≡ at hs (key 0 h)) → SegmentMapped hs way h p → SegmentMapped hs' way h p
segment_kept hs hs' way h p same m =
    record { mapping = m.mapping; below = m.below; there = same m.below ∙ m.there; lies = m.lies; mode = m.mode }

job_kept : (hs hs' : List (Option Mapping)) (C C' : Rings) (t : ℕ) (j : Job) (k : Connection) → at C'.connections j.connection ≡ Some k → k.kind ≡ j.kind
    → ((i : ℕ) → i < j.count → get_or j.handles i 0 < 64 → at hs' (key 0 (get_or j.handles i 0)) ≡ at hs (key 0 (get_or j.handles i 0)))
    → JobHeld hs C t j → JobHeld hs' C' t j
job_kept hs hs' C C' t j k live kind same m = record {
  connection = k;
  live = live;
  kind = kind;
  low = m.low;
  high = m.high;
  few = m.few;
  handles_size = m.handles_size;
  parts_size = m.parts_size;
  segments = λ i l. segment_kept hs hs' j.direction (get_or j.handles i 0) (get_or j.parts i no_part) (same i l) (m.segments i l);
}

-- guests' maps and unmaps do not touch domain 0's handles
pub links_elsewhere : (hs hs' : List (Option Mapping)) (C : Rings) (conns : List (Option ConnectionNote)) (jobs : List (Option JobNote))
    → ((h : ℕ) → h < 64 → at hs' (key 0 h) ≡ at hs (key 0 h)) → Links hs C conns jobs → Links hs' C conns jobs
links_elsewhere hs hs' C conns jobs same L = record {
  connections-size = L.connections-size;
  jobs-size = L.jobs-size;
  connections_same = L.connections_same;
  jobs_same = L.jobs_same;
  indices = L.indices;
  own = λ h l. L.own h l ∙ ap (λ (o : Option Mapping). cond {A = ℕ} (is_some o) 1 0) (sym (same h l));
  page = λ c k e. page_kept hs hs' k (same k.handle) (L.page c k e);
  job = λ t j e. let m = L.job t j e in job_kept hs hs' C C t j m.connection m.live m.kind (λ i l b. same (get_or j.handles i 0) b) m;
}

-- the counts of other connections stay when one is set
counted-set : (xs : List (Option Connection)) (ns : List (Option ConnectionNote)) (c : ℕ) (o : Option Connection) (p : Option ConnectionNote)
    → ((d : ℕ) (k : Connection) (n : ConnectionNote) → at xs d ≡ Some k → at ns d ≡ Some n → Counted k n)
    → ((k : Connection) (n : ConnectionNote) → o ≡ Some k → p ≡ Some n → Counted k n)
    → (d : ℕ) (k : Connection) (n : ConnectionNote) → at (set xs c o) d ≡ Some k → at (set ns c p) d ≡ Some n → Counted k n
counted-set xs ns c o p old new d k n e f = elim (at_set xs c d o k e) [
  | inl a ↦ elim (at_set ns c d p n f) [ inl b ↦ new k n a.1 b.1 | inr b ↦ absurd (b.0 a.0) ]
  | inr a ↦ elim (at_set ns c d p n f) [ inl b ↦ absurd (a.0 b.0) | inr b ↦ old d k n a.1 b.1 ]
]

-- equal connections and notes count alike
counted_same : (k m : Connection) (n o : ConnectionNote) → Some k ≡ Some m → Some n ≡ Some o → Counted k n → Counted m o
counted_same k m n o e f q =
    let a : k ≡ m = cc in
    let b : n ≡ o = cc in
    subst (λ x. Counted x o) a (subst (λ y. Counted k y) b q)

-- connect: one ring more, under a handle that was free
module _ (hs : List (Option Mapping)) (C : Rings) (conns : List (Option ConnectionNote)) (jobs : List (Option JobNote)) (c : ℕ) (k : Connection) (n : ConnectionNote) (p : Mapping)
    (size : length hs ≡ 512) (few : c < 6) (free : at C.connections c ≡ None) (below : k.handle < 64) (unused : at hs (key 0 k.handle) ≡ None)
    (frame : p.frame ≡ k.page) (mode : p.mode ≡ Write) (pair : host_pairing k ≡ noted_pairing n) (count : Counted k n) (L : Links hs C conns jobs) where
  abbrev opened : List (Option Mapping)
  opened = set hs (key 0 k.handle) (Some p)

  -- the handles in use stay
  opened-kept : (h : ℕ) (q : Mapping) → at hs (key 0 h) ≡ Some q → at opened (key 0 h) ≡ at hs (key 0 h)
  opened-kept h q e =
      get_or-set_other hs (key 0 k.handle) (key 0 h) (Some p) None (λ i. none_some (at hs (key 0 h)) q (ap (λ v. at hs v) i ∙ unused) e)

  -- each handle in use is used once
  opened-own : (h : ℕ) → h < 64 → handle_uses (with_connection c (Some k) C) h ≡ cond (is_some (at opened (key 0 h))) 1 0
  opened-own h l =
      let s = counted_more (ring_has h) C.connections c k refl (omega (arith, L.connections-size)) free in
      elim (cases_eq h k.handle) [
        | inl q ↦
            let inside : key 0 k.handle < length hs = omega arith in
            let new : ◌≡◌ {A = ℕ} (cond (ring_has h (Some k)) 1 0) 1 = rw (eq-eqb k.handle h (sym q)) in
            let was : ◌≡◌ {A = ℕ} (cond (is_some (at hs (key 0 h))) 1 0) 0 = rw (q, unused) in
            let now : at (set hs (key 0 k.handle) (Some p)) (key 0 h) ≡ Some p = rw q (get_or-set_same hs (key 0 k.handle) (Some p) None inside) in
            rw now (omega (arith, L.own h l))
        | inr d ↦
            let new : ◌≡◌ {A = ℕ} (cond (ring_has h (Some k)) 1 0) 0 = rw (ne_eqb k.handle h (λ e. d (sym e))) in
            let now : at (set hs (key 0 k.handle) (Some p)) (key 0 h) ≡ at hs (key 0 h) = get_or-set_other hs (key 0 k.handle) (key 0 h) (Some p) None (λ e. d (omega arith)) in
            rw now (omega (arith, L.own h l))
      ]

  -- each ring page is mapped
  opened-page : (d : ℕ) (m : Connection) → at (set C.connections c (Some k)) d ≡ Some m → PageMapped opened m
  opened-page d m e = elim (at_set C.connections c d (Some k) m e) [
    | inl a ↦
        let same : k ≡ m = let f = a.1 in cc in
        let inside : key 0 k.handle < length hs = omega arith in
        subst (λ x. PageMapped (set hs (key 0 k.handle) (Some p)) x) same
        (record { mapping = p; below = below; there = get_or-set_same hs (key 0 k.handle) (Some p) None inside; frame = frame; mode = mode })
    | inr a ↦ let g = L.page d m a.1 in page_kept hs (set hs (key 0 k.handle) (Some p)) m (λ l. opened-kept m.handle g.mapping g.there) g
  ]

  -- each job is held as before
  opened-job : (t : ℕ) (j : Job) → at C.jobs t ≡ Some j → JobHeld opened (with_connection c (Some k) C) t j
  opened-job t j e =
      let m = L.job t j e in
      let apart : j.connection ≡ c → ⊥ = λ q. none_some (at C.connections j.connection) m.connection (ap (λ v. at C.connections v) q ∙ free) m.live in
      job_kept hs opened C (with_connection c (Some k) C) t j m.connection
      (get_or-set_other C.connections c j.connection (Some k) None apart ∙ m.live) m.kind
      (λ i l b. opened-kept (get_or j.handles i 0) (m.segments i l).mapping (m.segments i l).there) m

  pub links_opened : Links (set hs (key 0 k.handle) (Some p)) (with_connection c (Some k) C) (set conns c (Some n)) jobs
  links_opened = record {
    connections-size = length-set C.connections c (Some k) ∙ L.connections-size;
    jobs-size = L.jobs-size;
    connections_same = same_set host_pairing noted_pairing C.connections conns c (Some k) (Some n) L.connections_same (ap Some pair);
    jobs_same = L.jobs_same;
    indices = counted-set C.connections conns c (Some k) (Some n) L.indices (λ k' n' e f. counted_same k k' n n' e f count);
    own = opened-own;
    page = opened-page;
    job = opened-job;
  }

-- a ring's handle is no segment's
ring_not_segment : (hs : List (Option Mapping)) (C : Rings) (conns : List (Option ConnectionNote)) (jobs : List (Option JobNote)) → Links hs C conns jobs
    → (c : ℕ) (k : Connection) → at C.connections c ≡ Some k → (t : ℕ) (j : Job) → at C.jobs t ≡ Some j → segments_with k.handle (Some j) ≡ 0
ring_not_segment hs C conns jobs L c k e t j f =
    omega (
      arith,
      one_use hs C conns jobs L k.handle (L.page c k e).below,
      ring_uses hs C conns jobs L c k k.handle e refl,
      job_uses hs C conns jobs L t j k.handle f,
    )

-- a connection whose two tickets are free has no job
not_waiting : (hs : List (Option Mapping)) (C : Rings) (conns : List (Option ConnectionNote)) (jobs : List (Option JobNote)) → Links hs C conns jobs
    → (c : ℕ) → has_jobs C.jobs c ≡ false → (t : ℕ) (j : Job) → at C.jobs t ≡ Some j → j.connection ≡ c → ⊥
not_waiting hs C conns jobs L c idle t j e q =
    let m = L.job t j e in
    let b = or_parts (is_some (at C.jobs (2 * c))) (is_some (at C.jobs (2 * c + 1))) idle in
    let taken : is_some (at C.jobs t) ≡ true = rw e in
    elim (cases_eq t (2 * c)) [
      | inl i ↦ both_ways (is_some (at C.jobs t)) (rw i b.0) taken
      | inr n ↦ both_ways (is_some (at C.jobs t)) (let i : t ≡ 2 * c + 1 = omega (arith, m.low, m.high) in rw i b.1) taken
    ]

-- disconnect: one ring less, and its handle is free
module _ (hs : List (Option Mapping)) (C : Rings) (conns : List (Option ConnectionNote)) (jobs : List (Option JobNote)) (c : ℕ) (k : Connection)
    (size : length hs ≡ 512) (live : at C.connections c ≡ Some k) (idle : has_jobs C.jobs c ≡ false) (L : Links hs C conns jobs) where
  abbrev closed : List (Option Mapping)
  closed = set hs (key 0 k.handle) None

  -- the other handles stay
  closed-kept : (h : ℕ) → (h ≡ k.handle → ⊥) → at closed (key 0 h) ≡ at hs (key 0 h)
  closed-kept h n = get_or-set_other hs (key 0 k.handle) (key 0 h) None None (λ e. n (omega arith))

  -- each handle in use is used once
  closed-own : (h : ℕ) → h < 64 → handle_uses (with_connection c None C) h ≡ cond (is_some (at closed (key 0 h))) 1 0
  closed-own h l =
      let s = counted_less (ring_has h) C.connections c k refl (taken_inside C.connections c k live) live in
      let g = L.page c k live in
      let below = g.below in
      elim (cases_eq h k.handle) [
        | inl q ↦
            let inside : key 0 k.handle < length hs = omega arith in
            let old : ◌≡◌ {A = ℕ} (cond (ring_has h (Some k)) 1 0) 1 = rw (eq-eqb k.handle h (sym q)) in
            let was : ◌≡◌ {A = ℕ} (cond (is_some (at hs (key 0 h))) 1 0) 1 = rw (q, g.there) in
            let now : at (set hs (key 0 k.handle) None) (key 0 h) ≡ None = rw q (get_or-set_same hs (key 0 k.handle) None None inside) in
            rw now (omega (arith, L.own h l))
        | inr d ↦
            let old : ◌≡◌ {A = ℕ} (cond (ring_has h (Some k)) 1 0) 0 = rw (ne_eqb k.handle h (λ e. d (sym e))) in
            rw (closed-kept h d) (omega (arith, L.own h l))
      ]

  -- the other ring pages are mapped
  closed-page : (d : ℕ) (m : Connection) → at (set C.connections c None) d ≡ Some m → PageMapped closed m
  closed-page d m e = elim (at_set C.connections c d None m e) [
    | inl a ↦ none_some None m refl a.1
    | inr a ↦ page_kept hs closed m (λ l. closed-kept m.handle (λ q. rings_apart hs C conns jobs L c d k m live a.1 a.0 (sym q))) (L.page d m a.1)
  ]

  -- each job is held as before
  closed-job : (t : ℕ) (j : Job) → at C.jobs t ≡ Some j → JobHeld closed (with_connection c None C) t j
  closed-job t j e =
      let m = L.job t j e in
      let apart : j.connection ≡ c → ⊥ = not_waiting hs C conns jobs L c idle t j e in
      let full : j.count ≤ length j.handles = omega (arith, m.few, m.handles_size) in
      job_kept hs closed C (with_connection c None C) t j m.connection
      (get_or-set_other C.connections c j.connection None None apart ∙ m.live) m.kind
      (λ i l b. closed-kept (get_or j.handles i 0) (λ q.
      omega (arith, segment_uses j i l full, subst (λ h. segments_with h (Some j) ≡ 0) (sym q) (ring_not_segment hs C conns jobs L c k live t j e)))) m

  pub links_closed : Links (set hs (key 0 k.handle) None) (with_connection c None C) (set conns c None) jobs
  links_closed = record {
    connections-size = length-set C.connections c None ∙ L.connections-size;
    jobs-size = L.jobs-size;
    connections_same = same_set host_pairing noted_pairing C.connections conns c None None L.connections_same refl;
    jobs_same = L.jobs_same;
    indices = counted-set C.connections conns c None None L.indices (λ k' n' e f. none_some None k' refl e);
    own = closed-own;
    page = closed-page;
    job = closed-job;
  }

-- a live connection counts on: it is the same but for its counts
module _ (hs : List (Option Mapping)) (C : Rings) (conns : List (Option ConnectionNote)) (jobs : List (Option JobNote)) (c : ℕ) (k k' : Connection) (n n' : ConnectionNote)
    (live : at C.connections c ≡ Some k) (same : host_pairing k' ≡ host_pairing k) (pair : host_pairing k' ≡ noted_pairing n') (count : Counted k' n') (L : Links hs C conns jobs) where
  -- its handle stays, so each handle in use is used once
  recounted-own : (h : ℕ) → h < 64 → handle_uses (with_connection c (Some k') C) h ≡ cond (is_some (at hs (key 0 h))) 1 0
  recounted-own h l =
      let s = sum_by-set (λ x. cond {A = ℕ} (ring_has h x) 1 0) C.connections c (Some k') None (taken_inside C.connections c k live) in
      let old : cond {A = ℕ} (ring_has h (at C.connections c)) 1 0 ≡ cond {A = ℕ} (ring_has h (Some k')) 1 0 = rw live (ap (λ (p : Pairing). cond {A = ℕ} (eqb p.handle h) 1 0) (sym same)) in
      omega (arith, L.own h l)

  -- its page stays mapped, and so do the others
  recounted-page : (d : ℕ) (m : Connection) → at (set C.connections c (Some k')) d ≡ Some m → PageMapped hs m
  recounted-page d m e = elim (at_set C.connections c d (Some k') m e) [
    | inl a ↦
        let g = L.page c k live in
        let now : k' ≡ m = let f = a.1 in cc in
        let page : k'.page ≡ k.page = ap (λ (p : Pairing). p.page) same in
        let handle : k'.handle ≡ k.handle = ap (λ (p : Pairing). p.handle) same in
        subst (λ x. PageMapped hs x) now
        (record { mapping = g.mapping; below = omega (arith, g.below); there = ap (λ h. at hs (key 0 h)) handle ∙ g.there; frame = g.frame ∙ sym page; mode = g.mode })
    | inr a ↦ L.page d m a.1
  ]

  -- each job is held as before
  recounted-job : (t : ℕ) (j : Job) → at C.jobs t ≡ Some j → JobHeld hs (with_connection c (Some k') C) t j
  recounted-job t j e =
      let m = L.job t j e in
      elim (cases_eq j.connection c) [
        | inl q ↦
            let was : m.connection ≡ k = same_some (at C.connections c) m.connection k (ap (λ v. at C.connections v) (sym q) ∙ m.live) live in
            job_kept hs hs C (with_connection c (Some k') C) t j k'
            (rw q (set_taken C.connections c (Some k') k live))
            (ap (λ (p : Pairing). p.kind) same ∙ ap (λ (x : Connection). x.kind) (sym was) ∙ m.kind)
            (λ i l b. refl) m
        | inr d ↦ job_kept hs hs C (with_connection c (Some k') C) t j m.connection
            (get_or-set_other C.connections c j.connection (Some k') None d ∙ m.live) m.kind (λ i l b. refl) m
      ]

  pub links_recounted : Links hs (with_connection c (Some k') C) (set conns c (Some n')) jobs
  links_recounted = record {
    connections-size = length-set C.connections c (Some k') ∙ L.connections-size;
    jobs-size = L.jobs-size;
    connections_same = same_set host_pairing noted_pairing C.connections conns c (Some k') (Some n') L.connections_same (ap Some pair);
    jobs_same = L.jobs_same;
    indices = counted-set C.connections conns c (Some k') (Some n') L.indices (λ a b e f. counted_same k' a n' b e f count);
    own = recounted-own;
    page = recounted-page;
    job = recounted-job;
  }

-- the next index shows the next count
next_shown : (i n : ℕ) → i ≡ shown n → next_index i ≡ shown (n + 1)
next_shown i n e = omega arith

-- one request more
links_consumed : (hs : List (Option Mapping)) (C : Rings) (conns : List (Option ConnectionNote)) (jobs : List (Option JobNote)) (c : ℕ) (k : Connection) (n : ConnectionNote) (q : Request)
    → at C.connections c ≡ Some k → at conns c ≡ Some n → Links hs C conns jobs
    → Links hs (consumed_on c k C) (set conns c (Some (with_request q n))) jobs
links_consumed hs C conns jobs c k n q e f L =
    let old = L.indices c k n e f in
    let w = connection-noted hs C conns jobs L c k e in
    let same : w.0 ≡ n = same_some (at conns c) w.0 n w.1.0 f in
    links_recounted hs C conns jobs c k (consumed k) n (with_request q n) e refl
    (sym w.1.1 ∙ ap noted_pairing same)
    (record { consumed = next_shown k.req_cons (length n.requests) old.consumed ∙ ap shown (sym (length_push n.requests q)); produced = old.produced })
    L

-- one response more
links_responded : (hs : List (Option Mapping)) (C : Rings) (conns : List (Option ConnectionNote)) (jobs : List (Option JobNote)) (c : ℕ) (k : Connection) (n : ConnectionNote) (i : ℕ)
    → at C.connections c ≡ Some k → at conns c ≡ Some n → Links hs C conns jobs
    → Links hs (responded_rings c k C) (set conns c (Some (with_response i n))) jobs
links_responded hs C conns jobs c k n i e f L =
    let old = L.indices c k n e f in
    let w = connection-noted hs C conns jobs L c k e in
    let same : w.0 ≡ n = same_some (at conns c) w.0 n w.1.0 f in
    links_recounted hs C conns jobs c k (with_rsp_prod (next_index k.rsp_prod) k) n (with_response i n) e refl
    (sym w.1.1 ∙ ap noted_pairing same)
    (record { consumed = old.consumed; produced = next_shown k.rsp_prod (length n.answered) old.produced ∙ ap shown (sym (length_push n.answered i)) })
    L

-- serve that answers at once: the connection counts one request and one response more
pub links_answered : (hs : List (Option Mapping)) (C : Rings) (conns : List (Option ConnectionNote)) (jobs : List (Option JobNote)) (c : ℕ) (k : Connection) (n : ConnectionNote) (q : Request) (i : ℕ)
    → at C.connections c ≡ Some k → at conns c ≡ Some n → Links hs C conns jobs
    → Links hs (responded_rings c (consumed k) (consumed_on c k C)) (set conns c (Some (with_response i (with_request q n)))) jobs
links_answered hs C conns jobs c k n q i e f L =
    subst (λ (ns : List (Option ConnectionNote)). Links hs (responded_rings c (consumed k) (consumed_on c k C)) ns jobs)
    (set-set conns c (Some (with_request q n)) (Some (with_response i (with_request q n))))
    (links_responded hs (consumed_on c k C) (set conns c (Some (with_request q n))) jobs c (consumed k) (with_request q n) i
    (set_taken C.connections c (Some (consumed k)) k e) (set_taken conns c (Some (with_request q n)) n f) (links_consumed hs C conns jobs c k n q e f L))

-- a job more, under a free ticket
module _ (hs hs' : List (Option Mapping)) (C : Rings) (conns : List (Option ConnectionNote)) (jobs : List (Option JobNote)) (t : ℕ) (j : Job) (x : JobNote) (k : Connection)
    (free : at C.jobs t ≡ None) (few : t < 12) (live : at C.connections j.connection ≡ Some k) (kind : k.kind ≡ j.kind)
    (low : 2 * j.connection ≤ t) (high : t ≤ 2 * j.connection + 1) (work : host_work j ≡ noted_work x)
    (short : j.count ≤ 11) (handles_size : length j.handles ≡ 11) (parts_size : length j.parts ≡ 11)
    (uses : (h : ℕ) → h < 64 → cond {A = ℕ} (is_some (at hs' (key 0 h))) 1 0 ≡ cond {A = ℕ} (is_some (at hs (key 0 h))) 1 0 + count_by (λ y. eqb y h) (handles_of j))
    (kept : (h : ℕ) (p : Mapping) → h < 64 → at hs (key 0 h) ≡ Some p → at hs' (key 0 h) ≡ Some p)
    (segments : (i : ℕ) → i < j.count → SegmentMapped hs' j.direction (get_or j.handles i 0) (get_or j.parts i no_part))
    (L : Links hs C conns jobs) where
  -- the handles newly in use are the job's
  added-own : (h : ℕ) → h < 64 → handle_uses (with_job t (Some j) C) h ≡ cond (is_some (at hs' (key 0 h))) 1 0
  added-own h l =
      let s = sum_by-set (segments_with h) C.jobs t (Some j) None (omega (arith, L.jobs-size)) in
      let old : segments_with h (at C.jobs t) ≡ 0 = rw free in
      omega (arith, L.own h l, uses h l)

  -- the new job is held, and the others as before
  added-job : (u : ℕ) (i : Job) → at (set C.jobs t (Some j)) u ≡ Some i → JobHeld hs' (with_job t (Some j) C) u i
  added-job u i e = elim (at_set C.jobs t u (Some j) i e) [
    | inl a ↦
        let now : j ≡ i = let f = a.1 in cc in
        let here : JobHeld hs' (with_job t (Some j) C) t j = record {
          connection = k;
          live = live;
          kind = kind;
          low = low;
          high = high;
          few = short;
          handles_size = handles_size;
          parts_size = parts_size;
          segments = segments;
        } in
        subst (λ v. JobHeld hs' (with_job t (Some j) C) v i) (sym a.0) (subst (λ v. JobHeld hs' (with_job t (Some j) C) t v) now here)
    | inr a ↦
        let m = L.job u i a.1 in
        job_kept hs hs' C (with_job t (Some j) C) u i m.connection m.live m.kind
        (λ v l b. let g = m.segments v l in kept (get_or i.handles v 0) g.mapping b g.there ∙ sym g.there) m
  ]

  pub links_job-added : Links hs' (with_job t (Some j) C) conns (set jobs t (Some x))
  links_job-added = record {
    connections-size = L.connections-size;
    jobs-size = length-set C.jobs t (Some j) ∙ L.jobs-size;
    connections_same = L.connections_same;
    jobs_same = same_set host_work noted_work C.jobs jobs t (Some j) (Some x) L.jobs_same (ap Some work);
    indices = L.indices;
    own = added-own;
    page = λ c m e. let g = L.page c m e in page_kept hs hs' m (λ l. kept m.handle g.mapping l g.there ∙ sym g.there) g;
    job = added-job;
  }

-- serve that hands over: a new job under the connection's next ticket
pub links_handed : (hs hs' : List (Option Mapping)) (C : Rings) (conns : List (Option ConnectionNote)) (jobs : List (Option JobNote)) (c : ℕ) (k : Connection) (n : ConnectionNote) (q : Request) (j : Job) (x : JobNote)
    → at C.connections c ≡ Some k → at conns c ≡ Some n → has_two_jobs C.jobs c ≡ false
    → j.connection ≡ c → j.kind ≡ k.kind → host_work j ≡ noted_work x → j.count ≤ 11 → length j.handles ≡ 11 → length j.parts ≡ 11
    → ((h : ℕ) → h < 64 → cond {A = ℕ} (is_some (at hs' (key 0 h))) 1 0 ≡ cond {A = ℕ} (is_some (at hs (key 0 h))) 1 0 + count_by (λ y. eqb y h) (handles_of j))
    → ((h : ℕ) (p : Mapping) → h < 64 → at hs (key 0 h) ≡ Some p → at hs' (key 0 h) ≡ Some p)
    → ((i : ℕ) → i < j.count → SegmentMapped hs' j.direction (get_or j.handles i 0) (get_or j.parts i no_part))
    → Links hs C conns jobs
    → Links hs' (with_job (next_ticket C.jobs c) (Some j) (consumed_on c k C)) (set conns c (Some (with_request q n))) (set jobs (next_ticket C.jobs c) (Some x))
links_handed hs hs' C conns jobs c k n q j x e f two at_c kind work short handles_size parts_size uses kept segments L =
    let t = next_ticket C.jobs c in
    let r = ticket_range C.jobs c in
    let few : c < 6 = omega (arith, taken_inside C.connections c k e, L.connections-size) in
    links_job-added hs hs' (consumed_on c k C) (set conns c (Some (with_request q n))) jobs t j x (consumed k)
    (free_ticket C.jobs c two)
    (omega (arith, r.1))
    (ap (λ v. at (set C.connections c (Some (consumed k))) v) at_c ∙ set_taken C.connections c (Some (consumed k)) k e)
    (sym kind)
    (omega (arith, r.0))
    (omega (arith, r.1))
    work short handles_size parts_size uses kept segments
    (links_consumed hs C conns jobs c k n q e f L)

-- a job less, and its handles are free
module _ (hs hs' : List (Option Mapping)) (C : Rings) (conns : List (Option ConnectionNote)) (jobs : List (Option JobNote)) (t : ℕ) (j : Job)
    (held : at C.jobs t ≡ Some j)
    (others : (h : ℕ) → h < 64 → count_by (λ y. eqb y h) (handles_of j) ≡ 0 → at hs' (key 0 h) ≡ at hs (key 0 h))
    (freed : (h : ℕ) → h < 64 → 0 < count_by (λ y. eqb y h) (handles_of j) → at hs' (key 0 h) ≡ None)
    (L : Links hs C conns jobs) where
  -- the handles no longer in use are the job's
  gone-own : (h : ℕ) → h < 64 → handle_uses (with_job t None C) h ≡ cond (is_some (at hs' (key 0 h))) 1 0
  gone-own h l =
      let s = sum_by-set (segments_with h) C.jobs t None None (taken_inside C.jobs t j held) in
      let old : segments_with h (at C.jobs t) ≡ count_by (λ y. eqb y h) (handles_of j) = rw held in
      let own = L.own h l in
      let one = one_use hs C conns jobs L h l in
      elim (cases_lt 0 (count_by (λ y. eqb y h) (handles_of j))) [
        | inl b ↦ rw (freed h l b) (omega arith)
        | inr b ↦ rw (others h l (omega arith)) (omega arith)
      ]

  -- the handles of other jobs are not those of this one
  gone-job : (u : ℕ) (i : Job) → at (set C.jobs t None) u ≡ Some i → JobHeld hs' (with_job t None C) u i
  gone-job u i e = elim (at_set C.jobs t u None i e) [
    | inl a ↦ none_some None i refl a.1
    | inr a ↦
        let m = L.job u i a.1 in
        let full : i.count ≤ length i.handles = omega (arith, m.few, m.handles_size) in
        job_kept hs hs' C (with_job t None C) u i m.connection m.live m.kind
        (λ v l b.
        let h = get_or i.handles v 0 in
        let two = two_in_sum (segments_with h) C.jobs t u None None refl (taken_inside C.jobs t j held) (taken_inside C.jobs u i a.1) a.0 in
        let here : segments_with h (at C.jobs t) ≡ count_by (λ y. eqb y h) (handles_of j) = rw held in
        let there : segments_with h (at C.jobs u) ≡ count_by (λ y. eqb y h) (handles_of i) = rw a.1 in
        others h b (omega (arith, segment_uses i v l full, one_use hs C conns jobs L h b))) m
  ]

  pub links_job_gone : Links hs' (with_job t None C) conns (set jobs t None)
  links_job_gone = record {
    connections-size = L.connections-size;
    jobs-size = length-set C.jobs t None ∙ L.jobs-size;
    connections_same = L.connections_same;
    jobs_same = same_set host_work noted_work C.jobs jobs t None None L.jobs_same refl;
    indices = L.indices;
    own = gone-own;
    page = λ c m e. page_kept hs hs' m (λ l. others m.handle l (ring_not_segment hs C conns jobs L c m e t j held)) (L.page c m e);
    job = gone-job;
  }

-- complete: the job leaves, and its connection counts one response more
pub links_completed : (hs hs' : List (Option Mapping)) (C : Rings) (conns : List (Option ConnectionNote)) (jobs : List (Option JobNote)) (t : ℕ) (j : Job) (k : Connection) (n : ConnectionNote) (i : ℕ)
    → at C.jobs t ≡ Some j → at C.connections j.connection ≡ Some k → at conns j.connection ≡ Some n
    → ((h : ℕ) → h < 64 → count_by (λ y. eqb y h) (handles_of j) ≡ 0 → at hs' (key 0 h) ≡ at hs (key 0 h))
    → ((h : ℕ) → h < 64 → 0 < count_by (λ y. eqb y h) (handles_of j) → at hs' (key 0 h) ≡ None)
    → Links hs C conns jobs
    → Links hs' (responded_rings j.connection k (with_job t None C)) (set conns j.connection (Some (with_response i n))) (set jobs t None)
links_completed hs hs' C conns jobs t j k n i held live noted others freed L =
    links_responded hs' (with_job t None C) conns (set jobs t None) j.connection k n i live noted
    (links_job_gone hs hs' C conns jobs t j held others freed L)

-- the start: nothing is there
pub links_start : Links (replicate 512 None) new_rings (replicate 6 None) (replicate 12 None)
links_start = record {
  connections-size = refl;
  jobs-size = refl;
  connections_same = refl;
  jobs_same = refl;
  indices = λ c k n e f. none_some (at (replicate 6 None) c) k (at-replicate 6 c None) e;
  own = λ h l. (
      let rings : count_by (ring_has h) (replicate 6 None) ≡ 0 = sum_by-replicate (λ o. cond {A = ℕ} (ring_has h o) 1 0) 6 None in
      let segments : sum_by (segments_with h) (replicate 12 None) ≡ 0 = sum_by-replicate (segments_with h) 12 None in
      rw (at-replicate {X = Option Mapping} 512 (key 0 h) None) (omega arith)
      );
  page = λ c k e. none_some (at (replicate 6 None) c) k (at-replicate 6 c None) e;
  job = λ t j e. none_some (at (replicate 12 None) t) j (at-replicate 12 t None) e;
}
