-- Each consumed request stays answered or in hand, once.
use Rattle.std.proofs.Common.{◌≡◌, ℕ, ◌+◌, ◌<◌, ◌≤◌, Bool, true, false, cond, eqb, ltb, List, [], ◌∷◌, ◌++◌, map, length, get_or, set, replicate, Some, None, sum_by, count_by, Option, sym, refl, ap, ◌∙◌, subst, inl, inr, arith}
use Rattle.std.proofs.lemmas.List.{get_or_append_left, get_or_push, length-map, length_push, map_push}
use Rattle.std.proofs.lemmas.List.Sums.{sum_by_push, get_or-le-sum_by}
use Rattle.std.proofs.lemmas.Bool.{cases_eq, eq-eqb, ne_eqb, le-ltb}
use Rattle.std.proofs.lemmas.Bool.Decides.{nat_tests}
use Rattle.rules.specs.Tables.{at}
use Rattle.device.specs.declared.transfer.Part.{Part}
use Rattle.grant.specs.declared.tables.Mapping.{Mapping}
use Rattle.ringpage.specs.declared.slot.Request.{Request}
use Rattle.request.specs.Content.{id_of, operation_of}
use Rattle.connection.specs.Tables.{next_ticket, has_two_jobs, has_jobs, parts_of}
use Rattle.connection.specs.declared.tables.Connection.{Connection}
use Rattle.connection.specs.declared.tables.Job.{Job}
use Rattle.connection.specs.declared.tables.Rings.{Rings}
use Rattle.law.specs.Account.{ConnectionNote, JobNote, with_request, with_response}
use Rattle.law.specs.Keeps.{nth, on_connection, Work}
use Rattle.law.proofs.Inv.{Links, Requests, RequestHeld, OrderHeld, job_has, request_uses}
use Rattle.law.proofs.Tickets.{none_some, same_some, taken_inside, at_set, set_taken, free_or_taken, two_in_sum, none_pass, free_ticket}
use Rattle.grant_law.proofs.Places.{at-replicate, stood_before, counted_more, counted_less}
use Rattle.law.proofs.Links.{job-held_too, note_free, ticket_inside}

-- an element keeps its number when another is put behind, and the last has the number that was the count
nth_before : {X : Type 0} (xs : List X) (y : X) (k : ℕ) (x : X) → nth xs k ≡ Some x → nth (xs ++ y ∷ []) k ≡ Some x
nth_before xs y k x e = rw (map_push Some xs y) (get_or_append_left (map Some xs) (Some y ∷ []) None k (taken_inside (map Some xs) k x e) ∙ e)

pub nth_last : {X : Type 0} (xs : List X) (y : X) → nth (xs ++ y ∷ []) (length xs) ≡ Some y
nth_last xs y = rw (map_push Some xs y) (get_or_push (map Some xs) (Some y) None (length xs) (length-map xs Some))

-- a job's request stays where it is when another is put behind, and when a response is
request_before : (j : Job) (x : JobNote) (n : ConnectionNote) (q : Request) → RequestHeld j x n → RequestHeld j x (with_request q n)
request_before j x n q r = record { request = r.request; there = nth_before n.requests q x.index r.request r.there; id = r.id; operation = r.operation }

request_after : (j : Job) (x : JobNote) (n : ConnectionNote) (i : ℕ) → RequestHeld j x n → RequestHeld j x (with_response i n)
request_after j x n i r = record { request = r.request; there = r.there; id = r.id; operation = r.operation }

-- what a job counts at its connection, and at others
job-here : (x : JobNote) (c i : ℕ) → x.connection ≡ c → cond {A = ℕ} (job_has c i (Some x)) 1 0 ≡ cond {A = ℕ} (eqb x.index i) 1 0
job-here x c i e = rw (eq-eqb x.connection c e)

job_there : (x : JobNote) (c i : ℕ) → (x.connection ≡ c → ⊥) → ◌≡◌ {A = ℕ} (cond (job_has c i (Some x)) 1 0) 0
job_there x c i n = rw (ne_eqb x.connection c n)

on_here : (x : JobNote) (c : ℕ) → x.connection ≡ c → ◌≡◌ {A = ℕ} (cond (on_connection c (Some x)) 1 0) 1
on_here x c e = rw (eq-eqb x.connection c e)

on_there : (x : JobNote) (c : ℕ) → (x.connection ≡ c → ⊥) → ◌≡◌ {A = ℕ} (cond (on_connection c (Some x)) 1 0) 0
on_there x c n = rw (ne_eqb x.connection c n)

-- one number more lies below the count
one_below : (i n : ℕ) → cond {A = ℕ} (ltb i (n + 1)) 1 0 ≡ cond {A = ℕ} (ltb i n) 1 0 + cond {A = ℕ} (eqb n i) 1 0
one_below i n = grind (arith, nat_tests)

-- one connection counts anew, over jobs that count the same at the others
module _ (held : List (Option Job)) (conns : List (Option ConnectionNote)) (jobs jobs' : List (Option JobNote)) (c : ℕ) (n : ConnectionNote) (Q : Requests held conns jobs) where
  -- each request of each connection is answered or in hand, once
  once-set : ((d i : ℕ) → (d ≡ c → ⊥) → count_by (job_has d i) jobs' ≡ count_by (job_has d i) jobs)
      → ((i : ℕ) → request_uses jobs' c n i ≡ cond (ltb i (length n.requests)) 1 0)
      → (d i : ℕ) (m : ConnectionNote) → at (set conns c (Some n)) d ≡ Some m → request_uses jobs' d m i ≡ cond (ltb i (length m.requests)) 1 0
  once-set there here d i m e = elim (at_set conns c d (Some n) m e) [
    | inl a ↦
        let now : n ≡ m = let f = a.1 in cc in
        subst (λ v. request_uses jobs' v m i ≡ cond (ltb i (length m.requests)) 1 0) (sym a.0)
        (subst (λ (v : ConnectionNote). request_uses jobs' c v i ≡ cond (ltb i (length v.requests)) 1 0) now (here i))
    | inr a ↦ rw (there d i a.0) (Q.once d i m a.1)
  ]

  -- each connection's requests are its responses and its jobs
  total-set : ((d : ℕ) → (d ≡ c → ⊥) → count_by (on_connection d) jobs' ≡ count_by (on_connection d) jobs)
      → length n.requests ≡ length n.answered + count_by (on_connection c) jobs'
      → (d : ℕ) (m : ConnectionNote) → at (set conns c (Some n)) d ≡ Some m → length m.requests ≡ length m.answered + count_by (on_connection d) jobs'
  total-set there here d m e = elim (at_set conns c d (Some n) m e) [
    | inl a ↦
        let now : n ≡ m = let f = a.1 in cc in
        subst (λ v. length m.requests ≡ length m.answered + count_by (on_connection v) jobs') (sym a.0)
        (subst (λ (v : ConnectionNote). length v.requests ≡ length v.answered + count_by (on_connection c) jobs') now here)
    | inr a ↦ rw (there d a.0) (Q.total d m a.1)
  ]

  -- a job's request stays where its connection has all that it had
  request-set : (old : ConnectionNote) → at conns c ≡ Some old → ((j : Job) (x : JobNote) → RequestHeld j x old → RequestHeld j x n)
      → (t : ℕ) (j : Job) (x : JobNote) (m : ConnectionNote) → at held t ≡ Some j → at jobs t ≡ Some x → at (set conns c (Some n)) x.connection ≡ Some m → RequestHeld j x m
  request-set old e more t j x m f g h = elim (at_set conns c x.connection (Some n) m h) [
    | inl a ↦
        let now : n ≡ m = let b = a.1 in cc in
        subst (λ v. RequestHeld j x v) now (more j x (Q.request t j x old f g (ap (λ v. at conns v) a.0 ∙ e)))
    | inr a ↦ Q.request t j x m f g a.1
  ]

-- what a connection that is not live has
module _ (hs : List (Option Mapping)) (C : Rings) (conns : List (Option ConnectionNote)) (jobs : List (Option JobNote)) (L : Links hs C conns jobs) where
  -- it has no job
  none-of-dead : (c : ℕ) → at C.connections c ≡ None → (t : ℕ) (x : JobNote) → at jobs t ≡ Some x → x.connection ≡ c → ⊥
  none-of-dead c dead t x e q =
      let w = job-held_too hs C conns jobs L t x e in
      let m = L.job t w.0 w.1.0 in
      let same : x.connection ≡ w.0.connection = ap (λ (v : Work). v.connection) w.1.1 in
      none_some (at C.connections c) m.connection dead (ap (λ v. at C.connections v) (sym q ∙ same) ∙ m.live)

  -- so none is counted for a request of it
  no-job-has : (c i : ℕ) → at C.connections c ≡ None → count_by (job_has c i) jobs ≡ 0
  no-job-has c i dead = none_pass (job_has c i) jobs None λ t l. elim (free_or_taken (at jobs t)) [
    | inl e ↦ rw e
    | inr w ↦ rw (w.1, ne_eqb w.0.connection c (none-of-dead c dead t w.0 w.1))
  ]

  -- nor at all
  no-job-on : (c : ℕ) → at C.connections c ≡ None → count_by (on_connection c) jobs ≡ 0
  no-job-on c dead = none_pass (on_connection c) jobs None λ t l. elim (free_or_taken (at jobs t)) [
    | inl e ↦ rw e
    | inr w ↦ rw (w.1, ne_eqb w.0.connection c (none-of-dead c dead t w.0 w.1))
  ]

  -- connect: the new connection has no requests yet
  pub requests_opened : (c : ℕ) (n : ConnectionNote) → at C.connections c ≡ None → n.requests ≡ [] → n.answered ≡ [] → Requests C.jobs conns jobs → Requests C.jobs (set conns c (Some n)) jobs
  requests_opened c n dead e f Q =
      let none : length n.requests ≡ 0 = rw e in
      let unanswered : length n.answered ≡ 0 = rw f in
      record {
        once = once-set C.jobs conns jobs jobs c n Q (λ d i a. refl) (λ i.
            let z : count_by (λ x. eqb x i) n.answered ≡ 0 = rw f in
            rw (le-ltb i (length n.requests) (omega arith)) (omega (arith, z, no-job-has c i dead)));
        total = total-set C.jobs conns jobs jobs c n Q (λ d a. refl) (omega (arith, no-job-on c dead));
        request = λ t j x m g h e. elim (at_set conns c x.connection (Some n) m e) [
          | inl a ↦ absurd (none-of-dead c dead t x h a.0)
          | inr a ↦ Q.request t j x m g h a.1
        ];
        order = Q.order;
      }

-- disconnect: the others stay
pub requests-closed : (hs : List (Option Mapping)) (C : Rings) (conns : List (Option ConnectionNote)) (jobs : List (Option JobNote)) (c : ℕ) (k : Connection)
    → at C.connections c ≡ Some k → has_jobs C.jobs c ≡ false
    → Links hs C conns jobs → Requests C.jobs conns jobs → Requests C.jobs (set conns c None) jobs
requests-closed hs C conns jobs c k live idle L Q = record {
  once = λ d i n e. Q.once d i n (stood_before conns c d n e);
  total = λ d n e. Q.total d n (stood_before conns c d n e);
  request = λ t j x n f g e. Q.request t j x n f g (stood_before conns c x.connection n e);
  order = Q.order;
}

-- serve that answers at once: one request more, and it is answered
pub requests-answered : (hs : List (Option Mapping)) (C : Rings) (conns : List (Option ConnectionNote)) (jobs : List (Option JobNote)) (c : ℕ) (n : ConnectionNote) (q : Request)
    → at conns c ≡ Some n → Links hs C conns jobs → Requests C.jobs conns jobs
    → Requests C.jobs (set conns c (Some (with_response (length n.requests) (with_request q n)))) jobs
requests-answered hs C conns jobs c n q e L Q =
    let n' : ConnectionNote = with_response (length n.requests) (with_request q n) in
    let more : length (n.requests ++ q ∷ []) ≡ length n.requests + 1 = length_push n.requests q in
    record {
      once = once-set C.jobs conns jobs jobs c n' Q (λ d i a. refl) (λ i.
          rw more (omega (arith, sum_by_push (λ x. cond {A = ℕ} (eqb x i) 1 0) n.answered (length n.requests), Q.once c i n e, one_below i (length n.requests))));
      total = total-set C.jobs conns jobs jobs c n' Q (λ d a. refl) (omega (arith, length_push n.answered (length n.requests), Q.total c n e));
      request = request-set C.jobs conns jobs jobs c n' Q n e (λ j x r. request_after j x (with_request q n) (length n.requests) (request_before j x n q r));
      order = Q.order;
    }

-- serve that hands over: one request more, and it is a new job
module _ (hs : List (Option Mapping)) (C : Rings) (conns : List (Option ConnectionNote)) (jobs : List (Option JobNote)) (c : ℕ) (k : Connection) (n : ConnectionNote) (q : Request) (j : Job) (x : JobNote)
    (live : at C.connections c ≡ Some k) (noted : at conns c ≡ Some n) (two : has_two_jobs C.jobs c ≡ false)
    (of_c : x.connection ≡ c) (index : x.index ≡ length n.requests) (id : id_of q ≡ j.id) (operation : operation_of q ≡ j.operation)
    (ticket : x.order.ticket ≡ next_ticket C.jobs c) (direction : x.order.direction ≡ j.direction) (size : x.order.length ≡ sum_by (λ (p : Part). p.length) (parts_of j))
    (L : Links hs C conns jobs) (Q : Requests C.jobs conns jobs) where
  abbrev new-ticket : ℕ
  new-ticket = next_ticket C.jobs c

  -- the account has no job under the ticket, which lies inside the table
  no_note : at jobs new-ticket ≡ None
  no_note = note_free hs C conns jobs L new-ticket (free_ticket C.jobs c two)

  inside : new-ticket < length jobs
  inside = ticket_inside hs C conns jobs L c (omega (arith, taken_inside C.connections c k live, L.connections-size))

  -- the new request is in hand, once
  handed-once : (i : ℕ) → request_uses (set jobs new-ticket (Some x)) c (with_request q n) i ≡ cond (ltb i (length (n.requests ++ q ∷ []))) 1 0
  handed-once i =
      let more : length (n.requests ++ q ∷ []) ≡ length n.requests + 1 = length_push n.requests q in
      let new : count_by (job_has c i) (set jobs new-ticket (Some x)) ≡ count_by (job_has c i) jobs + cond {A = ℕ} (eqb (length n.requests) i) 1 0 =
      subst (λ v. count_by (job_has c i) (set jobs new-ticket (Some x)) ≡ count_by (job_has c i) jobs + cond {A = ℕ} (eqb v i) 1 0) index
      (counted_more (job_has c i) jobs new-ticket x refl inside no_note ∙ ap (λ v. count_by (job_has c i) jobs + v) (job-here x c i of_c)) in
      rw more (omega (arith, new, Q.once c i n noted, one_below i (length n.requests)))

  -- the new job's request is the last
  handed-request : (m : ConnectionNote) → at (set conns c (Some (with_request q n))) x.connection ≡ Some m → RequestHeld j x m
  handed-request m e =
      let now : with_request q n ≡ m = same_some (at (set conns c (Some (with_request q n))) c) (with_request q n) m (set_taken conns c (Some (with_request q n)) n noted) (rw of_c at e) in
      subst (λ v. RequestHeld j x v) now
      (record { request = q; there = ap (λ v. nth (n.requests ++ q ∷ []) v) index ∙ nth_last n.requests q; id = id; operation = operation })

  pub requests-handed : Requests (set C.jobs (next_ticket C.jobs c) (Some j)) (set conns c (Some (with_request q n))) (set jobs (next_ticket C.jobs c) (Some x))
  requests-handed = record {
    once = once-set C.jobs conns jobs (set jobs new-ticket (Some x)) c (with_request q n) Q
        (λ d i a. omega (arith, counted_more (job_has d i) jobs new-ticket x refl inside no_note, job_there x d i (λ e. a (sym e ∙ of_c)))) handed-once;
    total = total-set C.jobs conns jobs (set jobs new-ticket (Some x)) c (with_request q n) Q
        (λ d a. omega (arith, counted_more (on_connection d) jobs new-ticket x refl inside no_note, on_there x d (λ e. a (sym e ∙ of_c))))
        (omega (arith, length_push n.requests q, counted_more (on_connection c) jobs new-ticket x refl inside no_note, on_here x c of_c, Q.total c n noted));
    request = λ t i y m e f g. elim (at_set C.jobs new-ticket t (Some j) i e) [
      | inl a ↦ elim (at_set jobs new-ticket t (Some x) y f) [
        | inl b ↦
            let same-job : j ≡ i = let h = a.1 in cc in
            let same-note : x ≡ y = let h = b.1 in cc in
            subst (λ v. RequestHeld v y m) same-job
            (subst (λ (v : JobNote). at (set conns c (Some (with_request q n))) v.connection ≡ Some m → RequestHeld j v m) same-note (handed-request m) g)
        | inr b ↦ absurd (b.0 a.0)
      ]
      | inr a ↦ elim (at_set jobs new-ticket t (Some x) y f) [
        | inl b ↦ absurd (a.0 b.0)
        | inr b ↦ request-set C.jobs conns jobs jobs c (with_request q n) Q n noted (λ u v r. request_before u v n q r) t i y m a.1 b.1 g
      ]
    ];
    order = λ t i y e f. elim (at_set C.jobs new-ticket t (Some j) i e) [
      | inl a ↦ elim (at_set jobs new-ticket t (Some x) y f) [
        | inl b ↦
            let same-job : j ≡ i = let h = a.1 in cc in
            let same-note : x ≡ y = let h = b.1 in cc in
            subst (λ v. OrderHeld v i y) (sym a.0) (subst (λ v. OrderHeld new-ticket v y) same-job (subst (λ v. OrderHeld new-ticket j v) same-note
            (record { ticket = ticket; direction = direction; length = size })))
        | inr b ↦ absurd (b.0 a.0)
      ]
      | inr a ↦ elim (at_set jobs new-ticket t (Some x) y f) [
        | inl b ↦ absurd (a.0 b.0)
        | inr b ↦ Q.order t i y a.1 b.1
      ]
    ];
  }

-- complete: the job leaves, and its request is answered
pub requests-completed : (hs : List (Option Mapping)) (C : Rings) (conns : List (Option ConnectionNote)) (jobs : List (Option JobNote)) (t : ℕ) (j : Job) (x : JobNote) (n : ConnectionNote)
    → at C.jobs t ≡ Some j → at jobs t ≡ Some x → at conns x.connection ≡ Some n
    → Links hs C conns jobs → Requests C.jobs conns jobs
    → Requests (set C.jobs t None) (set conns x.connection (Some (with_response x.index n))) (set jobs t None)
requests-completed hs C conns jobs t j x n held noted e L Q =
    let inside = taken_inside jobs t x noted in
    record {
      once = once-set C.jobs conns jobs (set jobs t None) x.connection (with_response x.index n) Q
          (λ d i a. omega (arith, counted_less (job_has d i) jobs t x refl inside noted, job_there x d i (λ q. a (sym q))))
          (λ i. omega (arith, sum_by_push (λ y. cond {A = ℕ} (eqb y i) 1 0) n.answered x.index, counted_less (job_has x.connection i) jobs t x refl inside noted, job-here x x.connection i refl, Q.once x.connection i n e));
      total = total-set C.jobs conns jobs (set jobs t None) x.connection (with_response x.index n) Q
          (λ d a. omega (arith, counted_less (on_connection d) jobs t x refl inside noted, on_there x d (λ q. a (sym q))))
          (omega (arith, length_push n.answered x.index, counted_less (on_connection x.connection) jobs t x refl inside noted, on_here x x.connection refl, Q.total x.connection n e));
      request = λ u i y m f g h. elim (at_set C.jobs t u None i f) [
        | inl a ↦ none_some None i refl a.1
        | inr a ↦ elim (at_set jobs t u None y g) [
          | inl b ↦ none_some None y refl b.1
          | inr b ↦ request-set C.jobs conns jobs jobs x.connection (with_response x.index n) Q n e (λ v w r. request_after v w n x.index r) u i y m a.1 b.1 h
        ]
      ];
      order = λ u i y f g. elim (at_set C.jobs t u None i f) [
        | inl a ↦ none_some None i refl a.1
        | inr a ↦ elim (at_set jobs t u None y g) [
          | inl b ↦ none_some None y refl b.1
          | inr b ↦ Q.order u i y a.1 b.1
        ]
      ];
    }

-- a number that is counted lies below the count
counted_below : (i n : ℕ) → 1 ≤ cond {A = ℕ} (ltb i n) 1 0 → i < n
counted_below i n l = grind (arith, nat_tests)

-- a test counts at most one
at_most_one : (b : Bool) → cond {A = ℕ} b 1 0 ≤ 1
at_most_one true = omega arith
at_most_one false = omega arith

-- a number counts as itself, and the next does not
itself : (i v : ℕ) → i ≡ v → ◌≡◌ {A = ℕ} (cond (eqb i v) 1 0) 1
itself i v e = rw (eq-eqb i v e)

next_differs : (v : ℕ) → ◌≡◌ {A = ℕ} (cond (eqb (v + 1) v) 1 0) 0
next_differs v = grind (arith, nat_tests)

-- each response answers one consumed request
pub answers_one : (held : List (Option Job)) (conns : List (Option ConnectionNote)) (jobs : List (Option JobNote)) → Requests held conns jobs
    → (c j : ℕ) (n : ConnectionNote) → at conns c ≡ Some n → j < length n.answered → get_or n.answered j 0 < length n.requests
answers_one held conns jobs Q c j n e l =
    let v = get_or n.answered j 0 in
    counted_below v (length n.requests)
    (omega (arith, itself v v refl, get_or-le-sum_by (λ x. cond {A = ℕ} (eqb x v) 1 0) n.answered j 0 l, Q.once c v n e))

-- no request is answered twice
pub answers-once : (held : List (Option Job)) (conns : List (Option ConnectionNote)) (jobs : List (Option JobNote)) → Requests held conns jobs
    → (c i j : ℕ) (n : ConnectionNote) → at conns c ≡ Some n
    → i < length n.answered → j < length n.answered → get_or n.answered i 0 ≡ get_or n.answered j 0 → i ≡ j
answers-once held conns jobs Q c i j n e l m same = elim (cases_eq j i) [
  | inl q ↦ sym q
  | inr d ↦
      let v = get_or n.answered j 0 in
      absurd (omega (
        arith,
        two_in_sum (λ x. cond {A = ℕ} (eqb x v) 1 0) n.answered i j 0 (v + 1) (next_differs v) l m d,
        itself (get_or n.answered i 0) v same,
        itself v v refl,
        Q.once c v n e,
        at_most_one (ltb v (length n.requests)),
      ))
]

-- the start: no requests
pub requests-start : Requests (replicate 12 None) (replicate 6 None) (replicate 12 None)
requests-start = record {
  once = λ c i n e. none_some (at (replicate 6 None) c) n (at-replicate 6 c None) e;
  total = λ c n e. none_some (at (replicate 6 None) c) n (at-replicate 6 c None) e;
  request = λ t j x n e f g. none_some (at (replicate 12 None) t) j (at-replicate 12 t None) e;
  order = λ t j x e f. none_some (at (replicate 12 None) t) j (at-replicate 12 t None) e;
}
