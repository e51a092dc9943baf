-- complete: nothing that the device is asked is refused, and the outcome is good.
use Rattle.std.proofs.Common.{◌≡◌, ℕ, ◌+◌, ◌*◌, ◌^◌, ◌<◌, ◌≤◌, true, eqb, List, [], ◌∷◌, length, get_or, set, ℤ, Some, None, Ok, Err, sum_by, Option, Result, sym, refl, ap, ◌∙◌, subst, inl, inr, arith}
use Rattle.std.proofs.lemmas.List.{get_or-set_same, get_or-set_other, get_or-take, length-take-le}
use Rattle.std.proofs.lemmas.List.Sums.{sum_by-le}
use Rattle.std.proofs.lemmas.List.Elements.{All-from_get_or}
use Rattle.std.proofs.lemmas.Bool.{cases_eq, eqb-true, cond-false}
use Rattle.abi.specs.declared.page.Kind.{Kind}
use Rattle.rules.specs.Tables.{at}
use Rattle.rules.specs.Refusal.{after_ok, if_some}
use Rattle.device.specs.Meaning.{Rules, ready_ticket, next_order, finishing}
use Rattle.device.specs.Laws.{Laws}
use Rattle.device.specs.declared.orders.Direction.{Direction}
use Rattle.device.specs.declared.orders.Direction.TheVariants.{Inward, Outward}
use Rattle.device.specs.declared.orders.Order.{Order}
use Rattle.device.specs.declared.fault.DeviceFault.{DeviceFault}
use Rattle.device.specs.declared.transfer.Part.{Part}
use Rattle.frame.specs.Memory.{frame_bytes}
use Rattle.grant.specs.Tables.{key}
use Rattle.grant.specs.Map.{mode_of}
use Rattle.grant.specs.declared.tables.Mapping.{Mapping}
use Rattle.grant_law.proofs.Places.{by_some}
use Rattle.request.specs.Content.{id_of, operation_of}
use Rattle.ring.specs.declared.fault.RingFault.TheVariants.{NoJob}
use Rattle.connection.specs.Tables.{bay_of, same_bay, in_bay, job_at, connection_at, handles_of, parts_of, with_job}
use Rattle.connection.specs.declared.kinds.Bay.{Bay}
use Rattle.connection.specs.declared.tables.Connection.{Connection}
use Rattle.connection.specs.declared.tables.Job.{Job}
use Rattle.backend.specs.Segments.{released_all, mode_for}
use Rattle.backend.specs.Respond.{responded_memory, responded_rings, responded_events}
use Rattle.backend.specs.Move.{moving, moved_memory, moved_device}
use Rattle.backend.specs.declared.tables.Tables.{Tables}
use Rattle.answer.specs.declared.reply.Answer.TheVariants.{Idle, Completed}
use Rattle.law.specs.Serve.{Outcome, responded}
use Rattle.law.specs.Complete.{closed, finished, completed_job, completed}
use Rattle.law.specs.Account.{Account, ConnectionNote, JobNote, complete_noted, job_answered, mappings_ended, noted_connection, noted_job, with_response}
use Rattle.law.specs.Keeps.{Writes, Maps, InSlot, under_ticket, handed, Pairing, noted_pairing, host_pairing, Work, noted_work, host_work}
use Rattle.law.proofs.Inv.{Links, Requests, BayHeld, PartIn, SegmentMapped, JobHeld, OrderHeld, RequestHeld, no_part, Words}
use Rattle.law.proofs.Books.{frame-owned, in_force, counted_is}
use Rattle.law.proofs.Links.{connection-noted, job_noted_too, links_completed}
use Rattle.law.proofs.Requested.{requests-completed}
use Rattle.law.proofs.Tickets.{taken_inside, same_some, in_bay_is, set_taken}
use Rattle.law.proofs.Released.{AllReleased, segments_released, uncounted}
use Rattle.law.proofs.Bytes.{page_there, responded-size, responded-others}
use Rattle.law.proofs.Altered.{filled-others}
use Rattle.law.proofs.Marks.{responded_words, words_kept}
use Rattle.law.proofs.Bays.{under_done, turn_order}
use Rattle.law.proofs.Moves.{moved_orders, moves_granted, done_granted, moved_size}
use Rattle.law.proofs.Cases.{by_either, ok_same}
use Rattle.law.proofs.Outcomes.{HostInv, page-written, page_exists, OutcomeGood}
use Rattle.law.proofs.Serving.{outcome_same, response_noted, bays_apart}

-- each segment of a job lies in a frame that domain 0 has mapped
module _ (a : Account) (H : Tables) (m : List ℕ) (i : HostInv a H m) (t : ℕ) (j : Job) (there : at H.rings.jobs t ≡ Some j) where
  job-is-held : JobHeld H.grants.handles H.rings t j
  job-is-held = i.links.job t j there

  parts-count : length (parts_of j) ≡ j.count
  parts-count = length-take-le j.count j.parts (omega (arith, job-is-held.few, job-is-held.parts_size))

  handles-count : length (handles_of j) ≡ j.count
  handles-count = length-take-le j.count j.handles (omega (arith, job-is-held.few, job-is-held.handles_size))

  pub segment : (n : ℕ) → n < length (parts_of j) → SegmentMapped H.grants.handles j.direction (get_or j.handles n 0) (get_or (parts_of j) n no_part)
  segment n l =
      let l' : n < j.count = omega (arith, parts-count) in
      subst (λ (p : Part). SegmentMapped H.grants.handles j.direction (get_or j.handles n 0) p) (sym (get_or-take j.count j.parts n no_part l')) (job-is-held.segments n l')

  -- its frame is one of the memory's
  pub segment-frame : (n : ℕ) (l : n < length (parts_of j)) → (segment n l).mapping.frame < H.frames.count
  segment-frame n l =
      let s = segment n l in
      (frame-owned H.frames H.grants a i.books 0 (get_or j.handles n 0) s.mapping (omega arith) s.below s.there).0

  pub segment_in : (n : ℕ) (l : n < length (parts_of j)) → PartIn (get_or (parts_of j) n no_part) (segment n l).mapping.frame
  segment_in n l = (segment n l).lies

  -- domain 0 has it mapped, by the account
  pub segment-maps : (n : ℕ) (l : n < length (parts_of j)) → Maps a 0 (segment n l).mapping.frame
  segment-maps n l =
      let s = segment n l in
      let f = in_force H.frames H.grants a i.books (key 0 (get_or j.handles n 0)) s.mapping s.there in
      record { handle = get_or j.handles n 0; note = f.0; own = s.below; in_force = f.1.0; frame = ap (λ (y : Mapping). y.frame) f.1.1 }

  -- and for writing where bytes go inward
  segment-writes : j.direction ≡ Inward → (n : ℕ) (l : n < length (parts_of j)) → Writes a 0 (segment n l).mapping.frame
  unfolding segment-maps
  segment-writes way n l =
      let s = segment n l in
      let f = in_force H.frames H.grants a i.books (key 0 (get_or j.handles n 0)) s.mapping s.there in
      record { maps = segment-maps n l; mode = ap (λ (y : Mapping). y.mode) f.1.1 ∙ s.mode ∙ ap (λ (d : Direction). mode_of (mode_for d)) way }

  inside-memory : (n : ℕ) → n < length (parts_of j) → (get_or (parts_of j) n no_part).start + (get_or (parts_of j) n no_part).length ≤ length m
  inside-memory n l =
      let s = segment n l in
      let page = page_there H.frames.count s.mapping.frame m i.memory (segment-frame n l) in
      omega (arith, s.lies.start, s.lies.inside)

  bytes_below : sum_by (λ (p : Part). p.length) (parts_of j) < 2 ^ 32
  bytes_below =
      let few = All-from_get_or (λ (p : Part). p.length ≤ 4096) (parts_of j) no_part (λ n l. let s = segment n l in let e : (get_or (parts_of j) n no_part).length ≤ 4096 = omega (arith, s.lies.inside) in e) in
      let sum = sum_by-le (λ (p : Part). p.length) 4096 (parts_of j) few in
      omega (arith, sum, parts-count, job-is-held.few)

  -- all of that of one segment: its frame is the memory's, and domain 0 has it mapped
  pub segment_facts : (n : ℕ) → n < length (parts_of j) → (f : ℕ) × (PartIn (get_or (parts_of j) n no_part) f × ((f < H.frames.count) × Maps a 0 f))
  segment_facts n l = ((segment n l).mapping.frame, (segment_in n l, (segment-frame n l, segment-maps n l)))

module _ {X : Type 0} (D : Rules X) (laws : Laws D) (b : Bay) (a : Account) (H : Tables) (m : List ℕ) (x : X)
    (i : HostInv a H m) (held : BayHeld D x b a.jobs) where
  -- a good outcome, with the account that complete's answer makes
  abbrev pub CompleteGood : Outcome X → Type 0
  CompleteGood o = OutcomeGood D b a H m x (after_ok o.answer a (λ z. complete_noted z (ready_ticket D x) a)) o

  module _ (t : ℕ) (j : Job) (there : at H.rings.jobs t ≡ Some j) where
    -- moving alters only frames that domain 0 has mapped for writing
    moved-others : (way : Direction) → j.direction ≡ way → (f : ℕ) → (Writes a 0 f → ⊥) → frame_bytes f (moved_memory D way t (parts_of j) m x) ≡ frame_bytes f m
    moved-others Inward way f wr = filled-others D laws x t 0 (parts_of j) m f (λ n l. ((segment a H m i t j there n l).mapping.frame, (segment_in a H m i t j there n l, λ e. wr (subst (λ g. Writes a 0 g) (sym e) (segment-writes a H m i t j there way n l)))))
    moved-others Outward way f wr = refl

    -- the job is the one whose turn it is
    module _ (ready : ready_ticket D x ≡ Some t) (bay-same : same_bay (bay_of j.kind) b ≡ true) where
      noted-job-too : (y : JobNote) × ((at a.jobs t ≡ Some y) × (noted_work y ≡ host_work j))
      noted-job-too = job_noted_too H.grants.handles H.rings a.connections a.jobs i.links t j there

      note : JobNote
      note = noted-job-too.0

      noted-there : at a.jobs t ≡ Some note
      unfolding note
      noted-there = noted-job-too.1.0

      work : noted_work note ≡ host_work j
      unfolding note
      work = noted-job-too.1.1

      connection-same : note.connection ≡ j.connection
      connection-same = ap (λ (z : Work). z.connection) work

      handles_same : note.handles ≡ handles_of j
      handles_same = ap (λ (z : Work). z.handles) work

      note-bay : same_bay (bay_of note.kind) b ≡ true
      note-bay = subst (λ (kd : Kind). same_bay (bay_of kd) b ≡ true) (sym (ap (λ (z : Work). z.kind) work)) bay-same

      order : OrderHeld t j note
      order = i.requests.order t j note there noted-there

      turn : next_order D x ≡ Some note.order
      turn = turn_order D x t b a.jobs note ready noted-there note-bay held

      abbrev memory-then : List ℕ
      memory-then = moved_memory D j.direction t (parts_of j) m x

      abbrev device-then : X
      device-then = moved_device D j.direction t (parts_of j) m x

      moves : moving D j.direction t (parts_of j) m x ≡ Ok tt
      moves = moves_granted D laws x t note.order j.direction (parts_of j) m turn order.ticket order.direction order.length
          (let l : note.order.length < 2 ^ 32 = omega (arith, order.length, bytes_below a H m i t j there) in l) (inside-memory a H m i t j there)

      ends : finishing D device-then t ≡ Ok note.order
      ends = done_granted D laws x t note.order j.direction (parts_of j) m turn order.ticket

      -- the connection, and its note
      k : Connection
      k = (job-is-held a H m i t j there).connection

      live : at H.rings.connections j.connection ≡ Some k
      unfolding k
      live = (job-is-held a H m i t j there).live

      noted-connection-too : (n : ConnectionNote) × ((at a.connections j.connection ≡ Some n) × (noted_pairing n ≡ host_pairing k))
      noted-connection-too = connection-noted H.grants.handles H.rings a.connections a.jobs i.links j.connection k live

      old : ConnectionNote
      old = noted-connection-too.0

      old-there : at a.connections j.connection ≡ Some old
      unfolding old
      old-there = noted-connection-too.1.0

      pairing : noted_pairing old ≡ host_pairing k
      unfolding old
      pairing = noted-connection-too.1.1

      request : RequestHeld j note old
      request = i.requests.request t j note old there noted-there (ap (λ c. at a.connections c) connection-same ∙ old-there)

      -- the account with the response noted, by the host's number of the connection and its handles
      abbrev answered : ℕ → Account
      answered c = noted_connection c (Some (with_response note.index old)) a

      abbrev account-then : ℕ → List ℕ → Account
      account-then c hs = noted_job t None (mappings_ended hs (answered c))

      account-is : complete_noted Completed (ready_ticket D x) a ≡ account-then j.connection (handles_of j)
      account-is =
          ap (λ (o : Option ℕ). if_some o a (λ u. if_some (at a.jobs u) a (λ y. job_answered u y a))) ready
          ∙ ap (λ (o : Option JobNote). if_some o a (λ y. job_answered t y a)) noted-there
          ∙ ap (λ (o : Option ConnectionNote). noted_job t None (mappings_ended note.handles (if_some o a (λ n. noted_connection note.connection (Some (with_response note.index n)) a)))) (ap (λ c. at a.connections c) connection-same ∙ old-there)
          ∙ ap (λ c. account-then c note.handles) connection-same
          ∙ ap (account-then j.connection) handles_same

      released : AllReleased H.frames H.grants (released_all (handles_of j) H.grants) (answered j.connection) (mappings_ended (handles_of j) (answered j.connection)) (handles_of j)
      released = segments_released H.frames H.grants (answered j.connection) (handles_of j) i.books
          (λ n l. let l' : n < j.count = omega (arith, handles-count a H m i t j there) in subst (λ h. h < 64) (sym (get_or-take j.count j.handles n 0 l')) ((job-is-held a H m i t j there).segments n l').below)

      page-inside : 4096 * k.page + 4096 ≤ length memory-then
      page-inside =
          page_there H.frames.count k.page memory-then (moved_size D laws j.direction t (parts_of j) m x ∙ i.memory)
          (page_exists a H m i k (i.links.page j.connection k live))

      abbrev status : ℤ
      status = D.status device-then note.order

      abbrev last-memory : List ℕ
      last-memory = responded_memory k j.id j.operation status memory-then

      answered-memory : responded_memory k (id_of request.request) (operation_of request.request) status memory-then ≡ last-memory
      answered-memory =
          ap (λ n. responded_memory k n (operation_of request.request) status memory-then) request.id
          ∙ ap (λ n. responded_memory k j.id n status memory-then) request.operation

      finished-good : OutcomeGood D b a H m x (account-then j.connection (handles_of j))
          (record { answer = Ok Completed; host = responded j.connection k last-memory (closed t j H); memory = last-memory; device = D.without device-then note.order })
      finished-good =
          let all = released in
          record {
            inv = record {
              few = i.few;
              memory = responded-size k j.id j.operation status memory-then ∙ moved_size D laws j.direction t (parts_of j) m x ∙ i.memory;
              books = all.books;
              links = subst (λ cs. Links (released_all (handles_of j) H.grants).handles (responded_rings j.connection k (with_job t None H.rings)) cs (set (mappings_ended (handles_of j) (answered j.connection)).jobs t None)) (sym all.connections)
                  (subst (λ js. Links (released_all (handles_of j) H.grants).handles (responded_rings j.connection k (with_job t None H.rings)) (set a.connections j.connection (Some (with_response note.index old))) (set js t None)) (sym all.jobs)
                  (links_completed H.grants.handles (released_all (handles_of j) H.grants).handles H.rings a.connections a.jobs t j k old note.index there live old-there
                  (λ h l none. all.others (key 0 h) (λ n n-below e. uncounted (handles_of j) h n none n-below (let z : get_or (handles_of j) n 0 ≡ h = omega arith in z)))
                  (λ h l some. let p = counted_is (λ y. eqb y h) 0 (handles_of j) some in subst (λ y. at (released_all (handles_of j) H.grants).handles (key 0 y) ≡ None) (eqb-true _ h p.1.1) (all.free p.0 p.1.0))
                  i.links));
              requests = subst (λ cs. Requests (set H.rings.jobs t None) cs (set (mappings_ended (handles_of j) (answered j.connection)).jobs t None)) (sym all.connections)
                  (subst (λ js. Requests (set H.rings.jobs t None) (set a.connections j.connection (Some (with_response note.index old))) (set js t None)) (sym all.jobs)
                  (subst (λ c. Requests (set H.rings.jobs t None) (set a.connections c (Some (with_response note.index old))) (set a.jobs t None)) connection-same
                  (requests-completed H.grants.handles H.rings a.connections a.jobs t j note old there noted-there (ap (λ c. at a.connections c) connection-same ∙ old-there) i.links i.requests)));
              words = subst (λ cs. Words (responded_events j.connection k last-memory H.events) cs) (sym all.connections)
                  (responded_words H.events (set a.connections j.connection (Some (with_response note.index old))) j.connection k (with_response note.index old) last-memory
                  (omega (arith, taken_inside H.rings.connections j.connection k live, i.links.connections-size))
                  (set_taken a.connections j.connection (Some (with_response note.index old)) old old-there) (sym (ap (λ (p : Pairing). p.guest) pairing))
                  (words_kept H.events a.connections j.connection old (with_response note.index old) old-there refl i.words));
            };
            count = refl;
            bay = subst (λ js. BayHeld D (D.without device-then note.order) b (set js t None)) (sym all.jobs)
                (under_done D laws device-then note.order t b a.jobs note ends (taken_inside a.jobs t note noted-there) noted-there note-bay (λ u. ap (under_ticket u) (moved_orders D laws j.direction t (parts_of j) m x) ∙ held u));
            other = λ d apart u. subst (λ js. handed d (at (set js t None) u) ≡ handed d (at a.jobs u)) (sym all.jobs) (elim (cases_eq u t) [
              | inl e ↦ subst (λ v. handed d (at (set a.jobs t None) v) ≡ handed d (at a.jobs v)) (sym e)
                  (ap (handed d) (get_or-set_same a.jobs t None None (taken_inside a.jobs t note noted-there))
                  ∙ sym (cond-false (same_bay (bay_of note.kind) d) (note.order ∷ []) [] (bays_apart (bay_of note.kind) b d note-bay apart))
                  ∙ sym (ap (handed d) noted-there))
              | inr n ↦ ap (handed d) (get_or-set_other a.jobs t u None None n)
            ]);
            owners = all.owners;
            alters = λ f h wr. elim (cases_eq f k.page) [
              | inl e ↦ absurd (wr (subst (λ g. Writes a 0 g) (sym e) (page-written a H m i k (i.links.page j.connection k live))))
              | inr n ↦ responded-others k j.id j.operation status memory-then f n ∙ moved-others j.direction refl f wr
            ];
            response = λ c n o q e low high at-index. subst (λ mm. InSlot o n q mm) answered-memory
                (response_noted a j.connection old (with_response note.index old) note.index k request.request status memory-then old-there refl
                (ap (λ (p : Pairing). p.kind) pairing) (ap (λ (p : Pairing). p.page) pairing) request.there (i.links.indices j.connection k old live old-there).produced page-inside
                c n o q (ap (λ cs. at cs c) (sym all.connections) ∙ e) low high at-index);
            unbroken = λ e q. let z : ◌≡◌ {A = ℕ} 0 1 = cc in omega arith;
            refused = λ e q. absurd (let z : ◌≡◌ {A = ℕ} 0 1 = cc in omega arith);
          }

      job_good : CompleteGood (completed_job D t j H m x)
      job_good = by_either CompleteGood (moving D j.direction t (parts_of j) m x) _ _
          (λ u e. by_either CompleteGood (finishing D device-then t) _ _
          (λ o q.
          let is : note.order ≡ o = ok_same note.order o (sym ends ∙ q) in
          subst (λ (y : Order). CompleteGood (finished D t j (D.status device-then y) H memory-then (D.without device-then y))) is
          (by_some CompleteGood (connection_at H.rings j.connection) _ _
          (λ none. absurd (let z : None ≡ Some k = sym none ∙ live in let y : ◌≡◌ {A = ℕ} 0 1 = cc in omega arith))
          (λ k' some. subst (λ (y : Connection). CompleteGood (record { answer = Ok Completed; host = responded j.connection y (responded_memory y j.id j.operation status memory-then) (closed t j H); memory = responded_memory y j.id j.operation status memory-then; device = D.without device-then note.order }))
          (same_some (at H.rings.connections j.connection) k k' live some)
          (subst (λ (z : Account). OutcomeGood D b a H m x z (record { answer = Ok Completed; host = responded j.connection k last-memory (closed t j H); memory = last-memory; device = D.without device-then note.order })) (sym account-is) finished-good))))
          (λ e' q. absurd (let z : ◌≡◌ {A = Result Order DeviceFault} (Ok note.order) (Err e') = sym ends ∙ q in let y : ◌≡◌ {A = ℕ} 0 1 = cc in omega arith)))
          (λ e q. absurd (let z : ◌≡◌ {A = Result Unit DeviceFault} (Ok tt) (Err e) = sym moves ∙ q in let y : ◌≡◌ {A = ℕ} 0 1 = cc in omega arith))

  pub completed_good : CompleteGood (completed D b H m x)
  unfolding completed
  completed_good = by_some CompleteGood (ready_ticket D x) _ _
      (λ none. outcome_same D laws b a H m x i held 0 (Ok Idle) (λ e q. let z : ◌≡◌ {A = ℕ} 0 1 = cc in omega arith))
      (λ t ready. by_some CompleteGood (in_bay b (job_at H.rings t)) _ _
      (λ none. outcome_same D laws b a H m x i held 0 (Err NoJob) (λ e q. let z : ◌≡◌ {A = ℕ} 0 1 = cc in omega arith))
      (λ j some. let p = in_bay_is b (job_at H.rings t) j some in job_good t j p.0 ready p.1))
