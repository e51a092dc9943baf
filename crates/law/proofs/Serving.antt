-- serve: whatever becomes of the request, the outcome is good.
use Rattle.std.proofs.Common.{◌≡◌, ℕ, ◌+◌, ◌-◌, ◌*◌, ◌<◌, ◌≤◌, Bool, true, false, cond, ◌||◌, eqb, ltb, List, [], ◌∷◌, ◌++◌, length, get_or, set, ℤ, is_some, Some, None, Ok, Err, sum_by, count_by, Option, Result, sym, refl, ap, ◌∙◌, subst, inl, inr, arith}
use Rattle.std.proofs.lemmas.List.{get_or-set_same, get_or-set_other, get_or_push, length_push}
use Rattle.std.proofs.lemmas.Option.{same_Some}
use Rattle.std.proofs.lemmas.Bool.{cases_eq, or_parts, both_ways, cond-false, cond_both}
use Rattle.layout.specs.Layout.{le}
use Rattle.abi.specs.Index.{shown, distance}
use Rattle.abi.specs.Page.{slots, slot_start}
use Rattle.abi.specs.declared.page.Kind.{Kind}
use Rattle.rules.specs.Tables.{at}
use Rattle.rules.specs.Refusal.{refuse_first, and_then, after_ok, if_some}
use Rattle.device.specs.Meaning.{Rules, is_full, accepting}
use Rattle.device.specs.Laws.{Laws}
use Rattle.device.specs.declared.orders.Direction.{Direction}
use Rattle.device.specs.declared.fault.DeviceFault.{DeviceFault}
use Rattle.device.specs.declared.transfer.Part.{Part}
use Rattle.frame.specs.Memory.{frame_bytes, bytes_at}
use Rattle.grant.specs.Tables.{key}
use Rattle.grant.specs.Map.{mode_of}
use Rattle.grant.specs.declared.tables.Mapping.{Mapping}
use Rattle.grant.specs.declared.tables.Grants.{Grants}
use Rattle.grant_law.proofs.Places.{by_some}
use Rattle.ringpage.specs.declared.slot.Request.{Request}
use Rattle.ring.specs.Total.{request_or_zeros, word_or_zero}
use Rattle.ring.specs.Fault.{status_of}
use Rattle.ring.specs.Response.{response_bytes}
use Rattle.ring.specs.declared.page.Word.TheVariants.{ReqProd}
use Rattle.ring.specs.declared.fault.RingFault.{RingFault}
use Rattle.ring.specs.declared.fault.RingFault.TheVariants.{NotLive, BadIndex, Busy, OfDevice}
use Rattle.request.specs.Check.{miss}
use Rattle.request.specs.Checked.{check_verdict}
use Rattle.request.specs.Content.{Asked, asked, id_of, operation_of, spans_of, direction_of}
use Rattle.request.specs.declared.content.Span.{Span}
use Rattle.request.specs.declared.fields.Miss.{Miss}
use Rattle.connection.specs.Tables.{bay_of, same_bay, connection_at, next_ticket, has_two_jobs, handles_of, parts_of, with_job}
use Rattle.connection.specs.declared.kinds.Bay.{Bay}
use Rattle.connection.specs.declared.kinds.Bay.TheVariants.{BlockBay, NetBay}
use Rattle.connection.specs.declared.tables.Connection.{Connection}
use Rattle.connection.specs.declared.tables.Job.{Job}
use Rattle.backend.specs.Look.{look, next_request, event_asked, consumed, consumed_on, next_index}
use Rattle.backend.specs.Segments.{MappingDone, released_all, job_for, order_for, mode_for}
use Rattle.backend.specs.Respond.{responded_memory, responded_rings}
use Rattle.backend.specs.declared.tables.Tables.{Tables}
use Rattle.answer.specs.declared.reply.Answer.{Answer}
use Rattle.answer.specs.declared.reply.Answer.TheVariants.{Idle, HandedOver, AnsweredNow}
use Rattle.law.specs.World.{with_grants, with_rings}
use Rattle.law.specs.Serve.{Outcome, mapping_for, with_handed, answered_now, handed_over, segments_mapped, spent, served_on, served}
use Rattle.law.specs.Account.{Account, ConnectionNote, JobNote, SpansNoted, next_noted, with_request, with_response, answer_noted, job_noted, serve_noted, spans_noted, noted_connection, noted_job}
use Rattle.law.specs.Keeps.{Writes, InSlot, nth, responses, handed, Pairing, host_pairing, noted_pairing, Work, host_work, noted_work}
use Rattle.law.proofs.Inv.{Links, Requests, BayHeld, SegmentMapped, no_part, Words}
use Rattle.law.proofs.Links.{connection-noted, note_free, ticket_inside, next_ticket_same, links_answered, links_handed}
use Rattle.law.proofs.Requested.{nth_last, requests-answered, requests-handed}
use Rattle.law.proofs.Tickets.{at_set, taken_inside, same_some, free_ticket, set_taken}
use Rattle.law.proofs.Segments.{AllPinned, segments_pinned}
use Rattle.law.proofs.Undoing.{Undone, segments_refused, segments_undone}
use Rattle.law.proofs.Spans.{no_span, checked-spans}
use Rattle.law.proofs.Bytes.{put_size, put_others, page_there, responded-size, responded-others, response_stands, slot-shown, request_shown}
use Rattle.law.proofs.Marks.{words_kept, responded_words}
use Rattle.law.proofs.Bays.{under-accepted}
use Rattle.law.proofs.Cases.{by_either}
use Rattle.law.proofs.Good.{no_answer, no_response}
use Rattle.law.proofs.Outcomes.{HostInv, page-written, page_exists, OutcomeGood}

-- a response that is noted on the connection c stands in its slot
pub response_noted : (a : Account) (c : ℕ) (old new : ConnectionNote) (index : ℕ) (k : Connection) (q₀ : Request) (status : ℤ) (m : List ℕ)
    → at a.connections c ≡ Some old → new.answered ≡ old.answered ++ index ∷ [] → new.kind ≡ k.kind → new.page ≡ k.page
    → nth new.requests index ≡ Some q₀ → k.rsp_prod ≡ shown (length old.answered) → 4096 * k.page + 4096 ≤ length m
    → (c' j : ℕ) (n : ConnectionNote) (q : Request) → at (set a.connections c (Some new)) c' ≡ Some n
    → responses a c' ≤ j → j < length n.answered → nth n.requests (get_or n.answered j 0) ≡ Some q
    → InSlot n j q (responded_memory k (id_of q₀) (operation_of q₀) status m)
response_noted a c old new index k q₀ status m there grown kind page asked-for indexed inside c' j n q e low high at-index =
    let m' = responded_memory k (id_of q₀) (operation_of q₀) status m in
    elim (at_set a.connections c c' (Some new) n e) [
      | inl here ↦
          let same : new ≡ n = same_some (Some new) new n refl here.1 in
          let many : responses a c' ≡ length old.answered = ap (λ (o : Option ConnectionNote). if_some {Y = ℕ} o 0 (λ x. length x.answered)) (ap (λ d. at a.connections d) here.0 ∙ there) in
          let longer : length n.answered ≡ length old.answered + 1 = ap (λ (x : ConnectionNote). length x.answered) (sym same) ∙ ap length grown ∙ length_push old.answered index in
          let last : j ≡ length old.answered = omega arith in
          let number : get_or n.answered j 0 ≡ index = ap (λ (x : ConnectionNote). get_or x.answered j 0) (sym same) ∙ ap (λ xs. get_or xs j 0) grown ∙ get_or_push old.answered index 0 j (sym last) in
          let found : nth new.requests index ≡ Some q = ap (λ (x : ConnectionNote). nth x.requests index) same ∙ ap (λ v. nth n.requests v) (sym number) ∙ at-index in
          let is : q₀ ≡ q = same_some (nth new.requests index) q₀ q asked-for found in
          let slot : slot_start k.kind k.rsp_prod ≡ slot_start k.kind j = ap (slot_start k.kind) indexed ∙ slot-shown k.kind (length old.answered) ∙ ap (slot_start k.kind) (sym last) in
          let kind' : k.kind ≡ n.kind = sym kind ∙ ap (λ (x : ConnectionNote). x.kind) same in
          let page' : k.page ≡ n.page = sym page ∙ ap (λ (x : ConnectionNote). x.page) same in
          record {
            status = status;
            stands =
                subst (λ (z : Request). bytes_at (4096 * n.page + slot_start n.kind j) (length (response_bytes n.kind (id_of z) (operation_of z) status)) m' ≡ response_bytes n.kind (id_of z) (operation_of z) status) is
                (subst (λ p. bytes_at (4096 * p + slot_start n.kind j) (length (response_bytes n.kind (id_of q₀) (operation_of q₀) status)) m' ≡ response_bytes n.kind (id_of q₀) (operation_of q₀) status) page'
                (subst (λ (kd : Kind). bytes_at (4096 * k.page + slot_start kd j) (length (response_bytes kd (id_of q₀) (operation_of q₀) status)) m' ≡ response_bytes kd (id_of q₀) (operation_of q₀) status) kind'
                (subst (λ s. bytes_at (4096 * k.page + s) (length (response_bytes k.kind (id_of q₀) (operation_of q₀) status)) m' ≡ response_bytes k.kind (id_of q₀) (operation_of q₀) status) slot
                (response_stands k (id_of q₀) (operation_of q₀) status m inside))));
          }
      | inr other ↦ no_response a a refl c' j n other.1 low high
    ]

work_is : (c c' : ℕ) (k k' : Kind) (n n' o o' : ℕ) (d d' : Direction) (h h' : List ℕ) (p p' : List Part)
    → c ≡ c' → k ≡ k' → n ≡ n' → o ≡ o' → d ≡ d' → h ≡ h' → p ≡ p'
    → ◌≡◌ {A = Work} (record { connection = c; kind = k; id = n; operation = o; direction = d; handles = h; parts = p })
    (record { connection = c'; kind = k'; id = n'; operation = o'; direction = d'; handles = h'; parts = p' })
work_is c c' k k' n n' o o' d d' h h' p p' ec ek en eo ed eh ep = cc

-- a device is in one bay
pub bays_apart : (x b d : Bay) → same_bay x b ≡ true → same_bay b d ≡ false → same_bay x d ≡ false
bays_apart BlockBay BlockBay BlockBay p q = q
bays_apart BlockBay BlockBay NetBay p q = refl
bays_apart BlockBay NetBay d p q = absurd (both_ways false refl p)
bays_apart NetBay BlockBay d p q = absurd (both_ways false refl p)
bays_apart NetBay NetBay BlockBay p q = refl
bays_apart NetBay NetBay NetBay p q = q

-- what a look at the ring says: it is refused by the layer of rings, and finds a request only where the back end is free
looked : Bool → ℕ → Bool → Result Bool RingFault
looked t n busy = and_then (refuse_first ((t, BadIndex) ∷ []) (Ok n)) (λ z. cond (eqb z 0) (Ok false) (refuse_first ((busy, Busy) ∷ []) (Ok true)))

found_free : (z busy : Bool) → cond z (Ok false) (refuse_first {E = RingFault} ((busy, Busy) ∷ []) (Ok true)) ≡ Ok true → busy ≡ false
found_free true busy e = absurd (let f : ◌≡◌ {A = Bool} false true = cc in both_ways false refl f)
found_free false true e = absurd (let z : ◌≡◌ {A = ℕ} 0 1 = cc in omega arith)
found_free false false e = refl

refused_ring : (z busy : Bool) (e : RingFault) → cond z (Ok false) (refuse_first {E = RingFault} ((busy, Busy) ∷ []) (Ok true)) ≡ Err e → (d : DeviceFault) → e ≡ OfDevice d → ⊥
refused_ring true busy e q d r = let z : ◌≡◌ {A = ℕ} 0 1 = cc in omega arith
refused_ring false true e q d r = let z : ◌≡◌ {A = ℕ} 0 1 = cc in omega arith
refused_ring false false e q d r = let z : ◌≡◌ {A = ℕ} 0 1 = cc in omega arith

looked_free : (t : Bool) (n : ℕ) (busy : Bool) → looked t n busy ≡ Ok true → busy ≡ false
unfolding looked
looked_free true n busy e = absurd (let z : ◌≡◌ {A = ℕ} 0 1 = cc in omega arith)
looked_free false n busy e = found_free (eqb n 0) busy e

looked_ring : (t : Bool) (n : ℕ) (busy : Bool) (e : RingFault) → looked t n busy ≡ Err e → (d : DeviceFault) → e ≡ OfDevice d → ⊥
unfolding looked
looked_ring true n busy e q d r = let z : ◌≡◌ {A = ℕ} 0 1 = cc in omega arith
looked_ring false n busy e q d r = refused_ring (eqb n 0) busy e q d r

look_free : (busy : Bool) (k : Connection) (m : List ℕ) → look busy k m ≡ Ok true → busy ≡ false
unfolding looked
look_free busy k m e = looked_free (ltb (slots k.kind - distance k.rsp_prod k.req_cons) (distance k.req_cons (word_or_zero m k.page ReqProd))) (distance k.req_cons (word_or_zero m k.page ReqProd)) busy e

look_ring : (busy : Bool) (k : Connection) (m : List ℕ) (e : RingFault) → look busy k m ≡ Err e → (d : DeviceFault) → e ≡ OfDevice d → ⊥
unfolding looked
look_ring busy k m e q d r = looked_ring (ltb (slots k.kind - distance k.rsp_prod k.req_cons) (distance k.req_cons (word_or_zero m k.page ReqProd))) (distance k.req_cons (word_or_zero m k.page ReqProd)) busy e q d r

module _ {X : Type 0} (D : Rules X) (laws : Laws D) (b : Bay) (a : Account) (H : Tables) (m : List ℕ) (x : X)
    (i : HostInv a H m) (held : BayHeld D x b a.jobs) (c : ℕ) where
  -- nothing happened
  pub outcome_same : (r : Result Answer RingFault) → ((e : DeviceFault) → r ≡ Err (OfDevice e) → ⊥) → OutcomeGood D b a H m x a (record { answer = r; host = H; memory = m; device = x })
  outcome_same r u = record {
    inv = i;
    count = refl;
    bay = held;
    other = λ d n t. refl;
    owners = refl;
    alters = λ f h wr. refl;
    response = λ k j n q e low high at-index. no_response a a refl k j n e low high;
    unbroken = u;
    refused = λ e q. (refl, refl, refl);
  }

  -- a good outcome, with the account that serve's answer makes
  abbrev pub Served : Outcome X → Type 0
  Served o = OutcomeGood D b a H m x (after_ok o.answer a (λ z. serve_noted c z m a)) o

  served-by : (z : Account) (o : Outcome X) → after_ok o.answer a (λ y. serve_noted c y m a) ≡ z → OutcomeGood D b a H m x z o → Served o
  served-by z o e g = subst (λ (y : Account). OutcomeGood D b a H m x y o) (sym e) g

  module _ (k : Connection) (live : at H.rings.connections c ≡ Some k) where
    -- the connection's note
    noted-too : (n : ConnectionNote) × ((at a.connections c ≡ Some n) × (noted_pairing n ≡ host_pairing k))
    noted-too = connection-noted H.grants.handles H.rings a.connections a.jobs i.links c k live

    pub note : ConnectionNote
    note = noted-too.0

    there : at a.connections c ≡ Some note
    unfolding note
    there = noted-too.1.0

    pairing : noted_pairing note ≡ host_pairing k
    unfolding note
    pairing = noted-too.1.1

    kind-same : note.kind ≡ k.kind
    kind-same = ap (λ (p : Pairing). p.kind) pairing

    page-same : note.page ≡ k.page
    page-same = ap (λ (p : Pairing). p.page) pairing

    guest-same : note.guest ≡ k.guest
    guest-same = ap (λ (p : Pairing). p.guest) pairing

    below : c < 6
    below = omega (arith, taken_inside H.rings.connections c k live, i.links.connections-size)

    page-held : Writes a 0 k.page
    page-held = page-written a H m i k (i.links.page c k live)

    -- the page lies inside the memory
    page-inside : 4096 * k.page + 4096 ≤ length m
    page-inside = page_there H.frames.count k.page m i.memory (page_exists a H m i k (i.links.page c k live))

    -- the request that the account reads is the host's
    pub taken : Request
    taken = next_request k m

    request-same : next_noted note m ≡ taken
    unfolding taken
    request-same =
        let counted = i.links.indices c k note live there in
        ap (λ p. request_or_zeros m p note.kind (length note.requests)) page-same
        ∙ ap (λ (kd : Kind). request_or_zeros m k.page kd (length note.requests)) kind-same
        ∙ sym (request_shown m k.page k.kind (length note.requests))
        ∙ ap (λ n. request_or_zeros m k.page k.kind n) (sym counted.consumed)

    -- nothing but the page may change
    only-page : (m' : List ℕ) → ((g : ℕ) → (g ≡ k.page → ⊥) → frame_bytes g m' ≡ frame_bytes g m) → (f : ℕ) → (Writes a 0 f → ⊥) → frame_bytes f m' ≡ frame_bytes f m
    only-page m' others f wr = elim (cases_eq f k.page) [
      | inl e ↦ absurd (wr (subst (λ g. Writes a 0 g) (sym e) page-held))
      | inr n ↦ others f n
    ]

    -- nothing to do: the guest is asked to tell
    pub idle_good : OutcomeGood D b a H m x a (record { answer = Ok Idle; host = H; memory = event_asked k m; device = x })
    idle_good = record {
      inv = record { few = i.few; memory = put_size m k.page 4 (le 4 (next_index k.req_cons)) ∙ i.memory; books = i.books; links = i.links; requests = i.requests; words = i.words };
      count = refl;
      bay = held;
      other = λ d n t. refl;
      owners = refl;
      alters = λ f h wr. only-page (event_asked k m) (λ g n. put_others m k.page 4 (le 4 (next_index k.req_cons)) g n) f wr;
      response = λ k j n q e low high at-index. no_response a a refl k j n e low high;
      unbroken = λ e q. let z : ◌≡◌ {A = ℕ} 0 1 = cc in omega arith;
      refused = λ e q. absurd (let z : ◌≡◌ {A = ℕ} 0 1 = cc in omega arith);
    }

    -- the request is answered at once; what was mapped for it is unmapped again
    module _ (G' : Grants) (undone : Undone H.frames H.grants G' a) (f : Miss) where
      abbrev host-then : Tables
      host-then = with_grants G' (with_rings (consumed_on c k H.rings) H)

      abbrev memory-then : List ℕ
      memory-then = responded_memory (consumed k) (id_of taken) (operation_of taken) (status_of f.fault) m

      pub answered_good : OutcomeGood D b a H m x (answer_noted c note taken a) (answered_now D c (consumed k) taken f host-then m x)
      answered_good = record {
        inv = record {
          few = i.few;
          memory = responded-size (consumed k) (id_of taken) (operation_of taken) (status_of f.fault) m ∙ i.memory;
          books = undone.books;
          links = subst (λ hs. Links hs (responded_rings c (consumed k) (consumed_on c k H.rings)) (set a.connections c (Some (with_response (length note.requests) (with_request taken note)))) a.jobs) (sym undone.handles)
              (links_answered H.grants.handles H.rings a.connections a.jobs c k note taken (length note.requests) live there i.links);
          requests = requests-answered H.grants.handles H.rings a.connections a.jobs c note taken there i.links i.requests;
          words = responded_words H.events (set a.connections c (Some (with_response (length note.requests) (with_request taken note)))) c (consumed k) (with_response (length note.requests) (with_request taken note)) memory-then below
              (set_taken a.connections c (Some (with_response (length note.requests) (with_request taken note))) note there) (sym guest-same)
              (words_kept H.events a.connections c note (with_response (length note.requests) (with_request taken note)) there refl i.words);
        };
        count = refl;
        bay = held;
        other = λ d n t. refl;
        owners = refl;
        alters = λ g h wr. only-page memory-then (λ g' n. responded-others (consumed k) (id_of taken) (operation_of taken) (status_of f.fault) m g' n) g wr;
        response = response_noted a c note (with_response (length note.requests) (with_request taken note)) (length note.requests) (consumed k) taken (status_of f.fault) m
            there refl kind-same page-same (nth_last note.requests taken) (i.links.indices c k note live there).produced page-inside;
        unbroken = λ e q. let z : ◌≡◌ {A = ℕ} 0 1 = cc in omega arith;
        refused = λ e q. absurd (let z : ◌≡◌ {A = ℕ} 0 1 = cc in omega arith);
      }

    -- what the account has after an answer
    pub answer_is : (f : Miss) → serve_noted c (AnsweredNow f) m a ≡ answer_noted c note taken a
    answer_is f =
        ap (λ (o : Option ConnectionNote). if_some o a (λ n. answer_noted c n (next_noted n m) a)) there
        ∙ ap (λ (q : Request). answer_noted c note q a) request-same

    pub job_is : serve_noted c HandedOver m a ≡ job_noted c note taken a
    job_is =
        ap (λ (o : Option ConnectionNote). if_some o a (λ n. job_noted c n (next_noted n m) a)) there
        ∙ ap (λ (q : Request). job_noted c note q a) request-same

    -- a request that passed its checks
    module _ (bay-same : same_bay (bay_of k.kind) b ≡ true) (few-jobs : has_two_jobs H.rings.jobs c ≡ false)
        (checked : check_verdict D x taken ≡ Ok (asked taken)) where
      good-spans : (asked taken ≡ asked taken) × (length (spans_of taken) ≤ 11) × ((n : ℕ) → n < length (spans_of taken) → (get_or (spans_of taken) n no_span).start + (get_or (spans_of taken) n no_span).length ≤ 4096)
      good-spans = checked-spans D x taken (asked taken) checked

      abbrev fresh-job : Job
      fresh-job = job_for c k.kind (asked taken)

      abbrev pinned : MappingDone
      pinned = mapping_for c (consumed k) (asked taken) (with_rings (consumed_on c k H.rings) H)

      -- a map was refused
      refused-good : (f : Miss) → pinned.fault ≡ Some f → OutcomeGood D b a H m x (answer_noted c note taken a) (answered_now D c (consumed k) taken f (with_grants pinned.grants (with_rings (consumed_on c k H.rings) H)) m x)
      refused-good f e = answered_good pinned.grants (segments_refused H.frames H.grants a k.guest fresh-job (spans_of taken) f i.books refl good-spans.1 refl refl e) f

      -- every segment is mapped
      module _ (all : pinned.fault ≡ None) where
        -- the device refused
        unaccepted-good : (f : Miss) → OutcomeGood D b a H m x (answer_noted c note taken a) (answered_now D c (consumed k) taken f (with_grants (released_all (handles_of pinned.job) pinned.grants) (with_rings (consumed_on c k H.rings) H)) m x)
        unaccepted-good f = answered_good (released_all (handles_of pinned.job) pinned.grants) (segments_undone H.frames H.grants a k.guest fresh-job (spans_of taken) i.books refl good-spans.1 refl refl all) f

        -- the device took the order: the job's ticket, and its note
        abbrev ticket : ℕ
        ticket = next_ticket H.rings.jobs c

        abbrev segments : ℕ → SpansNoted
        segments guest = spans_noted guest (mode_of (mode_for (direction_of taken))) [] [] a (spans_of taken)

        abbrev job-note : ℕ → ℕ → JobNote
        job-note t guest = record { connection = c; kind = note.kind; index = length note.requests; id = id_of taken; operation = operation_of taken; handles = (segments guest).handles; parts = (segments guest).parts; order = order_for t (asked taken) }

        abbrev account-then : ℕ → ℕ → Account
        account-then t guest = noted_job t (Some (job-note t guest)) (noted_connection c (Some (with_request taken note)) (segments guest).account)

        account-is : job_noted c note taken a ≡ account-then ticket k.guest
        account-is =
            ap (λ t. account-then t note.guest) (next_ticket_same H.grants.handles H.rings a.connections a.jobs i.links c)
            ∙ ap (account-then ticket) guest-same

        both : AllPinned H.frames H.grants pinned.grants a (segments k.guest).account 0 fresh-job pinned.job (spans_of taken)
            × ((segments k.guest).handles ≡ handles_of pinned.job) × ((segments k.guest).parts ≡ parts_of pinned.job)
        both = segments_pinned H.frames H.grants a k.guest 0 fresh-job (spans_of taken) [] [] i.books refl (let l : 0 + length (spans_of taken) ≤ 11 = omega (arith, good-spans.1) in l) good-spans.2 refl refl refl refl all

        ticket_free : at H.rings.jobs ticket ≡ None
        ticket_free = free_ticket H.rings.jobs c few-jobs

        note-free : at a.jobs ticket ≡ None
        note-free = note_free H.grants.handles H.rings a.connections a.jobs i.links ticket ticket_free

        ticket-below : ticket < length a.jobs
        ticket-below = ticket_inside H.grants.handles H.rings a.connections a.jobs i.links c below

        work-same : host_work pinned.job ≡ noted_work (job-note ticket k.guest)
        work-same = work_is _ _ _ _ _ _ _ _ _ _ _ _ _ _ both.0.connection (both.0.kind ∙ sym kind-same) both.0.id both.0.operation both.0.direction (sym both.1) (sym both.2)

        handed-good : accepting D x (order_for ticket (asked taken)) ≡ Ok tt
            → OutcomeGood D b a H m x (account-then ticket k.guest)
            (record { answer = Ok HandedOver; host = with_handed ticket pinned (with_rings (consumed_on c k H.rings) H); memory = m; device = D.with_order x (order_for ticket (asked taken)) })
        handed-good accepted =
            let p = both.0 in
            let uses : (h : ℕ) → h < 64 → cond {A = ℕ} (is_some (at pinned.grants.handles (key 0 h))) 1 0 ≡ cond {A = ℕ} (is_some (at H.grants.handles (key 0 h))) 1 0 + count_by (λ y. eqb y h) (handles_of pinned.job) = λ h l. omega (arith, p.uses h l) in
            let kept : (h : ℕ) (y : Mapping) → h < 64 → at H.grants.handles (key 0 h) ≡ Some y → at pinned.grants.handles (key 0 h) ≡ Some y = λ h y l e. p.kept (key 0 h) y e in
            let mapped : (n : ℕ) → n < pinned.job.count → SegmentMapped pinned.grants.handles pinned.job.direction (get_or pinned.job.handles n 0) (get_or pinned.job.parts n no_part) =
            λ n l. subst (λ (way : Direction). SegmentMapped pinned.grants.handles way (get_or pinned.job.handles n 0) (get_or pinned.job.parts n no_part)) (sym p.direction) (p.segments good-spans.2 n (omega arith) (omega (arith, p.count))) in
            let bytes : sum_by (λ (s : Span). s.length) (spans_of taken) ≡ sum_by (λ (y : Part). y.length) (parts_of pinned.job) = omega (arith, p.length_sum) in
            record {
              inv = record {
                few = i.few;
                memory = i.memory;
                books = p.books;
                links = subst (λ cs. Links pinned.grants.handles (with_job ticket (Some pinned.job) (consumed_on c k H.rings)) (set cs c (Some (with_request taken note))) (set (segments k.guest).account.jobs ticket (Some (job-note ticket k.guest)))) (sym p.connections)
                    (subst (λ js. Links pinned.grants.handles (with_job ticket (Some pinned.job) (consumed_on c k H.rings)) (set a.connections c (Some (with_request taken note))) (set js ticket (Some (job-note ticket k.guest)))) (sym p.jobs)
                    (links_handed H.grants.handles pinned.grants.handles H.rings a.connections a.jobs c k note taken pinned.job (job-note ticket k.guest)
                    live there few-jobs p.connection p.kind work-same (omega (arith, p.count, good-spans.1)) p.handles_size p.parts_size uses kept mapped i.links));
                requests = subst (λ cs. Requests (set H.rings.jobs ticket (Some pinned.job)) (set cs c (Some (with_request taken note))) (set (segments k.guest).account.jobs ticket (Some (job-note ticket k.guest)))) (sym p.connections)
                    (subst (λ js. Requests (set H.rings.jobs ticket (Some pinned.job)) (set a.connections c (Some (with_request taken note))) (set js ticket (Some (job-note ticket k.guest)))) (sym p.jobs)
                    (requests-handed H.grants.handles H.rings a.connections a.jobs c k note taken pinned.job (job-note ticket k.guest)
                    live there few-jobs refl refl (sym p.id) (sym p.operation) refl (sym p.direction) bytes i.links i.requests));
                words = subst (λ cs. Words H.events (set cs c (Some (with_request taken note)))) (sym p.connections) (words_kept H.events a.connections c note (with_request taken note) there refl i.words);
              };
              count = refl;
              bay = subst (λ js. BayHeld D (D.with_order x (order_for ticket (asked taken))) b (set js ticket (Some (job-note ticket k.guest)))) (sym p.jobs)
                  (under-accepted D laws x (order_for ticket (asked taken)) b a.jobs (job-note ticket k.guest) accepted ticket-below note-free refl (subst (λ (kd : Kind). same_bay (bay_of kd) b ≡ true) (sym kind-same) bay-same) held);
              other = λ d apart t. subst (λ js. handed d (at (set js ticket (Some (job-note ticket k.guest))) t) ≡ handed d (at a.jobs t)) (sym p.jobs) (elim (cases_eq t ticket) [
                | inl e ↦ subst (λ u. handed d (at (set a.jobs ticket (Some (job-note ticket k.guest))) u) ≡ handed d (at a.jobs u)) (sym e)
                    (ap (handed d) (get_or-set_same a.jobs ticket (Some (job-note ticket k.guest)) None ticket-below)
                    ∙ cond-false (same_bay (bay_of note.kind) d) (order_for ticket (asked taken) ∷ []) [] (bays_apart (bay_of note.kind) b d (subst (λ (kd : Kind). same_bay (bay_of kd) b ≡ true) (sym kind-same) bay-same) apart)
                    ∙ sym (ap (handed d) note-free))
                | inr n ↦ ap (handed d) (get_or-set_other a.jobs ticket t (Some (job-note ticket k.guest)) None n)
              ]);
              owners = p.owners;
              alters = λ f h wr. refl;
              response = λ c' j n q e low high at-index. elim (at_set (segments k.guest).account.connections c c' (Some (with_request taken note)) n e) [
                | inl here ↦ no_answer a c' j note n (ap (λ d. at a.connections d) here.0 ∙ there) (ap (λ (y : ConnectionNote). y.answered) (sym (same_Some _ _ here.1))) low high
                | inr other ↦ no_response a a refl c' j n (ap (λ cs. at cs c') (sym p.connections) ∙ other.1) low high
              ];
              unbroken = λ e q. let z : ◌≡◌ {A = ℕ} 0 1 = cc in omega arith;
              refused = λ e q. absurd (let z : ◌≡◌ {A = ℕ} 0 1 = cc in omega arith);
            }

        -- either way
        accepting-good : Served (handed_over D c (consumed k) taken (asked taken) pinned (with_rings (consumed_on c k H.rings) H) m x)
        accepting-good = by_either Served (accepting D x (order_for ticket (asked taken))) _ _
            (λ t e. served-by _ _ (job_is ∙ account-is) (handed-good e))
            (λ e q. served-by _ _ (answer_is (miss (OfDevice e) 0)) (unaccepted-good (miss (OfDevice e) 0)))

      mapping-good : Served (segments_mapped D c (consumed k) taken (asked taken) (with_rings (consumed_on c k H.rings) H) m x)
      mapping-good = by_some Served pinned.fault _ _
          (λ e. accepting-good e)
          (λ f e. served-by _ _ (answer_is f) (refused-good f e))

    spent-good : same_bay (bay_of k.kind) b ≡ true → has_two_jobs H.rings.jobs c ≡ false → Served (spent D c (consumed k) taken (with_rings (consumed_on c k H.rings) H) m x)
    spent-good bay-same few-jobs = by_either Served (check_verdict D x taken) _ _
        (λ v e.
        let is = (checked-spans D x taken v e).0 in
        subst (λ (z : Asked). Served (segments_mapped D c (consumed k) taken z (with_rings (consumed_on c k H.rings) H) m x)) (sym is)
        (mapping-good bay-same few-jobs (subst (λ (z : Asked). check_verdict D x taken ≡ Ok z) is e)))
        (λ f e. served-by _ _ (answer_is f) (answered_good H.grants (record { books = i.books; handles = refl }) f))

    served-on-good : same_bay (bay_of k.kind) b ≡ true → Served (served_on D c k H m x)
    unfolding taken
    served-on-good bay-same =
        let busy = is_full D x || has_two_jobs H.rings.jobs c in
        by_either Served (look busy k m) _ _
        (λ found e. cond_both found _ _ Served
        (λ yes. spent-good bay-same (or_parts (is_full D x) (has_two_jobs H.rings.jobs c) (look_free busy k m (subst (λ (z : Bool). look busy k m ≡ Ok z) yes e))).1)
        (λ no. idle_good))
        (λ e q. outcome_same (Err e) (λ z r. look_ring busy k m e q z (let y : e ≡ OfDevice z = cc in y)))

  pub served_good : ((k : Connection) → at H.rings.connections c ≡ Some k → same_bay (bay_of k.kind) b ≡ true) → Served (served D c H m x)
  unfolding served
  served_good bay-same = by_some Served (connection_at H.rings c) _ _
      (λ e. outcome_same (Err NotLive) (λ z q. let y : ◌≡◌ {A = ℕ} 0 1 = cc in omega arith))
      (λ k e. served-on-good k e (bay-same k e))
