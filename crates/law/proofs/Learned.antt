-- What a call answers depends only on the frames that it reads.
use Rattle.std.proofs.Common.{◌≡◌, ℕ, suc, ◌+◌, ◌-◌, ◌*◌, ◌<◌, ◌≤◌, Bool, true, false, cond, ◌||◌, eqb, List, [], ◌∷◌, length, get_or, take, drop, replicate, ℤ, Some, None, Ok, Err, Option, Result, sym, refl, ap, ◌∙◌, subst, arith}
use Rattle.std.proofs.lemmas.List.{drop-drop, drop-take, take-take}
use Rattle.abi.specs.Page.{slot_start, slot_size}
use Rattle.abi.specs.declared.page.Kind.{Kind}
use Rattle.layout.specs.Layout.{number}
use Rattle.layout.proofs.Codec.{number_cut}
use Rattle.rules.specs.Refusal.{after_ok, and_then, either_of, if_some, refuse_first}
use Rattle.frame.specs.Memory.{bytes_at, frame_bytes, part_verdict}
use Rattle.frame.proofs.Placing.{part_granted}
use Rattle.device.specs.Meaning.{Rules, is_full, accepting, finishing, ready_ticket}
use Rattle.device.specs.Transfer.{bytes_in, end_of, handing, filling_parts, draining_parts, drained_parts}
use Rattle.device.specs.declared.orders.Direction.{Direction}
use Rattle.device.specs.declared.orders.Direction.TheVariants.{Inward, Outward}
use Rattle.device.specs.declared.orders.Order.{Order}
use Rattle.device.specs.declared.fault.DeviceFault.{DeviceFault}
use Rattle.device.specs.declared.transfer.Part.{Part}
use Rattle.ringpage.specs.Slot.{request_at}
use Rattle.ringpage.specs.declared.slot.Request.{Request}
use Rattle.ring.specs.Page.{offset_of}
use Rattle.ring.specs.Total.{word_or_zero, request_or_zeros}
use Rattle.ring.specs.Producer.{ahead}
use Rattle.ring.specs.declared.page.Word.{Word}
use Rattle.ring.specs.declared.page.Word.TheVariants.{ReqProd, ReqEvent, RspProd, RspEvent}
use Rattle.ring.specs.declared.fault.RingFault.{RingFault}
use Rattle.ring.specs.declared.fault.RingFault.TheVariants.{Busy, NoJob, NotLive, OfDevice}
use Rattle.request.specs.Check.{miss}
use Rattle.request.specs.Checked.{check_verdict}
use Rattle.request.specs.Content.{Asked}
use Rattle.connection.specs.Tables.{connection_at, job_at, in_bay, parts_of, has_two_jobs, next_ticket, handles_of}
use Rattle.connection.specs.declared.kinds.Bay.{Bay}
use Rattle.connection.specs.declared.tables.Connection.{Connection}
use Rattle.connection.specs.declared.tables.Job.{Job}
use Rattle.backend.specs.Look.{look, next_request, event_asked, consumed, consumed_on}
use Rattle.backend.specs.Move.{moving, moved_memory, moved_device}
use Rattle.backend.specs.Respond.{responded_memory}
use Rattle.backend.specs.Segments.{MappingDone, released_all, order_for}
use Rattle.backend.specs.declared.tables.Tables.{Tables}
use Rattle.answer.specs.declared.reply.Answer.TheVariants.{Idle, HandedOver, Completed}
use Rattle.law.specs.World.{with_grants, with_rings}
use Rattle.law.specs.Serve.{Outcome, responded, mapping_for, with_handed, answered_now, handed_over, segments_mapped, spent, served_on, served}
use Rattle.law.specs.Complete.{closed, broken_off, finished, completed_job, completed}
use Rattle.law.proofs.Inv.{PartIn, no_part}
use Rattle.law.proofs.Tickets.{in_bay_is}

-- bytes of a frame, out of the frame's bytes
in_frame : (m : List ℕ) (f offset n : ℕ) → offset + n ≤ 4096 → drop offset (take (offset + n) (frame_bytes f m)) ≡ bytes_at (4096 * f + offset) n m
in_frame m f offset n inside =
    ap (drop offset) (take-take (offset + n) 4096 (drop (4096 * f) m) inside)
    ∙ drop-take offset n (drop (4096 * f) m)
    ∙ ap (take n) (drop-drop offset (4096 * f) m)

-- a part of an equal frame is equal
pub bytes_from-frame : (m m' : List ℕ) (f offset n : ℕ) → offset + n ≤ 4096 → frame_bytes f m' ≡ frame_bytes f m → bytes_at (4096 * f + offset) n m' ≡ bytes_at (4096 * f + offset) n m
bytes_from-frame m m' f offset n inside same =
    sym (in_frame m' f offset n inside) ∙ ap (λ (bs : List ℕ). drop offset (take (offset + n) bs)) same ∙ in_frame m f offset n inside

-- equal verdicts, and equal values where they grant
after_same : {X T E : Type 0} (r' r : Result T E) (old : X) (new' new : T → X) → r' ≡ r → ((t : T) → r ≡ Ok t → new' t ≡ new t) → after_ok r' old new' ≡ after_ok r old new
after_same r' (Ok t) old new' new e h = ap (λ r. after_ok r old new') e ∙ h t refl
after_same r' (Err f) old new' new e h = ap (λ r. after_ok r old new') e

-- the word of a header ends within the page
word_inside : (w : Word) → offset_of w + 4 ≤ 4096
word_inside ReqProd = omega arith
word_inside ReqEvent = omega arith
word_inside RspProd = omega arith
word_inside RspEvent = omega arith

-- an equal page has equal words
pub word_from_frame : (m m' : List ℕ) (page : ℕ) (w : Word) → length m' ≡ length m → frame_bytes page m' ≡ frame_bytes page m → word_or_zero m' page w ≡ word_or_zero m page w
word_from_frame m m' page w size same =
    let cut : (l : List ℕ) → number 4 (offset_of w) (frame_bytes page l) ≡ number 4 (4096 * page + offset_of w) l = λ l. number_cut 4 (offset_of w) (4096 * page) 4096 l (word_inside w) in
    after_same (part_verdict (length m') page (offset_of w) 4) (part_verdict (length m) page (offset_of w) 4) 0
    (λ _. number 4 (4096 * page + offset_of w) m') (λ _. number 4 (4096 * page + offset_of w) m)
    (ap (λ n. part_verdict n page (offset_of w) 4) size)
    (λ t _. sym (cut m') ∙ ap (number 4 (offset_of w)) same ∙ cut m)

-- and equal requests
pub request_from_frame : (m m' : List ℕ) (page : ℕ) (kind : Kind) (i : ℕ) → length m' ≡ length m → frame_bytes page m' ≡ frame_bytes page m → request_or_zeros m' page kind i ≡ request_or_zeros m page kind i
request_from_frame m m' page kind i size same =
    ap (request_at kind 0)
    (after_same (part_verdict (length m') page (slot_start kind i) (slot_size kind)) (part_verdict (length m) page (slot_start kind i) (slot_size kind)) (replicate (slot_size kind) 0)
    (λ _. bytes_at (4096 * page + slot_start kind i) (slot_size kind) m') (λ _. bytes_at (4096 * page + slot_start kind i) (slot_size kind) m)
    (ap (λ n. part_verdict n page (slot_start kind i) (slot_size kind)) size)
    (λ t granted. bytes_from-frame m m' page (slot_start kind i) (slot_size kind) (part_granted (length m) page (slot_start kind i) (slot_size kind) granted).1 same))

-- so a look at it finds the same
pub look_from_frame : (busy : Bool) (k : Connection) (m m' : List ℕ) → length m' ≡ length m → frame_bytes k.page m' ≡ frame_bytes k.page m → look busy k m' ≡ look busy k m
look_from_frame busy k m m' size same =
    ap (λ (w : ℕ). and_then (ahead k.kind k.req_cons k.rsp_prod w) (λ n. cond (eqb n 0) (Ok false) (refuse_first ((busy, Busy) ∷ []) (Ok true))))
    (word_from_frame m m' k.page ReqProd size same)

-- the bytes of a part that lies in an equal frame
part_from_frame : (p : Part) (f : ℕ) (m m' : List ℕ) → PartIn p f → frame_bytes f m' ≡ frame_bytes f m → bytes_in p m' ≡ bytes_in p m
part_from_frame p f m m' lies same =
    let offset : ℕ = lies.offset in
    let start : 4096 * f + offset ≡ p.start = sym lies.start in
    let size : p.length ≡ end_of p - p.start = omega arith in
    subst (λ (k : ℕ). take k (drop p.start m') ≡ take k (drop p.start m)) size
    (subst (λ (a : ℕ). take p.length (drop a m') ≡ take p.length (drop a m)) start
    (bytes_from-frame m m' f offset p.length lies.inside same))

-- equal verdicts, and equal answers that follow
and_then_same : {T U E : Type 0} (r' r : Result T E) (next' next : T → Result U E) → r' ≡ r → ((t : T) → next' t ≡ next t) → and_then r' next' ≡ and_then r next
and_then_same r' (Ok t) next' next e h = ap (λ r. and_then r next') e ∙ h t
and_then_same r' (Err f) next' next e h = ap (λ r. and_then r next') e

-- drains read only the frames in which the parts lie
pub drained_from_frames : {X : Type 0} (D : Rules X) (t at : ℕ) (ps : List Part) (x : X) (m m' : List ℕ) → length m' ≡ length m
    → ((i : ℕ) → i < length ps → (f : ℕ) × (PartIn (get_or ps i no_part) f × (frame_bytes f m' ≡ frame_bytes f m)))
    → (draining_parts D x t at ps m' ≡ draining_parts D x t at ps m) × (drained_parts D x t at ps m' ≡ drained_parts D x t at ps m)
drained_from_frames D t at [] x m m' size lies = (refl, refl)
drained_from_frames {X} D t at (p ∷ ps) x m m' size lies =
    let here = lies 0 (omega arith) in
    let bytes : bytes_in p m' ≡ bytes_in p m = part_from_frame p here.0 m m' here.1.0 here.1.1 in
    let handed : handing D x t Outward at p (length m') ≡ handing D x t Outward at p (length m) = ap (λ n. handing D x t Outward at p n) size in
    let next : Order → List ℕ → X = λ o bs. D.with_bytes x o at bs in
    let rest = λ (o : Order). drained_from_frames D t (at + p.length) ps (next o (bytes_in p m)) m m' size (λ i below. lies (suc i) (omega arith)) in (
      and_then_same (handing D x t Outward at p (length m')) (handing D x t Outward at p (length m))
          (λ o. draining_parts D (next o (bytes_in p m')) t (at + p.length) ps m') (λ o. draining_parts D (next o (bytes_in p m)) t (at + p.length) ps m) handed
          (λ o. ap (λ bs. draining_parts D (next o bs) t (at + p.length) ps m') bytes ∙ (rest o).0),
      after_same (handing D x t Outward at p (length m')) (handing D x t Outward at p (length m)) x
          (λ o. drained_parts D (next o (bytes_in p m')) t (at + p.length) ps m') (λ o. drained_parts D (next o (bytes_in p m)) t (at + p.length) ps m) handed
          (λ o _. ap (λ bs. drained_parts D (next o bs) t (at + p.length) ps m') bytes ∙ (rest o).1),
    )

-- two outcomes of which the answer and the device are the same
abbrev Alike : {X : Type 0} → Outcome X → Outcome X → Type 0
Alike o' o = (o'.answer ≡ o.answer) × (o'.device ≡ o.device)

-- what is alike on both ways is so by either verdict
either_alike : {T E X : Type 0} (r : Result T E) (f' f : T → Outcome X) (g' g : E → Outcome X) → ((t : T) → Alike (f' t) (f t)) → ((e : E) → Alike (g' e) (g e)) → Alike (either_of r f' g') (either_of r f g)
either_alike (Ok t) f' f g' g ok err = ok t
either_alike (Err e) f' f g' g ok err = err e

-- with something there or not
some_alike : {T X : Type 0} (o : Option T) (y' y : Outcome X) (f' f : T → Outcome X) → Alike y' y → ((t : T) → o ≡ Some t → Alike (f' t) (f t)) → Alike (if_some o y' f') (if_some o y f)
some_alike None y' y f' f none some = none
some_alike (Some t) y' y f' f none some = some t refl

-- and by either test
cond_alike : {X : Type 0} (b : Bool) (y' y z' z : Outcome X) → Alike y' y → Alike z' z → Alike (cond b y' z') (cond b y z)
cond_alike true y' y z' z first second = first
cond_alike false y' y z' z first second = second

module _ {X : Type 0} (D : Rules X) (m m' : List ℕ) where
  -- segments that are mapped are handed over alike, whatever the memory
  handed-alike : (c : ℕ) (k : Connection) (q : Request) (a : Asked) (p : MappingDone) (H : Tables) (x : X) → Alike (handed_over D c k q a p H m' x) (handed_over D c k q a p H m x)
  handed-alike c k q a p H x =
      let t : ℕ = next_ticket H.rings.jobs c in
      let done : List ℕ → Outcome X = λ l. record { answer = Ok HandedOver; host = with_handed t p H; memory = l; device = D.with_order x (order_for t a) } in
      let undone : DeviceFault → List ℕ → Outcome X = λ e l. answered_now D c k q (miss (OfDevice e) 0) (with_grants (released_all (handles_of p.job) p.grants) H) l x in
      either_alike (accepting D x (order_for t a)) (λ _. done m') (λ _. done m) (λ e. undone e m') (λ e. undone e m) (λ _. (refl, refl)) (λ e. (refl, refl))

  -- a request that is spent: its answer does not depend on the memory
  spent-alike : (c : ℕ) (k : Connection) (q : Request) (H : Tables) (x : X) → Alike (spent D c k q H m' x) (spent D c k q H m x)
  spent-alike c k q H x =
      either_alike (check_verdict D x q)
      (λ a. segments_mapped D c k q a H m' x) (λ a. segments_mapped D c k q a H m x)
      (λ f. answered_now D c k q f H m' x) (λ f. answered_now D c k q f H m x)
      (λ a.
      let p : MappingDone = mapping_for c k a H in
      some_alike p.fault (handed_over D c k q a p H m' x) (handed_over D c k q a p H m x)
      (λ f. answered_now D c k q f (with_grants p.grants H) m' x) (λ f. answered_now D c k q f (with_grants p.grants H) m x)
      (handed-alike c k q a p H x)
      (λ f _. (refl, refl)))
      (λ f. (refl, refl))

  -- serve, of a connection whose page is equal
  served-on-alike : (c : ℕ) (k : Connection) (H : Tables) (x : X) → length m' ≡ length m → frame_bytes k.page m' ≡ frame_bytes k.page m → Alike (served_on D c k H m' x) (served_on D c k H m x)
  served-on-alike c k H x size same =
      let busy : Bool = is_full D x || has_two_jobs H.rings.jobs c in
      let H' : Tables = with_rings (consumed_on c k H.rings) H in
      let idle : List ℕ → Outcome X = λ l. record { answer = Ok Idle; host = H; memory = event_asked k l; device = x } in
      let refused : RingFault → List ℕ → Outcome X = λ e l. record { answer = Err e; host = H; memory = l; device = x } in
      let on : Result Bool RingFault → Request → Outcome X = λ r q. either_of r (λ there. cond there (spent D c (consumed k) q H' m' x) (idle m')) (λ e. refused e m') in
      let q : Request = next_request k m in
      let found : served_on D c k H m' x ≡ on (look busy k m) q =
      ap (λ r. on r (next_request k m')) (look_from_frame busy k m m' size same) ∙ ap (on (look busy k m)) (request_from_frame m m' k.page k.kind k.req_cons size same) in
      subst (λ (o : Outcome X). Alike o (served_on D c k H m x)) (sym found)
      (either_alike (look busy k m)
      (λ there. cond there (spent D c (consumed k) q H' m' x) (idle m')) (λ there. cond there (spent D c (consumed k) q H' m x) (idle m))
      (λ e. refused e m') (λ e. refused e m)
      (λ there. cond_alike there (spent D c (consumed k) q H' m' x) (spent D c (consumed k) q H' m x) (idle m') (idle m) (spent-alike c (consumed k) q H' x) (refl, refl))
      (λ e. (refl, refl)))

-- serve learns nothing but what the ring page holds
pub served_learns : {X : Type 0} (D : Rules X) (c : ℕ) (H : Tables) (m m' : List ℕ) (x : X) → length m' ≡ length m
    → ((k : Connection) → connection_at H.rings c ≡ Some k → frame_bytes k.page m' ≡ frame_bytes k.page m)
    → ((served D c H m' x).answer ≡ (served D c H m x).answer) × ((served D c H m' x).device ≡ (served D c H m x).device)
unfolding served
served_learns {X} D c H m m' x size same =
    let none : List ℕ → Outcome X = λ l. record { answer = Err NotLive; host = H; memory = l; device = x } in
    some_alike (connection_at H.rings c) (none m') (none m) (λ k. served_on D c k H m' x) (λ k. served_on D c k H m x) (refl, refl)
    (λ k live. served-on-alike D m m' c k H x size (same k live))

-- what follows when the bytes of a job were moved, with the memory l and the device y
module _ {X : Type 0} (D : Rules X) (t : ℕ) (j : Job) (H : Tables) where
  abbrev ended : Result Unit DeviceFault → X → List ℕ → Outcome X
  ended r y l =
      either_of r
      (λ _. either_of (finishing D y t) (λ o. finished D t j (D.status y o) H l (D.without y o)) (λ e. broken_off D e H l y))
      (λ e. broken_off D e H l y)

  -- the answer to the request does not depend on the memory
  finished-alike : (status : ℤ) (l' l : List ℕ) (y : X) → Alike (finished D t j status H l' y) (finished D t j status H l y)
  finished-alike status l' l y =
      let gone : List ℕ → Outcome X = λ n. record { answer = Ok Completed; host = closed t j H; memory = n; device = y } in
      let after : Connection → List ℕ → List ℕ = λ k n. responded_memory k j.id j.operation status n in
      let answered : Connection → List ℕ → Outcome X = λ k n. record { answer = Ok Completed; host = responded j.connection k (after k n) (closed t j H); memory = after k n; device = y } in
      some_alike (connection_at H.rings j.connection) (gone l') (gone l) (λ k. answered k l') (λ k. answered k l) (refl, refl) (λ k _. (refl, refl))

  -- nor does the end of the job
  ended-alike : (r : Result Unit DeviceFault) (y : X) (l' l : List ℕ) → Alike (ended r y l') (ended r y l)
  ended-alike r y l' l =
      let done : List ℕ → Order → Outcome X = λ n o. finished D t j (D.status y o) H n (D.without y o) in
      let off : List ℕ → DeviceFault → Outcome X = λ n e. broken_off D e H n y in
      either_alike r (λ _. either_of (finishing D y t) (done l') (off l')) (λ _. either_of (finishing D y t) (done l) (off l)) (off l') (off l)
      (λ _. either_alike (finishing D y t) (done l') (done l) (off l') (off l) (λ o. finished-alike (D.status y o) l' l (D.without y o)) (λ e. (refl, refl)))
      (λ e. (refl, refl))

  -- with equal answers and devices of the move
  ended_same : (r' r : Result Unit DeviceFault) (y' y : X) (l' l : List ℕ) → r' ≡ r → y' ≡ y → Alike (ended r' y' l') (ended r y l)
  ended_same r' r y' y l' l er ey =
      let same : ended r' y' l' ≡ ended r y l' = ap (λ s. ended s y' l') er ∙ ap (λ z. ended r z l') ey in
      subst (λ (o : Outcome X). Alike o (ended r y l)) (sym same) (ended-alike r y l' l)

-- the bytes of a job: inward nothing is read, outward the parts
moved_same : {X : Type 0} (D : Rules X) (way : Direction) (t : ℕ) (ps : List Part) (x : X) (m m' : List ℕ) → length m' ≡ length m
    → ((i : ℕ) → i < length ps → (f : ℕ) × (PartIn (get_or ps i no_part) f × (frame_bytes f m' ≡ frame_bytes f m)))
    → (moving D way t ps m' x ≡ moving D way t ps m x) × (moved_device D way t ps m' x ≡ moved_device D way t ps m x)
moved_same D Inward t ps x m m' size lies = (ap (λ n. filling_parts D x t 0 ps n) size, refl)
moved_same D Outward t ps x m m' size lies = drained_from_frames D t 0 ps x m m' size lies

-- complete learns nothing but what the job's parts hold
pub completed_learns : {X : Type 0} (D : Rules X) (b : Bay) (H : Tables) (m m' : List ℕ) (x : X) → length m' ≡ length m
    → ((t : ℕ) (j : Job) → job_at H.rings t ≡ Some j → (i : ℕ) → i < length (parts_of j) → (f : ℕ) × (PartIn (get_or (parts_of j) i no_part) f × (frame_bytes f m' ≡ frame_bytes f m)))
    → ((completed D b H m' x).answer ≡ (completed D b H m x).answer) × ((completed D b H m' x).device ≡ (completed D b H m x).device)
unfolding completed
completed_learns {X} D b H m m' x size lies =
    let idle : List ℕ → Outcome X = λ l. record { answer = Ok Idle; host = H; memory = l; device = x } in
    let none : List ℕ → Outcome X = λ l. record { answer = Err NoJob; host = H; memory = l; device = x } in
    some_alike (ready_ticket D x) (idle m') (idle m)
    (λ t. if_some (in_bay b (job_at H.rings t)) (none m') (λ j. completed_job D t j H m' x)) (λ t. if_some (in_bay b (job_at H.rings t)) (none m) (λ j. completed_job D t j H m x)) (refl, refl)
    (λ t _. some_alike (in_bay b (job_at H.rings t)) (none m') (none m) (λ j. completed_job D t j H m' x) (λ j. completed_job D t j H m x) (refl, refl)
    (λ j there.
    let same = moved_same D j.direction t (parts_of j) x m m' size (lies t j (in_bay_is b (job_at H.rings t) j there).0) in
    ended_same D t j H (moving D j.direction t (parts_of j) m' x) (moving D j.direction t (parts_of j) m x) (moved_device D j.direction t (parts_of j) m' x) (moved_device D j.direction t (parts_of j) m x)
    (moved_memory D j.direction t (parts_of j) m' x) (moved_memory D j.direction t (parts_of j) m x) same.0 same.1))
