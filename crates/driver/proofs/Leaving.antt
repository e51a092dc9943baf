-- What a back end leaves, by the way that it went.
use Rattle.std.proofs.Common.{◌≡◌, ℕ, Bool, true, false, cond, ◌||◌, eqb, List, [], ◌∷◌, is_none, Some, None, Ok, Err, Option, Result, sym, refl, ap, ◌∙◌, subst, ap₂, arith}
use Rattle.std.specs.Option.{ok_or}
use Rattle.rules.specs.Refusal.{refuse_first, and_then, if_some, granting, after_ok, either_of}
use Rattle.device.specs.Meaning.{Rules, is_full, accepting, Accepted}
use Rattle.device.specs.declared.orders.Order.{Order}
use Rattle.device.specs.declared.fault.DeviceFault.{DeviceFault}
use Rattle.ring.specs.Fault.{status_of}
use Rattle.ring.specs.declared.fault.RingFault.{RingFault}
use Rattle.ring.specs.declared.fault.RingFault.TheVariants.{Busy, OfDevice}
use Rattle.ringpage.specs.declared.slot.Request.{Request}
use Rattle.request.specs.Check.{miss}
use Rattle.request.specs.Content.{Asked, id_of, operation_of}
use Rattle.request.specs.declared.fields.Miss.{Miss}
use Rattle.connection.specs.Tables.{connection_at, next_ticket, has_two_jobs, with_job, handles_of}
use Rattle.connection.specs.declared.tables.Connection.{Connection}
use Rattle.backend.specs.Look.{look, next_request, event_asked, consumed, consumed_on}
use Rattle.backend.specs.Respond.{responded_memory}
use Rattle.backend.specs.Segments.{MappingDone, released_all, order_for}
use Rattle.backend.specs.declared.tables.Tables.{Tables}
use Rattle.answer.specs.declared.reply.Answer.{Answer}
use Rattle.answer.specs.declared.reply.Answer.TheVariants.{AnsweredNow, HandedOver, Idle}
use Rattle.law.specs.World.{with_grants, with_rings}
use Rattle.law.specs.Serve.{Outcome, responded, answered_now, handed_over, spent, served_on}
use Rattle.driver.specs.Outcomes.{Leaves, Answered}

-- a refused mapping has its fault
pub fault_some : (o : Option Miss) (f : Miss) → ◌≡◌ {A = Result Unit Miss} (Err f) (if_some o (Ok tt) (λ g. Err g)) → o ≡ Some f
fault_some None f e = cc
fault_some (Some g) f e = cc

-- and where none was refused there is no fault
pub fault_none : (o : Option Miss) → ◌≡◌ {A = Result Unit Miss} (Ok tt) (if_some o (Ok tt) (λ g. Err g)) → o ≡ None
fault_none None e = refl
fault_none (Some g) e = absurd (let z : ◌≡◌ {A = ℕ} 0 1 = cc in omega arith)

-- what was found is there
pub found_there : {A E : Type 0} (o : Option A) (e : E) (a : A) → ok_or o e ≡ Ok a → o ≡ Some a
found_there None e a is = absurd (let z : ◌≡◌ {A = ℕ} 0 1 = cc in omega arith)
found_there (Some b) e a is = cc

-- a ticket that is free is the next one, and its back end is not busy
pub ticket_free : (busy : Bool) (n t : ℕ) → cond busy None (Some n) ≡ Some t → (busy ≡ false) × (t ≡ n)
ticket_free true n t e = absurd (let z : ◌≡◌ {A = ℕ} 0 1 = cc in omega arith)
ticket_free false n t e = (refl, cc)

-- without a ticket it is busy
pub none_free : (busy : Bool) (n : ℕ) → is_none (cond busy None (Some n)) ≡ busy
none_free true n = refl
none_free false n = refl

-- a look that gives a ticket found a request, and one that gives none found none
module _ (o : Option ℕ) where
  abbrev given : Result Bool RingFault → Result (Option ℕ) RingFault
  given v = granting (λ next. cond next o None) v

  pub found_ticket : (v : Result Bool RingFault) (t : ℕ) → Ok (Some t) ≡ given v → (v ≡ Ok true) × (o ≡ Some t)
  found_ticket (Ok true) t e = (refl, cc)
  found_ticket (Ok false) t e = absurd (let z : ◌≡◌ {A = ℕ} 0 1 = cc in omega arith)
  found_ticket (Err f) t e = absurd (let z : ◌≡◌ {A = ℕ} 0 1 = cc in omega arith)

  pub found_fault : (v : Result Bool RingFault) (f : RingFault) → Err f ≡ given v → v ≡ Err f
  found_fault (Ok b) f e = absurd (let z : ◌≡◌ {A = ℕ} 0 1 = cc in omega arith)
  found_fault (Err g) f e = cc

abbrev counted : Bool → Bool → Result Bool RingFault
counted busy none = cond none (Ok false) (refuse_first ((busy, Busy) ∷ []) (Ok true))

none_counted : (o : Option ℕ) (none : Bool) → Ok None ≡ given o (counted (is_none o) none) → counted (is_none o) none ≡ Ok false
none_counted o true e = refl
none_counted None false e = absurd (let z : ◌≡◌ {A = ℕ} 0 1 = cc in omega arith)
none_counted (Some t) false e = absurd (let z : ◌≡◌ {A = ℕ} 0 1 = cc in omega arith)

pub found_none : (o : Option ℕ) (ahead : Result ℕ RingFault)
    → Ok None ≡ given o (and_then ahead (λ n. counted (is_none o) (eqb n 0))) → and_then ahead (λ n. counted (is_none o) (eqb n 0)) ≡ Ok false
found_none o (Ok n) e = none_counted o (eqb n 0) e
found_none o (Err f) e = absurd (let z : ◌≡◌ {A = ℕ} 0 1 = cc in omega arith)

module _ {X : Type 0} where
  pub leaves_by : (o o' : Outcome X) (r : Result Answer RingFault) (H : Tables) (m : List ℕ) (x : X) → o ≡ o' → Leaves o' r H m x → Leaves o r H m x
  leaves_by o o' r H m x e l = subst (λ (p : Outcome X). Leaves p r H m x) (sym e) l

  -- an answer on a live connection
  pub answered-leaves : (D : Rules X) (c : ℕ) (k : Connection) (q : Request) (f : Miss) (id operation : ℕ) (H : Tables) (m : List ℕ) (x : X) (a : Answer) (H' : Tables) (m' : List ℕ)
      → connection_at H.rings c ≡ Some k → id ≡ id_of q → operation ≡ operation_of q
      → a ≡ AnsweredNow f → Answered c id operation (status_of f.fault) H m H' m'
      → Leaves (answered_now D c k q f H m x) (Ok a) H' m' x
  answered-leaves D c k q f id operation H m x a H' m' live same_id same_operation answer after =
      let s = status_of f.fault in
      let bytes : responded_memory k id operation s m ≡ responded_memory k (id_of q) (operation_of q) s m
      = ap₂ (λ i o. responded_memory k i o s m) same_id same_operation in
      record {
        answer = ap Ok answer;
        tables = after.tables ∙ ap (λ (o : Option Connection). if_some o H (λ n. responded c n (responded_memory n id operation s m) H)) live ∙ ap (λ n. responded c k n H) bytes;
        memory = after.memory ∙ ap (λ (o : Option Connection). if_some o m (λ n. responded_memory n id operation s m)) live ∙ bytes;
        device = refl;
      }

  -- the device took the order of a request whose segments are mapped, or refused it
  module _ (D : Rules X) (c : ℕ) (k : Connection) (q : Request) (a : Asked) (p : MappingDone) (H : Tables) (m : List ℕ) (x : X) where
    abbrev order : Order
    order = order_for (next_ticket H.rings.jobs c) a

    abbrev by_answer : Result Unit DeviceFault → Outcome X
    by_answer v =
        either_of v
        (λ _. record { answer = Ok HandedOver; host = with_rings (with_job (next_ticket H.rings.jobs c) (Some p.job) H.rings) (with_grants p.grants H); memory = m; device = D.with_order x order })
        (λ e. answered_now D c k q (miss (OfDevice e) 0) (with_grants (released_all (handles_of p.job) p.grants) H) m x)

    pub order-taken : (o : Order) (r : Result Unit DeviceFault) (H' : Tables) (x' : X) → o ≡ order
        → Accepted D x o r x' → r ≡ Ok tt → H' ≡ with_rings (with_job (next_ticket H.rings.jobs c) (Some p.job) H.rings) (with_grants p.grants H)
        → Leaves (handed_over D c k q a p H m x) (Ok HandedOver) H' m x'
    order-taken o r H' x' same accepted taken tables =
        let by : accepting D x o ≡ Ok tt = sym accepted.answer ∙ taken in
        leaves_by _ _ _ _ _ _ (ap by_answer (ap (accepting D x) (sym same) ∙ by))
        (record {
          answer = refl;
          tables = tables;
          memory = refl;
          device = accepted.after ∙ ap (λ v. after_ok v x (λ _. D.with_order x o)) by ∙ ap (D.with_order x) same;
        })

    pub order-refused : (o : Order) (r : Result Unit DeviceFault) (e : DeviceFault) (s : Result Answer RingFault) (H' : Tables) (m' : List ℕ) (x' : X) → o ≡ order
        → Accepted D x o r x' → r ≡ Err e
        → Leaves (answered_now D c k q (miss (OfDevice e) 0) (with_grants (released_all (handles_of p.job) p.grants) H) m x) s H' m' x
        → Leaves (handed_over D c k q a p H m x) s H' m' x'
    order-refused o r e s H' m' x' same accepted refused left =
        let by : accepting D x o ≡ Err e = sym accepted.answer ∙ refused in
        leaves_by _ _ _ _ _ _ (ap by_answer (ap (accepting D x) (sym same) ∙ by))
        (record {
          answer = left.answer;
          tables = left.tables;
          memory = left.memory;
          device = accepted.after ∙ ap (λ v. after_ok v x (λ _. D.with_order x o)) by;
        })

  -- a live connection, by what is seen of it
  pub looked_at : (D : Rules X) (c : ℕ) (k : Connection) (H : Tables) (m : List ℕ) (x : X) (r : Result Bool RingFault)
      → look (is_full D x || has_two_jobs H.rings.jobs c) k m ≡ r
      → served_on D c k H m x ≡ either_of r
      (λ there. cond there
      (spent D c (consumed k) (next_request k m) (with_rings (consumed_on c k H.rings) H) m x)
      (record { answer = Ok Idle; host = H; memory = event_asked k m; device = x }))
      (λ e. record { answer = Err e; host = H; memory = m; device = x })
  looked_at D c k H m x r is =
      ap (λ (v : Result Bool RingFault). either_of v
      (λ there. cond there
      (spent D c (consumed k) (next_request k m) (with_rings (consumed_on c k H.rings) H) m x)
      (record { answer = Ok Idle; host = H; memory = event_asked k m; device = x }))
      (λ e. record { answer = Err e; host = H; memory = m; device = x })) is
