-- serve: a request is taken off its ring, and either handed to the device or answered at once.
use Rattle.std.specs.Prelude.{ℕ, cond, ◌||◌, List, Some, Ok, Err, Result}
use Rattle.rules.specs.Refusal.{if_some, either_of}
use Rattle.device.specs.Meaning.{Rules, is_full, accepting}
use Rattle.ringpage.specs.declared.slot.Request.{Request}
use Rattle.ring.specs.Fault.{status_of}
use Rattle.ring.specs.declared.fault.RingFault.{RingFault}
use Rattle.ring.specs.declared.fault.RingFault.TheVariants.{NotLive, OfDevice}
use Rattle.request.specs.Check.{miss}
use Rattle.request.specs.Checked.{check_verdict}
use Rattle.request.specs.Content.{Asked, id_of, operation_of}
use Rattle.request.specs.declared.fields.Miss.{Miss}
use Rattle.connection.specs.Tables.{connection_at, next_ticket, has_two_jobs, with_job, handles_of}
use Rattle.connection.specs.declared.tables.Connection.{Connection}
use Rattle.backend.specs.Look.{look, next_request, event_asked, consumed, consumed_on}
use Rattle.backend.specs.Segments.{MappingDone, pin_all, released_all, job_for, order_for}
use Rattle.backend.specs.Respond.{responded_memory, responded_rings, responded_events}
use Rattle.backend.specs.declared.tables.Tables.{Tables}
use Rattle.answer.specs.declared.reply.Answer.{Answer}
use Rattle.answer.specs.declared.reply.Answer.TheVariants.{Idle, HandedOver, AnsweredNow}
use Rattle.law.specs.World.{with_grants, with_events, with_rings}

-- what a call that a device has part in answers and leaves
pub record Outcome (X : Type 0) : Type 0 where
  pub answer : Result Answer RingFault
  pub host : Tables
  pub memory : List ℕ
  pub device : X

-- a response on the connection c, which is k
abbrev pub responded : ℕ → Connection → List ℕ → Tables → Tables
responded c k after H = with_rings (responded_rings c k H.rings) (with_events (responded_events c k after H.events) H)

-- what becomes of mapping the segments of the request a of the connection c, which is k
abbrev pub mapping_for : ℕ → Connection → Asked → Tables → MappingDone
mapping_for c k a H = pin_all H.frames k.guest 0 (job_for c k.kind a) H.grants a.spans

-- the tables where the job that was mapped is in hand, under the ticket t
abbrev pub with_handed : ℕ → MappingDone → Tables → Tables
with_handed t p H = with_rings (with_job t (Some p.job) H.rings) (with_grants p.grants H)

module _ {X : Type 0} (D : Rules X) where
  -- the request q of the connection c, which is k, is answered at once
  abbrev pub answered_now : ℕ → Connection → Request → Miss → Tables → List ℕ → X → Outcome X
  answered_now c k q f H m x =
      let after : List ℕ = responded_memory k (id_of q) (operation_of q) (status_of f.fault) m in
      record { answer = Ok (AnsweredNow f); host = responded c k after H; memory = after; device = x }

  -- every segment is mapped: the device takes the order, or they are unmapped again
  abbrev pub handed_over : ℕ → Connection → Request → Asked → MappingDone → Tables → List ℕ → X → Outcome X
  handed_over c k q a p H m x =
      let t : ℕ = next_ticket H.rings.jobs c in
      either_of (accepting D x (order_for t a))
      (λ _. record {
        answer = Ok HandedOver;
        host = with_handed t p H;
        memory = m;
        device = D.with_order x (order_for t a);
      })
      (λ e. answered_now c k q (miss (OfDevice e) 0) (with_grants (released_all (handles_of p.job) p.grants) H) m x)

  -- the segments of a request that passed its checks are mapped, as far as that goes
  abbrev pub segments_mapped : ℕ → Connection → Request → Asked → Tables → List ℕ → X → Outcome X
  segments_mapped c k q a H m x =
      let p : MappingDone = mapping_for c k a H in
      if_some p.fault
      (handed_over c k q a p H m x)
      (λ f. answered_now c k q f (with_grants p.grants H) m x)

  -- the consumed request q of the connection c, which is k, is spent
  abbrev pub spent : ℕ → Connection → Request → Tables → List ℕ → X → Outcome X
  spent c k q H m x =
      either_of (check_verdict D x q)
      (λ a. segments_mapped c k q a H m x)
      (λ f. answered_now c k q f H m x)

  -- the connection c, which is k, is looked at, and its next request spent
  abbrev pub served_on : ℕ → Connection → Tables → List ℕ → X → Outcome X
  served_on c k H m x =
      either_of (look (is_full D x || has_two_jobs H.rings.jobs c) k m)
      (λ there. cond there
      (spent c (consumed k) (next_request k m) (with_rings (consumed_on c k H.rings) H) m x)
      (record { answer = Ok Idle; host = H; memory = event_asked k m; device = x }))
      (λ e. record { answer = Err e; host = H; memory = m; device = x })

  unfoldable pub served : ℕ → Tables → List ℕ → X → Outcome X
  served c H m x =
      if_some (connection_at H.rings c)
      (record { answer = Err NotLive; host = H; memory = m; device = x })
      (λ k. served_on c k H m x)
