-- complete: the bytes of the first ready job are moved, and its request is answered.
use Rattle.std.specs.Prelude.{ℕ, List, ℤ, None, Ok, Err}
use Rattle.rules.specs.Refusal.{if_some, either_of}
use Rattle.device.specs.Meaning.{Rules, ready_ticket, finishing}
use Rattle.device.specs.declared.fault.DeviceFault.{DeviceFault}
use Rattle.ring.specs.declared.fault.RingFault.TheVariants.{NoJob, OfDevice}
use Rattle.connection.specs.Tables.{connection_at, job_at, in_bay, with_job, handles_of, parts_of}
use Rattle.connection.specs.declared.kinds.Bay.{Bay}
use Rattle.connection.specs.declared.tables.Job.{Job}
use Rattle.backend.specs.Segments.{released_all}
use Rattle.backend.specs.Respond.{responded_memory}
use Rattle.backend.specs.Move.{moving, moved_memory, moved_device}
use Rattle.backend.specs.declared.tables.Tables.{Tables}
use Rattle.answer.specs.declared.reply.Answer.TheVariants.{Idle, Completed}
use Rattle.law.specs.World.{with_grants, with_rings}
use Rattle.law.specs.Serve.{Outcome, responded}

-- the job j under the ticket t is a job no more, and its segments are unmapped
abbrev pub closed : ℕ → Job → Tables → Tables
closed t j H = with_rings (with_job t None H.rings) (with_grants (released_all (handles_of j) H.grants) H)

module _ {X : Type 0} (D : Rules X) where
  -- a fault of the device is passed up, and what was moved before it stays so
  abbrev pub broken_off : DeviceFault → Tables → List ℕ → X → Outcome X
  broken_off e H m x = record { answer = Err (OfDevice e); host = H; memory = m; device = x }

  -- the request of the job is answered with the status; a job's connection is live in every run
  abbrev pub finished : ℕ → Job → ℤ → Tables → List ℕ → X → Outcome X
  finished t j status H m x =
      if_some (connection_at H.rings j.connection)
      (record { answer = Ok Completed; host = closed t j H; memory = m; device = x })
      (λ k.
      let after : List ℕ = responded_memory k j.id j.operation status m in
      record { answer = Ok Completed; host = responded j.connection k after (closed t j H); memory = after; device = x })

  abbrev pub completed_job : ℕ → Job → Tables → List ℕ → X → Outcome X
  completed_job t j H m x =
      let m' : List ℕ = moved_memory D j.direction t (parts_of j) m x in
      let x' : X = moved_device D j.direction t (parts_of j) m x in
      either_of (moving D j.direction t (parts_of j) m x)
      (λ _. either_of (finishing D x' t)
      (λ o. finished t j (D.status x' o) H m' (D.without x' o))
      (λ e. broken_off e H m' x'))
      (λ e. broken_off e H m' x')

  unfoldable pub completed : Bay → Tables → List ℕ → X → Outcome X
  completed b H m x =
      if_some (ready_ticket D x)
      (record { answer = Ok Idle; host = H; memory = m; device = x })
      (λ t. if_some (in_bay b (job_at H.rings t))
      (record { answer = Err NoJob; host = H; memory = m; device = x })
      (λ j. completed_job t j H m x))
