-- What a back end answers and leaves.
use Rattle.std.specs.Prelude.{◌≡◌, ℕ, List, ℤ, None, Result}
use Rattle.rules.specs.Refusal.{if_some}
use Rattle.ring.specs.declared.fault.RingFault.{RingFault}
use Rattle.grant.specs.declared.tables.Grants.{Grants}
use Rattle.connection.specs.Tables.{connection_at}
use Rattle.connection.specs.declared.tables.Job.{Job}
use Rattle.backend.specs.Segments.{MappingDone}
use Rattle.backend.specs.Respond.{responded_memory}
use Rattle.backend.specs.declared.tables.Tables.{Tables}
use Rattle.answer.specs.declared.reply.Answer.{Answer}
use Rattle.law.specs.Serve.{Outcome, responded}

-- the answer, the tables, the memory and the device are those of the outcome o
pub record Leaves {X : Type 0} (o : Outcome X) (r : Result Answer RingFault) (H : Tables) (m : List ℕ) (x : X) : Type 0 where
  pub answer : r ≡ o.answer
  pub tables : H ≡ o.host
  pub memory : m ≡ o.memory
  pub device : x ≡ o.device

-- every segment of the job j is mapped, and the tables of grants are G
abbrev pub all_mapped : Job → Grants → MappingDone
all_mapped j G = record { grants = G; job = j; fault = None }

-- a request of the connection c, if that is live, is answered: the memory, and the tables
abbrev pub memory_answered : ℕ → ℕ → ℕ → ℤ → Tables → List ℕ → List ℕ
memory_answered c id operation status H m = if_some (connection_at H.rings c) m (λ k. responded_memory k id operation status m)

abbrev pub tables_answered : ℕ → ℕ → ℕ → ℤ → Tables → List ℕ → Tables
tables_answered c id operation status H m = if_some (connection_at H.rings c) H (λ k. responded c k (responded_memory k id operation status m) H)

pub record Answered (c id operation : ℕ) (status : ℤ) (H : Tables) (m : List ℕ) (H' : Tables) (m' : List ℕ) : Type 0 where
  pub tables : H' ≡ tables_answered c id operation status H m
  pub memory : m' ≡ memory_answered c id operation status H m
