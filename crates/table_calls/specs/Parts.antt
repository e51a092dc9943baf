-- What a call on the tables answers and leaves, by what decides it.
use Rattle.std.specs.Prelude.{◌≡◌, ℕ, ◌+◌, ◌*◌, cond, List, length, Ok, Err, Result, ◌==◌}
use Rattle.rules.specs.Refusal.{Rule, refuse_first, and_then, passed, granting, after_ok}
use Rattle.frame.specs.Access.{access_rules}
use Rattle.frame.specs.Memory.{bytes_at}
use Rattle.frame.specs.declared.fault.FrameFault.{FrameFault}
use Rattle.grant.specs.Tables.{maps_frame}
use Rattle.event.specs.Pending.{pick, word, dropped}
use Rattle.answer.specs.declared.fault.HostFault.{HostFault}
use Rattle.answer.specs.declared.fault.HostFault.TheVariants.{OfFrame}
use Rattle.answer.specs.declared.reply.Answer.{Answer}
use Rattle.answer.specs.declared.reply.Answer.TheVariants.{Length}
use Rattle.backend.specs.declared.tables.Tables.{Tables}
use Rattle.law.specs.World.{with_events}
use Rattle.law.specs.Step.{guest_rules, next_port}

-- the host's own rules first, then what a layer below says
abbrev pub heard : {T E : Type 0} → List (Rule HostFault) → (E → HostFault) → Result T E → Result T HostFault
heard rules g verdict = and_then (refuse_first {T = Unit} rules (Ok tt)) (λ _. passed g verdict)

-- the tables and the memory become what the verdict's grant makes of them, or stay
pub record GrantedBy {T E : Type 0} (rules : List (Rule HostFault)) (g : E → HostFault) (verdict : Result T E) (answers : T → Answer) (H : Tables) (m : List ℕ) (tables_by : T → Tables) (memory_by : T → List ℕ)
    (r : Result Answer HostFault) (H' : Tables) (m' : List ℕ) : Type 0 where
  pub answer : r ≡ granting answers (heard rules g verdict)
  pub tables : H' ≡ after_ok (heard rules g verdict) H tables_by
  pub memory : m' ≡ after_ok (heard rules g verdict) m memory_by

-- whether a guest may load so many bytes
abbrev pub load_verdict : Tables → ℕ → ℕ → ℕ → ℕ → Result Unit FrameFault
load_verdict H d f offset n = refuse_first (access_rules H.frames (maps_frame H.grants d f) d f offset n) (Ok tt)

-- a part of a frame was copied into the buffer, or the buffer left as it was
pub record Loaded (H : Tables) (m : List ℕ) (d f offset : ℕ) (buffer : List ℕ) (r : Result Answer HostFault) (buffer' : List ℕ) : Type 0 where
  pub answer : r ≡ granting (λ _. Length (length buffer)) (heard (guest_rules H m d) OfFrame (load_verdict H d f offset (length buffer)))
  pub filled : buffer' ≡ after_ok (heard (guest_rules H m d) OfFrame (load_verdict H d f offset (length buffer))) buffer (λ _. bytes_at (4096 * f + offset) (length buffer) m)

-- a refusal leaves the buffer as it was
abbrev pub Untouched : Result Answer HostFault → List ℕ → List ℕ → Type 0
Untouched (Ok a) before after = Unit {0}
Untouched (Err e) before after = after ≡ before

-- the port that is picked of the domain d's is pending no more
abbrev pub taken_up : ℕ → Tables → Tables
taken_up d H = cond (word H.events d == 0) H (with_events (dropped d (next_port pick (word H.events d)) H.events) H)
