-- Whether a guest may have produced as many requests as its page says.
use Rattle.std.specs.Prelude.{◌≡◌, ℕ, ◌-◌, [], ◌∷◌, Ok, Err, Result, nat_lt}
use Rattle.abi.specs.Index.{distance}
use Rattle.abi.specs.Page.{slots}
use Rattle.abi.specs.declared.page.Kind.{Kind}
use Rattle.abi.specs.declared.page.Kind.TheVariants.{Block}
use Rattle.rules.specs.Refusal.{refuse_first}
use Rattle.ring.specs.declared.fault.RingFault.{RingFault}
use Rattle.ring.specs.declared.fault.RingFault.TheVariants.{BadIndex}

-- how many requests are produced and not yet consumed: no more than the slots that no unanswered request uses
abbrev pub ahead : Kind → ℕ → ℕ → ℕ → Result ℕ RingFault
ahead kind consumed answered produced =
    refuse_first ((nat_lt (slots kind - distance answered consumed) (distance consumed produced), BadIndex) ∷ []) (Ok (distance consumed produced))

-- with private indices 0 and 32 slots req_prod 32 passes, and 33 is refused; from 4,294,967,295 to 2 it is 3 ahead
pub record Worked : Type 0 where
  pub passes : ahead Block 0 0 32 ≡ Ok 32
  pub too_many : ahead Block 0 0 33 ≡ Err BadIndex
  pub wraps : ahead Block 4294967295 4294967295 2 ≡ Ok 3
