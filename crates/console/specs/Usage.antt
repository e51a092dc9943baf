-- What the first two arguments of a program ask for.
use Rattle.std.specs.Prelude.{◌≡◌, ◌≢◌, ◌⊎◌, ℕ, List, codes, Bool, true, false, Option, None, IsSomeAnd, Result, Ok, Err}
use Rattle.std.specs.Borrow.{Bor}
use Rattle.console.specs.declared.arguments.Arguments.{Arguments}

-- the usage just where the first is --help and there is no second, and a run just where there is none
abbrev pub UsageWanted : Option (Bor (List ℕ)) → Option (Bor (List ℕ)) → Result Bool Arguments → Type 0
UsageWanted first second (Ok true) = IsSomeAnd first (λ word. word.now ≡ codes "--help") × (second ≡ None)
UsageWanted first second (Ok false) = first ≡ None
UsageWanted first second (Err e) = IsSomeAnd first (λ word. (word.now ≢ codes "--help") ⊎ (second ≢ None))
