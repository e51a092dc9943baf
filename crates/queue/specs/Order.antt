-- First in, first out, over any run of pushes and pops.
use Rattle.std.specs.Prelude.{◌≡◌, ℕ, cond, List, [], ◌∷◌, ◌++◌, length, ◌==◌}
use Rattle.std.specs.Option.{option_to_list}
use Rattle.queue.specs.Line.{first, rest, with_last}

-- what is done to a line
pub data Action (T : Type 0) : Type 0 where
  push : T → Action T
  pop : Action T

-- a line and what it saw: the items taken in, the items that left, and those held, the oldest first
pub record Seen (T : Type 0) : Type 0 where
  pub came : List T
  pub left : List T
  pub held : List T

-- a push that a full line refuses takes nothing in
abbrev pub seen_after : {T : Type 0} → ℕ → Seen T → Action T → Seen T
seen_after n s (push x) = record { came = cond (length s.held == n) s.came (s.came ++ x ∷ []); left = s.left; held = with_last n s.held x }
seen_after n s pop = record { came = s.came; left = s.left ++ option_to_list (first s.held); held = rest s.held }

-- the actions in turn
abbrev pub seen : {T : Type 0} → ℕ → Seen T → List (Action T) → Seen T
seen n s [] = s
seen n s (a ∷ more) = seen n (seen_after n s a) more

-- from an empty line of n slots on: what left, and then what is held, is what came, in that order
abbrev pub FirstInFirstOut : Type 0 → Type 0
FirstInFirstOut T = (n : ℕ) (steps : List (Action T)) → let s : Seen T = seen n (record { came = []; left = []; held = [] }) steps in s.left ++ s.held ≡ s.came
