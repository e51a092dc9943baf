-- What a line of the script is read as.
use Rattle.std.specs.Prelude.{◌≡◌, ◌==◌, ℕ, List, [], Option, Result, IfOk, MatchOption}
use Rattle.std.specs.Borrow.{Bor}
use Rattle.std.specs.List.{before_first}
use Rattle.script.specs.Lines.{AreWords, Writes}
use Rattle.scanhost.specs.declared.failure.Failure.{Failure}
use Rattle.scanhost.specs.declared.input.Asked.{Asked}

-- the command that its words write, up to a comment, and nothing just where it has none
abbrev pub ReadsLine : List ℕ → Result (Option Asked) Failure → Type 0
ReadsLine line r = IfOk r (λ asked. (ws : List (Bor (List ℕ))) × AreWords (before_first (λ c. c == 35) line) ws × MatchOption asked (ws ≡ []) (λ a. Writes ws a.0))
