use Rattle.std.proofs.Common.{◌≤◌}
use Rattle.console.proofs.Passing.{Passed}
use Rattle.console.specs.Reading.{lines_ahead, known_bytes}
use Rattle.console.proofs.script.ScriptIterator.next.Given as goal

-- no line is lost, and each is counted; those that were passed ask for nothing
abbrev pub invariant-loop-line : goal.invariant-loop-line
invariant-loop-line g l = (lines_ahead l.self ≤ lines_ahead l.initial.self)
    × Passed g.T.FromLine.reads l.initial.self.came l.self.came (known_bytes g.R.Read.remaining l.initial.self) (known_bytes g.R.Read.remaining l.self)

abbrev pub decreases-loop-line : goal.decreases-loop-line
decreases-loop-line g l = lines_ahead l.self
