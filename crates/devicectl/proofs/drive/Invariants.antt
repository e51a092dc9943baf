use Rattle.std.proofs.Common.{◌≤◌}
use Rattle.console.specs.Reading.{lines_ahead}
use Rattle.devicectl.proofs.drive.Given as goal

abbrev pub invariant-loop-line : goal.invariant-loop-line
invariant-loop-line g l = lines_ahead l.script ≤ lines_ahead l.initial.script

abbrev pub decreases-loop-line : goal.decreases-loop-line
decreases-loop-line g l = lines_ahead l.script
