use Rattle.std.proofs.Common.{◌+◌}
use Rattle.rules.specs.Refusal.{if_some}
use Rattle.console.specs.Reading.{lines_ahead}
use Rattle.devicectl.proofs.run_script.Given as goal

-- the lines after the one that makes a device, and nothing at the script's end
abbrev pub decreases-loop-next : goal.decreases-loop-next
decreases-loop-next l = if_some l.next 0 (λ _. 1 + lines_ahead l.script)
