use Rattle.console.specs.Reading.{lines_ahead}
use Rattle.scanhost.proofs.running.drive.Given as goal

-- the lines that may still come
abbrev pub decreases-loop-asked : goal.decreases-loop-asked
decreases-loop-asked l = lines_ahead l.script
