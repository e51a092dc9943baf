-- The script, read line by line.
use Rattle.std.specs.Prelude.{◌<◌, Option, Result, IfOk, OnSome}
use Rattle.console.specs.Reading.{lines_ahead}
use Rattle.console.specs.declared.script.Script.{Script}
use Rattle.devicectl.specs.declared.failure.Failure.{Failure}
use Rattle.devicectl.specs.declared.lines.Line.{Line}

-- what comes next was read of the script, so that the lines end
abbrev pub ReadsOn : {A R : Type 0} → Script Line R → Result (Option A) Failure → Script Line R → Type 0
ReadsOn before result after = IfOk result (λ next. OnSome next (lines_ahead after < lines_ahead before))
