use Rattle.std.proofs.Common.{◌∙◌}
use Rattle.script.proofs.Runs.{collected}
use Rattle.script.proofs.lines.words.Goals as goal

pub returns : goal.returns
returns c =
    let ran = c.in_ok-collect.ensures.ran in
    collected _ _ _ ran.0 ran.1 tt ran.2.0 (c.split_whitespace-words.ensures.rest ∙ c.without_comment.ensures)
