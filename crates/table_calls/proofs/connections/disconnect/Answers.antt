use Rattle.std.proofs.Common.{refl, rules}
use Rattle.table_calls.proofs.Granting.{granted}
use Rattle.table_calls.proofs.connections.disconnect.Goals as goal

pub returns : goal.returns
returns c =
    granted _ _ _ _ _ _ _ _ c.in_ok-live.connection _ _ _ c.in_ok-fitting.ensures.answer c.in_ok-live.ensures.answer refl
    (search rules)
    refl
