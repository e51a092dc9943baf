use Rattle.std.proofs.Common.{ap, ◌∙◌, refl, rules}
use Rattle.grant.specs.Map.{grant_of, map_verdict}
use Rattle.table_calls.proofs.Granting.{granted}
use Rattle.table_calls.proofs.grants.map.Goals as goal

pub returns : goal.returns
returns c =
    let H = c.args.tables.now in
    granted _ _ _ _ _ _ _ _ (grant_of c.in_ok-granted.granted) _ _ _ c.in_ok-domain.ensures.answer
    (c.in_ok-granted.ensures ∙ ap (λ d. map_verdict H.frames H.grants d c.args.owner c.args.reference c.args.mode) c.in_ok-domain.ensures.caller)
    refl
    (search rules)
    refl
