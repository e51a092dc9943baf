use Rattle.std.proofs.Common.{Ok, ap, ◌∙◌, rules}
use Rattle.grant.specs.Map.{grant_of}
use Rattle.answer.specs.declared.reply.Answer.TheVariants.{Connected}
use Rattle.law.specs.Connect.{connect_verdict}
use Rattle.table_calls.proofs.Granting.{granted}
use Rattle.table_calls.proofs.connections.connect.Goals as goal

pub returns : goal.returns
returns c =
    let H = c.args.tables.now in
    granted _ _ _ _ _ _ _ _ (grant_of c.in_ok-offer.offer.granted) _ _ _ c.in_ok-domain.ensures.answer
    (c.in_ok-offer.ensures.answer ∙ ap (λ d. connect_verdict H d c.args.kind c.args.reference) c.in_ok-domain.ensures.caller)
    (ap (λ n. Ok (Connected n)) c.in_ok-offer.ensures.number)
    (search rules)
    c.put_fresh_header.ensures.after
