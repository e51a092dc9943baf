use Rattle.std.proofs.Common.{◌≡◌, eqb, sym, ◌∙◌, ap, rules, tests}
use Rattle.std.specs.List.{position, remove}
use Rattle.std.proofs.lemmas.Iterator.{YieldsList-from_slice}
use Rattle.std.proofs.lemmas.Iterator.Search.{position_from_yields_List}
use Rattle.rules.specs.Refusal.{if_some}
use Rattle.wire.specs.Hand.{orders_of}
use Rattle.wire.proofs.InHand.{others-position}
use Rattle.wire.proofs.hand.Hand.remove.Goals as goal

pub returns-in-Some : goal.returns-in-Some
returns-in-Some c =
    let os = orders_of c.args.self.now in
    let first : c.position-first.result ≡ position (λ o. eqb o.ticket c.args.ticket) os = position_from_yields_List _ _ _ c.position-first.result c.position-first.ensures.ran (YieldsList-from_slice os (cc)) (λ x b q k. search (rules, tests)) in
    c.remove.ensures.items ∙ ap (λ r. if_some r os (remove os)) (sym c.in-Some.is ∙ first) ∙ others-position c.args.ticket os

pub returns-in_default : goal.returns-in_default
returns-in_default c =
    let os = orders_of c.args.self.now in
    let first : c.position-first.result ≡ position (λ o. eqb o.ticket c.args.ticket) os = position_from_yields_List _ _ _ c.position-first.result c.position-first.ensures.ran (YieldsList-from_slice os (cc)) (λ x b q k. search (rules, tests)) in
    ap (λ r. if_some r os (remove os)) (sym c.in_default.is ∙ first) ∙ others-position c.args.ticket os
