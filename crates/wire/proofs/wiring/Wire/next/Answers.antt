use Rattle.std.proofs.Common.{◌≡◌, true, IfSome, sym, ◌∙◌, subst, rules, tests}
use Rattle.std.proofs.lemmas.Iterator.{YieldsList-from_slice}
use Rattle.std.proofs.lemmas.Iterator.Search.{find_from_yields_List}
use Rattle.wire.specs.Fit.{wire_fits}
use Rattle.wire.specs.Hand.{orders_of}
use Rattle.wire.specs.State.{state, wire_ready}
use Rattle.wire.proofs.InHand.{found_fits}
use Rattle.wire.proofs.wiring.Wire.next.Goals as goal

pub returns-clause-is : goal.returns-clause-is
returns-clause-is c = c.copied.ensures ∙ find_from_yields_List (wire_ready (state c.args.self.now)) _ _ c.find.result c.find.ensures.ran (YieldsList-from_slice _ (cc)) (λ x b q k. search (rules, tests))

pub returns-clause-ready : goal.returns-clause-ready
returns-clause-ready c =
    let ready = wire_ready (state c.args.self.now) in
    subst (λ r. IfSome r (λ o. (ready o ≡ true) × (wire_fits o.direction o.place o.length ≡ true))) (sym (returns-clause-is c)) (found_fits ready (orders_of c.args.self.now.hand) c.args.self.now.held)
