use Rattle.std.proofs.Common.{eqb, ap, ◌∙◌, rules, tests}
use Rattle.std.proofs.lemmas.Iterator.{YieldsList-from_slice}
use Rattle.std.proofs.lemmas.Iterator.Consumers.{YieldsList-from_chain}
use Rattle.std.proofs.lemmas.Iterator.Search.{any_from_yields_List}
use Rattle.device.specs.Meaning.{in_hand}
use Rattle.disk.proofs.serving.holds.Goals as goal

pub returns : goal.returns
returns c = any_from_yields_List (λ o. eqb o.ticket c.args.ticket) _ _ c.any.result c.any.ensures.ran (YieldsList-from_chain (YieldsList-from_slice c.as_slices.result.0.now (cc)) (YieldsList-from_slice c.as_slices.result.1.now (cc)) (cc) (cc)) (λ x b q k. search (rules, tests)) ∙ ap (in_hand c.args.ticket) c.as_slices.ensures
