use Rattle.std.proofs.Common.{◌∙◌, not, is_some, rules, tests}
use Rattle.std.proofs.lemmas.Iterator.{YieldsList-from_slice}
use Rattle.std.proofs.lemmas.Iterator.Adapters.{position_from-zero}
use Rattle.std.proofs.lemmas.Iterator.Search.{position_from_yields_List}
use Rattle.rules.proofs.Free.{free-position}
use Rattle.rules.proofs.tables.first_free.Goals as goal

pub returns-clause-value : goal.returns-clause-value
returns-clause-value g c =
    let table = c.args.table.now in
    position_from_yields_List (λ x. not (is_some x)) _ _ c.position.result c.position.ensures.ran (YieldsList-from_slice table (cc)) (λ x b q k. search (rules, tests)) ∙ position_from-zero _ table ∙ free-position 0 table
