use Rattle.std.proofs.Common.{rules, ◌∙◌}
use Rattle.std.proofs.lemmas.Iterator.{YieldsList-from_slice}
use Rattle.std.proofs.lemmas.Iterator.Search.{position_from_yields_List}
use Rattle.rules.specs.Checks.{answers_to}
use Rattle.lookups.proofs.Seeking.{found_first}
use Rattle.lookups.proofs.places.find_order.Goals as goal

pub returns-clause-value : goal.returns-clause-value
returns-clause-value c =
    position_from_yields_List (answers_to c.args.sort c.args.unit c.args.serial) _ _ _ c.position.ensures.ran (YieldsList-from_slice c.args.orders.now cc) (λ x b q k. search rules)
    ∙ found_first (answers_to c.args.sort c.args.unit c.args.serial) c.args.orders.now
