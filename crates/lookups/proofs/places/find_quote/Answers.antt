use Rattle.std.proofs.Common.{rules, ◌∙◌}
use Rattle.std.proofs.lemmas.Iterator.{YieldsList-from_slice}
use Rattle.std.proofs.lemmas.Iterator.Search.{position_from_yields_List}
use Rattle.rules.specs.Dealing.{quoted_for}
use Rattle.lookups.proofs.Seeking.{found_first}
use Rattle.lookups.proofs.places.find_quote.Goals as goal

pub returns-clause-value : goal.returns-clause-value
returns-clause-value c =
    position_from_yields_List (quoted_for c.args.order.now) _ _ _ c.position.ensures.ran (YieldsList-from_slice c.args.orders.now cc) (λ x b q k. search rules)
    ∙ found_first (quoted_for c.args.order.now) c.args.orders.now
