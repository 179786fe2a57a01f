use Rattle.std.proofs.Common.{rules, ◌∙◌}
use Rattle.std.proofs.lemmas.Iterator.{YieldsList-from_slice}
use Rattle.std.proofs.lemmas.Iterator.Search.{any_from_yields_List}
use Rattle.rules.specs.Checks.{of_unit}
use Rattle.lookups.proofs.Seeking.{any_place}
use Rattle.lookups.proofs.serials.has_order.Goals as goal

pub returns : goal.returns
returns c =
    any_from_yields_List (of_unit c.args.unit c.args.serial) _ _ _ c.any.ensures.ran (YieldsList-from_slice c.args.orders.now cc) (λ x b q k. search rules)
    ∙ any_place (of_unit c.args.unit c.args.serial) c.args.orders.now
