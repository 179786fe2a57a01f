-- The terms of an order for a listed security.
--   terms_answer x o   the refusal where hours, price, amount or least size of the order o fail for the security x
use Rattle.std.specs.Prelude.{Ok}
use Rattle.market.specs.Classes.{trades_at, reaches}
use Rattle.market.specs.Figures.{times, within_limit}
use Rattle.market.specs.declared.refusal.Refusal.TheVariants.{OutsideHours, BadPrice, AmountTooLarge, BelowLeastSize}
use Rattle.rules.specs.declared.order.Order.{Order}
use Rattle.rules.specs.declared.security.Security.{Security}
use Rattle.rules.specs.Calls.{Answer, unless}
use Rattle.rules.specs.Listing.{quoted}

abbrev pub terms_answer : Security → Order → Answer
terms_answer x o =
    unless (trades_at x.class o.time) OutsideHours
    (unless (quoted x o.price) BadPrice
    (unless (within_limit (times o.quantity o.price)) AmountTooLarge
    (unless (reaches x.class o.quantity o.price) BelowLeastSize
    (Ok tt))))
