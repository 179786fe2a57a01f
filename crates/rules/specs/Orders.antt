-- Orders in their table, and what they need.
--   order_at t k        what stands at place k of the table t
--   is_live x           whether anything of x is live
--   live_count t        how many orders are live
--   first_place p t     the first place whose order passes the test p, if any
--   item_of o           the item that an order needs: a seller its security, a buyer money
--   amount_of o q       how much of it for the quantity q
--   need a i x          what x needs of the item i for account a
--   needed t a i        what all live orders of the table need of it
use Rattle.std.specs.Prelude.{ℕ, suc, ◌-◌, Bool, cond, List, [], ◌∷◌, Some, None, sum_by, count_by, Option, nat_lt, slice_index_or}
use Rattle.std.specs.Option.{option_map}
use Rattle.market.specs.declared.kinds.Side.{Side}
use Rattle.market.specs.declared.kinds.Side.TheVariants.{Buy, Sell}
use Rattle.market.specs.declared.kinds.OrderKind.TheVariants.{Intention}
use Rattle.market.specs.declared.quantity.Quantity.{Quantity}
use Rattle.market.specs.declared.price.Price.{Price}
use Rattle.market.specs.Figures.{quantity, price, times}
use Rattle.ledger.specs.Laws.{at}
use Rattle.rules.specs.declared.order.Order.{Order}
use Rattle.rules.specs.declared.order.Standing.{Standing}

-- what stands past the table's end
abbrev pub no_order : Order
no_order = record { side = Buy; kind = Intention; unit = 0; serial = 0; account = 0; security = 0; quantity = quantity 0; price = price 0; counterpart = 0; agreement = 0; time = 0 }

abbrev pub no_one : Standing
no_one = record { order = no_order; live = quantity 0 }

abbrev pub order_at : List Standing → ℕ → Standing
order_at t k = slice_index_or t k no_one

abbrev pub with_live : Standing → ℕ → Standing
with_live x n = record { order = x.order; live = quantity n }

abbrev pub less_live : Standing → ℕ → Standing
less_live x n = with_live x (x.live.number - n)

abbrev pub is_live : Standing → Bool
is_live x = nat_lt 0 x.live.number

abbrev pub live_count : List Standing → ℕ
live_count t = count_by is_live t

abbrev pub first_place : (Standing → Bool) → List Standing → Option ℕ
first_place p [] = None
first_place p (x ∷ xs) = cond (p x) (Some 0) (option_map suc (first_place p xs))

abbrev pub item_for : Side → ℕ → ℕ
item_for Buy code = 0
item_for Sell code = code

abbrev pub amount_for : Side → Quantity → Price → ℕ
amount_for Buy q p = (times q p).number
amount_for Sell q p = q.number

abbrev pub item_of : Order → ℕ
item_of o = item_for o.side o.security

abbrev pub amount_of : Order → Quantity → ℕ
amount_of o q = amount_for o.side q o.price

abbrev pub need : ℕ → ℕ → Standing → ℕ
need a i x = at x.order.account (item_of x.order) (amount_of x.order x.live) a i

abbrev pub needed : List Standing → ℕ → ℕ → ℕ
needed t a i = sum_by (need a i) t
