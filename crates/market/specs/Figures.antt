-- Quantities, prices and amounts.
--   quantity n, price n         the figure of that number
--   quantity_of n, price_of n   the same, if the number is in range
--   times q p                   the amount that q costs at p
--   within_limit a              whether one order may come to that amount
use Rattle.std.specs.Prelude.{ℕ, ◌*◌, Bool, cond, Some, None, Option, nat_le}
use Rattle.market.specs.declared.quantity.Quantity.{Quantity}
use Rattle.market.specs.declared.price.Price.{Price}
use Rattle.market.specs.declared.amount.Amount.{Amount}
use Rattle.market.specs.declared.ranges.Figure.TheVariants.{Quantity as a_quantity, Price as a_price}
use Rattle.market.specs.Ranges.{admits}

abbrev pub quantity : ℕ → Quantity
quantity n = record { number = n }

abbrev pub price : ℕ → Price
price n = record { number = n }

abbrev pub quantity_of : ℕ → Option Quantity
quantity_of n = cond (admits a_quantity n) (Some (quantity n)) None

abbrev pub price_of : ℕ → Option Price
price_of n = cond (admits a_price n) (Some (price n)) None

abbrev pub times : Quantity → Price → Amount
times q p = record { number = q.number * p.number }

abbrev pub within_limit : Amount → Bool
within_limit a = nat_le a.number 1000000000000000
