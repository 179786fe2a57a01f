-- Orders whose lines a tape takes, and a tape that takes every line.
--   Fit x           the line of x's whole order is in range, and no more of it is live than that
--   PartInRange   so is the line of any part of it, at any time of the day
--   LinesTaken     a tape with room takes lines in range, one behind the other
use Rattle.std.specs.Prelude.{◌≡◌, ℕ, ◌+◌, ◌<◌, ◌≤◌, true, List, ◌++◌, length}
use Rattle.market.specs.declared.ranges.Figure.TheVariants.{Time}
use Rattle.market.specs.declared.quantity.Quantity.{Quantity}
use Rattle.market.specs.Ranges.{admits}
use Rattle.tape.specs.declared.line.Line.{Line}
use Rattle.tape.specs.Lines.{order_in_range, all_in_range}
use Rattle.tape.specs.Tapes.{Contents}
use Rattle.rules.specs.declared.order.Order.{Order}
use Rattle.rules.specs.declared.order.Standing.{Standing}
use Rattle.rules.specs.Effects.{order_line, written}

pub record Fit (x : Standing) : Type 0 where
  pub whole : order_in_range (order_line x.order x.order.quantity x.order.time) ≡ true
  pub within : x.live.number ≤ x.order.quantity.number

abbrev pub PartInRange : Type 0
PartInRange = (o : Order) (q : Quantity) (time : ℕ) → order_in_range (order_line o o.quantity o.time) ≡ true → 0 < q.number → q.number ≤ o.quantity.number → admits Time time ≡ true → order_in_range (order_line o q time) ≡ true

abbrev pub with_lines : Contents → List Line → Contents
with_lines c ls = record { date = c.date; capacity = c.capacity; lines = c.lines ++ ls }

abbrev pub LinesTaken : Type 0
LinesTaken = (ls : List Line) (c : Contents) → all_in_range ls ≡ true → length c.lines + length ls ≤ c.capacity → written c ls ≡ with_lines c ls
