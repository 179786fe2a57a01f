-- Room on the tape for what live orders may still write.
--   load d          live orders and lines written, together
--   ends x q        1 if a deal of q leaves nothing live of x, else 0
--   LoadEntered, LoadCancelled, LoadDealt   what each event does to the load
use Rattle.std.specs.Prelude.{◌≡◌, ℕ, ◌+◌, ◌-◌, ◌<◌, cond, length, nat_lt}
use Rattle.market.specs.declared.kinds.CancelReason.{CancelReason}
use Rattle.market.specs.declared.quantity.Quantity.{Quantity}
use Rattle.rules.specs.declared.event.Event.TheVariants.{Entered, Dealt, Cancelled}
use Rattle.rules.specs.declared.order.Order.{Order}
use Rattle.rules.specs.declared.order.Standing.{Standing}
use Rattle.rules.specs.Orders.{order_at, live_count}
use Rattle.laws.specs.Days.{Day, step, Valid}

abbrev pub load : Day → ℕ
load d = live_count d.orders + length d.lines

abbrev pub ends : Standing → ℕ → ℕ
ends x q = cond (nat_lt 0 (x.live.number - q)) 0 1

abbrev pub LoadEntered : Type 0
LoadEntered = (d : Day) (o : Order) → 0 < o.quantity.number → load (step d (Entered o)) ≡ load d + 2

abbrev pub LoadCancelled : Type 0
LoadCancelled = (d : Day) (k : ℕ) (why : CancelReason) (time : ℕ) → Valid d (Cancelled k why time) → load (step d (Cancelled k why time)) ≡ load d

abbrev pub LoadDealt : Type 0
LoadDealt = (d : Day) (i j : ℕ) (q : Quantity) (time : ℕ) → Valid d (Dealt i j q time) → load (step d (Dealt i j q time)) + ends (order_at d.orders i) q.number + ends (order_at d.orders j) q.number ≡ load d + 2
