-- The events of an accepted call are valid, one after the other.
--   day s              the floor s as the laws see it
--   EntriesValid      those of an accepted entry
--   CancelsValid      those of an accepted cancel
--   PaymentsInValid, PaymentsOutValid   that of an accepted payment in, and of one out
--   ClosesValid       those of a close, which leaves nothing live
use Rattle.std.specs.Prelude.{◌≡◌, [], ◌∷◌, map, Ok}
use Rattle.rules.specs.declared.event.Event.TheVariants.{PaidIn, DrawnOut}
use Rattle.rules.specs.declared.request.Entry.{Entry}
use Rattle.rules.specs.declared.request.CancelOrder.{CancelOrder}
use Rattle.rules.specs.declared.request.Payment.{Payment}
use Rattle.rules.specs.declared.order.Standing.{Standing}
use Rattle.rules.specs.Orders.{with_live}
use Rattle.rules.specs.State.{State}
use Rattle.rules.specs.Checks.{order_for}
use Rattle.rules.specs.Dealing.{entry_events, cancel_events, close_events}
use Rattle.rules.specs.Calls.{enter_answer, cancel_answer, target_of, pay_in_reply, draw_out_reply, payment_line}
use Rattle.laws.specs.Days.{Day, run, ValidAll}

abbrev pub day : State → Day
day s = record { orders = s.orders; book = s.book; lines = s.tape.lines; deals = s.deals }

abbrev pub EntriesValid : Type 0
EntriesValid = (s : State) (e : Entry) → enter_answer s e ≡ Ok tt → ValidAll (day s) (entry_events s.securities s.orders (order_for s.orders e))

abbrev pub CancelsValid : Type 0
CancelsValid = (s : State) (c : CancelOrder) → cancel_answer s c ≡ Ok tt → ValidAll (day s) (cancel_events (target_of s c) c.time)

abbrev pub PaymentsInValid : Type 0
PaymentsInValid = (s : State) (p : Payment) → pay_in_reply s p ≡ Ok tt → ValidAll (day s) (PaidIn (payment_line p) ∷ [])

abbrev pub PaymentsOutValid : Type 0
PaymentsOutValid = (s : State) (p : Payment) → draw_out_reply s p ≡ Ok tt → ValidAll (day s) (DrawnOut (payment_line p) ∷ [])

abbrev pub nothing_live : Standing → Standing
nothing_live x = with_live x 0

pub record Closed (d : Day) : Type 0 where
  pub valid : ValidAll d (close_events d.orders)
  pub leaves : (run d (close_events d.orders)).orders ≡ map nothing_live d.orders

abbrev pub ClosesValid : Type 0
ClosesValid = (d : Day) → Closed d
