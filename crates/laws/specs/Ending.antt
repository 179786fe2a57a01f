-- A deal takes all that is live of one of its two orders.
--   Ends d e         if the event e is a deal, it leaves nothing live of one of the two
--   Strict d e       e is valid at the day d, and ends one order if it is a deal
--   StrictAll d es   so is each of the events es, one after the other
--   EntriesStrict    so are those of an accepted entry
use Rattle.std.specs.Prelude.{◌≡◌, ◌⊎◌, List, [], ◌∷◌, Ok}
use Rattle.rules.specs.declared.event.Event.{Event}
use Rattle.rules.specs.declared.event.Event.TheVariants.{Entered, Dealt, Cancelled, PaidIn, DrawnOut}
use Rattle.rules.specs.declared.request.Entry.{Entry}
use Rattle.rules.specs.State.{State}
use Rattle.rules.specs.Orders.{order_at}
use Rattle.rules.specs.Checks.{order_for}
use Rattle.rules.specs.Dealing.{entry_events}
use Rattle.rules.specs.Calls.{enter_answer}
use Rattle.laws.specs.Days.{Day, step, Valid}
use Rattle.laws.specs.Accepted.{day}

abbrev pub Ends : Day → Event → Type 0
Ends d (Entered o) = Unit {0}
Ends d (Dealt b s q time) = (q.number ≡ (order_at d.orders b).live.number) ⊎ (q.number ≡ (order_at d.orders s).live.number)
Ends d (Cancelled k why time) = Unit {0}
Ends d (PaidIn p) = Unit {0}
Ends d (DrawnOut p) = Unit {0}

abbrev pub Strict : Day → Event → Type 0
Strict d e = Valid d e × Ends d e

abbrev pub StrictAll : Day → List Event → Type 0
StrictAll d [] = Unit {0}
StrictAll d (e ∷ es) = Strict d e × StrictAll (step d e) es

abbrev pub EntriesStrict : Type 0
EntriesStrict = (s : State) (e : Entry) → enter_answer s e ≡ Ok tt → StrictAll (day s) (entry_events s.securities s.orders (order_for s.orders e))
