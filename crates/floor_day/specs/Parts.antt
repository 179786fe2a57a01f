-- The checks of the calls in parts, each a function.
--   then r q               q after a check that passed, else its refusal
--   told r                 the answer that a check's outcome r tells, without what it found
--   names_answer t cs ns o the serial and the number of the order o, behind the orders t, cancels cs and agreed numbers ns
--   space_answer t cs c    the places of the table and the lines of the tape that an entry asks for
--   listed_parts s x o     all that is asked of the order o once its security x is found
--   asked_answer day c     a cancel's day and figures
--   target_answer s c      a cancel's serial, and the order that it names
--   widened c              the cancel c as it was asked for
--   Targets d c r          r is what target_answer gives, whatever the ledger and the tape are
--   paying_checks day t c p   what is asked of a payment before the ledger
--   Shown d c k            the cancel c names the live order at place k
use Rattle.std.specs.Prelude.{◌≡◌, ℕ, ◌+◌, ◌-◌, ◌<◌, Bool, true, not, ◌||◌, List, length, is_some, Some, Ok, Err, vec_items, Result, nat_le}
use Rattle.ledger.specs.Books.{Book}
use Rattle.tape.specs.Tapes.{Contents}
use Rattle.market.specs.declared.refusal.Refusal.TheVariants.{OutOfRange, SerialUsed, NumberTaken, BadPayment, DayNotOpen, TooFewPlaces, TooFewLines}
use Rattle.lookups.specs.Wanted.{day_of}
use Rattle.requests.specs.declared.cancelling.Cancelling.{Cancelling}
use Rattle.requests.specs.Terms.{terms_answer}
use Rattle.rules.specs.declared.event.Refused.{Refused}
use Rattle.rules.specs.declared.order.Agreement.{Agreement}
use Rattle.rules.specs.declared.order.Name.{Name}
use Rattle.rules.specs.declared.order.Order.{Order}
use Rattle.rules.specs.declared.order.Standing.{Standing}
use Rattle.rules.specs.declared.request.CancelOrder.{CancelOrder}
use Rattle.rules.specs.declared.request.Payment.{Payment}
use Rattle.rules.specs.declared.security.Security.{Security}
use Rattle.rules.specs.Orders.{order_at, is_live, live_count, first_place}
use Rattle.rules.specs.Checks.{of_unit, has_name, serial_used, number_free_for, cancel_in_range, payment_in_range, payment_allowed, answers_to}
use Rattle.rules.specs.Calls.{Answer, unless, holding_answer, found_answer, target_of}
use Rattle.rules.specs.State.{State, places}
use Rattle.floor_day.specs.declared.tables.Day.{Day}
use Rattle.floor_day.specs.Days.{state_of}

abbrev pub then : Answer → Answer → Answer
then (Ok x) q = q
then (Err e) q = Err e

abbrev pub told : {X : Type 0} → Result X Refused → Answer
told (Ok x) = Ok tt
told (Err e) = Err e

abbrev pub names_answer : List Standing → List Name → List Agreement → Order → Answer
names_answer t cs ns o =
    unless (not (is_some (first_place (of_unit o.unit o.serial) t) || has_name o.unit o.serial cs)) SerialUsed
    (unless (number_free_for o.kind (day_of t ns) o.unit o.counterpart o.agreement) NumberTaken (Ok tt))

abbrev pub space_answer : List Standing → List Name → Contents → Answer
space_answer t cs c =
    unless (nat_le (live_count t + 2) (places - (length t + length cs))) TooFewPlaces
    (unless (nat_le (live_count t + 3) (c.capacity - length c.lines)) TooFewLines (Ok tt))

abbrev pub listed_parts : State → Security → Order → Answer
listed_parts s x o =
    then (terms_answer x o)
    (then (names_answer s.orders s.cancels s.agreed o)
    (then (space_answer s.orders s.cancels s.tape)
    (holding_answer s.book o)))

abbrev pub asked_answer : Bool → CancelOrder → Answer
asked_answer day c = unless day DayNotOpen (unless (cancel_in_range c) OutOfRange (Ok tt))

abbrev pub target_answer : State → CancelOrder → Answer
target_answer s c = unless (not (serial_used s c.unit c.serial)) SerialUsed (found_answer s c (target_of s c))

abbrev pub widened : Cancelling → CancelOrder
widened c = record { sort = c.sort; unit = c.unit; serial = c.serial; target = c.target; time = c.time }

abbrev pub Targets : Day → Cancelling → Answer → Type 0
Targets d c r = (m : Book) (x : Contents) → r ≡ target_answer (state_of d m x) (widened c)

abbrev pub paying_checks : Bool → List Standing → Contents → Payment → Answer
paying_checks day t c p =
    unless day DayNotOpen
    (unless (payment_in_range p) OutOfRange
    (unless (payment_allowed p) BadPayment
    (unless (nat_le (live_count t + 1) (c.capacity - length c.lines)) TooFewLines
    (Ok tt))))

pub record Shown (d : Day) (c : CancelOrder) (k : ℕ) : Type 0 where
  pub named : first_place (answers_to c.sort c.unit c.target) (vec_items d.table.orders) ≡ Some k
  pub live : is_live (order_at (vec_items d.table.orders) k) ≡ true
  pub within : k < length (vec_items d.table.orders)
