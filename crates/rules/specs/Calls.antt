-- The six calls: what each is answered, by its checks in their order, and what an accepted one leaves.
--   unless ok e rest   the refusal e where a check fails, else what the rest says
--   open_answer, enter_answer, cancel_answer, pay_in_reply, draw_out_reply, close_answer
--   opened, entered, cancelled, paid_in, drawn_out, closed   the floor after the accepted call
--   after r s t        t after an accepted call, s after a refused one
use Rattle.std.specs.Prelude.{ℕ, ◌+◌, Bool, true, false, cond, not, ◌&&◌, ◌||◌, List, [], ◌∷◌, ◌++◌, Some, None, Ok, Err, Option, Result, nat_le, nat_lt}
use Rattle.ledger.specs.Books.{Book}
use Rattle.ledger.specs.Questions.{any_money, any_security}
use Rattle.ledger.specs.Moves.{Answer as Moved, pay_in_answer, draw_out_answer}
use Rattle.market.specs.declared.refusal.Refusal.{Refusal}
use Rattle.market.specs.declared.refusal.Refusal.TheVariants.{OutOfRange, NotListed, OutsideHours, BadPrice, BelowLeastSize, AmountTooLarge, SerialUsed, NumberTaken, NoSuchOrder, NotLive, PairNotOpen, FreeTooSmall, BadPayment, DayNotOpen, DayOpen, BadDate, SomethingHeld, TooFewPlaces, TooFewLines}
use Rattle.market.specs.declared.ranges.Figure.TheVariants.{Date}
use Rattle.market.specs.Ranges.{admits}
use Rattle.market.specs.Figures.{times, within_limit}
use Rattle.market.specs.Classes.{trades_at, reaches}
use Rattle.tape.specs.declared.line.PaymentLine.{PaymentLine}
use Rattle.tape.specs.Tapes.{begin_after}
use Rattle.rules.specs.declared.event.Event.TheVariants.{PaidIn, DrawnOut}
use Rattle.rules.specs.declared.event.Refused.{Refused}
use Rattle.rules.specs.declared.event.Refused.TheVariants.{Floor, List as list_refused, Ledger}
use Rattle.rules.specs.declared.order.Order.{Order}
use Rattle.rules.specs.declared.request.Entry.{Entry}
use Rattle.rules.specs.declared.request.CancelOrder.{CancelOrder}
use Rattle.rules.specs.declared.request.Payment.{Payment}
use Rattle.rules.specs.declared.security.ListEntry.{ListEntry}
use Rattle.rules.specs.declared.security.Security.{Security}
use Rattle.rules.specs.Orders.{order_at, is_live, live_count, first_place, item_of, amount_of}
use Rattle.rules.specs.Listing.{good_list, listed, find_listed, quoted}
use Rattle.rules.specs.Checks.{entry_in_range, cancel_in_range, payment_in_range, payment_allowed, order_for, serial_used, number_free, answers_to}
use Rattle.rules.specs.Dealing.{entry_events, cancel_events, close_events}
use Rattle.rules.specs.Effects.{effects}
use Rattle.rules.specs.State.{State, free_places, free_lines}

abbrev pub Answer : Type 0
Answer = Result (Unit {0}) Refused

abbrev pub unless : Bool → Refusal → Answer → Answer
unless ok e rest = cond ok rest (Err (Floor e))

abbrev pub unless_at : Bool → Refusal → ℕ → Answer → Answer
unless_at ok e item rest = cond ok rest (Err (Ledger e item))

abbrev pub after : Answer → State → State → State
after (Ok x) s t = t
after (Err e) s t = s

-- opening; k is the entry that a faulty list is said to have
abbrev pub any_held : Book → Bool
any_held m = any_money m || any_security m

abbrev pub open_answer : State → ℕ → List ListEntry → ℕ → Answer
open_answer s d es k =
    unless (not s.day_open) DayOpen
    (unless (admits Date d && nat_lt s.last_date d) BadDate
    (cond (good_list es) (unless (not (any_held s.book)) SomethingHeld (Ok tt)) (Err (list_refused k))))

abbrev pub opened : State → ℕ → List ListEntry → State
opened s d es = record { day_open = true; last_date = d; securities = listed es; orders = []; cancels = []; agreed = []; deals = 0; book = s.book; tape = begin_after d s.tape }

-- entering: 41, 11, 12, 13, 15, 17, 16, 18, 19, 46, 47, 31, 32
abbrev pub holding_answer : Book → Order → Answer
holding_answer m o =
    unless_at (m o.account o.security).is_open PairNotOpen o.security
    (unless_at (m o.account 0).is_open PairNotOpen 0
    (unless_at (nat_le (amount_of o o.quantity) (m o.account (item_of o)).free) FreeTooSmall (item_of o)
    (Ok tt)))

abbrev pub listed_answer : State → Entry → Order → Option Security → Answer
listed_answer s e o None = Err (Floor NotListed)
listed_answer s e o (Some x) =
    unless (trades_at x.class o.time) OutsideHours
    (unless (quoted x o.price) BadPrice
    (unless (within_limit (times o.quantity o.price)) AmountTooLarge
    (unless (reaches x.class o.quantity o.price) BelowLeastSize
    (unless (not (serial_used s o.unit o.serial)) SerialUsed
    (unless (number_free s e) NumberTaken
    (unless (nat_le (live_count s.orders + 2) (free_places s)) TooFewPlaces
    (unless (nat_le (live_count s.orders + 3) (free_lines s)) TooFewLines
    (holding_answer s.book o))))))))

abbrev pub enter_answer : State → Entry → Answer
enter_answer s e =
    unless s.day_open DayNotOpen
    (unless (entry_in_range e) OutOfRange
    (listed_answer s e (order_for s.orders e) (find_listed s.securities e.security)))

abbrev pub entered : State → Entry → State
entered s e = effects s (entry_events s.securities s.orders (order_for s.orders e))

-- cancelling: 41, 11, 18, 20, 21, 13
abbrev pub in_hours : Option Security → ℕ → Bool
in_hours None time = false
in_hours (Some x) time = trades_at x.class time

abbrev pub target_of : State → CancelOrder → Option ℕ
target_of s c = first_place (answers_to c.sort c.unit c.target) s.orders

abbrev pub found_answer : State → CancelOrder → Option ℕ → Answer
found_answer s c None = Err (Floor NoSuchOrder)
found_answer s c (Some k) =
    unless (is_live (order_at s.orders k)) NotLive
    (unless (in_hours (find_listed s.securities (order_at s.orders k).order.security) c.time) OutsideHours (Ok tt))

abbrev pub cancel_answer : State → CancelOrder → Answer
cancel_answer s c =
    unless s.day_open DayNotOpen
    (unless (cancel_in_range c) OutOfRange
    (unless (not (serial_used s c.unit c.serial)) SerialUsed
    (found_answer s c (target_of s c))))

-- an accepted cancel takes a place for its own serial
abbrev pub with_cancel : State → CancelOrder → State
with_cancel s c = record { day_open = s.day_open; last_date = s.last_date; securities = s.securities; orders = s.orders; cancels = s.cancels ++ (record { unit = c.unit; serial = c.serial } ∷ []); agreed = s.agreed; deals = s.deals; book = s.book; tape = s.tape }

abbrev pub cancelled : State → CancelOrder → State
cancelled s c = effects (with_cancel s c) (cancel_events (target_of s c) c.time)

-- paying in and drawing out: 41, 11, 33, 47, then the ledger
abbrev pub by_ledger : ℕ → Moved → Answer
by_ledger item (Ok x) = Ok tt
by_ledger item (Err e) = Err (Ledger e item)

abbrev pub paying_answer : State → Payment → Moved → Answer
paying_answer s p r =
    unless s.day_open DayNotOpen
    (unless (payment_in_range p) OutOfRange
    (unless (payment_allowed p) BadPayment
    (unless (nat_le (live_count s.orders + 1) (free_lines s)) TooFewLines
    (by_ledger p.item r))))

abbrev pub pay_in_reply : State → Payment → Answer
pay_in_reply s p = paying_answer s p (pay_in_answer s.book p.account p.item p.sum)

abbrev pub draw_out_reply : State → Payment → Answer
draw_out_reply s p = paying_answer s p (draw_out_answer s.book p.account p.item p.sum)

abbrev pub payment_line : Payment → PaymentLine
payment_line p = record { account = p.account; item = p.item; sum = p.sum; time = p.time }

abbrev pub paid_in : State → Payment → State
paid_in s p = effects s (PaidIn (payment_line p) ∷ [])

abbrev pub drawn_out : State → Payment → State
drawn_out s p = effects s (DrawnOut (payment_line p) ∷ [])

-- closing: 41
abbrev pub close_answer : State → Answer
close_answer s = unless s.day_open DayNotOpen (Ok tt)

abbrev pub shut : State → State
shut s = record { day_open = false; last_date = s.last_date; securities = s.securities; orders = s.orders; cancels = s.cancels; agreed = s.agreed; deals = s.deals; book = s.book; tape = s.tape }

abbrev pub closed : State → State
closed s = shut (effects s (close_events s.orders))
