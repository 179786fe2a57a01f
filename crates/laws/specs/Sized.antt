-- Every deal reaches the least size of its class.
--   Sized ss x        what is live of x does, if anything is, by the list of securities ss
--   LiveSized ss t   so it is with every order of the table
--   all_sized ss ls   every deal line of ls does
--   EntriesSized     an accepted entry leaves every live order sized, and its deals are
use Rattle.std.specs.Prelude.{◌≡◌, ℕ, ◌<◌, Bool, true, false, ◌&&◌, List, [], ◌∷◌, length, Some, None, Ok, Option}
use Rattle.market.specs.Classes.{reaches}
use Rattle.tape.specs.declared.line.Line.{Line}
use Rattle.tape.specs.declared.line.Line.TheVariants.{Entry, Deal, Cancel, PaidIn, DrawnOut}
use Rattle.tape.specs.declared.line.OrderLine.{OrderLine}
use Rattle.rules.specs.declared.order.Standing.{Standing}
use Rattle.rules.specs.declared.request.Entry.{Entry as an_entry}
use Rattle.rules.specs.declared.security.Security.{Security}
use Rattle.rules.specs.State.{State}
use Rattle.rules.specs.Orders.{order_at}
use Rattle.rules.specs.Listing.{find_listed}
use Rattle.rules.specs.Checks.{order_for}
use Rattle.rules.specs.Dealing.{stands_on, entry_events}
use Rattle.rules.specs.Calls.{enter_answer}
use Rattle.rules.specs.Plain.{plain_entry}
use Rattle.laws.specs.Days.{run}
use Rattle.laws.specs.Accepted.{day}

abbrev pub Sized : List Security → Standing → Type 0
Sized ss x = 0 < x.live.number → stands_on (find_listed ss x.order.security) x.order x.live.number ≡ true

abbrev pub LiveSized : List Security → List Standing → Type 0
LiveSized ss t = (k : ℕ) → k < length t → Sized ss (order_at t k)

abbrev pub line_reaches : Option Security → OrderLine → Bool
line_reaches None l = false
line_reaches (Some x) l = reaches x.class l.quantity l.price

abbrev pub is_sized : List Security → Line → Bool
is_sized ss (Entry l) = true
is_sized ss (Deal l n) = line_reaches (find_listed ss l.security) l
is_sized ss (Cancel l w) = true
is_sized ss (PaidIn p) = true
is_sized ss (DrawnOut p) = true

abbrev pub all_sized : List Security → List Line → Bool
all_sized ss [] = true
all_sized ss (l ∷ ls) = is_sized ss l && all_sized ss ls

pub record LeavesSized (s : State) (e : an_entry) : Type 0 where
  pub live : LiveSized s.securities (plain_entry (record { securities = s.securities; orders = s.orders }) (order_for s.orders e))
  pub deals : all_sized s.securities (run (day s) (entry_events s.securities s.orders (order_for s.orders e))).lines ≡ true

abbrev pub EntriesSized : Type 0
EntriesSized = (s : State) (e : an_entry) → enter_answer s e ≡ Ok tt → LiveSized s.securities s.orders → all_sized s.securities s.tape.lines ≡ true → LeavesSized s e
