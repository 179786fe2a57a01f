-- How a floor stands.
--   State           the day, its securities, orders and cancels, what was dealt, the book and the tape
--   places          how many places the order table has
--   free_places s   those that no order and no cancel has taken today
--   free_lines s    the lines that the tape still has room for
--   new_floor m t   a floor before its first day, over a book and a tape
use Rattle.std.specs.Prelude.{ℕ, ◌+◌, ◌-◌, Bool, false, List, [], length}
use Rattle.ledger.specs.Books.{Book}
use Rattle.tape.specs.Tapes.{Contents}
use Rattle.rules.specs.declared.order.Agreement.{Agreement}
use Rattle.rules.specs.declared.order.Name.{Name}
use Rattle.rules.specs.declared.order.Standing.{Standing}
use Rattle.rules.specs.declared.security.Security.{Security}

pub record State : Type 0 where
  pub day_open : Bool
  pub last_date : ℕ
  pub securities : List Security
  pub orders : List Standing
  pub cancels : List Name
  pub agreed : List Agreement
  pub deals : ℕ
  pub book : Book
  pub tape : Contents

abbrev pub places : ℕ
places = 512

abbrev pub free_places : State → ℕ
free_places s = places - (length s.orders + length s.cancels)

abbrev pub free_lines : State → ℕ
free_lines s = s.tape.capacity - length s.tape.lines

abbrev pub new_floor : Book → Contents → State
new_floor m t = record { day_open = false; last_date = 0; securities = []; orders = []; cancels = []; agreed = []; deals = 0; book = m; tape = t }
