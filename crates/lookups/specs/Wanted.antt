-- A day to ask about.
--   day_of t ns     a day with the orders t and the agreed numbers ns, of which nothing else is told
use Rattle.std.specs.Prelude.{false, List, []}
use Rattle.ledger.specs.Books.{nothing}
use Rattle.rules.specs.declared.order.Agreement.{Agreement}
use Rattle.rules.specs.declared.order.Standing.{Standing}
use Rattle.rules.specs.State.{State}

abbrev pub day_of : List Standing → List Agreement → State
day_of t ns = record { day_open = false; last_date = 0; securities = []; orders = t; cancels = []; agreed = ns; deals = 0; book = λ a i. nothing; tape = record { date = 0; capacity = 0; lines = [] } }
