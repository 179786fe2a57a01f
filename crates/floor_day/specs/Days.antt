-- The state of a floor, made of its day, its ledger and its tape.
--   state_of d m c   the floor with the day d, the book m and the tape c
--   no_tape          a tape of which nothing is told
--   taken s          the places that the table needs at most until the day's end: the live orders may be cancelled
use Rattle.std.specs.Prelude.{ℕ, ◌+◌, [], length, vec_items}
use Rattle.ledger.specs.Books.{Book}
use Rattle.tape.specs.Tapes.{Contents}
use Rattle.rules.specs.Orders.{live_count}
use Rattle.rules.specs.State.{State}
use Rattle.floor_day.specs.declared.tables.Day.{Day}

abbrev pub state_of : Day → Book → Contents → State
state_of d m c =
    record {
      day_open = d.is_open;
      last_date = d.last_date;
      securities = vec_items d.securities;
      orders = vec_items d.table.orders;
      cancels = vec_items d.table.cancels;
      agreed = vec_items d.agreed;
      deals = d.deals;
      book = m;
      tape = c;
    }

abbrev pub no_tape : Contents
no_tape = record { date = 0; capacity = 0; lines = [] }

abbrev pub taken : State → ℕ
taken s = live_count s.orders + (length s.orders + length s.cancels)
