-- What lines and table say of the order of one unit and serial.
--   enters, deals, cancels   the quantity that one line enters, deals or cancels for it
--   entered, dealt, cancelled   the same by all lines
--   living, asked            what is live of it, and what it was entered with, by the table
use Rattle.std.specs.Prelude.{ℕ, List, sum_by}
use Rattle.ledger.specs.Laws.{at}
use Rattle.tape.specs.declared.line.Line.{Line}
use Rattle.tape.specs.declared.line.Line.TheVariants.{Entry, Deal, Cancel, PaidIn, DrawnOut}
use Rattle.tape.specs.declared.line.OrderLine.{OrderLine}
use Rattle.rules.specs.declared.order.Standing.{Standing}

-- the quantity of an order's line, as the name unit and serial sees it
abbrev pub of_line : OrderLine → ℕ → ℕ → ℕ
of_line l u n = at l.unit l.serial l.quantity.number u n

abbrev pub enters : ℕ → ℕ → Line → ℕ
enters u n (Entry l) = of_line l u n
enters u n (Deal l d) = 0
enters u n (Cancel l w) = 0
enters u n (PaidIn p) = 0
enters u n (DrawnOut p) = 0

abbrev pub deals : ℕ → ℕ → Line → ℕ
deals u n (Entry l) = 0
deals u n (Deal l d) = of_line l u n
deals u n (Cancel l w) = 0
deals u n (PaidIn p) = 0
deals u n (DrawnOut p) = 0

abbrev pub cancels : ℕ → ℕ → Line → ℕ
cancels u n (Entry l) = 0
cancels u n (Deal l d) = 0
cancels u n (Cancel l w) = of_line l u n
cancels u n (PaidIn p) = 0
cancels u n (DrawnOut p) = 0

abbrev pub entered : List Line → ℕ → ℕ → ℕ
entered ls u n = sum_by (enters u n) ls

abbrev pub dealt : List Line → ℕ → ℕ → ℕ
dealt ls u n = sum_by (deals u n) ls

abbrev pub cancelled : List Line → ℕ → ℕ → ℕ
cancelled ls u n = sum_by (cancels u n) ls

abbrev pub lives : ℕ → ℕ → Standing → ℕ
lives u n x = at x.order.unit x.order.serial x.live.number u n

abbrev pub asks : ℕ → ℕ → Standing → ℕ
asks u n x = at x.order.unit x.order.serial x.order.quantity.number u n

abbrev pub living : List Standing → ℕ → ℕ → ℕ
living t u n = sum_by (lives u n) t

abbrev pub asked : List Standing → ℕ → ℕ → ℕ
asked t u n = sum_by (asks u n) t
