-- The entry line of an order is one, and comes before its other lines.
--   is_entry u n l    l is the entry line of the order of that unit and serial
--   is_later u n l    l is a deal or cancel line of it
--   entries ls u n    how many entry lines of it there are
--   Behind ls         before every deal or cancel line stands an entry line of its order
--   First d           each order of the table has its entry line, and every line stands behind its order's
--   EntriesFirst     a valid event keeps that
--   ToldFirst d x    of the order x: one entry line, and no deal or cancel line before it
--   OrdersFirst      so it is of each order
use Rattle.std.specs.Prelude.{◌≡◌, ℕ, ◌<◌, Bool, true, false, ◌&&◌, List, length, take, count_by, ◌==◌, slice_index_or}
use Rattle.tape.specs.declared.line.Line.{Line}
use Rattle.tape.specs.declared.line.Line.TheVariants.{Entry, Deal, Cancel, PaidIn, DrawnOut}
use Rattle.tape.specs.declared.line.OrderLine.{OrderLine}
use Rattle.rules.specs.declared.event.Event.{Event}
use Rattle.rules.specs.declared.order.Standing.{Standing}
use Rattle.rules.specs.Checks.{of_unit}
use Rattle.rules.specs.Orders.{order_at}
use Rattle.laws.specs.Days.{Day, step, Valid}
use Rattle.laws.specs.Sound.{Distinct}

abbrev pub names : OrderLine → ℕ → ℕ → Bool
names l u n = l.unit == u && l.serial == n

abbrev pub is_entry : ℕ → ℕ → Line → Bool
is_entry u n (Entry l) = names l u n
is_entry u n (Deal l d) = false
is_entry u n (Cancel l w) = false
is_entry u n (PaidIn p) = false
is_entry u n (DrawnOut p) = false

abbrev pub is_later : ℕ → ℕ → Line → Bool
is_later u n (Entry l) = false
is_later u n (Deal l d) = names l u n
is_later u n (Cancel l w) = names l u n
is_later u n (PaidIn p) = false
is_later u n (DrawnOut p) = false

abbrev pub entries : List Line → ℕ → ℕ → ℕ
entries ls u n = count_by (is_entry u n) ls

-- what stands past the end of the lines
abbrev pub no_line : Line
no_line = PaidIn (record { account = 0; item = 0; sum = 0; time = 0 })

abbrev pub Behind : List Line → Type 0
Behind ls = (u n j : ℕ) → j < length ls → is_later u n (slice_index_or ls j no_line) ≡ true → 0 < entries (take j ls) u n

pub record First (d : Day) : Type 0 where
  pub entered : (u n : ℕ) → entries d.lines u n ≡ count_by (of_unit u n) d.orders
  pub behind : Behind d.lines

abbrev pub EntriesFirst : Type 0
EntriesFirst = (d : Day) (e : Event) → Valid d e → First d → First (step d e)

pub record ToldFirst (d : Day) (x : Standing) : Type 0 where
  pub one : entries d.lines x.order.unit x.order.serial ≡ 1
  pub first : (j : ℕ) → j < length d.lines → is_later x.order.unit x.order.serial (slice_index_or d.lines j no_line) ≡ true → entries (take j d.lines) x.order.unit x.order.serial ≡ 1

abbrev pub OrdersFirst : Type 0
OrdersFirst = (d : Day) → Distinct d.orders → First d → (k : ℕ) → k < length d.orders → ToldFirst d (order_at d.orders k)
