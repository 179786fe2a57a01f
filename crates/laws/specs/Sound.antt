-- What holds of every day, whatever happens on it, against the book as the day began.
--   Distinct t    no two orders have one unit and serial
--   AllOpen t m  every order's pairs are open, money and security
--   Sound b d     held is what is needed; free, held and going are what the day began with and coming;
--                 what was entered of an order was dealt, cancelled or is live
-- The laws:
--   StepSound, RunSound   a valid event keeps a day sound, and so does a list of them
--   OrdersWhole            of each order the lines tell the whole quantity
--   MovesGranted           the ledger refuses nothing that a valid event asks of it
use Rattle.std.specs.Prelude.{◌≡◌, ℕ, ◌+◌, ◌<◌, true, List, length, Ok}
use Rattle.ledger.specs.Books.{Book, Lawful}
use Rattle.tape.specs.Nets.{coming, going}
use Rattle.market.specs.Figures.{times}
use Rattle.ledger.specs.Moves.{hold_answer, release_answer, pass_answer, pass_after, pay_in_answer, draw_out_answer}
use Rattle.rules.specs.declared.event.Event.{Event}
use Rattle.rules.specs.declared.event.Event.TheVariants.{Entered, Dealt, Cancelled, PaidIn, DrawnOut}
use Rattle.rules.specs.declared.order.Standing.{Standing}
use Rattle.rules.specs.Orders.{order_at, needed, item_of, amount_of}
use Rattle.laws.specs.Days.{Day, step, run, Valid, ValidAll}
use Rattle.laws.specs.Accounts.{entered, dealt, cancelled, living, asked}

abbrev pub Distinct : List Standing → Type 0
Distinct t =
    (k l : ℕ) → k < length t → l < length t → (order_at t k).order.unit ≡ (order_at t l).order.unit →
    (order_at t k).order.serial ≡ (order_at t l).order.serial → k ≡ l

pub record Open (m : Book) (account code : ℕ) : Type 0 where
  pub money : (m account 0).is_open ≡ true
  pub security : (m account code).is_open ≡ true

abbrev pub AllOpen : List Standing → Book → Type 0
AllOpen t m = (k : ℕ) → k < length t → Open m (order_at t k).order.account (order_at t k).order.security

pub record Sound (b : Book) (d : Day) : Type 0 where
  pub lawful : Lawful d.book
  pub holds : (a i : ℕ) → (d.book a i).held ≡ needed d.orders a i
  pub keeps : (a i : ℕ) → (d.book a i).free + (d.book a i).held + going d.lines a i ≡ (b a i).free + (b a i).held + coming d.lines a i
  pub tells : (u n : ℕ) → entered d.lines u n ≡ dealt d.lines u n + cancelled d.lines u n + living d.orders u n
  pub asks : (u n : ℕ) → entered d.lines u n ≡ asked d.orders u n
  pub distinct : Distinct d.orders
  pub opens : AllOpen d.orders d.book

abbrev pub StepSound : Type 0
StepSound = (b : Book) (d : Day) (e : Event) → Valid d e → Sound b d → Sound b (step d e)

abbrev pub RunSound : Type 0
RunSound = (b : Book) (es : List Event) (d : Day) → ValidAll d es → Sound b d → Sound b (run d es)

-- of each order: the lines enter its quantity, and it is what they deal and cancel and what is live
pub record Whole (d : Day) (x : Standing) : Type 0 where
  pub entered_once : entered d.lines x.order.unit x.order.serial ≡ x.order.quantity.number
  pub accounted : x.order.quantity.number ≡ dealt d.lines x.order.unit x.order.serial + cancelled d.lines x.order.unit x.order.serial + x.live.number

abbrev pub OrdersWhole : Type 0
OrdersWhole = (b : Book) (d : Day) → Sound b d → (k : ℕ) → k < length d.orders → Whole d (order_at d.orders k)

-- what a valid event asks of the ledger is granted
abbrev pub Moved : Event → List Standing → Book → Type 0
Moved (Entered o) t m = hold_answer m o.account (item_of o) (amount_of o o.quantity) ≡ Ok tt
Moved (Dealt i j q time) t m =
    (pass_answer m (order_at t j).order.account (order_at t i).order.account (order_at t j).order.security q.number ≡ Ok tt)
    × (pass_answer (pass_after m (order_at t j).order.account (order_at t i).order.account (order_at t j).order.security q.number) (order_at t i).order.account (order_at t j).order.account 0 (times q (order_at t i).order.price).number ≡ Ok tt)
Moved (Cancelled k why time) t m = release_answer m (order_at t k).order.account (item_of (order_at t k).order) (amount_of (order_at t k).order (order_at t k).live) ≡ Ok tt
Moved (PaidIn p) t m = pay_in_answer m p.account p.item p.sum ≡ Ok tt
Moved (DrawnOut p) t m = draw_out_answer m p.account p.item p.sum ≡ Ok tt

abbrev pub MovesGranted : Type 0
MovesGranted = (b : Book) (d : Day) (e : Event) → Valid d e → Sound b d → Moved e d.orders d.book
