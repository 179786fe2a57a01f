-- A day as the laws see it, and when an event may happen on it.
--   Day            orders, book and lines, and how many deals there were
--   step d e       the day after the event e, written whole: every line is taken
--   Valid d e      e makes sense on d: what it asks of table and ledger is there
--   ValidAll      each event of a list is valid after those before it
use Rattle.std.specs.Prelude.{◌≡◌, ℕ, ◌+◌, ◌<◌, ◌≤◌, true, List, [], ◌∷◌, ◌++◌, length, Ok, ◌≢◌}
use Rattle.ledger.specs.Books.{Book}
use Rattle.ledger.specs.Moves.{pay_in_answer, draw_out_answer}
use Rattle.market.specs.declared.kinds.Side.TheVariants.{Buy, Sell}
use Rattle.tape.specs.declared.line.Line.{Line}
use Rattle.rules.specs.declared.event.Event.{Event}
use Rattle.rules.specs.declared.event.Event.TheVariants.{Entered, Dealt, Cancelled, PaidIn, DrawnOut}
use Rattle.rules.specs.declared.order.Order.{Order}
use Rattle.rules.specs.declared.order.Standing.{Standing}
use Rattle.rules.specs.Orders.{order_at, item_of, amount_of}
use Rattle.rules.specs.Effects.{orders_after, book_after, lines_of, deals_after}

pub record Day : Type 0 where
  pub orders : List Standing
  pub book : Book
  pub lines : List Line
  pub deals : ℕ

abbrev pub step : Day → Event → Day
step d e =
    record {
      orders = orders_after e d.orders;
      book = book_after e d.orders d.book;
      lines = d.lines ++ lines_of e d.orders (d.deals + 1);
      deals = deals_after e d.deals;
    }

abbrev pub run : Day → List Event → Day
run d [] = d
run d (e ∷ es) = run (step d e) es

-- no order of the table has o's unit and serial
abbrev pub Fresh : Order → List Standing → Type 0
Fresh o t = (k : ℕ) → k < length t → (order_at t k).order.unit ≡ o.unit → (order_at t k).order.serial ≢ o.serial

pub record CanEnter (o : Order) (t : List Standing) (m : Book) : Type 0 where
  pub fresh : Fresh o t
  pub some : 0 < o.quantity.number
  pub money : (m o.account 0).is_open ≡ true
  pub security : (m o.account o.security).is_open ≡ true
  pub enough : amount_of o o.quantity ≤ (m o.account (item_of o)).free

-- b buys q from s
pub record CanDeal (b s : Standing) (q : ℕ) : Type 0 where
  pub some : 0 < q
  pub buys : b.order.side ≡ Buy
  pub sells : s.order.side ≡ Sell
  pub bought : q ≤ b.live.number
  pub sold : q ≤ s.live.number
  pub security : b.order.security ≡ s.order.security
  pub price : b.order.price ≡ s.order.price

pub record CanCancel (t : List Standing) (k : ℕ) : Type 0 where
  pub there : k < length t
  pub live : 0 < (order_at t k).live.number

pub record CanDealAt (t : List Standing) (b s q : ℕ) : Type 0 where
  pub buyer : b < length t
  pub seller : s < length t
  pub agree : CanDeal (order_at t b) (order_at t s) q

abbrev pub Valid : Day → Event → Type 0
Valid d (Entered o) = CanEnter o d.orders d.book
Valid d (Dealt b s q time) = CanDealAt d.orders b s q.number
Valid d (Cancelled k why time) = CanCancel d.orders k
Valid d (PaidIn p) = pay_in_answer d.book p.account p.item p.sum ≡ Ok tt
Valid d (DrawnOut p) = draw_out_answer d.book p.account p.item p.sum ≡ Ok tt

abbrev pub ValidAll : Day → List Event → Type 0
ValidAll d [] = Unit {0}
ValidAll d (e ∷ es) = Valid d e × ValidAll (step d e) es
