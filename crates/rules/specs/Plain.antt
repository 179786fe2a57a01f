-- The plain day: who has how much live, told from the calls and which of them were accepted, and nothing else. It
-- knows no ledger, tape, line, deal or reason, and no place in a table: an order is named by its unit and serial.
--   Act              a call, as the plain day hears it
--   Day              the securities listed and the orders, each with how much of it is live
--   leave p n t      the table t with n live of every order that passes the test p
--   rest_of ss o x   what stays live of the quote x after the click o
--   plain_after d a  the day after the accepted act a
--   plain_day        the day after a list of acts, of which some were accepted
use Rattle.std.specs.Prelude.{ℕ, ◌-◌, Bool, true, false, cond, List, [], ◌∷◌, ◌++◌}
use Rattle.market.specs.declared.kinds.OrderKind.{OrderKind}
use Rattle.market.specs.declared.kinds.OrderKind.TheVariants.{Intention, FirmQuote, Negotiated, Click}
use Rattle.market.specs.Figures.{quantity}
use Rattle.rules.specs.declared.order.Order.{Order}
use Rattle.rules.specs.declared.order.Standing.{Standing}
use Rattle.rules.specs.declared.request.Entry.{Entry}
use Rattle.rules.specs.declared.request.CancelOrder.{CancelOrder}
use Rattle.rules.specs.declared.request.Payment.{Payment}
use Rattle.rules.specs.declared.security.ListEntry.{ListEntry}
use Rattle.rules.specs.declared.security.Security.{Security}
use Rattle.rules.specs.Listing.{listed, find_listed}
use Rattle.rules.specs.Checks.{order_for, answers_to}
use Rattle.rules.specs.Dealing.{waits_for, quoted_for, fits, stands_on}

pub data Act : Type 0 where
  opens : ℕ → List ListEntry → Act
  enters : Entry → Act
  cancels : CancelOrder → Act
  pays_in : Payment → Act
  draws_out : Payment → Act
  closes : Act

pub record Day : Type 0 where
  pub securities : List Security
  pub orders : List Standing

abbrev pub live_of : Standing → ℕ → Standing
live_of x n = record { order = x.order; live = quantity n }

-- every order that passes the test has n live, the others what they had
abbrev pub leave : (Standing → Bool) → (Standing → ℕ) → List Standing → List Standing
leave p n [] = []
leave p n (x ∷ xs) = cond (p x) (live_of x (n x)) x ∷ leave p n xs

abbrev pub nothing : Standing → ℕ
nothing x = 0

abbrev pub any : (Standing → Bool) → List Standing → Bool
any p [] = false
any p (x ∷ xs) = cond (p x) true (any p xs)

-- of a quote that a click for q found, what stays live: its rest, if that has the least size, else nothing
abbrev pub rest_of : List Security → Order → Standing → ℕ
rest_of ss o x =
    cond (fits o x)
    (cond (stands_on (find_listed ss o.security) x.order (x.live.number - o.quantity.number)) (x.live.number - o.quantity.number) 0)
    x.live.number

abbrev pub plain_entry_as : OrderKind → Day → Order → List Standing
plain_entry_as Intention d o = d.orders ++ (live_of (record { order = o; live = o.quantity }) o.quantity.number ∷ [])
plain_entry_as FirmQuote d o = d.orders ++ (live_of (record { order = o; live = o.quantity }) o.quantity.number ∷ [])
plain_entry_as Negotiated d o =
    leave (waits_for o) nothing d.orders
    ++ (live_of (record { order = o; live = o.quantity }) (cond (any (waits_for o) d.orders) 0 o.quantity.number) ∷ [])
plain_entry_as Click d o = leave (quoted_for o) (rest_of d.securities o) d.orders ++ (live_of (record { order = o; live = o.quantity }) 0 ∷ [])

abbrev pub plain_entry : Day → Order → List Standing
plain_entry d o = plain_entry_as o.kind d o

abbrev pub plain_after : Day → Act → Day
plain_after d (opens date es) = record { securities = listed es; orders = [] }
plain_after d (enters e) = record { securities = d.securities; orders = plain_entry d (order_for d.orders e) }
plain_after d (cancels c) = record { securities = d.securities; orders = leave (answers_to c.sort c.unit c.target) nothing d.orders }
plain_after d (pays_in p) = d
plain_after d (draws_out p) = d
plain_after d closes = record { securities = d.securities; orders = leave (λ x. true) nothing d.orders }

abbrev pub plain_day : Day → List Act → List Bool → Day
plain_day d [] bs = d
plain_day d (a ∷ as') [] = d
plain_day d (a ∷ as') (b ∷ bs) = plain_day (cond b (plain_after d a) d) as' bs
