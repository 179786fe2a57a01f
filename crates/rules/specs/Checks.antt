-- The checks of entering, cancelling and paying, one definition each.
--   entry_in_range e, cancel_in_range c, payment_in_range p   every figure is in range
--   serial_used s u n      whether the unit u has used the serial n today, for an order or a cancel
--   number_free s e        whether a negotiated entry's number is free between its two units
--   answers_to sort u n x  x is the order of that sort, unit and serial
--   order_for t e          the order that the entry e becomes behind the table t
use Rattle.std.specs.Prelude.{ℕ, ◌-◌, Bool, true, cond, not, ◌&&◌, ◌||◌, List, is_some, count_by, ◌==◌, nat_le}
use Rattle.std.specs.List.{list_any}
use Rattle.market.specs.declared.kinds.OrderKind.{OrderKind}
use Rattle.market.specs.declared.kinds.OrderKind.TheVariants.{Intention, FirmQuote, Negotiated, Click}
use Rattle.market.specs.declared.kinds.Sort.{Sort}
use Rattle.market.specs.declared.kinds.Sort.TheVariants.{Intention as intentions, FirmQuote as firm_quotes, DealOrder}
use Rattle.market.specs.declared.ranges.Figure.TheVariants.{Unit, Serial, Account, Item, SecurityCode, Quantity, Price, Time, AgreementNumber, Payment as a_payment}
use Rattle.market.specs.Ranges.{admits}
use Rattle.market.specs.Figures.{quantity, price}
use Rattle.market.specs.Kinds.{kind_number, sort_number, sort_of_kind}
use Rattle.rules.specs.declared.order.Agreement.{Agreement}
use Rattle.rules.specs.declared.order.Name.{Name}
use Rattle.rules.specs.declared.order.Order.{Order}
use Rattle.rules.specs.declared.order.Standing.{Standing}
use Rattle.rules.specs.declared.request.Entry.{Entry}
use Rattle.rules.specs.declared.request.CancelOrder.{CancelOrder}
use Rattle.rules.specs.declared.request.Payment.{Payment}
use Rattle.rules.specs.Orders.{is_live, first_place}
use Rattle.rules.specs.State.{State}

-- only a deal order names a counterpart and a number
abbrev pub names_partner : Sort → ℕ → ℕ → Bool
names_partner intentions v n = v == 0 && n == 0
names_partner firm_quotes v n = v == 0 && n == 0
names_partner DealOrder v n = admits Unit v && admits AgreementNumber n

abbrev pub entry_in_range : Entry → Bool
entry_in_range e =
    admits Unit e.unit
    && (admits Serial e.serial
    && (admits Account e.account
    && (admits SecurityCode e.security
    && (admits Quantity e.quantity
    && (admits Price e.price
    && (names_partner e.sort e.counterpart e.agreement
    && admits Time e.time))))))

abbrev pub cancel_in_range : CancelOrder → Bool
cancel_in_range c = admits Unit c.unit && (admits Serial c.serial && (admits Serial c.target && admits Time c.time))

abbrev pub payment_in_range : Payment → Bool
payment_in_range p = admits Account p.account && (admits Item p.item && admits Time p.time)

abbrev pub payment_allowed : Payment → Bool
payment_allowed p = admits a_payment p.sum

-- 0 to 999,999 makes a deal order negotiated, any higher number a click
abbrev pub kind_for : Sort → ℕ → OrderKind
kind_for intentions n = Intention
kind_for firm_quotes n = FirmQuote
kind_for DealOrder n = cond (nat_le n 999999) Negotiated Click

abbrev pub is_kind : OrderKind → Standing → Bool
is_kind k x = kind_number x.order.kind == kind_number k

-- a firm quote is numbered downward, by the count of earlier ones of the day
abbrev pub quote_number : List Standing → ℕ
quote_number t = 99999999 - count_by (is_kind FirmQuote) t

abbrev pub number_for : Sort → List Standing → ℕ → ℕ
number_for intentions t n = 0
number_for firm_quotes t n = quote_number t
number_for DealOrder t n = n

abbrev pub order_for : List Standing → Entry → Order
order_for t e =
    record {
      side = e.side;
      kind = kind_for e.sort e.agreement;
      unit = e.unit;
      serial = e.serial;
      account = e.account;
      security = e.security;
      quantity = quantity e.quantity;
      price = price e.price;
      counterpart = e.counterpart;
      agreement = number_for e.sort t e.agreement;
      time = e.time;
    }

abbrev pub of_unit : ℕ → ℕ → Standing → Bool
of_unit u n x = x.order.unit == u && x.order.serial == n

abbrev pub has_name : ℕ → ℕ → List Name → Bool
has_name u n cs = list_any (λ c. c.unit == u && c.serial == n) cs

abbrev pub serial_used : State → ℕ → ℕ → Bool
serial_used s u n = is_some (first_place (of_unit u n) s.orders) || has_name u n s.cancels

-- the two units have dealt under this number, either way round
abbrev pub between_units : ℕ → ℕ → Agreement → Bool
between_units u v a = (a.buyer == u && a.seller == v) || (a.buyer == v && a.seller == u)

abbrev pub has_dealt : ℕ → ℕ → ℕ → List Agreement → Bool
has_dealt u v n ds = list_any (λ a. a.number == n && between_units u v a) ds

-- a live negotiated order of the unit u naming v with the number n
abbrev pub waits : ℕ → ℕ → ℕ → Standing → Bool
waits u v n x =
    is_kind Negotiated x && (is_live x && (x.order.unit == u && (x.order.counterpart == v && x.order.agreement == n)))

abbrev pub number_free_for : OrderKind → State → ℕ → ℕ → ℕ → Bool
number_free_for Intention s u v n = true
number_free_for FirmQuote s u v n = true
number_free_for Negotiated s u v n = not (has_dealt u v n s.agreed) && (u == v || not (is_some (first_place (waits u v n) s.orders)))
number_free_for Click s u v n = true

abbrev pub number_free : State → Entry → Bool
number_free s e = number_free_for (kind_for e.sort e.agreement) s e.unit e.counterpart e.agreement

abbrev pub answers_to : Sort → ℕ → ℕ → Standing → Bool
answers_to r u n x = sort_number (sort_of_kind x.order.kind) == sort_number r && of_unit u n x
