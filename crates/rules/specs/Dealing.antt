-- What follows from an accepted entry, a cancel and the close, as events. The plain day alone decides it.
--   waits_for o x      x is a live negotiated order of the unit that o names, naming o's unit, with o's number
--   quoted_for o x     x is the live firm quote of the unit that o names, with o's number
--   fits o x           one security at one price, from opposite sides
--   decide ss t o      what follows once the order o stands behind the table t
--   entry_events, cancel_events, close_events   the events of the accepted call
use Rattle.std.specs.Prelude.{ℕ, suc, ◌-◌, Bool, true, false, cond, ◌&&◌, List, [], ◌∷◌, length, Some, None, Option, ◌==◌, nat_lt}
use Rattle.market.specs.declared.kinds.Side.{Side}
use Rattle.market.specs.declared.kinds.Side.TheVariants.{Buy, Sell}
use Rattle.market.specs.declared.kinds.OrderKind.{OrderKind}
use Rattle.market.specs.declared.kinds.OrderKind.TheVariants.{Intention, FirmQuote, Negotiated, Click}
use Rattle.market.specs.declared.kinds.CancelReason.TheVariants.{Withdrawn, QuoteRest, ClickRest, Close, NoQuote, Mismatch}
use Rattle.market.specs.Figures.{quantity}
use Rattle.market.specs.Classes.{reaches}
use Rattle.rules.specs.declared.event.Event.{Event}
use Rattle.rules.specs.declared.event.Event.TheVariants.{Entered, Dealt, Cancelled}
use Rattle.rules.specs.declared.event.Follow.{Follow}
use Rattle.rules.specs.declared.event.Follow.TheVariants.{Wait, Deal, CancelBoth, DealAndCancel, CancelOne}
use Rattle.rules.specs.declared.order.Order.{Order}
use Rattle.rules.specs.declared.order.Standing.{Standing}
use Rattle.rules.specs.declared.security.Security.{Security}
use Rattle.rules.specs.Orders.{order_at, is_live, first_place}
use Rattle.rules.specs.Listing.{find_listed}
use Rattle.rules.specs.Checks.{is_kind, waits}

abbrev pub opposite : Side → Side → Bool
opposite Buy Buy = false
opposite Buy Sell = true
opposite Sell Buy = true
opposite Sell Sell = false

abbrev pub waits_for : Order → Standing → Bool
waits_for o x = waits o.counterpart o.unit o.agreement x

abbrev pub quoted_for : Order → Standing → Bool
quoted_for o x = is_kind FirmQuote x && (is_live x && (x.order.unit == o.counterpart && x.order.agreement == o.agreement))

abbrev pub fits : Order → Standing → Bool
fits o x = opposite o.side x.order.side && (o.security == x.order.security && o.price.number == x.order.price.number)

-- the rest of a quote reaches its class's least size; a security that is not listed has none
abbrev pub stands_on : Option Security → Order → ℕ → Bool
stands_on None o rest = false
stands_on (Some s) o rest = reaches s.class (quantity rest) o.price

-- a newcomer at place n deals q with the order at place k
abbrev pub deal : Side → ℕ → ℕ → ℕ → Follow
deal Buy n k q = Deal n k (quantity q)
deal Sell n k q = Deal k n (quantity q)

-- negotiated: all or nothing
abbrev pub meet : ℕ → Order → List Standing → Option ℕ → Follow
meet n o t None = Wait
meet n o t (Some k) =
    cond (fits o (order_at t k) && o.quantity.number == (order_at t k).live.number)
    (deal o.side n k o.quantity.number)
    (CancelBoth k n)

-- a click o at place n that meets a quote with l live at place k: at most one of the two has a rest
abbrev pub click_short : Side → ℕ → ℕ → ℕ → Follow
click_short Buy n k l = DealAndCancel n k (quantity l) n ClickRest
click_short Sell n k l = DealAndCancel k n (quantity l) n ClickRest

abbrev pub quote_short : Side → ℕ → ℕ → ℕ → Follow
quote_short Buy n k q = DealAndCancel n k (quantity q) k QuoteRest
quote_short Sell n k q = DealAndCancel k n (quantity q) k QuoteRest

abbrev pub hit : Option Security → ℕ → Order → ℕ → Order → ℕ → Follow
hit s n o k quote l =
    cond (nat_lt l o.quantity.number) (click_short o.side n k l)
    (cond (l == o.quantity.number) (deal o.side n k l)
    (cond (stands_on s quote (l - o.quantity.number)) (deal o.side n k o.quantity.number)
    (quote_short o.side n k o.quantity.number)))

abbrev pub click : Option Security → ℕ → Order → List Standing → Option ℕ → Follow
click s n o t None = CancelOne n NoQuote
click s n o t (Some k) =
    cond (fits o (order_at t k)) (hit s n o k (order_at t k).order (order_at t k).live.number) (CancelOne n Mismatch)

abbrev pub decide_as : OrderKind → List Security → List Standing → Order → Follow
decide_as Intention ss t o = Wait
decide_as FirmQuote ss t o = Wait
decide_as Negotiated ss t o = meet (length t) o t (first_place (waits_for o) t)
decide_as Click ss t o = click (find_listed ss o.security) (length t) o t (first_place (quoted_for o) t)

abbrev pub decide : List Security → List Standing → Order → Follow
decide ss t o = decide_as o.kind ss t o

abbrev pub follow_events : ℕ → Follow → List Event
follow_events time Wait = []
follow_events time (Deal b s q) = Dealt b s q time ∷ []
follow_events time (CancelBoth k n) = Cancelled k Mismatch time ∷ (Cancelled n Mismatch time ∷ [])
follow_events time (DealAndCancel b s q k why) = Dealt b s q time ∷ (Cancelled k why time ∷ [])
follow_events time (CancelOne n why) = Cancelled n why time ∷ []

abbrev pub entry_events : List Security → List Standing → Order → List Event
entry_events ss t o = Entered o ∷ follow_events o.time (decide ss t o)

abbrev pub cancel_events : Option ℕ → ℕ → List Event
cancel_events None time = []
cancel_events (Some k) time = Cancelled k Withdrawn time ∷ []

-- the close: every live order, in the table's sequence
abbrev pub close_time : ℕ
close_time = 55800

abbrev pub close_from : ℕ → List Standing → List Event
close_from k [] = []
close_from k (x ∷ xs) = cond (is_live x) (Cancelled k Close close_time ∷ close_from (suc k) xs) (close_from (suc k) xs)

abbrev pub close_events : List Standing → List Event
close_events t = close_from 0 t
