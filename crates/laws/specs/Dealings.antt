-- What follows from an entry, a cancel and the close, case by case: which events, in which sequence, for which reason.
--   deals side n k q time   the newcomer at place n, of that side, deals q with the order at place k
--   NegotiatedFollows      a negotiated order waits, deals or is cancelled with the waiting one, which goes first
--   ClickFollows           a click is cancelled alone, or deals the smaller quantity, and a rest is cancelled
--   StandingLaw            an intention and a firm quote stand, and nothing else follows
--   Withdraws              a cancel finds its order, which is withdrawn
--   live_places            the places of the live orders, in the table's sequence
--   CloseLaw               the close cancels these, each as closed, at the second 55,800
--   QuotesNumbered         numbers of firm quotes differ, and none is below 1,000,000
use Rattle.std.specs.Prelude.{◌≡◌, ◌⊎◌, ℕ, ◌-◌, ◌<◌, ◌≤◌, true, false, ◌&&◌, List, [], ◌∷◌, length, map, filter, is_some, Ok, Some, None, ◌==◌, ◌≢◌}
use Rattle.std.specs.List.{range_with_len}
use Rattle.market.specs.declared.kinds.Side.{Side}
use Rattle.market.specs.declared.kinds.Side.TheVariants.{Buy, Sell}
use Rattle.market.specs.declared.kinds.OrderKind.TheVariants.{Intention, FirmQuote, Negotiated, Click}
use Rattle.market.specs.declared.kinds.CancelReason.TheVariants.{Withdrawn, QuoteRest, ClickRest, Close, NoQuote, Mismatch}
use Rattle.market.specs.Figures.{quantity}
use Rattle.rules.specs.declared.event.Event.{Event}
use Rattle.rules.specs.declared.event.Event.TheVariants.{Entered, Dealt, Cancelled}
use Rattle.rules.specs.declared.order.Order.{Order}
use Rattle.rules.specs.declared.order.Standing.{Standing}
use Rattle.rules.specs.declared.request.CancelOrder.{CancelOrder}
use Rattle.rules.specs.declared.security.Security.{Security}
use Rattle.rules.specs.State.{State}
use Rattle.rules.specs.Orders.{order_at, is_live, first_place}
use Rattle.rules.specs.Listing.{find_listed}
use Rattle.rules.specs.Checks.{is_kind}
use Rattle.rules.specs.Dealing.{waits_for, quoted_for, fits, stands_on, entry_events, cancel_events, close_events}
use Rattle.rules.specs.Calls.{target_of, cancel_answer}
use Rattle.laws.specs.Single.{Numbered}

abbrev pub deals : Side → ℕ → ℕ → ℕ → ℕ → Event
deals Buy n k q time = Dealt n k (quantity q) time
deals Sell n k q time = Dealt k n (quantity q) time

-- the order o has come behind the table t, where it finds the order at place k
pub record NegotiatedFollows (ss : List Security) (t : List Standing) (o : Order) : Type 0 where
  pub waits : first_place (waits_for o) t ≡ None → entry_events ss t o ≡ Entered o ∷ []
  pub agrees : (k : ℕ) → first_place (waits_for o) t ≡ Some k → (fits o (order_at t k) && o.quantity.number == (order_at t k).live.number) ≡ true →
      entry_events ss t o ≡ Entered o ∷ (deals o.side (length t) k o.quantity.number o.time ∷ [])
  pub differs : (k : ℕ) → first_place (waits_for o) t ≡ Some k → (fits o (order_at t k) && o.quantity.number == (order_at t k).live.number) ≡ false →
      entry_events ss t o ≡ Entered o ∷ (Cancelled k Mismatch o.time ∷ (Cancelled (length t) Mismatch o.time ∷ []))

pub record ClickFollows (ss : List Security) (t : List Standing) (o : Order) : Type 0 where
  pub no_quote : first_place (quoted_for o) t ≡ None → entry_events ss t o ≡ Entered o ∷ (Cancelled (length t) NoQuote o.time ∷ [])
  pub differs : (k : ℕ) → first_place (quoted_for o) t ≡ Some k → fits o (order_at t k) ≡ false → entry_events ss t o ≡ Entered o ∷ (Cancelled (length t) Mismatch o.time ∷ [])
  -- the click asks for more than the quote has
  pub for_more : (k : ℕ) → first_place (quoted_for o) t ≡ Some k → fits o (order_at t k) ≡ true → (order_at t k).live.number < o.quantity.number →
      entry_events ss t o ≡ Entered o ∷ (deals o.side (length t) k (order_at t k).live.number o.time ∷ (Cancelled (length t) ClickRest o.time ∷ []))
  pub for_all : (k : ℕ) → first_place (quoted_for o) t ≡ Some k → fits o (order_at t k) ≡ true → (order_at t k).live.number ≡ o.quantity.number →
      entry_events ss t o ≡ Entered o ∷ (deals o.side (length t) k (order_at t k).live.number o.time ∷ [])
  -- for less: the quote's rest stands if it has the least size
  pub for_part : (k : ℕ) → first_place (quoted_for o) t ≡ Some k → fits o (order_at t k) ≡ true → o.quantity.number < (order_at t k).live.number → stands_on (find_listed ss o.security) (order_at t k).order ((order_at t k).live.number - o.quantity.number) ≡ true →
      entry_events ss t o ≡ Entered o ∷ (deals o.side (length t) k o.quantity.number o.time ∷ [])
  pub for_most : (k : ℕ) → first_place (quoted_for o) t ≡ Some k → fits o (order_at t k) ≡ true → o.quantity.number < (order_at t k).live.number → stands_on (find_listed ss o.security) (order_at t k).order ((order_at t k).live.number - o.quantity.number) ≡ false →
      entry_events ss t o ≡ Entered o ∷ (deals o.side (length t) k o.quantity.number o.time ∷ (Cancelled k QuoteRest o.time ∷ []))

abbrev pub StandingLaw : Type 0
StandingLaw = (ss : List Security) (t : List Standing) (o : Order) → (o.kind ≡ Intention) ⊎ (o.kind ≡ FirmQuote) → entry_events ss t o ≡ Entered o ∷ []

-- the order that a cancel names is found, and withdrawn
pub record Withdraws (s : State) (c : CancelOrder) : Type 0 where
  pub found : is_some (target_of s c) ≡ true
  pub follows : (k : ℕ) → target_of s c ≡ Some k → cancel_events (target_of s c) c.time ≡ Cancelled k Withdrawn c.time ∷ []

abbrev pub CancelLaw : Type 0
CancelLaw = (s : State) (c : CancelOrder) → cancel_answer s c ≡ Ok tt → Withdraws s c

abbrev pub live_places : List Standing → List ℕ
live_places t = filter (λ k. is_live (order_at t k)) (range_with_len 0 (length t))

abbrev pub CloseLaw : Type 0
CloseLaw = (t : List Standing) → close_events t ≡ map (λ k. Cancelled k Close 55800) (live_places t)

abbrev pub NegotiatedLaw : Type 0
NegotiatedLaw = (ss : List Security) (t : List Standing) (o : Order) → o.kind ≡ Negotiated → NegotiatedFollows ss t o

abbrev pub ClickLaw : Type 0
ClickLaw = (ss : List Security) (t : List Standing) (o : Order) → o.kind ≡ Click → ClickFollows ss t o

pub record QuotesNumbered (t : List Standing) : Type 0 where
  pub differ : (k l : ℕ) → k < l → l < length t → is_kind FirmQuote (order_at t k) ≡ true → is_kind FirmQuote (order_at t l) ≡ true → (order_at t k).order.agreement ≢ (order_at t l).order.agreement
  pub high : (k : ℕ) → k < length t → is_kind FirmQuote (order_at t k) ≡ true → 1000000 ≤ (order_at t k).order.agreement

abbrev pub NumbersLaw : Type 0
NumbersLaw = (t : List Standing) → length t ≤ 512 → Numbered t → QuotesNumbered t
