-- At most one live order answers a search.
--   Numbered t     each firm quote has the number 99,999,999 less the count of quotes before it
--   Single t       at most one live negotiated order goes from a unit to a unit under a number
--   Fewer t u      u has the orders of t, none with more live
--   SearchesSingle at most one order answers either search of an order
--   EntriesSingle  an accepted entry keeps it so
use Rattle.std.specs.Prelude.{◌≡◌, ℕ, ◌-◌, ◌<◌, ◌≤◌, true, List, length, take, Ok, count_by}
use Rattle.market.specs.declared.kinds.OrderKind.TheVariants.{FirmQuote}
use Rattle.rules.specs.declared.order.Order.{Order}
use Rattle.rules.specs.declared.order.Standing.{Standing}
use Rattle.rules.specs.declared.request.Entry.{Entry}
use Rattle.rules.specs.Orders.{order_at}
use Rattle.rules.specs.Checks.{is_kind, waits, order_for}
use Rattle.rules.specs.Dealing.{waits_for, quoted_for}
use Rattle.rules.specs.Calls.{enter_answer}
use Rattle.rules.specs.Plain.{plain_entry}
use Rattle.rules.specs.State.{State}
use Rattle.laws.specs.Plainly.{One}

abbrev pub Numbered : List Standing → Type 0
Numbered t = (k : ℕ) → k < length t → is_kind FirmQuote (order_at t k) ≡ true → (order_at t k).order.agreement ≡ 99999999 - count_by (is_kind FirmQuote) (take k t)

abbrev pub Single : List Standing → Type 0
Single t = (u v n : ℕ) → One (waits u v n) t

pub record Fewer (t u : List Standing) : Type 0 where
  pub long : length u ≡ length t
  pub same : (k : ℕ) → (order_at u k).order ≡ (order_at t k).order
  pub less : (k : ℕ) → (order_at u k).live.number ≤ (order_at t k).live.number

abbrev pub SearchesSingle : Type 0
SearchesSingle = (t : List Standing) (o : Order) → length t ≤ 512 → Numbered t → Single t → One (waits_for o) t × One (quoted_for o) t

pub record KeptSingle (t : List Standing) : Type 0 where
  pub numbered : Numbered t
  pub single : Single t

-- an accepted entry keeps both
abbrev pub EntriesSingle : Type 0
EntriesSingle = (s : State) (e : Entry) → enter_answer s e ≡ Ok tt → KeptSingle s.orders → KeptSingle (plain_entry (record { securities = s.securities; orders = s.orders }) (order_for s.orders e))
