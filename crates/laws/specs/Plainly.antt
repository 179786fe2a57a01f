-- The table is the plain day's.
--   tables t es    the table after events
--   One p t        at most one order of the table passes the test p
--   EntriesPlain  after an entry, where at most one order answers its search
--   CancelsPlain, ClosesPlain   after a cancel and a close
use Rattle.std.specs.Prelude.{◌≡◌, ℕ, ◌<◌, Bool, true, List, [], ◌∷◌, map, length}
use Rattle.rules.specs.declared.event.Event.{Event}
use Rattle.rules.specs.declared.order.Order.{Order}
use Rattle.rules.specs.declared.order.Standing.{Standing}
use Rattle.rules.specs.declared.security.Security.{Security}
use Rattle.rules.specs.Orders.{order_at, first_place}
use Rattle.rules.specs.Dealing.{waits_for, quoted_for, entry_events, cancel_events}
use Rattle.rules.specs.Effects.{orders_after}
use Rattle.rules.specs.Plain.{plain_entry, leave, nothing}
use Rattle.laws.specs.Accepted.{nothing_live}

abbrev pub tables : List Standing → List Event → List Standing
tables t [] = t
tables t (e ∷ es) = tables (orders_after e t) es

abbrev pub One : (Standing → Bool) → List Standing → Type 0
One p t = (k l : ℕ) → k < length t → l < length t → p (order_at t k) ≡ true → p (order_at t l) ≡ true → k ≡ l

abbrev pub EntriesPlain : Type 0
EntriesPlain = (ss : List Security) (t : List Standing) (o : Order) → One (waits_for o) t → One (quoted_for o) t → tables t (entry_events ss t o) ≡ plain_entry (record { securities = ss; orders = t }) o

-- a cancel of an order that only it answers to leaves nothing live of it
abbrev pub CancelsPlain : Type 0
CancelsPlain = (t : List Standing) (p : Standing → Bool) (time : ℕ) → One p t → tables t (cancel_events (first_place p t) time) ≡ leave p nothing t

abbrev pub ClosesPlain : Type 0
ClosesPlain = (t : List Standing) → map nothing_live t ≡ leave (λ x. true) nothing t
