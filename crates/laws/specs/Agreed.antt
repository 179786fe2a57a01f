-- Under one number two units deal at most once in a day.
--   all_once as     no two agreements of the list are under one number between the same two units
--   Party           a unit, and the number under which it dealt
--   under side ls   the parties of that side in the negotiated deal lines of ls, in sequence
--   Agreed as ls    the agreements as are what the lines ls tell, buyers and sellers, and none comes twice
--   agreements t as es   the agreements after events
--   EntriesAgreed  an accepted entry keeps that
use Rattle.std.specs.Prelude.{◌≡◌, ℕ, Bool, true, false, cond, not, ◌&&◌, List, [], ◌∷◌, map, Ok, ◌==◌}
use Rattle.std.specs.List.{flat_map}
use Rattle.market.specs.declared.kinds.Side.{Side}
use Rattle.market.specs.declared.kinds.Side.TheVariants.{Buy, Sell}
use Rattle.market.specs.declared.kinds.OrderKind.TheVariants.{Negotiated}
use Rattle.market.specs.Kinds.{kind_number}
use Rattle.tape.specs.declared.line.Line.{Line}
use Rattle.tape.specs.declared.line.Line.TheVariants.{Entry, Deal, Cancel, PaidIn, DrawnOut}
use Rattle.tape.specs.declared.line.OrderLine.{OrderLine}
use Rattle.rules.specs.declared.event.Event.{Event}
use Rattle.rules.specs.declared.order.Agreement.{Agreement}
use Rattle.rules.specs.declared.order.Standing.{Standing}
use Rattle.rules.specs.declared.request.Entry.{Entry as an_entry}
use Rattle.rules.specs.State.{State}
use Rattle.rules.specs.Checks.{has_dealt, order_for}
use Rattle.rules.specs.Dealing.{entry_events}
use Rattle.rules.specs.Effects.{orders_after, agreed_after}
use Rattle.rules.specs.Calls.{enter_answer}
use Rattle.laws.specs.Days.{run}
use Rattle.laws.specs.Accepted.{day}

abbrev pub all_once : List Agreement → Bool
all_once [] = true
all_once (a ∷ rest) = not (has_dealt a.buyer a.seller a.number rest) && all_once rest

pub record Party : Type 0 where
  pub unit : ℕ
  pub number : ℕ

abbrev pub same_side : Side → Side → Bool
same_side Buy Buy = true
same_side Buy Sell = false
same_side Sell Buy = false
same_side Sell Sell = true

abbrev pub party_of : OrderLine → Party
party_of l = record { unit = l.unit; number = l.agreement }

abbrev pub party_in : Side → Line → List Party
party_in side (Entry l) = []
party_in side (Deal l n) = cond (same_side side l.side && kind_number l.kind == kind_number Negotiated) (party_of l ∷ []) []
party_in side (Cancel l w) = []
party_in side (PaidIn p) = []
party_in side (DrawnOut p) = []

abbrev pub under : Side → List Line → List Party
under side ls = flat_map (party_in side) ls

abbrev pub buyer_of : Agreement → Party
buyer_of a = record { unit = a.buyer; number = a.number }

abbrev pub seller_of : Agreement → Party
seller_of a = record { unit = a.seller; number = a.number }

pub record Agreed (as' : List Agreement) (ls : List Line) : Type 0 where
  pub once : all_once as' ≡ true
  pub buyers : map buyer_of as' ≡ under Buy ls
  pub sellers : map seller_of as' ≡ under Sell ls

abbrev pub agreements : List Standing → List Agreement → List Event → List Agreement
agreements t as' [] = as'
agreements t as' (e ∷ es) = agreements (orders_after e t) (agreed_after e t as') es

abbrev pub EntriesAgreed : Type 0
EntriesAgreed = (s : State) (e : an_entry) → enter_answer s e ≡ Ok tt → Agreed s.agreed s.tape.lines →
    Agreed (agreements s.orders s.agreed (entry_events s.securities s.orders (order_for s.orders e))) (run (day s) (entry_events s.securities s.orders (order_for s.orders e))).lines
