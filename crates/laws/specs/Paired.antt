-- The deals that lines tell: each number stands in one buying and one selling line, which agree.
--   Ticket            what both sides of a deal have in common
--   tickets side ls   the tickets of the deal lines of that side, in sequence
--   upto n            1 to n
--   Paired d          the selling tickets are the buying ones, numbered 1, 2, 3 to the count of deals
--   DealsPaired      valid events keep it
use Rattle.std.specs.Prelude.{◌≡◌, ℕ, zero, suc, List, [], ◌∷◌, ◌++◌, map}
use Rattle.std.specs.List.{flat_map}
use Rattle.market.specs.declared.kinds.Side.{Side}
use Rattle.market.specs.declared.kinds.Side.TheVariants.{Buy, Sell}
use Rattle.tape.specs.declared.line.Line.{Line}
use Rattle.tape.specs.declared.line.Line.TheVariants.{Entry, Deal, Cancel, PaidIn, DrawnOut}
use Rattle.tape.specs.declared.line.OrderLine.{OrderLine}
use Rattle.rules.specs.declared.event.Event.{Event}
use Rattle.laws.specs.Days.{Day, run, ValidAll}

pub record Ticket : Type 0 where
  pub number : ℕ
  pub security : ℕ
  pub quantity : ℕ
  pub price : ℕ

abbrev pub ticket : OrderLine → ℕ → Ticket
ticket l n = record { number = n; security = l.security; quantity = l.quantity.number; price = l.price.number }

-- of a line of the one side, seen from the other
abbrev pub on_side : Side → Side → Ticket → List Ticket
on_side Buy Buy t = t ∷ []
on_side Buy Sell t = []
on_side Sell Buy t = []
on_side Sell Sell t = t ∷ []

abbrev pub ticket_in : Side → Line → List Ticket
ticket_in side (Entry l) = []
ticket_in side (Deal l n) = on_side side l.side (ticket l n)
ticket_in side (Cancel l w) = []
ticket_in side (PaidIn p) = []
ticket_in side (DrawnOut p) = []

abbrev pub tickets : Side → List Line → List Ticket
tickets side ls = flat_map (ticket_in side) ls

abbrev pub upto : ℕ → List ℕ
upto zero = []
upto (suc n) = upto n ++ (suc n ∷ [])

pub record Paired (d : Day) : Type 0 where
  pub alike : tickets Sell d.lines ≡ tickets Buy d.lines
  pub numbered : map (λ (t : Ticket). t.number) (tickets Buy d.lines) ≡ upto d.deals

abbrev pub DealsPaired : Type 0
DealsPaired = (es : List Event) (d : Day) → ValidAll d es → Paired d → Paired (run d es)
