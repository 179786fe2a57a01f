-- Whether the deals that lines tell are paired.
--   alike o p           the order lines o and p agree in security, quantity and price
--   answers q l         the line l is one that is asked for: a deal line of that number, of a side or like another
--   how_many ls q       how many lines are
--   pair_of b s a       b is one buying line, s one selling line, and both agree
--   line_paired ls l    if l is a deal line: its number stands in one buying and one selling line, and both agree with l
--   all_paired ls xs    so it is with every line of xs
use Rattle.std.specs.Prelude.{ℕ, Bool, true, false, ◌&&◌, List, count_by, ◌==◌}
use Rattle.std.specs.List.{list_all}
use Rattle.market.specs.declared.kinds.Side.TheVariants.{Buy, Sell}
use Rattle.tape.specs.declared.line.OrderLine.{OrderLine}
use Rattle.tape.specs.declared.line.Line.{Line}
use Rattle.tape.specs.declared.line.Line.TheVariants.{Entry, Deal, Cancel, PaidIn, DrawnOut}
use Rattle.laws.specs.Agreed.{same_side}
use Rattle.marking.specs.declared.deals.Asked.{Asked}
use Rattle.marking.specs.declared.deals.Asked.TheVariants.{Side, Like}

abbrev pub alike : OrderLine → OrderLine → Bool
alike o p = o.security == p.security && (o.quantity.number == p.quantity.number && o.price.number == p.price.number)

abbrev pub answers_deal : Asked → OrderLine → ℕ → Bool
answers_deal (Side side number) o n = n == number && same_side side o.side
answers_deal (Like other number) o n = n == number && alike other o

abbrev pub answers : Asked → Line → Bool
answers q (Entry o) = false
answers q (Deal o n) = answers_deal q o n
answers q (Cancel o w) = false
answers q (PaidIn p) = false
answers q (DrawnOut p) = false

abbrev pub how_many : List Line → Asked → ℕ
how_many ls q = count_by (answers q) ls

abbrev pub pair_of : ℕ → ℕ → ℕ → Bool
pair_of buying selling agreeing = buying == 1 && (selling == 1 && agreeing == 2)

abbrev pub line_paired : List Line → Line → Bool
line_paired ls (Entry o) = true
line_paired ls (Deal o n) = pair_of (how_many ls (Side Buy n)) (how_many ls (Side Sell n)) (how_many ls (Like o n))
line_paired ls (Cancel o w) = true
line_paired ls (PaidIn p) = true
line_paired ls (DrawnOut p) = true

abbrev pub all_paired : List Line → List Line → Bool
all_paired ls xs = list_all (line_paired ls) xs
