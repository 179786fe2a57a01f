-- The accounts and items that lines name.
--   has p ps          whether the pair p stands in ps
--   noted ps p        ps with p behind it, if p was not there yet
--   noted_line ps l   ps with the pairs that the line l names: an order's account with its security,
--                     then with money; a payment's account with its item
--   pairs ls          the pairs that lines name, each once, in the order of first appearance
use Rattle.std.specs.Prelude.{ℕ, Bool, cond, ◌&&◌, List, [], ◌∷◌, ◌++◌, fold, ◌==◌}
use Rattle.std.specs.List.{list_any}
use Rattle.tape.specs.declared.line.OrderLine.{OrderLine}
use Rattle.tape.specs.declared.line.Line.{Line}
use Rattle.tape.specs.declared.line.Line.TheVariants.{Entry, Deal, Cancel, PaidIn, DrawnOut}
use Rattle.statement.specs.declared.pairs.Pair.{Pair}

abbrev pub pair : ℕ → ℕ → Pair
pair a i = record { account = a; item = i }

abbrev pub same : Pair → Pair → Bool
same q p = q.account == p.account && q.item == p.item

abbrev pub has : Pair → List Pair → Bool
has p ps = list_any (λ q. same q p) ps

abbrev pub noted : List Pair → Pair → List Pair
noted ps p = cond (has p ps) ps (ps ++ (p ∷ []))

abbrev pub noted_order : List Pair → OrderLine → List Pair
noted_order ps o = noted (noted ps (pair o.account o.security)) (pair o.account 0)

abbrev pub noted_line : List Pair → Line → List Pair
noted_line ps (Entry o) = noted_order ps o
noted_line ps (Deal o n) = noted_order ps o
noted_line ps (Cancel o w) = noted_order ps o
noted_line ps (PaidIn p) = noted ps (pair p.account p.item)
noted_line ps (DrawnOut p) = noted ps (pair p.account p.item)

abbrev pub pairs : List Line → List Pair
pairs ls = fold noted_line [] ls
