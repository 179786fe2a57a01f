-- The orders that lines name, and what the lines tell of each.
--   has n ns          whether the name n stands in ns
--   noted ns o        ns with the name of o's order behind it, if it was not there yet
--   orders ls         the orders that lines name, each once, in the sequence of their first lines
--   account ls n      what the lines enter, deal and cancel of the order n, and what that leaves live
use Rattle.std.specs.Prelude.{Bool, cond, ◌&&◌, List, [], ◌∷◌, ◌++◌, pos, ◌-ℤ◌, fold, ◌==◌}
use Rattle.std.specs.List.{list_any}
use Rattle.tape.specs.declared.line.OrderLine.{OrderLine}
use Rattle.tape.specs.declared.line.Line.{Line}
use Rattle.tape.specs.declared.line.Line.TheVariants.{Entry, Deal, Cancel, PaidIn, DrawnOut}
use Rattle.rules.specs.declared.order.Name.{Name}
use Rattle.laws.specs.Accounts.{entered, dealt, cancelled}
use Rattle.marking.specs.declared.account.OrderAccount.{OrderAccount}

abbrev pub same : Name → Name → Bool
same m n = m.unit == n.unit && m.serial == n.serial

abbrev pub has : Name → List Name → Bool
has n ns = list_any (λ m. same m n) ns

abbrev pub name_of : OrderLine → Name
name_of o = record { unit = o.unit; serial = o.serial }

abbrev pub noted : List Name → OrderLine → List Name
noted ns o = cond (has (name_of o) ns) ns (ns ++ (name_of o ∷ []))

abbrev pub noted_line : List Name → Line → List Name
noted_line ns (Entry o) = noted ns o
noted_line ns (Deal o d) = noted ns o
noted_line ns (Cancel o w) = noted ns o
noted_line ns (PaidIn p) = ns
noted_line ns (DrawnOut p) = ns

abbrev pub orders : List Line → List Name
orders ls = fold noted_line [] ls

abbrev pub account : List Line → Name → OrderAccount
account ls n =
    record {
      quantity = entered ls n.unit n.serial;
      dealt = dealt ls n.unit n.serial;
      cancelled = cancelled ls n.unit n.serial;
      live = (pos (entered ls n.unit n.serial) -ℤ pos (dealt ls n.unit n.serial)) -ℤ pos (cancelled ls n.unit n.serial);
    }
