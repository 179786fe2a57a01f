-- Securities gathered for the next opening.
--   most_figure              no figure of a security may be larger
--   writable c k l h         whether the code c, the class k, the lowest price l and the highest h are no larger
--   small n                  the figure n, or 11 by the sheet where it is larger
--   list_entry c k l h       the entry of a list that they make
--   with_entry b e           the entry e where b holds
--   gather_answer g c k l h  what a line with them is answered behind the gathered g: 11 by the sheet for a figure that
--                            is too large, then 44 where 64 are gathered
--   gather_after g c k l h   what is gathered afterwards
use Rattle.std.specs.Prelude.{ℕ, Bool, true, false, cond, ◌&&◌, List, [], ◌∷◌, ◌++◌, length, Some, None, Ok, Err, Option, Result, nat_le, nat_lt}
use Rattle.market.specs.declared.refusal.Refusal.TheVariants.{OutOfRange, BadList}
use Rattle.rules.specs.declared.security.ListEntry.{ListEntry}
use Rattle.rules.specs.Listing.{most_securities}
use Rattle.sheet.specs.declared.fault.Fault.{Fault}
use Rattle.sheet.specs.Faults.{fault}
use Rattle.answers.specs.Answers.{Answer, sheet_refused}

abbrev pub most_figure : ℕ
most_figure = 99999999

abbrev pub writable : ℕ → ℕ → ℕ → ℕ → Bool
writable c k l h = nat_le c most_figure && (nat_le k most_figure && (nat_le l most_figure && nat_le h most_figure))

-- a figure as an entry holds it, or the sheet's refusal
abbrev pub small : ℕ → Result ℕ Fault
small n = cond (nat_le n most_figure) (Ok n) (Err (fault OutOfRange 0))

abbrev pub list_entry : ℕ → ℕ → ℕ → ℕ → ListEntry
list_entry c k l h = record { code = c; class = k; low = l; high = h }

abbrev pub with_entry : Bool → ListEntry → Option ListEntry
with_entry true e = Some e
with_entry false e = None

abbrev pub gather_answer : List ListEntry → ℕ → ℕ → ℕ → ℕ → Answer
gather_answer g c k l h =
    cond (writable c k l h) (cond (nat_lt (length g) most_securities) (Ok 0) (Err (sheet_refused (fault BadList 0)))) (Err (sheet_refused (fault OutOfRange 0)))

abbrev pub gather_after : List ListEntry → ℕ → ℕ → ℕ → ℕ → List ListEntry
gather_after g c k l h = cond (writable c k l h) (cond (nat_lt (length g) most_securities) (g ++ (list_entry c k l h ∷ [])) g) g
