-- The lines of a sheet as a reader hands them out.
--   Handed           a line with its place in the sheet
--   numbered f k ls  what the lines ls say, the first of them standing at place k and each next at f of the one before
--   sheet_lines t    the same of all lines of the sheet t, counted 1, 2, 3 and so on
--   next_place k     the place behind k in a count of 64 bits, which stops at its end; no sheet has so many lines
--   left r           what the reader r has still to hand out
--   handed x         what an answer of the reader says
--   then a hs        what a reader had left that answered a and now has hs left
--   first_of hs, rest_of hs   the first of some lines, if any, and the others
--   opening t        what a reader of the sheet t has to hand out, or the refusal of a sheet over 65,536 bytes
--   opened r         what the reader in r has to hand out, or the refusal
use Rattle.std.specs.Prelude.{ℕ, ◌+◌, min, cond, List, [], ◌∷◌, length, Some, None, Ok, Err, Option, Result, nat_le}
use Rattle.market.specs.declared.refusal.Refusal.TheVariants.{SheetTooLong}
use Rattle.sheet_text.specs.Lines.{lines}
use Rattle.sheet.specs.declared.fault.Fault.{Fault}
use Rattle.sheet.specs.declared.line.Numbered.{Numbered}
use Rattle.sheet.specs.declared.reader.Reader.{Reader}
use Rattle.sheet.specs.Faults.{fault}
use Rattle.sheet.specs.Told.{Told, says}
use Rattle.sheet.specs.Parsing.{parsed}

pub record Handed : Type 0 where
  pub place : ℕ
  pub line : Told

abbrev pub numbered : (ℕ → ℕ) → ℕ → List (List ℕ) → List Handed
numbered f k [] = []
numbered f k (l ∷ ls) = record { place = k; line = parsed l } ∷ numbered f (f k) ls

abbrev pub sheet_lines : List ℕ → List Handed
sheet_lines t = numbered (λ k. k + 1) 1 (lines t)

abbrev pub next_place : ℕ → ℕ
next_place k = min (k + 1) 18446744073709551615

unfoldable pub left : Reader → List Handed
left r = numbered next_place r.place (lines r.rest.now)

abbrev pub handed : Numbered → Handed
handed x = record { place = x.place; line = says x.line }

abbrev pub then : Option Numbered → List Handed → List Handed
then None hs = []
then (Some x) hs = handed x ∷ hs

abbrev pub first_of : List Handed → Option Handed
first_of [] = None
first_of (h ∷ hs) = Some h

abbrev pub rest_of : List Handed → List Handed
rest_of [] = []
rest_of (h ∷ hs) = hs

abbrev pub opening : List ℕ → Result (List Handed) Fault
opening t = cond (nat_le (length t) 65536) (Ok (sheet_lines t)) (Err (fault SheetTooLong 0))

abbrev pub opened : Result Reader Fault → Result (List Handed) Fault
opened (Ok r) = Ok (left r)
opened (Err e) = Err e
