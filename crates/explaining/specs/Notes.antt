-- The rows of a sheet's answers, with their meaning beside them.
--   behind t         what stands behind the first blank of t
--   word t           what stands before it
--   note t           what a row t says, in words: nothing if it is no row of an answer
--   explained_row t  the row, then the note in brackets after a blank, if there is one, and the end of the line
--   explained t      every line of t so
use Rattle.std.specs.Prelude.{ℕ, cond, ◌||◌, List, [], ◌∷◌, ◌++◌, drop, Some, None, codes, Option}
use Rattle.std.specs.List.{flat_map}
use Rattle.std.specs.Str.{bytes_eq}
use Rattle.market.specs.declared.refusal.Refusal.{Refusal}
use Rattle.sheet_text.specs.Cuts.{before, onward}
use Rattle.sheet_text.specs.Figures.{figure}
use Rattle.sheet_text.specs.Lines.{lines}
use Rattle.explaining.specs.Meanings.{meaning, refusal_numbered}

abbrev pub word : List ℕ → List ℕ
word t = before 32 t

abbrev pub behind : List ℕ → List ℕ
behind t = drop 1 (onward 32 t)

abbrev pub accepted_note : List ℕ
accepted_note = codes "accepted"

abbrev pub refusal_note : Option Refusal → Option (List ℕ)
refusal_note None = None
refusal_note (Some r) = Some (meaning r)

abbrev pub number_note : Option ℕ → Option (List ℕ)
number_note None = None
number_note (Some n) = refusal_note (refusal_numbered n)

-- who answered, and by which number
abbrev pub note_by : List ℕ → List ℕ → Option (List ℕ)
note_by layer number =
    cond (bytes_eq layer (codes "ok")) (Some accepted_note)
    (cond (bytes_eq layer (codes "sheet") || (bytes_eq layer (codes "floor") || bytes_eq layer (codes "ledger"))) (number_note (figure number))
    None)

abbrev pub note : List ℕ → Option (List ℕ)
note t = note_by (word (behind t)) (word (behind (behind t)))

abbrev pub in_brackets : Option (List ℕ) → List ℕ
in_brackets None = []
in_brackets (Some w) = codes " (" ++ w ++ codes ")"

abbrev pub explained_row : List ℕ → List ℕ
explained_row t = t ++ in_brackets (note t) ++ (10 ∷ [])

abbrev pub explained : List ℕ → List ℕ
explained t = flat_map explained_row (lines t)
