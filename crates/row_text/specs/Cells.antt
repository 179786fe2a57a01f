-- Rows of text.
--   cell_text c     the bytes of a cell: a word, or a figure in decimal digits
--   after_blank c   the same after a blank
--   row_text w cs   a row: its first word, its cells each after a blank, the end of the line
--   Pushed r s t x  if r is Ok, the text t is s with the bytes x behind it
use Rattle.std.specs.Prelude.{◌≡◌, ℕ, List, [], ◌∷◌, ◌++◌, decimal, Result, OnOk, String, string_bytes}
use Rattle.std.specs.List.{flat_map}
use Rattle.std.specs.Fmt.{signed_decimal}
use Rattle.row_text.specs.declared.cells.Cell.{Cell}
use Rattle.row_text.specs.declared.cells.Cell.TheVariants.{Word, Figure, Signed}
use Rattle.row_text.specs.declared.words.Word.{Word as a_word}
use Rattle.row_text.specs.Words.{word_text}

abbrev pub cell_text : Cell → List ℕ
cell_text (Word w) = word_text w
cell_text (Figure n) = decimal n
cell_text (Signed z) = signed_decimal z

abbrev pub after_blank : Cell → List ℕ
after_blank c = 32 ∷ cell_text c

abbrev pub row_text : a_word → List Cell → List ℕ
row_text w cs = word_text w ++ flat_map after_blank cs ++ (10 ∷ [])

abbrev pub Pushed : {X E Z : Type 0} → Result X E → String Z → String Z → List ℕ → Type 0
Pushed r s t x = OnOk r (string_bytes t ≡ string_bytes s ++ x)
