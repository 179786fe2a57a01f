-- The rows of a statement.
--   heading_row c       `tape`, with date and count of lines
--   line_row k l        `line`, with every field of line k, in words and figures
--   line_rows k ls      the rows of lines that are numbered from k on
--   net_row ls p        `net`, with what came to the pair p and went by the lines ls, and the difference
use Rattle.std.specs.Prelude.{ℕ, ◌+◌, List, [], ◌∷◌, ◌++◌, length}
use Rattle.tape.specs.declared.line.Line.{Line as a_line}
use Rattle.tape.specs.declared.net.Movement.{Movement}
use Rattle.tape.specs.Tapes.{Contents}
use Rattle.tape.specs.Nets.{movement_of}
use Rattle.layout.specs.Rows.{row_of}
use Rattle.row_text.specs.declared.cells.Cell.{Cell}
use Rattle.row_text.specs.declared.cells.Cell.TheVariants.{Word, Figure, Signed}
use Rattle.statement.specs.declared.pairs.Pair.{Pair}
use Rattle.row_text.specs.declared.words.Word.TheVariants.{Tape, Date, Lines, Line, Deal, Reason, Unit, Serial, Item, Account, Quantity, Price, Agreement, Time, Net, Coming, Going}
use Rattle.statement.specs.Words.{kind_word, order_words}
use Rattle.row_text.specs.Cells.{row_text}

abbrev pub heading_cells : ℕ → ℕ → List Cell
heading_cells d n = Word Date ∷ Figure d ∷ Word Lines ∷ Figure n ∷ []

abbrev pub heading_row : Contents → List ℕ
heading_row c = row_text Tape (heading_cells c.date (length c.lines))

abbrev pub line_cells : ℕ → a_line → List Cell
line_cells k l =
    Figure k ∷ Word (kind_word l)
    ∷ Word (order_words l).side ∷ Word (order_words l).kind
    ∷ Word Reason ∷ Word (order_words l).reason
    ∷ Word Unit ∷ Figure (row_of l).unit
    ∷ Word Serial ∷ Figure (row_of l).serial
    ∷ Word Item ∷ Figure (row_of l).item
    ∷ Word Account ∷ Figure (row_of l).account
    ∷ Word Quantity ∷ Figure (row_of l).quantity
    ∷ Word Price ∷ Figure (row_of l).price
    ∷ Word Agreement ∷ Figure (row_of l).agreement
    ∷ Word Deal ∷ Figure (row_of l).deal
    ∷ Word Time ∷ Figure (row_of l).time
    ∷ []

abbrev pub line_row : ℕ → a_line → List ℕ
line_row k l = row_text Line (line_cells k l)

abbrev pub line_rows : ℕ → List a_line → List ℕ
line_rows k [] = []
line_rows k (l ∷ ls) = line_row k l ++ line_rows (k + 1) ls

abbrev pub net_cells : Pair → Movement → List Cell
net_cells p m =
    Word Account ∷ Figure p.account
    ∷ Word Item ∷ Figure p.item
    ∷ Word Coming ∷ Figure m.coming
    ∷ Word Going ∷ Figure m.going
    ∷ Word Net ∷ Signed m.net
    ∷ []

abbrev pub net_row : List a_line → Pair → List ℕ
net_row ls p = row_text Net (net_cells p (movement_of ls p.account p.item))
