-- The marker's rows.
--   order_row ls n     `order`, with what the lines ls enter, deal and cancel of the order n, and what is live of it
--   deals_row ls       `deals paired` if every deal number has its two lines, and they agree; else `deals unpaired`
--   marks ls           a row for each order that the lines name, then the row on the deals
use Rattle.std.specs.Prelude.{ℕ, Bool, true, false, List, [], ◌∷◌, ◌++◌}
use Rattle.std.specs.List.{flat_map}
use Rattle.tape.specs.declared.line.Line.{Line}
use Rattle.rules.specs.declared.order.Name.{Name}
use Rattle.marking.specs.declared.account.OrderAccount.{OrderAccount}
use Rattle.marking.specs.Orders.{orders, account}
use Rattle.marking.specs.Deals.{all_paired}
use Rattle.row_text.specs.declared.cells.Cell.{Cell}
use Rattle.row_text.specs.declared.cells.Cell.TheVariants.{Word, Figure, Signed}
use Rattle.row_text.specs.declared.words.Word.{Word as a_word}
use Rattle.row_text.specs.declared.words.Word.TheVariants.{Order, Unit, Serial, Quantity, Dealt, Cancelled, Live, Deals, Paired, Unpaired}
use Rattle.row_text.specs.Cells.{row_text}

abbrev pub order_cells : Name → OrderAccount → List Cell
order_cells n a =
    Word Unit ∷ Figure n.unit
    ∷ Word Serial ∷ Figure n.serial
    ∷ Word Quantity ∷ Figure a.quantity
    ∷ Word Dealt ∷ Figure a.dealt
    ∷ Word Cancelled ∷ Figure a.cancelled
    ∷ Word Live ∷ Signed a.live
    ∷ []

abbrev pub order_row : List Line → Name → List ℕ
order_row ls n = row_text Order (order_cells n (account ls n))

abbrev pub paired_word : Bool → a_word
paired_word true = Paired
paired_word false = Unpaired

abbrev pub deals_row : List Line → List ℕ
deals_row ls = row_text Deals (Word (paired_word (all_paired ls ls)) ∷ [])

abbrev pub marks : List Line → List ℕ
marks ls = flat_map (order_row ls) (orders ls) ++ deals_row ls
