-- The printed rows of answers.
--   layer_text l     the bytes of a layer's name
--   refused l e n    what a row says of the refusal e by the layer l, pointing at n
--   notice_of_refusal x   the same of a line that was not done for x
--   notice_of a      what a row says of the answer a
--   done_text k n    the row of line k that was done and wrote n lines; figures are in decimal digits
--   refused_text k l r n   the row of line k that the layer l refused with the number r, pointing at n
--   notice_text k n  the row of line k that says n
--   row_text k a     the row of line k that was answered a
--   rows_text k as   the rows of the answers as, the first of them to line k
--   printed r        all rows of a sheet; of one that is refused whole, the one row of line 0
use Rattle.std.specs.Prelude.{ℕ, ◌+◌, List, [], ◌∷◌, ◌++◌, Ok, Err, vec_items, codes, decimal, Result, Vec}
use Rattle.std.specs.declared.alloc.Global.{Global}
use Rattle.market.specs.declared.refusal.Refusal.{Refusal}
use Rattle.market.specs.declared.refusal.Refusal.TheVariants.{BadList}
use Rattle.market.specs.Refusals.{refusal_number}
use Rattle.sheet.specs.declared.fault.Fault.{Fault}
use Rattle.answers.specs.Answers.{Answer, sheet_refused}
use Rattle.answers.specs.declared.answer.NotDone.{NotDone}
use Rattle.answers.specs.declared.answer.NotDone.TheVariants.{Sheet, Floor, List as list_refused, Ledger, Pair}
use Rattle.answers.specs.declared.words.Layer.{Layer}
use Rattle.answers.specs.declared.words.Layer.TheVariants.{Sheet as by_sheet, Floor as by_floor, Ledger as by_ledger}
use Rattle.answers.specs.declared.words.Notice.{Notice}

abbrev pub layer_text : Layer → List ℕ
layer_text by_sheet = codes "sheet"
layer_text by_floor = codes "floor"
layer_text by_ledger = codes "ledger"

abbrev pub refused : Layer → Refusal → ℕ → Notice
refused l e n = record { layer = l; refusal = e; figure = n }

abbrev pub notice_of_refusal : NotDone → Notice
notice_of_refusal (Sheet e n) = refused by_sheet e n
notice_of_refusal (Floor e) = refused by_floor e 0
notice_of_refusal (list_refused k) = refused by_floor BadList k
notice_of_refusal (Ledger e i) = refused by_ledger e i
notice_of_refusal (Pair e i) = refused by_ledger e i

abbrev pub notice_of : Answer → Result ℕ Notice
notice_of (Ok n) = Ok n
notice_of (Err x) = Err (notice_of_refusal x)

abbrev pub done_text : ℕ → ℕ → List ℕ
done_text k n = decimal k ++ (codes " ok " ++ (decimal n ++ (10 ∷ [])))

abbrev pub refused_text : ℕ → List ℕ → ℕ → ℕ → List ℕ
refused_text k layer number figure = decimal k ++ (32 ∷ (layer ++ (32 ∷ (decimal number ++ (32 ∷ (decimal figure ++ (10 ∷ [])))))))

abbrev pub notice_text : ℕ → Result ℕ Notice → List ℕ
notice_text k (Ok n) = done_text k n
notice_text k (Err x) = refused_text k (layer_text x.layer) (refusal_number x.refusal) x.figure

abbrev pub row_text : ℕ → Answer → List ℕ
row_text k a = notice_text k (notice_of a)

abbrev pub rows_text : ℕ → List Answer → List ℕ
rows_text k [] = []
rows_text k (a ∷ as') = row_text k a ++ rows_text (k + 1) as'

abbrev pub printed : Result (Vec Answer Global) Fault → List ℕ
printed (Ok v) = rows_text 1 (vec_items v)
printed (Err f) = row_text 0 (Err (sheet_refused f))
