use Rattle.std.proofs.Common.{◌≡◌, List, ◌++◌, string_bytes, OnOk, subst, ap, ◌∙◌}
use Rattle.marking.specs.declared.account.OrderAccount.{OrderAccount}
use Rattle.row_text.specs.declared.cells.Cell.{Cell}
use Rattle.row_text.specs.declared.words.Word.TheVariants.{Order}
use Rattle.row_text.specs.Cells.{row_text}
use Rattle.marker_rows.specs.Marks.{order_cells}
use Rattle.marker_rows.proofs.marks.push_order.Goals as goal

pub returns : goal.returns
returns g c =
    subst (λ (v : List Cell). OnOk c.push_row.result (string_bytes c.push_row.new.out ≡ string_bytes c.args.out.now ++ row_text Order v))
    (c.order_cells.ensures ∙ ap (λ (a : OrderAccount). order_cells c.args.name a) c.account_of-account.ensures)
    c.push_row.ensures
