use Rattle.std.proofs.Common.{◌≡◌, List, ◌++◌, string_bytes, OnOk, subst}
use Rattle.row_text.specs.declared.cells.Cell.{Cell}
use Rattle.row_text.specs.declared.words.Word.TheVariants.{Line}
use Rattle.row_text.specs.Cells.{row_text}
use Rattle.statement.proofs.rows.push_line.Goals as goal

pub returns : goal.returns
returns c =
    subst (λ (v : List Cell). OnOk c.push_row.result (string_bytes c.push_row.new.out ≡ string_bytes c.args.out.now ++ row_text Line v)) c.line_cells.ensures c.push_row.ensures
