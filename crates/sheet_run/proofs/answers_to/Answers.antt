use Rattle.std.proofs.Common.{vec_len}
use Rattle.line_ledger.specs.Lines.{line_book, line_room}
use Rattle.tape.specs.Records.{recorded}
use Rattle.whole_runs.specs.Law.{new_desk}
use Rattle.sheet_run.specs.Printing.{begun}
use Rattle.sheet_run.proofs.Begun.{begins, prints}
use Rattle.sheet_run.proofs.answers_to.Goals as goal

pub returns : goal.returns
returns c =
    let l = c.new-ledger.result in
    let t = c.new-tape.result in
    prints c.text_of.result (new_desk (line_book l) (λ i. line_room l) (recorded t)) (begun c.args.pairs c.args.lines) _ c.args.sheet.now c.in_ok-practice.practice.answers
    (begins (line_book l) (line_room l) (vec_len c.in_ok-vec.field-0) c.args.pairs (vec_len c.in_ok-vec-2.field-0) c.args.lines (recorded t) c.new-ledger.ensures.book c.new-ledger.ensures.room c.in_ok-vec.ensures.len c.new-tape.ensures c.in_ok-vec-2.ensures.len)
    c.in_ok-practice.ensures
    c.text_of.ensures
