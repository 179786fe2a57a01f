use Rattle.std.proofs.Common.{◌≤◌, length, inl, arith}
use Rattle.sheet.specs.Handing.{left}
use Rattle.sheet.proofs.Counting.{few_lines}
use Rattle.sheet_tests.proofs.count_lines.Goals as goal

pub count-requires-clause-fits : goal.count-requires-clause-fits
count-requires-clause-fits c =
    let few : length (left c.in_ok-new.field-0) ≤ 65536 = few_lines c.args.sheet.now _ c.in_ok-new.ensures.answer in
    inl (omega (arith, few))
