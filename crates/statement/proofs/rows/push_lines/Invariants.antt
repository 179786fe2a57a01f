use Rattle.std.proofs.Common.{◌≡◌, ◌++◌, drop, string_bytes}
use Rattle.statement.specs.Rows.{line_rows}
use Rattle.statement.proofs.rows.push_lines.Given as goal

abbrev pub invariant-loop-k : goal.invariant-loop-k
invariant-loop-k g l =
    string_bytes l.out ++ line_rows l.k-iterator.count (drop l.k-iterator.iter.place (g.T.Tape.contents l.k-iterator.iter.tape.now).lines)
    ≡ string_bytes l.initial.out ++ line_rows 0 (g.T.Tape.contents l.tape).lines
