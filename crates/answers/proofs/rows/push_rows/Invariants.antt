use Rattle.std.proofs.Common.{◌≡◌, ◌+◌, ◌++◌, drop, string_bytes}
use Rattle.answers.specs.Rows.{rows_text}
use Rattle.answers.proofs.rows.push_rows.Given as goal

abbrev pub invariant-loop-k : goal.invariant-loop-k
invariant-loop-k l = string_bytes l.out ++ rows_text (l.k + 1) (drop l.k l.answers) ≡ string_bytes l.initial.out ++ rows_text 1 l.answers
