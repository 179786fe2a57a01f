use Rattle.std.proofs.Common.{◌≡◌, ◌++◌, take, string_bytes}
use Rattle.std.specs.List.{flat_map}
use Rattle.statement.specs.Rows.{net_row}
use Rattle.statement.proofs.rows.push_nets.Given as goal

abbrev pub invariant-loop-p : goal.invariant-loop-p
invariant-loop-p g l = string_bytes l.out ≡ string_bytes l.initial.out ++ flat_map (net_row (g.T.Tape.contents l.tape).lines) (take l.p-index l.pairs)
