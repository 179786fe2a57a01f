use Rattle.std.proofs.Common.{◌≡◌, take, sum_by}
use Rattle.line_ledger.proofs.Summing.{weight}
use Rattle.line_ledger.proofs.line.LineLedger.total_of.Given as goal

abbrev pub invariant-loop-p : goal.invariant-loop-p
invariant-loop-p l = l.sum ≡ sum_by (weight l.item) (take l.p-index l.p-items)
