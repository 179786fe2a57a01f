use Rattle.std.proofs.Common.{rules}
use Rattle.line_ledger.proofs.Opened.{kept_opened}
use Rattle.line_ledger.proofs.line.LineLedger.open_pair.Goals as goal

pub invariant_of-self-clause-kept : goal.invariant_of-self-clause-kept
invariant_of-self-clause-kept c = search (rules, kept_opened, c.if-not-pair_in_range.ensures, c.if-is_open.ensures)
