use Rattle.std.proofs.Common.{rules}
use Rattle.line_ledger.proofs.Opened.{kept_new, look_new}
use Rattle.line_ledger.proofs.line.LineLedger.new.Goals as goal

pub invariant_of-result-clause-kept : goal.invariant_of-result-clause-kept
invariant_of-result-clause-kept c = search (rules, kept_new)

pub returns-clause-book : goal.returns-clause-book
returns-clause-book c = search (rules, look_new)
