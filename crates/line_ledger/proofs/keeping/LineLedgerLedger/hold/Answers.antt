use Rattle.std.proofs.Common.{arith}
use Rattle.std.proofs.lemmas.Grind.{common_steps}
use Rattle.ledger.specs.Books.{limit}
use Rattle.line_ledger.proofs.Writing.{row_fits, kept_written}
use Rattle.line_ledger.proofs.keeping.LineLedgerLedger.hold.Goals as goal

pub invariant_of-self-2-clause-kept : goal.invariant_of-self-2-clause-kept
unfolding limit
invariant_of-self-2-clause-kept c =
    kept_written _ _ c.index_mut-p.result.now _ _ c.args.self.now.kept c.in_ok-k.ensures.inside c.index_mut-p.ensures.value (grind (arith, common_steps, row_fits))
