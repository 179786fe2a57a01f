use Rattle.std.proofs.Common.{arith}
use Rattle.std.proofs.lemmas.Grind.{common_steps}
use Rattle.line_ledger.proofs.Writing.{kept_again}
use Rattle.line_ledger.proofs.keeping.LineLedgerLedger.pass.Goals as goal

pub invariant_of-self-clause-kept : goal.invariant_of-self-clause-kept
invariant_of-self-clause-kept c =
    kept_again _ _ c.index_mut.result.now _ _ _ c.index_mut-2.result.now _ _ c.args.self.now.kept c.in_ok-giver.ensures.inside c.in_ok-taker.ensures.inside c.index_mut.ensures.value
    (grind (arith, common_steps)) (grind (arith, common_steps)) c.index_mut-2.ensures.value (grind (arith, common_steps))
