use Rattle.practice.proofs.Lawfully.{lawfully, made_more}
use Rattle.practice.proofs.running.run_sheet.Goals as goal

pub returns : goal.returns
returns g c =
    made_more _ _ c.answer_sheet.result (λ p. lawfully _ _ _ _ _ _ _ (g.met.L.Ledger.lawful c.args.ledger)) c.answer_sheet.ensures
