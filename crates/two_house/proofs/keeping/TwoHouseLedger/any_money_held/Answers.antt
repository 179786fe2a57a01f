use Rattle.std.proofs.Common.{◌∙◌}
use Rattle.two_house.specs.Parts.{both_money}
use Rattle.two_house.proofs.keeping.TwoHouseLedger.any_money_held.Goals as goal

pub returns : goal.returns
returns g c =
    c.any_money_held.ensures ∙ both_money (g.B.Ledger.book c.args.self.now.bank) (g.D.Ledger.book c.args.self.now.depository)
