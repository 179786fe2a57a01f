use Rattle.std.proofs.Common.{◌∙◌}
use Rattle.two_house.specs.Parts.{both_security}
use Rattle.two_house.proofs.keeping.TwoHouseLedger.any_security_held.Goals as goal

pub returns : goal.returns
returns g c =
    c.any_security_held.ensures ∙ both_security (g.B.Ledger.book c.args.self.now.bank) (g.D.Ledger.book c.args.self.now.depository)
