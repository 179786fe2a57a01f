use Rattle.std.proofs.Common.{sym, ap, ◌∙◌}
use Rattle.ledger.specs.Books.{Figures}
use Rattle.two_house.specs.Parts.{money, security}
use Rattle.two_house.proofs.keeping.TwoHouseLedger.free.Goals as goal

pub returns-then-item-eq-MONEY : goal.returns-then-item-eq-MONEY
returns-then-item-eq-MONEY g c =
    c.free.ensures ∙ sym (ap (λ (f : Figures). f.free) (money _ _ _ _ c.if-item-eq-MONEY.true))

pub returns-else-item-eq-MONEY : goal.returns-else-item-eq-MONEY
returns-else-item-eq-MONEY g c =
    c.free-else-item-eq-MONEY.ensures ∙ sym (ap (λ (f : Figures). f.free) (security _ _ _ _ c.if-item-eq-MONEY.false))
