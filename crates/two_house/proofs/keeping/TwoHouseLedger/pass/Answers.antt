use Rattle.std.proofs.Common.{ap, ◌∙◌}
use Rattle.ledger.specs.Books.{Book, Room}
use Rattle.two_house.specs.Houses.{both, both_room}
use Rattle.two_house.specs.Sides.{pass_in_bank, pass_in_depository}
use Rattle.two_house.proofs.keeping.TwoHouseLedger.pass.Goals as goal

pub returns-then-item-eq-MONEY : goal.returns-then-item-eq-MONEY
returns-then-item-eq-MONEY g c =
    let b = c.args.self.now.bank in
    let d = c.args.self.now.depository in
    let p = pass_in_bank (g.B.Ledger.book b) (g.D.Ledger.book d) c.args.from c.args.to c.args.item c.args.n c.if-item-eq-MONEY.true in
    let e = c.pass.ensures in
    record {
      answer = e.answer ∙ p.0;
      after = ap (λ (x : Book). both x (g.D.Ledger.book d)) e.after ∙ p.1;
      room = ap (λ (x : Room). both_room x (g.D.Ledger.room d)) e.room;
    }

pub returns-else-item-eq-MONEY : goal.returns-else-item-eq-MONEY
returns-else-item-eq-MONEY g c =
    let b = c.args.self.now.bank in
    let d = c.args.self.now.depository in
    let p = pass_in_depository (g.B.Ledger.book b) (g.D.Ledger.book d) c.args.from c.args.to c.args.item c.args.n c.if-item-eq-MONEY.false in
    let e = c.pass-else-item-eq-MONEY.ensures in
    record {
      answer = e.answer ∙ p.0;
      after = ap (λ (x : Book). both (g.B.Ledger.book b) x) e.after ∙ p.1;
      room = ap (λ (x : Room). both_room (g.B.Ledger.room b) x) e.room;
    }
