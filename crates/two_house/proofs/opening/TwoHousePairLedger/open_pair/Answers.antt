use Rattle.std.proofs.Common.{◌≡◌, ℕ, sym, ap, ◌∙◌, subst}
use Rattle.ledger.specs.Books.{Book, Room}
use Rattle.ledger.specs.Opening.{open_answer, open_after, SameFigures}
use Rattle.ledger.proofs.Pairs.{opened_same}
use Rattle.two_house.specs.Houses.{both, both_room}
use Rattle.two_house.specs.Parts.{both_lawful}
use Rattle.two_house.specs.Pairs.{open_in_bank, open_in_depository, money_room, security_room, room_in_bank, room_in_depository}
use Rattle.two_house.proofs.opening.TwoHousePairLedger.open_pair.Goals as goal

pub returns-then-item-eq-MONEY : goal.returns-then-item-eq-MONEY
returns-then-item-eq-MONEY g c =
    let b = c.args.self.now.bank in
    let d = c.args.self.now.depository in
    let m : Book = g.B.Ledger.book b in
    let k : Book = g.D.Ledger.book d in
    let x : Room = g.B.Ledger.room b in
    let y : Room = g.D.Ledger.room d in
    let a = c.args.account in
    let i = c.args.item in
    let z = c.if-item-eq-MONEY.true in
    let e = c.open_pair.ensures in
    let p = open_in_bank m k (x i) a i z in
    let n = money_room x y i z in
    let after : both (g.B.Ledger.book c.open_pair.new.self) k ≡ open_after (both m k) (both_room x y i) a i =
    ap (λ (v : Book). both v k) e.after ∙ p.1 ∙ ap (λ (v : ℕ). open_after (both m k) v a i) n in
    record {
      answer = e.answer ∙ p.0 ∙ ap (λ (v : ℕ). open_answer (both m k) v a i) n;
      after = after;
      room = ap (λ (v : Room). both_room v y) e.room ∙ room_in_bank c.open_pair.result g.B.PairLedger.shares g.D.PairLedger.shares x y i z;
      figures = subst (SameFigures (both m k)) (sym after) (opened_same (both m k) (both_room x y i) a i (both_lawful m k (g.met.B.Ledger.lawful b) (g.met.D.Ledger.lawful d)));
    }

pub returns-else-item-eq-MONEY : goal.returns-else-item-eq-MONEY
returns-else-item-eq-MONEY g c =
    let b = c.args.self.now.bank in
    let d = c.args.self.now.depository in
    let m : Book = g.B.Ledger.book b in
    let k : Book = g.D.Ledger.book d in
    let x : Room = g.B.Ledger.room b in
    let y : Room = g.D.Ledger.room d in
    let a = c.args.account in
    let i = c.args.item in
    let z = c.if-item-eq-MONEY.false in
    let e = c.open_pair-else-item-eq-MONEY.ensures in
    let p = open_in_depository m k (y i) a i z in
    let n = security_room x y i z in
    let after : both m (g.D.Ledger.book c.open_pair-else-item-eq-MONEY.new.self) ≡ open_after (both m k) (both_room x y i) a i =
    ap (λ (v : Book). both m v) e.after ∙ p.1 ∙ ap (λ (v : ℕ). open_after (both m k) v a i) n in
    record {
      answer = e.answer ∙ p.0 ∙ ap (λ (v : ℕ). open_answer (both m k) v a i) n;
      after = after;
      room = ap (λ (v : Room). both_room x v) e.room ∙ room_in_depository c.open_pair-else-item-eq-MONEY.result g.B.PairLedger.shares g.D.PairLedger.shares x y i z;
      figures = subst (SameFigures (both m k)) (sym after) (opened_same (both m k) (both_room x y i) a i (both_lawful m k (g.met.B.Ledger.lawful b) (g.met.D.Ledger.lawful d)));
    }
