use Rattle.ledger.specs.Moves.{pay_in_answer, pay_in_after}
use Rattle.ledger.specs.Laws.{PaidIn}
use Rattle.ledger.proofs.OnePair.{carried}
use Rattle.ledger.proofs.Keeping.{pay_in_law}
use Rattle.ledger.proofs.moving.paid_in.Goals as goal

pub returns : goal.returns
returns g c =
    let m = g.L.Ledger.book c.args.ledger.now in
    let e = c.pay_in.ensures in
    let k = pay_in_law m c.args.account c.args.item c.args.n (g.met.L.Ledger.lawful c.args.ledger.now) in
    record {
      answer = e.answer;
      after = e.after;
      room = e.room;
      law = carried (λ after r. PaidIn m after r c.args.account c.args.item c.args.n) _ (pay_in_after m c.args.account c.args.item c.args.n) _ (pay_in_answer m c.args.account c.args.item c.args.n) e.after e.answer k;
    }
