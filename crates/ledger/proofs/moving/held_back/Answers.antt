use Rattle.ledger.specs.Moves.{hold_answer, hold_after}
use Rattle.ledger.specs.Laws.{Held}
use Rattle.ledger.proofs.OnePair.{carried}
use Rattle.ledger.proofs.Keeping.{hold_law}
use Rattle.ledger.proofs.moving.held_back.Goals as goal

pub returns : goal.returns
returns g c =
    let m = g.L.Ledger.book c.args.ledger.now in
    let e = c.hold.ensures in
    let k = hold_law m c.args.account c.args.item c.args.n (g.met.L.Ledger.lawful c.args.ledger.now) in
    record {
      answer = e.answer;
      after = e.after;
      room = e.room;
      law = carried (λ after r. Held m after r c.args.account c.args.item c.args.n) _ (hold_after m c.args.account c.args.item c.args.n) _ (hold_answer m c.args.account c.args.item c.args.n) e.after e.answer k;
    }
