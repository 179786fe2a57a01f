use Rattle.ledger.specs.Moves.{pass_answer, pass_after}
use Rattle.ledger.specs.Laws.{Passed}
use Rattle.ledger.proofs.OnePair.{carried}
use Rattle.ledger.proofs.Passing.{pass_law}
use Rattle.ledger.proofs.moving.passed_on.Goals as goal

pub returns : goal.returns
returns g c =
    let m = g.L.Ledger.book c.args.ledger.now in
    let e = c.pass.ensures in
    let k = pass_law m c.args.from c.args.to c.args.item c.args.n (g.met.L.Ledger.lawful c.args.ledger.now) in
    record {
      answer = e.answer;
      after = e.after;
      room = e.room;
      law = carried (λ after r. Passed m after r c.args.from c.args.to c.args.item c.args.n) _ (pass_after m c.args.from c.args.to c.args.item c.args.n) _ (pass_answer m c.args.from c.args.to c.args.item c.args.n) e.after e.answer k;
    }
