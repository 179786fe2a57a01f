use Rattle.ledger.specs.Moves.{release_answer, release_after}
use Rattle.ledger.specs.Laws.{Released}
use Rattle.ledger.proofs.OnePair.{carried}
use Rattle.ledger.proofs.Keeping.{release_law}
use Rattle.ledger.proofs.moving.released.Goals as goal

pub returns : goal.returns
returns g c =
    let m = g.L.Ledger.book c.args.ledger.now in
    let e = c.release.ensures in
    let k = release_law m c.args.account c.args.item c.args.n (g.met.L.Ledger.lawful c.args.ledger.now) in
    record {
      answer = e.answer;
      after = e.after;
      room = e.room;
      law = carried (λ after r. Released m after r c.args.account c.args.item c.args.n) _ (release_after m c.args.account c.args.item c.args.n) _ (release_answer m c.args.account c.args.item c.args.n) e.after e.answer k;
    }
