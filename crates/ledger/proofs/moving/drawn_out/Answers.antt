use Rattle.ledger.specs.Moves.{draw_out_answer, draw_out_after}
use Rattle.ledger.specs.Laws.{DrawnOut}
use Rattle.ledger.proofs.OnePair.{carried}
use Rattle.ledger.proofs.Keeping.{draw_out_law}
use Rattle.ledger.proofs.moving.drawn_out.Goals as goal

pub returns : goal.returns
returns g c =
    let m = g.L.Ledger.book c.args.ledger.now in
    let e = c.draw_out.ensures in
    let k = draw_out_law m c.args.account c.args.item c.args.n (g.met.L.Ledger.lawful c.args.ledger.now) in
    record {
      answer = e.answer;
      after = e.after;
      room = e.room;
      law = carried (λ after r. DrawnOut m after r c.args.account c.args.item c.args.n) _ (draw_out_after m c.args.account c.args.item c.args.n) _ (draw_out_answer m c.args.account c.args.item c.args.n) e.after e.answer k;
    }
