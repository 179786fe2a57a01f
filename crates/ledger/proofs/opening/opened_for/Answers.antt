use Rattle.std.proofs.Common.{◌<◌, sym, rules}
use Rattle.ledger.proofs.Pairs.{answered_outside, left_outside}
use Rattle.ledger.proofs.opening.opened_for.Goals as goal

pub returns-in_default-clause-answer : goal.returns-in_default-clause-answer
returns-in_default-clause-answer g c =
    let h : 4294967295 < c.args.item = search rules in
    sym (answered_outside (g.L.Ledger.book c.args.ledger.now) (g.L.Ledger.room c.args.ledger.now c.args.item) c.args.account c.args.item h)

pub returns-in_default-clause-after : goal.returns-in_default-clause-after
returns-in_default-clause-after g c =
    let h : 4294967295 < c.args.item = search rules in
    sym (left_outside (g.L.Ledger.book c.args.ledger.now) (g.L.Ledger.room c.args.ledger.now c.args.item) c.args.account c.args.item h)
