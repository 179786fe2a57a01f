use Rattle.std.proofs.Common.{arith}
use Rattle.ledger.specs.Books.{limit}
use Rattle.ledger.proofs.Fairly.{figures_fit}
use Rattle.ledger.proofs.asking.has_in_all.Goals as goal

pub overflow_add-result : goal.overflow_add-result
unfolding limit
overflow_add-result g c =
    let f = figures_fit (g.L.Ledger.book c.args.ledger.now) c.args.account c.args.item (g.met.L.Ledger.lawful c.args.ledger.now) in
    let x = c.free.ensures in
    let y = c.held.ensures in
    omega arith
