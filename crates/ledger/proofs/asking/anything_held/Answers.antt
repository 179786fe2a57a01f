use Rattle.ledger.proofs.Holding.{held_says, money_found, money_not}
use Rattle.ledger.proofs.asking.anything_held.Goals as goal

pub returns-then-money : goal.returns-then-money
returns-then-money g c =
    let m = g.L.Ledger.book c.args.ledger.now in
    let e = money_found m c.any_money_held-money.result c.any_money_held-money.ensures c.if-money.true in
    record { answer = e; says = held_says m c.any_money_held-money.result (g.met.L.Ledger.lawful c.args.ledger.now) e }

pub returns-else-money : goal.returns-else-money
returns-else-money g c =
    let m = g.L.Ledger.book c.args.ledger.now in
    let e = money_not m c.any_security_held-security.result c.any_security_held-security.ensures c.if-money.ensures in
    record { answer = e; says = held_says m c.any_security_held-security.result (g.met.L.Ledger.lawful c.args.ledger.now) e }
