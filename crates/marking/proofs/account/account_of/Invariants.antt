use Rattle.std.proofs.Common.{◌≡◌, ◌+◌, drop}
use Rattle.laws.specs.Accounts.{entered, dealt, cancelled}
use Rattle.marking.proofs.account.account_of.Given as goal

abbrev pub invariant-loop-line : goal.invariant-loop-line
invariant-loop-line g l =
    (l.quantity + entered (drop l.line-iterator.place (g.T.Tape.contents l.line-iterator.tape.now).lines) l.name.unit l.name.serial ≡ entered (g.T.Tape.contents l.tape).lines l.name.unit l.name.serial)
    × (l.dealt + dealt (drop l.line-iterator.place (g.T.Tape.contents l.line-iterator.tape.now).lines) l.name.unit l.name.serial ≡ dealt (g.T.Tape.contents l.tape).lines l.name.unit l.name.serial)
    × (l.cancelled + cancelled (drop l.line-iterator.place (g.T.Tape.contents l.line-iterator.tape.now).lines) l.name.unit l.name.serial ≡ cancelled (g.T.Tape.contents l.tape).lines l.name.unit l.name.serial)
