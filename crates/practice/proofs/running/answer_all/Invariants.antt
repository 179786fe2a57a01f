use Rattle.std.proofs.Common.{vec_items}
use Rattle.sheet.specs.Handing.{left}
use Rattle.floor.specs.View.{desk}
use Rattle.practice.specs.Working.{told}
use Rattle.practice.proofs.Turning.{Behind}
use Rattle.practice.proofs.running.answer_all.Given as goal

abbrev pub invariant-loop-numbered : goal.invariant-loop-numbered
invariant-loop-numbered g l =
    Behind g.L.PairLedger.shares (desk g.L.Ledger.book g.L.Ledger.room g.T.Tape.contents l.initial.floor) (told (left l.initial.numbered-iterator)) (vec_items l.answers) (desk g.L.Ledger.book g.L.Ledger.room g.T.Tape.contents l.floor) (vec_items l.gathered.entries) (told (left l.numbered-iterator))
