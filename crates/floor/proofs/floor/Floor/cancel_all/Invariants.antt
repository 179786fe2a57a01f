use Rattle.std.proofs.Common.{◌≡◌}
use Rattle.floor.specs.View.{view, room_of}
use Rattle.floor.proofs.Closings.{Closing}
use Rattle.floor.proofs.floor.Floor.cancel_all.Given as goal

abbrev pub invariant-loop-k : goal.invariant-loop-k
invariant-loop-k g l =
    Closing (view g.L.Ledger.book g.T.Tape.contents l.initial.self) (view g.L.Ledger.book g.T.Tape.contents l.self) l.k
    × (room_of g.L.Ledger.room l.self ≡ room_of g.L.Ledger.room l.initial.self)
