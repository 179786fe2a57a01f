use Rattle.std.proofs.Common.{◌≡◌, ◌≤◌, map, length, take, vec_items, vec_len, vec_capacity}
use Rattle.floor.specs.View.{view, room_of}
use Rattle.runs.specs.Acts.{act_of}
use Rattle.runs.proofs.Told.{Told}
use Rattle.runs.proofs.running.run.Given as goal

abbrev pub invariant-loop-call : goal.invariant-loop-call
invariant-loop-call g l =
    Told (view g.L.Ledger.book g.T.Tape.contents l.initial.floor) (map act_of (take l.call-index l.calls)) (vec_items l.answers) (view g.L.Ledger.book g.T.Tape.contents l.floor)
    × (room_of g.L.Ledger.room l.floor ≡ room_of g.L.Ledger.room l.initial.floor)
    × (vec_len l.answers ≡ l.call-index)
    × (length l.calls ≤ vec_capacity l.answers)
