-- How a floor stands.
--   state f                 the state that the floor f stands for
--   room f                  how many pairs its ledger can still open
--   whole f                 both together
--   view book contents f    the state that the floor f stands for, given what its ledger and its tape mean
--   room_of room f          how many pairs its ledger can still open
--   desk book room contents f   both together
--   ledger_of f, tape_of f  its ledger and its tape
--   moved r s t             t after a move that was done, s after one that was refused
use Rattle.std.specs.Prelude.{Ok, Err}
use Rattle.ledger.specs.declared.ledger.Ledger.{Ghosts as LedgerGhosts}
use Rattle.ledger.specs.Books.{Book, Room}
use Rattle.ledger.specs.Moves.{Answer as Moved}
use Rattle.tape.specs.declared.tape.Tape.{Ghosts as TapeGhosts}
use Rattle.tape.specs.Tapes.{Contents}
use Rattle.rules.specs.State.{State}
use Rattle.rules.specs.Steps.{Desk}
use Rattle.floor_day.specs.Days.{state_of}
use Rattle.floor.specs.declared.floor.Floor.{Floor}

abbrev pub view : {L T : Type 0} {K : LedgerGhosts L} {H : TapeGhosts T} → (L → Book) → (T → Contents) → Floor L T K H → State
view book contents f = state_of f.day (book f.ledger) (contents f.tape)

abbrev pub room_of : {L T : Type 0} {K : LedgerGhosts L} {H : TapeGhosts T} → (L → Room) → Floor L T K H → Room
room_of room f = room f.ledger

abbrev pub desk : {L T : Type 0} {K : LedgerGhosts L} {H : TapeGhosts T} → (L → Book) → (L → Room) → (T → Contents) → Floor L T K H → Desk
desk book room contents f = record { state = view book contents f; room = room_of room f }

abbrev pub state : {L T : Type 0} {K : LedgerGhosts L} {H : TapeGhosts T} → Floor L T K H → State
state {K = K} {H = H} f = view K.book H.contents f

abbrev pub room : {L T : Type 0} {K : LedgerGhosts L} {H : TapeGhosts T} → Floor L T K H → Room
room {K = K} f = room_of K.room f

abbrev pub whole : {L T : Type 0} {K : LedgerGhosts L} {H : TapeGhosts T} → Floor L T K H → Desk
whole {K = K} {H = H} f = desk K.book K.room H.contents f

abbrev pub ledger_of : {L T : Type 0} {K : LedgerGhosts L} {H : TapeGhosts T} → Floor L T K H → L
ledger_of f = f.ledger

abbrev pub tape_of : {L T : Type 0} {K : LedgerGhosts L} {H : TapeGhosts T} → Floor L T K H → T
tape_of f = f.tape

abbrev pub moved : Moved → State → State → State
moved (Ok x) s t = t
moved (Err e) s t = s
