-- Opening a pair, at any ledger that can open one.
--   new_pair                 the figures of a pair just opened
--   open_answer m n a i      11 out of range, then 35 if the pair is open already, then 36 if n, the room, is 0
--   open_after m n a i       the book that the opening leaves
--   Sharing                  which items share places: a pair opened of one leaves less room for the others
--   room_after r share i x   the room x after an opening of item i that answered r: if it was done, each item that
--                            shares places with i has one less
--   SameFigures m after      every pair has free and held what it had, and every total stays
use Rattle.std.specs.Prelude.{◌≡◌, ℕ, ◌-◌, Bool, true, cond, Ok, Err, nat_lt}
use Rattle.market.specs.declared.refusal.Refusal.TheVariants.{OutOfRange, PairOpen, NoLedgerLine}
use Rattle.ledger.specs.Books.{Figures, Book, Room, in_range, total}
use Rattle.ledger.specs.Moves.{Answer, put, when_done}

abbrev pub new_pair : Figures
new_pair = record { is_open = true; free = 0; held = 0 }

unfoldable pub open_answer : Book → ℕ → ℕ → ℕ → Answer
open_answer m room a i =
    cond (in_range a i)
    (cond (m a i).is_open (Err PairOpen)
    (cond (nat_lt 0 room) (Ok tt) (Err NoLedgerLine)))
    (Err OutOfRange)

unfoldable pub open_after : Book → ℕ → ℕ → ℕ → Book
open_after m room a i = when_done (open_answer m room a i) (put m a i new_pair) m

abbrev pub Sharing : Type 0
Sharing = ℕ → ℕ → Bool

abbrev pub room_after : Answer → Sharing → ℕ → Room → Room
room_after (Ok x) share i room = λ j. cond (share i j) (room j - 1) (room j)
room_after (Err e) share i room = room

pub record SameFigures (m after : Book) : Type 0 where
  pub free : (a i : ℕ) → (after a i).free ≡ (m a i).free
  pub held : (a i : ℕ) → (after a i).held ≡ (m a i).held
  pub totals : (i : ℕ) → total after i ≡ total m i
