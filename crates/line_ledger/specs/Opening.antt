-- How a line ledger begins, and what an opening leaves of its room. The rest of an opening is that of every ledger.
--   no_pairs              the book in which no pair is open
--   room_of places used   how many pairs can still be opened: at most 1,024 places are used
--   room_after r room     the room after an opening that answered r: one place less if it was done
use Rattle.std.specs.Prelude.{ℕ, ◌-◌, min}
use Rattle.ledger.specs.Books.{Book, nothing}
use Rattle.ledger.specs.Moves.{Answer}
use Rattle.ledger.specs.Opening.{room_after as rooms_after}
use Rattle.line_ledger.specs.Sharing.{all_share}

abbrev pub no_pairs : Book
no_pairs a i = nothing

abbrev pub room_of : ℕ → ℕ → ℕ
room_of places used = min places 1024 - used

abbrev pub room_after : Answer → ℕ → ℕ
room_after r room = rooms_after r all_share 0 (λ i. room) 0
