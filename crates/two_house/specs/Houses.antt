-- One ledger of two.
--   both m d        the book of the two: item 0 is of the bank's book m, every other of the depository's d
--   both_room x y   the same of the room for pairs
--   both_share x y  which items share places: of item 0 by the bank's x, of every other by the depository's y
use Rattle.std.specs.Prelude.{cond, not, ◌&&◌, ◌==◌}
use Rattle.ledger.specs.Books.{Book, Room}
use Rattle.ledger.specs.Opening.{Sharing}

unfoldable pub both : Book → Book → Book
both m d a i = cond (i == 0) (m a i) (d a i)

unfoldable pub both_room : Room → Room → Room
both_room x y i = cond (i == 0) (x i) (y i)

unfoldable pub both_share : Sharing → Sharing → Sharing
both_share x y i j = cond (i == 0) (j == 0 && x i j) (not (j == 0) && y i j)
