-- A hold and then a pass: the smallest settlement.
--   settle_answer m a b i n   the refusal of the hold, else what the pass answers
--   settle_after m a b i n    the book that the two leave
use Rattle.std.specs.Prelude.{ℕ, Ok, Err}
use Rattle.ledger.specs.Books.{Book}
use Rattle.ledger.specs.Moves.{Answer, when_done, hold_answer, hold_after, pass_answer, pass_after}

abbrev pub if_held : Answer → Answer → Answer
if_held (Ok x) next = next
if_held (Err e) next = Err e

abbrev pub settle_answer : Book → ℕ → ℕ → ℕ → ℕ → Answer
settle_answer m a b i n = if_held (hold_answer m a i n) (pass_answer (hold_after m a i n) a b i n)

abbrev pub settle_after : Book → ℕ → ℕ → ℕ → ℕ → Book
settle_after m a b i n = when_done (hold_answer m a i n) (pass_after (hold_after m a i n) a b i n) (hold_after m a i n)
