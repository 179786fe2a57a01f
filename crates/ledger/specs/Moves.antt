-- The five moves: what each answers, and what book it leaves.
--   put m a i f                    m, with the figures f for the pair a i
--   edit change m a i n            m, with the figures of the pair a i changed by n
--   to_held, to_free               a change that moves n from free to held, from held to free
--   more_free, less_free           a change that adds n to free, takes n from free
--   less_held                      a change that takes n from held
--   checked f have need e          31 unless f is an open pair's, then e if `have` is below `need`, else done
--   when_done r after m            `after` if the answer r is done, else m
--   X-answer m .. , X-after m ..   what the move X answers in the book m, and the book that it leaves
use Rattle.std.specs.Prelude.{ℕ, ◌+◌, ◌-◌, Bool, cond, ◌&&◌, Ok, Err, Result, ◌==◌, nat_lt}
use Rattle.market.specs.declared.refusal.Refusal.{Refusal}
use Rattle.market.specs.declared.refusal.Refusal.TheVariants.{PairNotOpen, FreeTooSmall, MoreThanHeld, TotalTooLarge}
use Rattle.ledger.specs.Books.{Figures, Book, total, limit}

abbrev pub Answer : Type 0
Answer = Result (Unit {0}) Refusal

abbrev pub Change : Type 0
Change = Figures → ℕ → Figures

abbrev pub same_pair : ℕ → ℕ → ℕ → ℕ → Bool
same_pair a i b j = a == b && i == j

unfoldable pub put : Book → ℕ → ℕ → Figures → Book
put m a i f b j = cond (same_pair a i b j) f (m b j)

unfoldable pub edit : Change → Book → ℕ → ℕ → ℕ → Book
edit change m a i n = put m a i (change (m a i) n)

abbrev pub to_held : Change
to_held f n = record { is_open = f.is_open; free = f.free - n; held = f.held + n }

abbrev pub to_free : Change
to_free f n = record { is_open = f.is_open; free = f.free + n; held = f.held - n }

abbrev pub more_free : Change
more_free f n = record { is_open = f.is_open; free = f.free + n; held = f.held }

abbrev pub less_free : Change
less_free f n = record { is_open = f.is_open; free = f.free - n; held = f.held }

abbrev pub less_held : Change
less_held f n = record { is_open = f.is_open; free = f.free; held = f.held - n }

abbrev pub checked : Figures → ℕ → ℕ → Refusal → Answer
checked f have need e = cond f.is_open (cond (nat_lt have need) (Err e) (Ok tt)) (Err PairNotOpen)

abbrev pub when_done : Answer → Book → Book → Book
when_done (Ok x) after m = after
when_done (Err e) after m = m

unfoldable pub hold_answer : Book → ℕ → ℕ → ℕ → Answer
hold_answer m a i n = checked (m a i) (m a i).free n FreeTooSmall

unfoldable pub hold_after : Book → ℕ → ℕ → ℕ → Book
hold_after m a i n = when_done (hold_answer m a i n) (edit to_held m a i n) m

unfoldable pub release_answer : Book → ℕ → ℕ → ℕ → Answer
release_answer m a i n = checked (m a i) (m a i).held n MoreThanHeld

unfoldable pub release_after : Book → ℕ → ℕ → ℕ → Book
release_after m a i n = when_done (release_answer m a i n) (edit to_free m a i n) m

unfoldable pub pay_in_answer : Book → ℕ → ℕ → ℕ → Answer
pay_in_answer m a i n = checked (m a i) limit (total m i + n) TotalTooLarge

unfoldable pub pay_in_after : Book → ℕ → ℕ → ℕ → Book
pay_in_after m a i n = when_done (pay_in_answer m a i n) (edit more_free m a i n) m

unfoldable pub draw_out_answer : Book → ℕ → ℕ → ℕ → Answer
draw_out_answer m a i n = checked (m a i) (m a i).free n FreeTooSmall

unfoldable pub draw_out_after : Book → ℕ → ℕ → ℕ → Book
draw_out_after m a i n = when_done (draw_out_answer m a i n) (edit less_free m a i n) m

-- from the held of a to the free of b, which may be a
unfoldable pub pass_answer : Book → ℕ → ℕ → ℕ → ℕ → Answer
pass_answer m a b i n = cond (m b i).is_open (checked (m a i) (m a i).held n MoreThanHeld) (Err PairNotOpen)

unfoldable pub pass_after : Book → ℕ → ℕ → ℕ → ℕ → Book
pass_after m a b i n = when_done (pass_answer m a b i n) (edit more_free (edit less_held m a i n) b i n) m
