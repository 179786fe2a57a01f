-- What the moves come to, in the words of an account holder and of the house.
--   has m a i         what account a has of item i, free and held together
--   done r n          n if the answer r is done, else 0: what was moved
--   at a i n b j      n, if b j is the pair a i, else 0
--   of i n j          n, if j is the item i, else 0
--   Leaves r m after  a refusal leaves the book as it was
--   Stays m after     no pair opens or closes
--   Else a i m after  every pair but a i stays
-- Each law says what a move that answered r made of the book m. For every pair: what is free, what is
-- held, what the account has; for every item: its total. What was lost is added on the left side, what was
-- gained on the right.
--   Held m after r a i n       n moved from free to held; what everyone has, and every total, stays
--   Released m after r a i n   n moved from held to free; the same stays
--   Passed m after r a b i n   n moved from the held of a to the free of b; every total stays
--   PaidIn m after r a i n     n more free, for the account and in the total
--   DrawnOut m after r a i n   n less free, for the account and in the total
use Rattle.std.specs.Prelude.{◌≡◌, ℕ, ◌+◌, false, cond, Ok, Err, ◌==◌}
use Rattle.ledger.specs.Books.{Book, total}
use Rattle.ledger.specs.Moves.{Answer, same_pair}

abbrev pub has : Book → ℕ → ℕ → ℕ
has m a i = (m a i).free + (m a i).held

abbrev pub done : Answer → ℕ → ℕ
done (Ok x) n = n
done (Err e) n = 0

unfoldable pub at : ℕ → ℕ → ℕ → ℕ → ℕ → ℕ
at a i n b j = cond (same_pair a i b j) n 0

unfoldable pub of : ℕ → ℕ → ℕ → ℕ
of i n j = cond (i == j) n 0

abbrev pub Leaves : Answer → Book → Book → Type 0
Leaves (Ok x) m after = Unit {0}
Leaves (Err e) m after = after ≡ m

abbrev pub Stays : Book → Book → Type 0
Stays m after = (b j : ℕ) → (after b j).is_open ≡ (m b j).is_open

abbrev pub Else : ℕ → ℕ → Book → Book → Type 0
Else a i m after = (b j : ℕ) → same_pair a i b j ≡ false → after b j ≡ m b j

pub record Held (m after : Book) (r : Answer) (a i n : ℕ) : Type 0 where
  pub leaves : Leaves r m after
  pub stays : Stays m after
  pub others : Else a i m after
  pub free : (b j : ℕ) → (after b j).free + at a i (done r n) b j ≡ (m b j).free
  pub held : (b j : ℕ) → (after b j).held ≡ (m b j).held + at a i (done r n) b j
  pub shares : (b j : ℕ) → has after b j ≡ has m b j
  pub totals : (j : ℕ) → total after j ≡ total m j

pub record Released (m after : Book) (r : Answer) (a i n : ℕ) : Type 0 where
  pub leaves : Leaves r m after
  pub stays : Stays m after
  pub others : Else a i m after
  pub free : (b j : ℕ) → (after b j).free ≡ (m b j).free + at a i (done r n) b j
  pub held : (b j : ℕ) → (after b j).held + at a i (done r n) b j ≡ (m b j).held
  pub shares : (b j : ℕ) → has after b j ≡ has m b j
  pub totals : (j : ℕ) → total after j ≡ total m j

pub record Passed (m after : Book) (r : Answer) (a b i n : ℕ) : Type 0 where
  pub leaves : Leaves r m after
  pub stays : Stays m after
  pub others : (c j : ℕ) → same_pair a i c j ≡ false → same_pair b i c j ≡ false → after c j ≡ m c j
  pub free : (c j : ℕ) → (after c j).free ≡ (m c j).free + at b i (done r n) c j
  pub held : (c j : ℕ) → (after c j).held + at a i (done r n) c j ≡ (m c j).held
  pub shares : (c j : ℕ) → has after c j + at a i (done r n) c j ≡ has m c j + at b i (done r n) c j
  pub totals : (j : ℕ) → total after j ≡ total m j

pub record PaidIn (m after : Book) (r : Answer) (a i n : ℕ) : Type 0 where
  pub leaves : Leaves r m after
  pub stays : Stays m after
  pub others : Else a i m after
  pub free : (b j : ℕ) → (after b j).free ≡ (m b j).free + at a i (done r n) b j
  pub held : (b j : ℕ) → (after b j).held ≡ (m b j).held
  pub shares : (b j : ℕ) → has after b j ≡ has m b j + at a i (done r n) b j
  pub totals : (j : ℕ) → total after j ≡ total m j + of i (done r n) j

pub record DrawnOut (m after : Book) (r : Answer) (a i n : ℕ) : Type 0 where
  pub leaves : Leaves r m after
  pub stays : Stays m after
  pub others : Else a i m after
  pub free : (b j : ℕ) → (after b j).free + at a i (done r n) b j ≡ (m b j).free
  pub held : (b j : ℕ) → (after b j).held ≡ (m b j).held
  pub shares : (b j : ℕ) → has after b j + at a i (done r n) b j ≡ has m b j
  pub totals : (j : ℕ) → total after j + of i (done r n) j ≡ total m j
