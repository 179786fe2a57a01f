-- What a ledger says, and the law that every ledger keeps.
--   Figures        what one account has of one item: whether the pair is open, what is free, what is held
--   Book           the figures of every account and item
--   nothing        the figures of a pair that is not open
--   in_range a i   whether a can be an account and i an item
--   worth f        free and held together, of an open pair
--   total m i      the total of item i: the worth of all its pairs
--   limit          the most that a total may be, 10^18
--   Room           how many pairs of an item can still be opened
--   Lawful m       the law: totals within the limit; open pairs in range; pairs not open have nothing
use Rattle.std.specs.Prelude.{◌≡◌, ℕ, ◌+◌, ◌≤◌, Bool, true, false, cond, ◌&&◌}
use Rattle.market.specs.Ranges.{admits}
use Rattle.market.specs.declared.ranges.Figure.TheVariants.{Account, Item}
use Rattle.ledger.specs.Ranging.{sum_to}

pub record Figures : Type 0 where
  pub is_open : Bool
  pub free : ℕ
  pub held : ℕ

abbrev pub Book : Type 0
Book = ℕ → ℕ → Figures

abbrev pub Room : Type 0
Room = ℕ → ℕ

abbrev pub nothing : Figures
nothing = record { is_open = false; free = 0; held = 0 }

-- Shut, so that no proof computes with them unasked.
unfoldable pub accounts_end : ℕ
accounts_end = 10000000000

unfoldable pub items_end : ℕ
items_end = 1000000

unfoldable pub limit : ℕ
limit = 1000000000000000000

unfoldable pub in_range : ℕ → ℕ → Bool
in_range a i = admits Account a && admits Item i

abbrev pub worth : Figures → ℕ
worth f = cond f.is_open (f.free + f.held) 0

unfoldable pub total : Book → ℕ → ℕ
total m i = sum_to accounts_end (λ a. worth (m a i))

pub record Lawful (m : Book) : Type 0 where
  pub bounded : (i : ℕ) → total m i ≤ limit
  pub ranged : (a i : ℕ) → (m a i).is_open ≡ true → in_range a i ≡ true
  pub closed : (a i : ℕ) → (m a i).is_open ≡ false → m a i ≡ nothing
