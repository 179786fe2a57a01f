-- The book that a list of records stands for.
--   figures p          the figures in the record p: its pair is open
--   row rows k         the record at place k
--   stands p a i       whether p is a record of the pair a i
--   look rows          the book: a pair has the figures of its last record; one with no record has nothing
--   Place rows a i k   at place k stands the record of the pair a i, and the book says what it says
--   Apart, Ranged, Bounded   no two records of one pair; each in range; no total above the limit
--   Kept rows          what the records of a ledger keep to
use Rattle.std.specs.Prelude.{◌≡◌, ℕ, ◌<◌, ◌≤◌, Bool, true, cond, List, [], ◌∷◌, length, slice_index_or}
use Rattle.ledger.specs.Books.{Figures, Book, nothing, in_range, limit, total}
use Rattle.ledger.specs.Moves.{same_pair}
use Rattle.line_ledger.specs.declared.record.PairRecord.{PairRecord}

abbrev pub blank : PairRecord
blank = record { account = 0; item = 0; free = 0; held = 0 }

abbrev pub figures : PairRecord → Figures
figures p = record { is_open = true; free = p.free; held = p.held }

abbrev pub row : List PairRecord → ℕ → PairRecord
row rows k = slice_index_or rows k blank

abbrev pub stands : PairRecord → ℕ → ℕ → Bool
stands p a i = same_pair p.account p.item a i

unfoldable pub look : List PairRecord → Book
look [] a i = nothing
look (p ∷ rows) a i = cond (look rows a i).is_open (look rows a i) (cond (stands p a i) (figures p) nothing)

pub record Place (rows : List PairRecord) (a i k : ℕ) : Type 0 where
  pub inside : k < length rows
  pub account : (row rows k).account ≡ a
  pub item : (row rows k).item ≡ i
  pub says : look rows a i ≡ figures (row rows k)

pub record Clash (rows : List PairRecord) (j k : ℕ) : Type 0 where
  pub before : j < k
  pub inside : k < length rows
  pub accounts : (row rows j).account ≡ (row rows k).account
  pub items : (row rows j).item ≡ (row rows k).item

abbrev pub Apart : List PairRecord → Type 0
Apart rows = (j k : ℕ) → Clash rows j k → ⊥

abbrev pub Ranged : List PairRecord → Type 0
Ranged rows = (k : ℕ) → k < length rows → in_range (row rows k).account (row rows k).item ≡ true

abbrev pub Bounded : List PairRecord → Type 0
Bounded rows = (i : ℕ) → total (look rows) i ≤ limit

pub record Kept (rows : List PairRecord) : Type 0 where
  pub apart : Apart rows
  pub ranged : Ranged rows
  pub bounded : Bounded rows
