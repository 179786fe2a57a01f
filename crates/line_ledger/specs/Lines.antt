-- What a line ledger says.
--   line_book s   its book
--   line_room s   how many pairs it can still open
use Rattle.std.specs.Prelude.{ℕ, ◌-◌, vec_items, vec_len}
use Rattle.ledger.specs.Books.{Book}
use Rattle.line_ledger.specs.declared.line.LineLedger.{LineLedger}
use Rattle.line_ledger.specs.Rows.{look}

abbrev pub line_book : LineLedger → Book
line_book s = look (vec_items s.rows)

abbrev pub line_room : LineLedger → ℕ
line_room s = s.most - vec_len s.rows
