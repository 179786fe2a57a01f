-- The rows of lines, one behind the other.
use Rattle.std.proofs.Common.{◌≡◌, ℕ, ◌+◌, ◌<◌, ◌≤◌, List, ◌++◌, length, drop, Ok, sym, ap, ◌∙◌}
use Rattle.std.proofs.lemmas.List.{append_assoc, append-nil, at_drop_more, at_drop_all}
use Rattle.tape.specs.declared.line.Line.{Line}
use Rattle.tape.specs.Tapes.{first}
use Rattle.tape.proofs.Fetched.{any_line, read_gives}
use Rattle.statement.specs.Rows.{line_row, line_rows}

-- a row was written, and the rows of the rest are still to come
pub lines_turn : (ls : List Line) (k : ℕ) (x : Line) (a b : List ℕ) → k < length ls → Ok x ≡ first (drop k ls) → b ≡ a ++ line_row k x → b ++ line_rows (k + 1) (drop (k + 1) ls) ≡ a ++ line_rows k (drop k ls)
lines_turn ls k x a b lt e h =
    ap (λ (v : List ℕ). v ++ line_rows (k + 1) (drop (k + 1) ls)) h
    ∙ append_assoc a (line_row k x) (line_rows (k + 1) (drop (k + 1) ls))
    ∙ ap (λ (v : Line). a ++ (line_row k v ++ line_rows (k + 1) (drop (k + 1) ls))) (read_gives ls k x any_line lt e)
    ∙ ap (λ (v : List ℕ). a ++ v) (sym (at_drop_more (line_rows k) ls k any_line lt))

pub lines_done : (ls : List Line) (k : ℕ) (a : List ℕ) → length ls ≤ k → a ≡ a ++ line_rows k (drop k ls)
lines_done ls k a past = sym (ap (λ (v : List ℕ). a ++ v) (at_drop_all (line_rows k) ls k past) ∙ append-nil a)
