-- The text of a whole statement.
--   statement c         heading, then a row for each line, then a row for each account and item named
--   refusal_row r       `refused`, with the refusal's number
--   reconciliation bs   the statement of the tape that bytes are; if they are none, a refusal
use Rattle.std.specs.Prelude.{ℕ, cond, List, [], ◌∷◌, ◌++◌, length}
use Rattle.std.specs.List.{flat_map}
use Rattle.market.specs.declared.refusal.Refusal.{Refusal}
use Rattle.market.specs.declared.refusal.Refusal.TheVariants.{NotATape}
use Rattle.market.specs.Refusals.{refusal_number}
use Rattle.tape.specs.Tapes.{Contents}
use Rattle.layout.specs.Bytes.{is_tape, date_of, lines_of}
use Rattle.byte_tape.specs.Stored.{capacity_of}
use Rattle.row_text.specs.declared.cells.Cell.TheVariants.{Figure}
use Rattle.row_text.specs.declared.words.Word.TheVariants.{Refused}
use Rattle.row_text.specs.Cells.{row_text}
use Rattle.statement.specs.Pairs.{pairs}
use Rattle.statement.specs.Rows.{heading_row, line_rows, net_row}

abbrev pub statement : Contents → List ℕ
statement c = heading_row c ++ line_rows 0 c.lines ++ flat_map (net_row c.lines) (pairs c.lines)

abbrev pub refusal_row : Refusal → List ℕ
refusal_row r = row_text Refused (Figure (refusal_number r) ∷ [])

abbrev pub told_by : List ℕ → Contents
told_by bs = record { date = date_of bs; capacity = capacity_of (length bs); lines = lines_of bs }

abbrev pub reconciliation : List ℕ → List ℕ
reconciliation bs = cond (is_tape bs) (statement (told_by bs)) (refusal_row NotATape)
