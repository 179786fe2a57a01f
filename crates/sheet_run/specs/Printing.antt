-- A sheet run over a line ledger and a tape in records, as text.
--   begun pairs lines    a new desk: a ledger with so many places, no pair open, and a tape with so many lines
--   Printed d t s        s is the text of the answers to the lines of the sheet t, run from the desk d on
use Rattle.std.specs.Prelude.{◌≡◌, ℕ, min, List, [], Result, Vec}
use Rattle.std.specs.declared.alloc.Global.{Global}
use Rattle.rules.specs.Steps.{Desk}
use Rattle.line_ledger.specs.Opening.{no_pairs, room_of}
use Rattle.line_ledger.specs.Sharing.{all_share}
use Rattle.sheet.specs.declared.fault.Fault.{Fault}
use Rattle.sheet.specs.Handing.{opening}
use Rattle.answers.specs.Answers.{Answer}
use Rattle.answers.specs.Rows.{printed}
use Rattle.whole_runs.specs.Law.{new_desk}
use Rattle.practice.specs.Working.{Practised}

abbrev pub begun : ℕ → ℕ → Desk
begun pairs lines = new_desk no_pairs (λ i. room_of pairs 0) (record { date = 0; capacity = min lines 4096; lines = [] })

pub record Printed (d : Desk) (t s : List ℕ) : Type 0 where
  pub answers : Result (Vec Answer Global) Fault
  pub end : Desk
  pub practised : Practised all_share d (opening t) answers end
  pub text : s ≡ printed answers
