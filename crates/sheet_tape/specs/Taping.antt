-- A sheet run over two houses and a tape in bytes.
--   begun pairs lines   a new desk: a bank and a depository with so many places each, no pair open, and a tape in bytes
--                       with room for so many lines
--   share               money shares places with money alone, the other items with each other
--   Taped d t bs        bs are the bytes of the tape, lines and trailer, once the sheet t has been run from the desk d on
use Rattle.std.specs.Prelude.{◌≡◌, ℕ, ◌+◌, ◌*◌, List, [], Result, Vec}
use Rattle.std.specs.declared.alloc.Global.{Global}
use Rattle.ledger.specs.Opening.{Sharing}
use Rattle.line_ledger.specs.Opening.{no_pairs, room_of}
use Rattle.line_ledger.specs.Sharing.{all_share}
use Rattle.two_house.specs.Houses.{both, both_room, both_share}
use Rattle.layout.specs.Bytes.{tape_bytes}
use Rattle.byte_tape.specs.Stored.{capacity_of}
use Rattle.rules.specs.Steps.{Desk}
use Rattle.sheet.specs.declared.fault.Fault.{Fault}
use Rattle.sheet.specs.Handing.{opening}
use Rattle.answers.specs.Answers.{Answer}
use Rattle.whole_runs.specs.Law.{new_desk}
use Rattle.practice.specs.Working.{Practised}

abbrev pub begun : ℕ → ℕ → Desk
begun pairs lines = new_desk (both no_pairs no_pairs) (both_room (λ i. room_of pairs 0) (λ i. room_of pairs 0)) (record { date = 0; capacity = capacity_of (lines * 48 + 16); lines = [] })

abbrev pub share : Sharing
share = both_share all_share all_share

pub record Taped (d : Desk) (t bs : List ℕ) : Type 0 where
  pub answers : Result (Vec Answer Global) Fault
  pub end : Desk
  pub practised : Practised share d (opening t) answers end
  pub bytes : bs ≡ tape_bytes end.state.tape.date end.state.tape.lines
