use Rattle.std.proofs.Common.{vec_len, ap, ◌∙◌}
use Rattle.ledger.specs.Books.{Book, Room}
use Rattle.layout.specs.Bytes.{tape_bytes}
use Rattle.byte_tape.specs.declared.byte_tape.ByteTape.{ByteTape}
use Rattle.byte_tape.specs.Stored.{stored}
use Rattle.line_ledger.specs.Lines.{line_book, line_room}
use Rattle.two_house.specs.Houses.{both, both_room}
use Rattle.whole_runs.specs.Law.{new_desk}
use Rattle.sheet_tape.specs.Taping.{begun}
use Rattle.sheet_tape.proofs.Begun.{begins, tapes}
use Rattle.sheet_tape.proofs.tape_of.Goals as goal

pub returns : goal.returns
returns c =
    let h = c.new.result in
    let t = c.new-tape.result in
    let w : Book = both (line_book h.bank) (line_book h.depository) in
    let z : Room = both_room (λ i. line_room h.bank) (λ i. line_room h.depository) in
    tapes c.from_slice.result (new_desk w z (stored t)) (begun c.args.pairs c.args.lines) _ c.args.sheet.now c.bytes.result.now c.in_ok-practice.practice.answers
    (begins w z (line_book c.new-bank.result) (line_book c.new-depository.result) (line_room c.new-bank.result) (line_room c.new-depository.result) (vec_len c.in_ok-vec.field-0) (vec_len c.in_ok-vec-2.field-0) c.args.pairs (vec_len c.in-Ok.blank.bytes) c.args.lines (stored t)
    c.new.ensures.book c.new.ensures.room c.new-bank.ensures.book c.new-depository.ensures.book c.new-bank.ensures.room c.new-depository.ensures.room
    c.in_ok-vec.ensures.len c.in_ok-vec-2.ensures.len c.new-tape.ensures.contents (ap vec_len c.in-Ok.ensures.bytes ∙ c.in_ok-buffer.ensures.len))
    c.in_ok-practice.ensures
    (c.bytes.ensures ∙ ap (λ (v : ByteTape). tape_bytes (stored v).date (stored v).lines) c.tape.ensures)
    c.from_slice.ensures.items
