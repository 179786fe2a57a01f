use Rattle.std.proofs.Common.{sym, ◌∙◌}
use Rattle.floor_day.specs.Days.{state_of}
use Rattle.floor_day.proofs.Answering.{entry_found, listed_is, passed, found_is, refused_is}
use Rattle.floor_day.proofs.entries.check_entry.Goals as goal

pub returns-in_err-check_listed-clause-answer : goal.returns-in_err-check_listed-clause-answer
returns-in_err-check_listed-clause-answer g c =
    let s = state_of c.args.day.now (g.L.Ledger.book c.args.ledger.now) (g.T.Tape.contents c.args.tape.now) in
    let f = entry_found s c.args.e.now _ _ c.in_ok-order.order _ (passed _ _ c.in_ok-check_open.ensures) c.deref.ensures.value (sym (found_is _ _ _ c.in_ok-order.ensures.value) ∙ c.order_for.ensures) c.deref-2.ensures.value (sym (found_is _ _ _ c.in_ok-security.ensures.value) ∙ c.find_listed.ensures) in
    refused_is _ _ _ c.from_residual-in_err-check_listed.ensures.1 (c.in_err-check_listed.ensures.answer ∙ listed_is s c.args.e.now c.in_ok-security.security c.in_ok-order.order f.1 ∙ f.0)

pub returns-clause-answer : goal.returns-clause-answer
returns-clause-answer g c =
    let s = state_of c.args.day.now (g.L.Ledger.book c.args.ledger.now) (g.T.Tape.contents c.args.tape.now) in
    let f = entry_found s c.args.e.now _ _ c.in_ok-order.order _ (passed _ _ c.in_ok-check_open.ensures) c.deref.ensures.value (sym (found_is _ _ _ c.in_ok-order.ensures.value) ∙ c.order_for.ensures) c.deref-2.ensures.value (sym (found_is _ _ _ c.in_ok-security.ensures.value) ∙ c.find_listed.ensures) in
    c.in_ok-check_listed.ensures.answer ∙ listed_is s c.args.e.now c.in_ok-security.security c.in_ok-order.order f.1 ∙ f.0

pub returns-clause-order : goal.returns-clause-order
returns-clause-order g c =
    let s = state_of c.args.day.now (g.L.Ledger.book c.args.ledger.now) (g.T.Tape.contents c.args.tape.now) in
    (entry_found s c.args.e.now _ _ c.in_ok-order.order _ (passed _ _ c.in_ok-check_open.ensures) c.deref.ensures.value (sym (found_is _ _ _ c.in_ok-order.ensures.value) ∙ c.order_for.ensures) c.deref-2.ensures.value (sym (found_is _ _ _ c.in_ok-security.ensures.value) ∙ c.find_listed.ensures)).1
