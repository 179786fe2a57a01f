use Rattle.std.proofs.Common.{sym, ap, ◌∙◌}
use Rattle.rules.specs.declared.request.Entry.{Entry}
use Rattle.rules.specs.declared.request.CancelOrder.{CancelOrder}
use Rattle.rules.specs.Plain.{enters, cancels}
use Rattle.rules.specs.Steps.{call}
use Rattle.sheet.specs.Told.{says, line_says}
use Rattle.practice.specs.Tasks.{asks, task}
use Rattle.practice.proofs.Doing.{did_call}
use Rattle.practice.proofs.answering.answer_line.Goals as goal

pub returns-in-Order-clause-did : goal.returns-in-Order-clause-did
returns-in-Order-clause-did g c =
    let l = c.args.gathered.now.entries.items in
    let e = c.enter.ensures in
    did_call _ _ _ _ _ _ _ _ _
    (ap (λ x. task l (says x)) c.in_ok-order.was ∙ ap (λ x. task l (line_says x)) c.in-Order.is ∙ ap (λ (x : Entry). asks (call (enters x))) (sym c.entry_of.ensures))
    e.answer e.after e.room c.reply_answer.ensures

pub returns-in-Cancel-clause-did : goal.returns-in-Cancel-clause-did
returns-in-Cancel-clause-did g c =
    let l = c.args.gathered.now.entries.items in
    let e = c.cancel.ensures in
    did_call _ _ _ _ _ _ _ _ _
    (ap (λ x. task l (says x)) c.in_ok-order.was ∙ ap (λ x. task l (line_says x)) c.in-Cancel.is ∙ ap (λ (x : CancelOrder). asks (call (cancels x))) (sym c.cancel_of.ensures))
    e.answer e.after e.room c.reply_answer-in-Cancel.ensures
