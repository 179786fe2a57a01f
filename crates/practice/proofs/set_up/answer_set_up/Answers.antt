use Rattle.std.proofs.Common.{List, sym, ap, ◌∙◌}
use Rattle.rules.specs.declared.request.Payment.{Payment}
use Rattle.rules.specs.declared.security.ListEntry.{ListEntry}
use Rattle.rules.specs.Plain.{opens, pays_in, draws_out}
use Rattle.rules.specs.Steps.{call}
use Rattle.practice.specs.Tasks.{asks, set_up_task}
use Rattle.practice.proofs.Doing.{did_call, did_pair}
use Rattle.practice.proofs.set_up.answer_set_up.Goals as goal

pub returns-in-OpenPair-clause-did : goal.returns-in-OpenPair-clause-did
returns-in-OpenPair-clause-did g c =
    let e = c.open_pair.ensures in
    did_pair _ _ _ _ _ _ _ _ _ _ (ap (set_up_task c.args.gathered.now.entries.items) c.in-OpenPair.is) e.answer e.after e.room c.pair_answer.ensures

pub returns-in-OpenDay-clause-did : goal.returns-in-OpenDay-clause-did
returns-in-OpenDay-clause-did g c =
    let e = c.open-reply.ensures in
    did_call _ _ _ _ _ _ _ _ _
    (ap (set_up_task c.args.gathered.now.entries.items) c.in-OpenDay.is ∙ ap (λ (x : List ListEntry). asks (call (opens c.in-OpenDay.date x))) (sym c.as_slice.ensures.value))
    (e.answer, e.names_fault) e.after e.room c.reply_answer.ensures

pub returns-in-CloseDay-clause-did : goal.returns-in-CloseDay-clause-did
returns-in-CloseDay-clause-did g c =
    let e = c.close.ensures in
    did_call _ _ _ _ _ _ _ _ _ (ap (set_up_task c.args.gathered.now.entries.items) c.in-CloseDay.is) e.answer e.after e.room c.reply_answer-in-CloseDay.ensures

pub returns-in-PayIn-clause-did : goal.returns-in-PayIn-clause-did
returns-in-PayIn-clause-did g c =
    let e = c.pay_in.ensures in
    did_call _ _ _ _ _ _ _ _ _
    (ap (set_up_task c.args.gathered.now.entries.items) c.in-PayIn.is ∙ ap (λ (x : Payment). asks (call (pays_in x))) (sym c.payment_of.ensures))
    e.answer e.after e.room c.reply_answer-in-PayIn.ensures

pub returns-in-DrawOut-clause-did : goal.returns-in-DrawOut-clause-did
returns-in-DrawOut-clause-did g c =
    let e = c.draw_out.ensures in
    did_call _ _ _ _ _ _ _ _ _
    (ap (set_up_task c.args.gathered.now.entries.items) c.in-DrawOut.is ∙ ap (λ (x : Payment). asks (call (draws_out x))) (sym c.payment_of-in-DrawOut.ensures))
    e.answer e.after e.room c.reply_answer-in-DrawOut.ensures
