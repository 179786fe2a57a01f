use Rattle.std.proofs.Common.{refl, ◌∙◌, rules}
use Rattle.floor.specs.View.{view}
use Rattle.runs.proofs.Lawfully.{law_of}
use Rattle.runs.proofs.Telling.{told_start, told_next, told_end}
use Rattle.runs.proofs.running.run.Goals as goal

pub loop-call-init : goal.loop-call-init
loop-call-init g c =
    let m = c.in_ok-answers.ensures in
    (told_start (view g.L.Ledger.book g.T.Tape.contents c.in_ok-floor.floor) _ m.items, refl, m.len, m.capacity)

pub loop-call-preserved : goal.loop-call-preserved
loop-call-preserved g c =
    let k = c.loop-call.invariant in
    let V = view g.L.Ledger.book g.T.Tape.contents in (
      told_next (V c.in_ok-floor.floor) (V c.loop-call.floor) _ c.args.calls.now c.loop-call.call-index c.call-item.result _ _ _ c.loop-call-test.true c.call-item.is k.0 c.take-answer.ensures.answer c.take-answer.ensures.after c.push_reserved.ensures.items,
      c.take-answer.ensures.room ∙ k.1,
      search rules,
      search rules,
    )

pub returns : goal.returns
returns g c =
    let k = c.loop-call.invariant in
    let f = c.in_ok-floor.ensures in
    record {
      law = law_of (g.L.Ledger.book c.args.ledger) (g.L.Ledger.room c.args.ledger) _ (g.T.Tape.contents c.args.tape) c.args.calls.now _ _
          (g.met.L.Ledger.lawful c.args.ledger)
          (told_end _ _ _ c.args.calls.now c.loop-call.call-index _ f.state c.loop-call-test.false k.0)
          (k.1 ∙ f.room);
    }
