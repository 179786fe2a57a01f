use Rattle.floor.specs.View.{view}
use Rattle.floor.proofs.Effects.{with_all, paid_refused, paid_effect, not_moved}
use Rattle.floor.proofs.floor.Floor.paid_in.Goals as goal

pub returns-in_err-pay_in-clause-after : goal.returns-in_err-pay_in-clause-after
returns-in_err-pay_in-clause-after g c =
    let s = view g.L.Ledger.book g.T.Tape.contents c.args.self.now in
    let b = paid_refused s.book _ _ _ _ _ c.in_err-pay_in.ensures.answer c.in_err-pay_in.ensures.after in
    not_moved _ _ s _ _ c.from_residual.ensures.1 (λ i. with_all s s.orders s.cancels s.agreed s.deals (b i) s.tape)

pub returns-clause-after : goal.returns-clause-after
returns-clause-after g c =
    let s = view g.L.Ledger.book g.T.Tape.contents c.args.self.now in
    paid_effect s c.args.p _ _ c.in_ok-pay_in.ensures.after c.append.ensures.after
