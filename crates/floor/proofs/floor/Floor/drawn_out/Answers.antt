use Rattle.floor.specs.View.{view}
use Rattle.floor.proofs.Effects.{with_all, drawn_refused, drawn_effect, not_moved}
use Rattle.floor.proofs.floor.Floor.drawn_out.Goals as goal

pub returns-in_err-draw_out-clause-after : goal.returns-in_err-draw_out-clause-after
returns-in_err-draw_out-clause-after g c =
    let s = view g.L.Ledger.book g.T.Tape.contents c.args.self.now in
    let b = drawn_refused s.book _ _ _ _ _ c.in_err-draw_out.ensures.answer c.in_err-draw_out.ensures.after in
    not_moved _ _ s _ _ c.from_residual.ensures.1 (λ i. with_all s s.orders s.cancels s.agreed s.deals (b i) s.tape)

pub returns-clause-after : goal.returns-clause-after
returns-clause-after g c =
    let s = view g.L.Ledger.book g.T.Tape.contents c.args.self.now in
    drawn_effect s c.args.p _ _ c.in_ok-draw_out.ensures.after c.append.ensures.after
