use Rattle.std.proofs.Common.{◌≡◌, ◌+◌, length, vec_len, refl, ap, ◌∙◌, rules}
use Rattle.std.proofs.lemmas.Bool.{true≢false}
use Rattle.floor.specs.View.{view}
use Rattle.floor.proofs.Refusing.{refusing}
use Rattle.floor.proofs.Called.{entered_length, entered_deals, within_more, entered_is, wrote}
use Rattle.floor.proofs.floor.Floor.enter.Goals as goal

pub returns-in_err-order : goal.returns-in_err-order
returns-in_err-order g c =
    let s = view g.L.Ledger.book g.T.Tape.contents c.args.self.now in
    let p = refusing c.from_residual.result _ _ _ s _ c.from_residual.ensures.1 c.in_err-order.ensures.answer in
    record { answer = p.0; after = p.1; refused_changes_nothing = λ _. refl; room = refl }

pub follow-requires : goal.follow-requires
follow-requires g c =
    let s = view g.L.Ledger.book g.T.Tape.contents c.args.self.now in
    let v = view g.L.Ledger.book g.T.Tape.contents c.entered.new.self in
    let e = entered_length s v _ c.entered.ensures.after in
    let d = entered_deals s v _ c.entered.ensures.after in
    let q = ap (λ xs. length xs + 1) c.deref-2.ensures.value in
    let few = c.args.self.now.few_deals in
    let z : vec_len c.entered.new.self.day.table.orders ≡ length c.deref-2.result.now + 1 = search rules in
    record { within = within_more _ _ _ z c.decide-next.ensures.within; few = search rules }

pub returns : goal.returns
returns g c =
    let s = view g.L.Ledger.book g.T.Tape.contents c.args.self.now in
    let v = view g.L.Ledger.book g.T.Tape.contents c.entered.new.self in
    let w = view g.L.Ledger.book g.T.Tape.contents c.follow.new.self in
    let k = c.in_ok-order.ensures in
    let t = entered_is s v w c.args.entry c.in_ok-order.order _ _ _ k.order c.decide-next.ensures.value c.deref.ensures.value c.deref-2.ensures.value c.entered.ensures.after c.follow.ensures.after in
    record {
      answer = wrote s _ w _ _ _ _ k.answer t c.lines_since.ensures refl c.count-before.ensures;
      after = t;
      refused_changes_nothing = λ e. absurd (true≢false e);
      room = c.follow.ensures.room ∙ c.entered.ensures.room;
    }
