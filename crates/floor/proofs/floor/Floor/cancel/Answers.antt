use Rattle.std.proofs.Common.{◌≡◌, ◌+◌, length, vec_items, vec_len, sym, refl, ap, ◌∙◌, arith, rules}
use Rattle.std.proofs.lemmas.Bool.{true≢false}
use Rattle.rules.specs.Orders.{live_count}
use Rattle.requests.specs.declared.cancelling.Cancelling.{Cancelling}
use Rattle.rules.specs.Calls.{target_of}
use Rattle.floor_day.specs.Parts.{widened}
use Rattle.floor.specs.View.{view}
use Rattle.floor.proofs.Refusing.{refusing}
use Rattle.floor_day.proofs.Answering.{asked_refused, asked_passed}
use Rattle.floor.proofs.Called.{cancelled_length, cancelled_orders, cancelled_names, cancelled_is, with_names, wrote}
use Rattle.floor.proofs.Counts.{cancelled_live}
use Rattle.floor.proofs.floor.Floor.cancel.Goals as goal

pub returns-in_err-asked : goal.returns-in_err-asked
returns-in_err-asked g c =
    let s = view g.L.Ledger.book g.T.Tape.contents c.args.self.now in
    let p = refusing c.from_residual.result _ _ _ s _ c.from_residual.ensures.1 (asked_refused s c.args.cancel _ c.in_err-asked.ensures.answer) in
    record { answer = p.0; after = p.1; refused_changes_nothing = λ _. refl; room = refl }

pub returns-in_err-place : goal.returns-in_err-place
returns-in_err-place g c =
    let s = view g.L.Ledger.book g.T.Tape.contents c.args.self.now in
    let k = c.in_ok-asked.ensures in
    let p = refusing c.from_residual-in_err-place.result _ _ _ s _ c.from_residual-in_err-place.ensures.1 (asked_passed s c.args.cancel c.in_ok-asked.asked _ k.answer k.found (c.in_err-place.ensures.answer s.book s.tape)) in
    record { answer = p.0; after = p.1; refused_changes_nothing = λ _. refl; room = refl }

pub push_reserved-requires : goal.push_reserved-requires
push_reserved-requires g c =
    let s = view g.L.Ledger.book g.T.Tape.contents c.args.self.now in
    let v = view g.L.Ledger.book g.T.Tape.contents c.cancelled.new.self in
    let l = cancelled_length s v _ _ _ c.cancelled.ensures.after in
    let h = c.in_ok-place.ensures.found.within in
    let f = c.cancelled.new.self in
    let p = f.places in
    let q = f.cancels_fit in
    let o = f.day.table.orders.ok.0 in
    search rules

pub invariant_of-self : goal.invariant_of-self
invariant_of-self g c =
    let s = view g.L.Ledger.book g.T.Tape.contents c.args.self.now in
    let v = view g.L.Ledger.book g.T.Tape.contents c.cancelled.new.self in
    let k = c.in_ok-place.ensures.found in
    let f = c.cancelled.new.self in
    let l : vec_len f.day.table.orders ≡ vec_len c.args.self.now.day.table.orders = let e = cancelled_length s v _ _ _ c.cancelled.ensures.after in search rules in
    let n : vec_len f.day.table.cancels ≡ vec_len c.args.self.now.day.table.cancels = let e = ap length (cancelled_names s v _ _ _ c.cancelled.ensures.after) in search rules in
    let d : live_count (vec_items f.day.table.orders) + 1 ≡ live_count (vec_items c.args.self.now.day.table.orders) = cancelled_live s.orders v.orders _ k.within k.live (cancelled_orders s v _ _ _ c.cancelled.ensures.after) in
    let p = c.args.self.now.places in
    let q = c.push_reserved.ensures.len in
    record {
      orders_fit = f.orders_fit;
      cancels_fit = search rules;
      agreed_fit = f.agreed_fit;
      securities_fit = f.securities_fit;
      places = omega (arith, d, l, n, p, q);
      few_deals = f.few_deals;
      few_agreed = f.few_agreed;
    }

pub returns : goal.returns
returns g c =
    let s = view g.L.Ledger.book g.T.Tape.contents c.args.self.now in
    let v = view g.L.Ledger.book g.T.Tape.contents c.cancelled.new.self in
    let a = c.in_ok-asked.ensures in
    let k = c.in_ok-place.ensures in
    let cs = vec_items c.push_reserved.new.self in
    let t = cancelled_is s v c.args.cancel c.in_ok-asked.asked c.in_ok-place.place cs a.found (ap (λ (z : Cancelling). target_of s (widened z)) (sym a.found) ∙ k.found.named) c.cancelled.ensures.after c.push_reserved.ensures.items in
    record {
      answer = wrote s _ (with_names v cs) _ _ _ _ (asked_passed s c.args.cancel c.in_ok-asked.asked _ a.answer a.found (k.answer s.book s.tape)) t c.lines_since.ensures refl c.count-before.ensures;
      after = t;
      refused_changes_nothing = λ e. absurd (true≢false e);
      room = c.cancelled.ensures.room;
    }
