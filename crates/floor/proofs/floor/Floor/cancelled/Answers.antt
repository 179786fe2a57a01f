use Rattle.std.proofs.Common.{◌<◌, length, set, vec_items, ap, ◌∙◌, rules}
use Rattle.std.proofs.lemmas.List.{get_or_read}
use Rattle.market.specs.declared.quantity.Quantity.{Quantity}
use Rattle.rules.specs.Orders.{no_one, order_at, with_live}
use Rattle.floor.specs.View.{view}
use Rattle.floor.proofs.Counts.{cancelled_count}
use Rattle.floor.proofs.Effects.{cancelled_effect}
use Rattle.floor.proofs.floor.Floor.cancelled.Goals as goal

pub invariant_of-self : goal.invariant_of-self
invariant_of-self g c =
    let xs = vec_items c.args.self.now.day.table.orders in
    let h : c.args.k < length xs = search rules in
    let e = c.set_live.ensures.orders ∙ ap (λ (q : Quantity). set xs c.args.k (with_live (order_at xs c.args.k) q.number)) c.new.ensures in
    let n = cancelled_count xs _ c.args.k h e in
    record {
      orders_fit = search rules;
      cancels_fit = search rules;
      agreed_fit = search rules;
      securities_fit = search rules;
      places = search rules;
      few_deals = search rules;
      few_agreed = search rules;
    }

pub returns : goal.returns
returns g c =
    let xs = vec_items c.args.self.now.day.table.orders in
    let s = view g.L.Ledger.book g.T.Tape.contents c.args.self.now in
    let h : c.args.k < length xs = search rules in
    let x = get_or_read xs c.args.k c.index.result.now h c.index.ensures no_one in
    record {
      after = cancelled_effect s c.args.k c.args.reason c.args.time c.index.result.now _ _ _ _ _ _ _ _ (ap vec_items c.set_live.ensures.cancels) x c.item_of-item.ensures c.amount_of-amount.ensures c.release.ensures.after c.order_line-line.ensures c.append.ensures.after c.new.ensures c.set_live.ensures.orders;
      room = c.release.ensures.room;
    }
