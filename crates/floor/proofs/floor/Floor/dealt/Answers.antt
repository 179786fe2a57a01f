use Rattle.std.proofs.Common.{◌<◌, length, vec_items, ap, ◌∙◌, rules}
use Rattle.std.proofs.lemmas.List.{get_or_read}
use Rattle.market.specs.declared.amount.Amount.{Amount}
use Rattle.rules.specs.Orders.{no_one, live_count}
use Rattle.floor.specs.View.{view}
use Rattle.floor.proofs.Counts.{dealt_count}
use Rattle.floor.proofs.Effects.{dealt_orders, dealt_effect}
use Rattle.floor.proofs.floor.Floor.dealt.Goals as goal

pub invariant_of-self : goal.invariant_of-self
invariant_of-self g c =
    let xs = vec_items c.args.self.now.day.table.orders in
    let hi : c.args.buyer < length xs = search rules in
    let hj : c.args.seller < length xs = search rules in
    let x = get_or_read xs c.args.buyer c.index.result.now hi c.index.ensures no_one in
    let y = get_or_read xs c.args.seller c.index-2.result.now hj c.index-2.ensures no_one in
    let t = dealt_orders xs _ _ c.args.buyer c.args.seller c.args.q.number c.index.result.now c.index-2.result.now _ _ x y c.rest_of.ensures c.rest_of-2.ensures c.set_live.ensures.orders c.set_live-2.ensures.orders in
    let a = ap live_count t in
    let n = dealt_count xs c.args.buyer c.args.seller c.args.q.number hi hj in
    record {
      orders_fit = search rules;
      cancels_fit = search rules;
      agreed_fit = search rules;
      securities_fit = search rules;
      places = search rules;
      few_deals = search rules;
      few_agreed = search rules;
    }

pub returns : goal.returns
returns g c =
    let xs = vec_items c.args.self.now.day.table.orders in
    let s = view g.L.Ledger.book g.T.Tape.contents c.args.self.now in
    let hi : c.args.buyer < length xs = search rules in
    let hj : c.args.seller < length xs = search rules in
    let x = get_or_read xs c.args.buyer c.index.result.now hi c.index.ensures no_one in
    let y = get_or_read xs c.args.seller c.index-2.result.now hj c.index-2.ensures no_one in
    let t = dealt_orders xs _ _ c.args.buyer c.args.seller c.args.q.number c.index.result.now c.index-2.result.now _ _ x y c.rest_of.ensures c.rest_of-2.ensures c.set_live.ensures.orders c.set_live-2.ensures.orders in
    record {
      after =
          dealt_effect s c.args.buyer c.args.seller c.args.q c.args.time _ _ c.index.result.now c.index-2.result.now _ _ _ _ _ _ _ _ _
          (ap vec_items (c.set_live-2.ensures.cancels ∙ c.set_live.ensures.cancels)) x y c.get-sheets.ensures c.pass.ensures.after (c.get-amount.ensures ∙ ap (λ (a : Amount). a.number) c.times.ensures) c.pass-2.ensures.after
          c.order_line-bought.ensures c.append.ensures.after c.order_line-sold.ensures c.append-2.ensures.after c.note_agreement.ensures.items t;
      room = c.pass-2.ensures.room ∙ c.pass.ensures.room;
    }
