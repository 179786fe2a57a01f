use Rattle.std.proofs.Common.{◌+◌, ◌≤◌, vec_items, vec_len, rules}
use Rattle.rules.specs.Orders.{live_count}
use Rattle.floor.specs.View.{view}
use Rattle.floor.proofs.Counts.{entered_places}
use Rattle.floor.proofs.Effects.{entered_effect}
use Rattle.floor.proofs.floor.Floor.entered.Goals as goal

pub invariant_of-self : goal.invariant_of-self
invariant_of-self g c =
    let f = c.args.self.now in
    let h : (live_count (vec_items f.day.table.orders) + (vec_len f.day.table.orders + vec_len f.day.table.cancels)) + 2 ≤ 512 = search rules in
    record {
      orders_fit = search rules;
      cancels_fit = search rules;
      agreed_fit = search rules;
      securities_fit = search rules;
      places = entered_places (vec_items f.day.table.orders) _ (record { order = c.args.o; live = c.args.o.quantity }) _ _ _ c.push_reserved.ensures.items c.push_reserved.ensures.len h;
      few_deals = search rules;
      few_agreed = search rules;
    }

pub returns : goal.returns
returns g c =
    let s = view g.L.Ledger.book g.T.Tape.contents c.args.self.now in
    record {
      after = entered_effect s c.args.o _ _ _ _ _ _ c.item_of-item.ensures c.amount_of-amount.ensures c.hold.ensures.after c.order_line-line.ensures c.append.ensures.after c.push_reserved.ensures.items;
      room = c.hold.ensures.room;
    }
