use Rattle.std.proofs.Common.{◌+◌, ◌<◌, length, vec_items, sym, refl, ap, ◌∙◌, subst, rules}
use Rattle.std.proofs.lemmas.List.{get_or_read}
use Rattle.rules.specs.Orders.{no_one, is_live}
use Rattle.floor.specs.View.{view, room_of}
use Rattle.floor.specs.declared.floor.Floor.{Floor}
use Rattle.floor.proofs.Closings.{Closing, closing_starts, closing_live, closing_dead, closing_ends}
use Rattle.floor.proofs.floor.Floor.cancel_all.Goals as goal
use Rattle.floor.proofs.floor.Floor.cancel_all.Goals.{then-is_live, else-is_live}

pub loop-k-init : goal.loop-k-init
loop-k-init g c = (closing_starts (view g.L.Ledger.book g.T.Tape.contents c.args.self.now), refl)

pub index-requires : goal.index-requires
index-requires g c = let l = c.loop-k.invariant.0.long in search rules

pub loop-k-preserved : goal.loop-k-preserved
loop-k-preserved g c =
    let V : Floor g.row.L.Denot g.row.T.Denot g.L.Ledger g.T.Tape → _ = view g.L.Ledger.book g.T.Tape.contents in
    let R : Floor g.row.L.Denot g.row.T.Denot g.L.Ledger g.T.Tape → _ = room_of g.L.Ledger.room in
    let xs = vec_items c.loop-k.self.day.table.orders in
    let l = c.loop-k.invariant.0.long in
    let h : c.loop-k.k < length xs = search rules in
    let k : c.loop-k.k < length (vec_items c.args.self.now.day.table.orders) = search rules in
    let o = get_or_read xs c.loop-k.k c.index.result.now h c.index.ensures no_one in
    let live = sym (ap is_live o) ∙ sym c.is_live.ensures in
    elim c.if-is_live.branch [
      | then-is_live w ↦ (
        closing_live _ (V c.loop-k.self) (V c.if-is_live.self) c.loop-k.k k c.loop-k.invariant.0 (live ∙ w.if-is_live.true) (ap V w.self-is ∙ w.cancelled.ensures.after),
        ap R w.self-is ∙ w.cancelled.ensures.room ∙ c.loop-k.invariant.1,
      )
      | else-is_live w ↦ (
        subst (λ (f : Floor g.row.L.Denot g.row.T.Denot g.L.Ledger g.T.Tape). Closing (V c.args.self.now) (V f) (c.loop-k.k + 1)) (sym w.self-is)
            (closing_dead _ (V c.loop-k.self) c.loop-k.k k c.loop-k.invariant.0 (live ∙ w.if-is_live.false)),
        ap R w.self-is ∙ c.loop-k.invariant.1,
      )
    ]

pub returns : goal.returns
returns g c = record { after = closing_ends _ _ c.loop-k.k (search rules) c.loop-k.invariant.0; room = c.loop-k.invariant.1 }
