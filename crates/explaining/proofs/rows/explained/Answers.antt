use Rattle.std.proofs.Common.{vec_items, ◌∙◌}
use Rattle.explaining.proofs.Turning.{explained_turn, less_left}
use Rattle.explaining.proofs.rows.explained.Goals as goal

pub loop-row-smaller : goal.loop-row-smaller
loop-row-smaller c = less_left c.loop-row.rest.now c.in-Some.row.now c.in-Some.behind.now c.in-Some.ensures

pub loop-row-preserved : goal.loop-row-preserved
loop-row-preserved c =
    explained_turn c.loop-row.rest.now (vec_items c.loop-row.out) (vec_items c.push_row.new.out) c.in-Some.row.now c.in-Some.behind.now c.in-Some.ensures c.in_ok-push_row.ensures ∙ c.loop-row.invariant
