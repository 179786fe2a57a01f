use Rattle.std.proofs.Common.{◌∙◌, rules}
use Rattle.floor.proofs.Listings.{listed_more, listed_all}
use Rattle.floor.proofs.day.list_all.Goals as goal

pub loop-e-preserved : goal.loop-e-preserved
loop-e-preserved c =
    let k = c.loop-e.invariant in
    (listed_more c.args.list.now c.loop-e.e-index _ _ _ _ c.loop-e-test.true c.security_of.ensures k.0 c.push_reserved.ensures.items, search rules, c.push_reserved.ensures.capacity ∙ k.2)

pub returns : goal.returns
returns c =
    let k = c.loop-e.invariant in
    record { items = listed_all c.args.list.now c.loop-e.e-index _ c.loop-e-test.false k.0; capacity = k.2 ∙ c.clear.ensures.capacity }
