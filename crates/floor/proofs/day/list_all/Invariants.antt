use Rattle.std.proofs.Common.{◌≡◌, take, vec_items, vec_len, vec_capacity}
use Rattle.rules.specs.Listing.{listed}
use Rattle.floor.proofs.day.list_all.Given as goal

abbrev pub invariant-loop-e : goal.invariant-loop-e
invariant-loop-e l =
    (vec_items l.securities ≡ listed (take l.e-index l.list))
    × (vec_len l.securities ≡ l.e-index)
    × (vec_capacity l.securities ≡ vec_capacity l.initial.securities)
