use Rattle.std.proofs.Common.{◌≡◌, [], take, drop}
use Rattle.rules.specs.Listing.{all_sound}
use Rattle.requests.proofs.listing.check_list.Given as goal

abbrev pub invariant-loop-k : goal.invariant-loop-k
invariant-loop-k l = all_sound (take l.k l.list) (drop l.k l.list) ≡ all_sound [] l.list
