use Rattle.std.proofs.Common.{◌≡◌, ◌++◌, length, vec_items}
use Rattle.explaining.specs.Notes.{explained}
use Rattle.explaining.proofs.rows.explained.Given as goal

abbrev pub invariant-loop-row : goal.invariant-loop-row
invariant-loop-row l = vec_items l.out ++ explained l.rest ≡ explained l.text

abbrev pub decreases-loop-row : goal.decreases-loop-row
decreases-loop-row l = length l.rest
