-- Which items share the places of a line ledger.
--   all_share   every item shares the places with every other
use Rattle.std.specs.Prelude.{true}
use Rattle.ledger.specs.Opening.{Sharing}

abbrev pub all_share : Sharing
all_share i j = true
