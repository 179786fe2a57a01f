use Rattle.laws.proofs.Accepting.{entries_valid, cancels_valid, payments_in_valid, payments_out_valid, closes_valid}
use Rattle.laws.proofs.accepted_calls_yield_valid_events.Goals as goal

pub returns : goal.returns
returns c = record { entries = entries_valid; cancels = cancels_valid; payments_in = payments_in_valid; payments_out = payments_out_valid; closes = closes_valid }
