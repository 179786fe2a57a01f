use Rattle.laws.proofs.Following.{standing_law, negotiated_law, click_law, numbers_law}
use Rattle.laws.proofs.Ceasing.{cancel_law, close_law}
use Rattle.laws.proofs.what_follows_is_fixed.Goals as goal

pub returns : goal.returns
returns c = record { standing = standing_law; negotiated = negotiated_law; clicks = click_law; cancels = cancel_law; closes = close_law; quotes = numbers_law }
