-- The places that a follow names.
--   Within f n      all of them are below n
--   parties s n k   the buyer's place and the seller's, where a newcomer of side s at n meets the order at k
--   Between r n k   they are below whatever both n and k are below
use Rattle.std.specs.Prelude.{ℕ, ◌<◌}
use Rattle.market.specs.declared.kinds.Side.{Side}
use Rattle.market.specs.declared.kinds.Side.TheVariants.{Buy, Sell}
use Rattle.rules.specs.declared.event.Follow.{Follow}
use Rattle.rules.specs.declared.event.Follow.TheVariants.{Wait, Deal, CancelBoth, DealAndCancel, CancelOne}

abbrev pub Within : Follow → ℕ → Type 0
Within Wait n = Unit {0}
Within (Deal b s q) n = (b < n) × (s < n)
Within (CancelBoth k l) n = (k < n) × (l < n)
Within (DealAndCancel b s q k why) n = (b < n) × (s < n) × (k < n)
Within (CancelOne k why) n = k < n

abbrev pub Between : Follow → ℕ → ℕ → Type 0
Between f n k = (m : ℕ) → n < m → k < m → Within f m

abbrev pub parties : Side → ℕ → ℕ → ℕ × ℕ
parties Buy n k = (n, k)
parties Sell n k = (k, n)
