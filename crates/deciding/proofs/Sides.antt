-- A newcomer of either side, and the order that it meets.
use Rattle.std.proofs.Common.{◌≡◌, ℕ, ◌<◌, refl}
use Rattle.market.specs.declared.kinds.Side.{Side}
use Rattle.market.specs.declared.kinds.Side.TheVariants.{Buy, Sell}
use Rattle.market.specs.declared.kinds.CancelReason.TheVariants.{QuoteRest, ClickRest}
use Rattle.market.specs.Figures.{quantity}
use Rattle.rules.specs.declared.event.Follow.TheVariants.{Deal, DealAndCancel}
use Rattle.rules.specs.Dealing.{deal, click_short, quote_short}
use Rattle.deciding.specs.Places.{parties}

pub dealt : (s : Side) (n k q : ℕ) → Deal (parties s n k).0 (parties s n k).1 (quantity q) ≡ deal s n k q
dealt Buy n k q = refl
dealt Sell n k q = refl

pub click_shorted : (s : Side) (n k l : ℕ) → DealAndCancel (parties s n k).0 (parties s n k).1 (quantity l) n ClickRest ≡ click_short s n k l
click_shorted Buy n k l = refl
click_shorted Sell n k l = refl

pub quote_shorted : (s : Side) (n k q : ℕ) → DealAndCancel (parties s n k).0 (parties s n k).1 (quantity q) k QuoteRest ≡ quote_short s n k q
quote_shorted Buy n k q = refl
quote_shorted Sell n k q = refl

-- both places are below whatever n and k are below
pub buyer_below : (s : Side) (n k m : ℕ) → n < m → k < m → (parties s n k).0 < m
buyer_below Buy n k m h g = h
buyer_below Sell n k m h g = g

pub seller_below : (s : Side) (n k m : ℕ) → n < m → k < m → (parties s n k).1 < m
seller_below Buy n k m h g = g
seller_below Sell n k m h g = h
