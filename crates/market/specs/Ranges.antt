-- The range of each figure.
--   lowest f, highest f   the ends of the range of f, both included
--   admits f n            whether the number n may stand for f
use Rattle.std.specs.Prelude.{ℕ, Bool, ◌&&◌, nat_le}
use Rattle.market.specs.declared.ranges.Figure.{Figure}
use Rattle.market.specs.declared.ranges.Figure.TheVariants.{Unit, Serial, Account, Item, SecurityCode, Quantity, Price, Time, Date, AgreementNumber, DealNumber, Payment}

abbrev pub lowest : Figure → ℕ
lowest Unit = 1
lowest Serial = 1
lowest Account = 1
lowest Item = 0
lowest SecurityCode = 1
lowest Quantity = 1
lowest Price = 1
lowest Time = 0
lowest Date = 1
lowest AgreementNumber = 0
lowest DealNumber = 1
lowest Payment = 1

abbrev pub highest : Figure → ℕ
highest Unit = 999999
highest Serial = 99999999
highest Account = 9999999999
highest Item = 999999
highest SecurityCode = 999999
highest Quantity = 999999999
highest Price = 99999999
highest Time = 86399
highest Date = 99999999
highest AgreementNumber = 99999999
highest DealNumber = 4096
highest Payment = 1000000000000000

abbrev pub admits : Figure → ℕ → Bool
admits f n = nat_le (lowest f) n && nat_le n (highest f)
