-- The two classes of securities.
--   class_number c, class_of n   the number of a class; the class of that number, if any
--   price_step c, on_step c p    the step of prices; whether p is a multiple of it
--   reaches c q p                whether quantity q at price p reaches the least size
--   trades_at c t                whether the class trades at second t of the day
--   takes_code c n               whether a security of the class may have the code n
use Rattle.std.specs.Prelude.{ℕ, ◌%◌, Bool, true, cond, ◌&&◌, ◌||◌, Some, None, Option, ◌==◌, nat_le}
use Rattle.market.specs.declared.class.Class.{Class}
use Rattle.market.specs.declared.class.Class.TheVariants.{Bond, QuotedShare}
use Rattle.market.specs.declared.quantity.Quantity.{Quantity}
use Rattle.market.specs.declared.price.Price.{Price}
use Rattle.market.specs.Figures.{times}

abbrev pub class_number : Class → ℕ
class_number Bond = 1
class_number QuotedShare = 2

abbrev pub class_of : ℕ → Option Class
class_of n = cond (n == 1) (Some Bond) (cond (n == 2) (Some QuotedShare) None)

abbrev pub price_step : Class → ℕ
price_step Bond = 1
price_step QuotedShare = 10

abbrev pub on_step : Class → Price → Bool
on_step c p = p.number % price_step c == 0

abbrev pub reaches : Class → Quantity → Price → Bool
reaches Bond q p = nat_le 5000 q.number || nat_le 500000000 (times q p).number
reaches QuotedShare q p = nat_le 30000 q.number

abbrev pub between : ℕ → ℕ → ℕ → Bool
between a b n = nat_le a n && nat_le n b

abbrev pub trades_at : Class → ℕ → Bool
trades_at Bond t = between 33300 41400 t || between 46800 55800 t
trades_at QuotedShare t = between 34200 41400 t || between 46800 54000 t

abbrev pub takes_code : Class → ℕ → Bool
takes_code Bond n = true
takes_code QuotedShare n = between 430000 439999 n
