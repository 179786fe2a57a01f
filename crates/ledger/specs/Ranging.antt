-- Sums and searches over all numbers below a bound. Shut, since the bounds are large.
--   sum_to n f   f 0 + f 1 + .. + f (n - 1)
--   any_to n p   whether p holds of some number below n
use Rattle.std.specs.Prelude.{ℕ, zero, suc, ◌+◌, Bool, false, ◌||◌}

unfoldable pub sum_to : ℕ → (ℕ → ℕ) → ℕ
sum_to zero f = 0
sum_to (suc n) f = sum_to n f + f n

unfoldable pub any_to : ℕ → (ℕ → Bool) → Bool
any_to zero p = false
any_to (suc n) p = p n || any_to n p
