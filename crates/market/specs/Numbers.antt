-- Reading a number as a value of a kind.
--   Reads f n r   r is the value that f finds for the number n, or an error that names n where f finds none
use Rattle.std.specs.Prelude.{◌≡◌, ℕ, Option, Result, IfErr}
use Rattle.std.specs.Result.{result_ok}
use Rattle.market.specs.declared.number.BadNumber.{BadNumber}

abbrev pub Reads : {A : Type 0} → (ℕ → Option A) → ℕ → Result A BadNumber → Type 0
Reads f n r = (result_ok r ≡ f n) × IfErr r (λ e. e.0 ≡ n)
