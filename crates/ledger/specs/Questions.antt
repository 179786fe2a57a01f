-- Whether anything is held.
--   any_money m       whether some account holds money, item 0
--   any_security m    whether some account holds some security, any other item
--   any_held m        either
--   NoneHeld m        no account holds anything
--   SomeHeld m        some account holds something
use Rattle.std.specs.Prelude.{◌≡◌, ℕ, ◌<◌, Bool, ◌&&◌, ◌||◌, ltb, nat_lt}
use Rattle.ledger.specs.Ranging.{any_to}
use Rattle.ledger.specs.Books.{Book, accounts_end, items_end}

unfoldable pub held_in : Book → ℕ → Bool
held_in m i = any_to accounts_end (λ a. ltb 0 (m a i).held)

unfoldable pub any_money : Book → Bool
any_money m = held_in m 0

unfoldable pub any_security : Book → Bool
any_security m = any_to items_end (λ i. nat_lt 0 i && held_in m i)

abbrev pub any_held : Book → Bool
any_held m = any_money m || any_security m

abbrev pub NoneHeld : Book → Type 0
NoneHeld m = (a i : ℕ) → (m a i).held ≡ 0

abbrev pub SomeHeld : Book → Type 0
SomeHeld m = (a : ℕ) × (i : ℕ) × (0 < (m a i).held)
