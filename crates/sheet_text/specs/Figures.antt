-- A figure: 1 to 18 decimal digits.
--   digit b        the value of the digit that the byte b writes
--   all_digits t   whether every byte of t is a digit
--   decimal t      the number that the digits of t write in base ten
--   figure t       that number, if t is a figure
use Rattle.std.specs.Prelude.{ℕ, ◌-◌, Bool, true, cond, ◌&&◌, List, [], ◌∷◌, map, length, Some, None, Option, nat_le}
use Rattle.std.specs.Int.Digits.{number_from_digits}

abbrev pub digit : ℕ → ℕ
digit b = b - 48

abbrev pub is_digit : ℕ → Bool
is_digit b = nat_le 48 b && nat_le b 57

abbrev pub all_digits : List ℕ → Bool
all_digits [] = true
all_digits (b ∷ bs) = is_digit b && all_digits bs

abbrev pub decimal : List ℕ → ℕ
decimal t = number_from_digits 10 (map digit t)

abbrev pub figure : List ℕ → Option ℕ
figure t = cond (nat_le 1 (length t) && (nat_le (length t) 18 && all_digits t)) (Some (decimal t)) None
