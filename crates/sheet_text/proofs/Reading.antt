-- What one turn of `figure` keeps.
use Rattle.std.proofs.Common.{◌≡◌, ℕ, ◌+◌, ◌-◌, ◌*◌, ◌^◌, ◌<◌, ◌≤◌, true, ◌&&◌, leb, List, map, length, get_or, take, drop, sym, ap, ◌∙◌, pow-suc, add-one, arith}
use native.Mathlib.Nat.{pow-le-pow_right}
use Rattle.std.specs.Int.Digits.{number_from_digits}
use Rattle.std.proofs.lemmas.Int.Digits.{number_push}
use Rattle.std.proofs.lemmas.List.{drop_more, map_more}
use Rattle.std.proofs.lemmas.Bool.{leb-true, and_parts}
use Rattle.sheet_text.specs.Figures.{digit, is_digit, all_digits, decimal}

-- the first i bytes of t are digits, and write n
pub record Sofar (t : List ℕ) (i n : ℕ) : Type 0 where
  pub value : n ≡ decimal (take i t)
  pub bound : n < 10 ^ i
  pub rest : all_digits t ≡ all_digits (drop i t)

module _ (t : List ℕ) (i n : ℕ) (h : Sofar t i n) where
  -- ten times the number so far fits
  pub room : i < 18 → n < 100000000000000000
  room lt =
      let m : 10 ^ i ≤ 10 ^ 17 = pow-le-pow_right {n = 10} (omega arith) {i = i} {j = 17} (omega arith) in
      omega (arith, h.bound)

  pub one_more : i < length t → is_digit (get_or t i 0) ≡ true → Sofar t (i + 1) (n * 10 + (get_or t i 0 - 48))
  one_more lt is =
      let x : ℕ = get_or t i 0 in
      let few : x ≤ 57 = leb-true x 57 (and_parts (leb 48 x) (leb x 57) is).1 in
      let more : all_digits (drop i t) ≡ (is_digit x && all_digits (drop (i + 1) t)) = ap all_digits (drop_more t i 0 lt) in
      let power : 10 ^ (i + 1) ≡ 10 ^ i * 10 = ap (λ k. 10 ^ k) (add-one i) ∙ pow-suc 10 i in
      record {
        value = ap (λ m. m * 10 + (x - 48)) h.value ∙ sym (number_push 10 (map digit (take i t)) (digit x)) ∙ ap (number_from_digits 10) (sym (map_more digit t i 0 lt));
        bound = omega (arith, h.bound);
        rest = h.rest ∙ more ∙ ap (λ b. b && all_digits (drop (i + 1) t)) is;
      }
