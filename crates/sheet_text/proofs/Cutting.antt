-- A text cut at the place of its first such byte.
use Rattle.std.proofs.Common.{◌≡◌, ℕ, ◌+◌, ◌==◌, true, false, cond, not, List, [], ◌∷◌, length, take, drop, refl, ap, arith, suc}
use Rattle.std.specs.List.{position, position_or_len}
use Rattle.std.specs.Option.{unwrap_or}
use Rattle.std.proofs.lemmas.List.Sums.{prefix_len-le-length}
use Rattle.std.proofs.lemmas.Grind.{common_steps}
use Rattle.sheet_text.specs.Cuts.{before, onward}

pub front : (b : ℕ) (t : List ℕ) → take (position_or_len (λ x. x == b) t) t ≡ before b t
front b [] = refl
front b (x ∷ xs) =
    let n : ℕ = position_or_len (λ x. x == b) xs in
    let more : take n xs ≡ before b xs = front b xs in
    elim (x == b) as (λ v. take (cond (not v) (1 + n) 0) (x ∷ xs) ≡ cond v [] (x ∷ before b xs)) [
      | true ↦ refl
      | false ↦ let e : 1 + n ≡ suc n = omega arith in rw e (ap (λ s. x ∷ s) more)
    ]

pub back : (b : ℕ) (t : List ℕ) → drop (position_or_len (λ x. x == b) t) t ≡ onward b t
back b [] = refl
back b (x ∷ xs) =
    let n : ℕ = position_or_len (λ x. x == b) xs in
    let more : drop n xs ≡ onward b xs = back b xs in
    elim (x == b) as (λ v. drop (cond (not v) (1 + n) 0) (x ∷ xs) ≡ cond v (x ∷ xs) (onward b xs)) [
      | true ↦ refl
      | false ↦ let e : 1 + n ≡ suc n = omega arith in rw e more
    ]

pub place : (b : ℕ) (t : List ℕ) → unwrap_or (position (λ x. x == b) t) (length t) ≡ position_or_len (λ x. x == b) t
place b t =
    let le = prefix_len-le-length (λ x. not (x == b)) t in
    grind (arith, common_steps)
