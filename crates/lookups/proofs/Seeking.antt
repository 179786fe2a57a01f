-- What the searches of iterators find, in the words of the rules.
use Rattle.std.proofs.Common.{◌≡◌, ℕ, suc, ◌+◌, ◌<◌, ◌||◌, Bool, true, false, cond, List, [], ◌∷◌, length, Some, None, Option, is_some, sym, refl, ap, ◌∙◌, arith}
use Rattle.std.specs.Option.{option_map, IfSome}
use Rattle.std.specs.List.{position, position_from, list_any}
use Rattle.std.proofs.lemmas.Iterator.Adapters.{position_from-zero}
use Rattle.rules.specs.Orders.{first_place}
use Rattle.rules.specs.declared.order.Standing.{Standing}

further : (k : ℕ) (r : Option ℕ) → option_map (λ n. (k + 1) + n) r ≡ option_map (λ n. k + n) (option_map suc r)
further k None = refl
further k (Some n) = ap Some (omega arith)

mapped_cond : (b : Bool) (f : ℕ → ℕ) (n : ℕ) (r : Option ℕ) → option_map f (cond b (Some n) r) ≡ cond b (Some (f n)) (option_map f r)
mapped_cond true f n r = refl
mapped_cond false f n r = refl

counted_from : (p : Standing → Bool) (k : ℕ) (t : List Standing) → position_from p k t ≡ option_map (λ n. k + n) (first_place p t)
counted_from p k [] = refl
counted_from p k (x ∷ xs) =
    let z : k ≡ k + 0 = omega arith in
    ap (λ r. cond (p x) (Some k) r) (counted_from p (k + 1) xs ∙ further k (first_place p xs))
    ∙ ap (λ n. cond (p x) (Some n) (option_map (λ n. k + n) (option_map suc (first_place p xs)))) z
    ∙ sym (mapped_cond (p x) (λ n. k + n) 0 (option_map suc (first_place p xs)))

from_nothing : (r : Option ℕ) → option_map (λ n. 0 + n) r ≡ r
from_nothing None = refl
from_nothing (Some n) = ap Some (omega arith)

-- the first position at which a test passes is the first place of the table
pub found_first : (p : Standing → Bool) (t : List Standing) → position p t ≡ first_place p t
found_first p t = position_from-zero p t ∙ counted_from p 0 t ∙ from_nothing (first_place p t)

moved_up : (r : Option ℕ) (n : ℕ) → IfSome r (λ k. k < n) → IfSome (option_map suc r) (λ k. k < suc n)
moved_up None n h = tt
moved_up (Some k) n h = omega arith

either : (b : Bool) (r : Option ℕ) (n : ℕ) → IfSome r (λ k. k < suc n) → IfSome (cond b (Some 0) r) (λ k. k < suc n)
either true r n h = omega arith
either false r n h = h

-- and it lies within the table
pub found_within : (p : Standing → Bool) (t : List Standing) → IfSome (first_place p t) (λ k. k < length t)
found_within p [] = tt
found_within p (x ∷ xs) = either (p x) _ (length xs) (moved_up (first_place p xs) (length xs) (found_within p xs))

some_up : (r : Option ℕ) → is_some (option_map suc r) ≡ is_some r
some_up None = refl
some_up (Some k) = refl

some_at : (b : Bool) (r : Option ℕ) → is_some (cond b (Some 0) (option_map suc r)) ≡ (b || is_some r)
some_at true r = refl
some_at false r = some_up r

pub any_place : (p : Standing → Bool) (t : List Standing) → list_any p t ≡ is_some (first_place p t)
any_place p [] = refl
any_place p (x ∷ xs) = ap (λ (b : Bool). p x || b) (any_place p xs) ∙ sym (some_at (p x) (first_place p xs))
