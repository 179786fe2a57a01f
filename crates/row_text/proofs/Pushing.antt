-- Text that is put together piece by piece, each piece by a call that may find no memory.
use Rattle.std.proofs.Common.{◌≡◌, ℕ, ◌+◌, ◌<◌, cond, List, ◌++◌, length, get_or, take, is_ok, IfOk, Ok, Err, Result, sym, ap, ◌∙◌}
use Rattle.std.specs.List.{flat_map}
use Rattle.std.proofs.lemmas.List.{append_assoc, flat_map_more, take_more}

-- one call more
pub then_made : {X E : Type 0} (r : Result X E) (w a b xs ys : List ℕ) → a ≡ w ++ xs → IfOk r (λ _. b ≡ a ++ ys) → IfOk r (λ _. b ≡ w ++ (xs ++ ys))
then_made (Ok x) w a b xs ys e h = h ∙ ap (λ (v : List ℕ). v ++ ys) e ∙ append_assoc w xs ys
then_made (Err x) w a b xs ys e h = tt

-- a last `push_str`
pub pushed_made : {X E : Type 0} (r : Result X E) (w a b xs ys : List ℕ) → a ≡ w ++ xs → b ≡ cond (is_ok r) (a ++ ys) a → IfOk r (λ _. b ≡ w ++ (xs ++ ys))
pushed_made (Ok x) w a b xs ys e h = h ∙ ap (λ (v : List ℕ). v ++ ys) e ∙ append_assoc w xs ys
pushed_made (Err x) w a b xs ys e h = tt

-- one element's text more, in a loop
pub joined_turn : {X : Type 0} (f : X → List ℕ) (s a b : List ℕ) (xs : List X) (i : ℕ) (d : X) → i < length xs → a ≡ s ++ flat_map f (take i xs) → b ≡ a ++ f (get_or xs i d) → b ≡ s ++ flat_map f (take (i + 1) xs)
joined_turn f s a b xs i d lt e h =
    h ∙ ap (λ (v : List ℕ). v ++ f (get_or xs i d)) e ∙ flat_map_more f s (take i xs) (get_or xs i d) ∙ ap (λ v. s ++ flat_map f v) (sym (take_more xs i d lt))
