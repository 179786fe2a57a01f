-- A text, a list of bytes, cut at the first byte of a kind.
--   before b t   what stands in t before its first byte b; all of t where there is none
--   onward b t   the rest of t, from that byte on; nothing where there is none
use Rattle.std.specs.Prelude.{ℕ, cond, List, [], ◌∷◌, ◌==◌}

abbrev pub before : ℕ → List ℕ → List ℕ
before b [] = []
before b (x ∷ xs) = cond (x == b) [] (x ∷ before b xs)

abbrev pub onward : ℕ → List ℕ → List ℕ
onward b [] = []
onward b (x ∷ xs) = cond (x == b) (x ∷ xs) (onward b xs)
