-- The lines of a sheet: each ends at a byte 10 or at the sheet's end.
--   lines t        the lines of the sheet t; a last byte 10 starts no line, nor does an empty sheet
--   first_line t   its first line, and what stands behind that line and its byte 10
--   ended ls       the lines ls again as one text, each with a byte 10 behind it
--   with_end t     the sheet t, whose last line has a byte 10 behind it even where t leaves it out
--   Without b t    no byte of t is b
--   LinesOf t     the law: the lines, joined again, give the sheet, and no line holds a byte 10
use Rattle.std.specs.Prelude.{◌≡◌, ℕ, cond, List, [], ◌∷◌, ◌++◌, drop, Some, None, Option, ◌==◌, ◌≢◌}
use Rattle.std.specs.List.{AllByRecursion, flat_map}
use Rattle.sheet_text.specs.Cuts.{before, onward}

-- the byte b in front of the first line
abbrev pub onto_first : ℕ → List (List ℕ) → List (List ℕ)
onto_first b [] = (b ∷ []) ∷ []
onto_first b (l ∷ ls) = (b ∷ l) ∷ ls

abbrev pub lines : List ℕ → List (List ℕ)
lines [] = []
lines (b ∷ bs) = cond (b == 10) ([] ∷ lines bs) (onto_first b (lines bs))

abbrev pub first_line : List ℕ → Option (List ℕ × List ℕ)
first_line [] = None
first_line (b ∷ bs) = Some (before 10 (b ∷ bs), drop 1 (onward 10 (b ∷ bs)))

abbrev pub ended : List (List ℕ) → List ℕ
ended ls = flat_map (λ l. l ++ 10 ∷ []) ls

abbrev pub with_end : List ℕ → List ℕ
with_end [] = []
with_end (b ∷ []) = cond (b == 10) (b ∷ []) (b ∷ 10 ∷ [])
with_end (b ∷ c ∷ cs) = b ∷ with_end (c ∷ cs)

abbrev pub Without : ℕ → List ℕ → Type 0
Without b t = AllByRecursion (λ x. x ≢ b) t

pub record LinesOf (t : List ℕ) : Type 0 where
  pub joined_again : ended (lines t) ≡ with_end t
  pub apart : AllByRecursion (Without 10) (lines t)
