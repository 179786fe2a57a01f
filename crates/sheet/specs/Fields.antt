-- The figures of a line: fields of digits, each after one blank (byte 32).
--   read so_far n k t   n more figures of the text t behind a line's code, the next being field k, behind
--                       those so far: all of them with the text that is left, or the leftmost field's fault
--   by_figure v f e     f of the figure v, or e where there is none
use Rattle.std.specs.Prelude.{ℕ, zero, suc, ◌+◌, List, [], ◌∷◌, ◌++◌, Some, None, Ok, Err, Option, Result}
use Rattle.sheet_text.specs.Cuts.{before, onward}
use Rattle.sheet_text.specs.Figures.{figure}
use Rattle.sheet.specs.declared.fault.Fault.{Fault}
use Rattle.sheet.specs.Faults.{miscounted, no_figure}

abbrev pub Read : Type 0
Read = Result (List ℕ × List ℕ) Fault

abbrev pub by_figure : Option ℕ → (ℕ → Read) → Read → Read
by_figure (Some v) f e = f v
by_figure None f e = e

abbrev pub read : List ℕ → ℕ → ℕ → List ℕ → Read
read so_far zero k t = Ok (so_far, t)
read so_far (suc n) k [] = Err (miscounted k)
read so_far (suc n) k (blank ∷ t) =
    by_figure (figure (before 32 t)) (λ v. read (so_far ++ v ∷ []) n (k + 1) (onward 32 t)) (Err (no_figure k))
