-- From a line's figures to what it says.
use Rattle.std.proofs.Common.{◌≡◌, ℕ, true, false, eqb, List, [], ◌∷◌, length, Some, None, sym, refl, ap, ◌∙◌, arith}
use Rattle.std.proofs.lemmas.Bool.{eqb-true, true≢false}
use Rattle.sheet.specs.declared.codes.Form.{Form}
use Rattle.sheet.specs.Codes.{announced, figures_of}
use Rattle.sheet.specs.Faults.{empty, unknown}
use Rattle.sheet.specs.Fields.{Read, read}
use Rattle.sheet.specs.Told.{refused}
use Rattle.sheet.specs.Parsing.{filled, by_form, parsed}

-- an empty line, and any other
pub nothing : (l : List ℕ) → true ≡ eqb (length l) 0 → refused empty ≡ parsed l
unfolding parsed
nothing [] e = refl
nothing (b ∷ bs) e = let none : length (b ∷ bs) ≡ 0 = eqb-true (length (b ∷ bs)) 0 (sym e) in absurd (omega arith)

begun : (l : List ℕ) → false ≡ eqb (length l) 0 → by_form (announced l) ≡ parsed l
unfolding parsed
begun [] e = absurd (true≢false (sym e))
begun (b ∷ bs) e = refl

pub no_code : (l : List ℕ) → false ≡ eqb (length l) 0 → None ≡ announced l → refused unknown ≡ parsed l
no_code l some is = ap by_form is ∙ begun l some

module _ (l t : List ℕ) (f : Form) (w : ℕ) (some : false ≡ eqb (length l) 0) (is : Some (f, t) ≡ announced l) (wanted : w ≡ figures_of f) where
  pub whole : (r : Read) → r ≡ read [] w 2 t → filled f t r ≡ parsed l
  whole r reads =
      ap (filled f t) (reads ∙ ap (λ n. read [] n 2 t) wanted) ∙ ap by_form is ∙ begun l some
