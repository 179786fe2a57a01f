-- One line of a sheet.
--   parsed l         what the line l says, or why it is refused: an empty line first, then an unknown code, then the
--                    leftmost field
--   by_form a        the same, once the code is announced
--   filled f t r     the same, once the figures are read from the text t behind the code
--   closed f t ns u  the same, with the figures ns and the text u behind them
use Rattle.std.specs.Prelude.{ℕ, ◌+◌, cond, List, [], ◌∷◌, Some, None, Ok, Err, Option}
use Rattle.sheet.specs.declared.codes.Form.{Form}
use Rattle.sheet.specs.Faults.{empty, unknown, miscounted}
use Rattle.sheet.specs.Codes.{announced, figures_of, takes_contact}
use Rattle.sheet.specs.Fields.{Read, read}
use Rattle.sheet.specs.Told.{Told, refused, meaning}

-- behind the figures ns stands the text, of which a contact loses its blank
abbrev pub closed : Form → List ℕ → List ℕ → List ℕ → Told
closed f t ns [] = meaning f ns t []
closed f t ns (blank ∷ c) = cond (takes_contact f) (meaning f ns t c) (refused (miscounted (figures_of f + 2)))

abbrev pub filled : Form → List ℕ → Read → Told
filled f t (Ok p) = closed f t p.0 p.1
filled f t (Err e) = refused e

abbrev pub by_form : Option (Form × List ℕ) → Told
by_form None = refused unknown
by_form (Some p) = filled p.0 p.1 (read [] (figures_of p.0) 2 p.1)

unfoldable pub parsed : List ℕ → Told
parsed [] = refused empty
parsed (b ∷ bs) = by_form (announced (b ∷ bs))
