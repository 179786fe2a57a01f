-- Figures that are spelt in the text are read.
use Rattle.std.proofs.Common.{◌≡◌, ℕ, suc, ◌+◌, true, false, ◌&&◌, eqb, leb, List, [], ◌∷◌, ◌++◌, length, Some, None, Ok, Err, sym, refl, ap, ◌∙◌, ⊎_elim, append_assoc, append-nil, arith}
use Rattle.std.proofs.lemmas.Bool.{leb-true, ne_eqb, cases_Bool, cond-false, and_parts}
use Rattle.sheet_text.specs.Cuts.{before, onward}
use Rattle.sheet_text.specs.Figures.{is_digit, all_digits, decimal, figure}
use Rattle.sheet.specs.Codes.{ends}
use Rattle.sheet.specs.Faults.{no_figure}
use Rattle.sheet.specs.Fields.{by_figure, read}
use Rattle.sheet.specs.Written.{Field, Spells}

-- a figure is all digits
digits_of : (w : List ℕ) (v : ℕ) → figure w ≡ Some v → all_digits w ≡ true
digits_of w v e =
    ⊎_elim
    (λ h. (and_parts (leb (length w) 18) (all_digits w) (and_parts (leb 1 (length w)) (leb (length w) 18 && all_digits w) h).1).1)
    (λ h. let n : None ≡ Some v = sym (cond-false _ (Some (decimal w)) None h) ∙ e in let z : ◌≡◌ {A = ℕ} 0 1 = cc in absurd (omega arith))
    (cases_Bool (leb 1 (length w) && (leb (length w) 18 && all_digits w)))

-- a field ends where the text behind it begins
ends_so : (s : List ℕ) → ends s ≡ true → (before 32 s ≡ []) × (onward 32 s ≡ s)
ends_so [] e = (refl, refl)
ends_so (b ∷ bs) e = (rw e, rw e)

field_ends : (w s : List ℕ) → all_digits w ≡ true → ends s ≡ true → (before 32 (w ++ s) ≡ w) × (onward 32 (w ++ s) ≡ s)
field_ends [] s d e = ends_so s e
field_ends (x ∷ xs) s d e =
    let parts = and_parts (is_digit x) (all_digits xs) d in
    let low = leb-true 48 x (and_parts (leb 48 x) (leb x 57) parts.0).0 in
    let past : eqb x 32 ≡ false = ne_eqb x 32 (λ q. absurd (omega arith)) in
    let more = field_ends xs s parts.1 e in
    (cond-false (eqb x 32) [] (x ∷ before 32 (xs ++ s)) past ∙ ap (λ (l : List ℕ). x ∷ l) more.0, cond-false (eqb x 32) (x ∷ xs ++ s) (onward 32 (xs ++ s)) past ∙ more.1)

pub begins : (t ns u : List ℕ) → Spells t ns u → ends u ≡ true → ends t ≡ true
begins t [] u h e = ap ends h ∙ e
begins t (v ∷ ns) u h e = ap ends h.1.0.stands

-- figures that are spelt are read
pub reads : (ns so : List ℕ) (k : ℕ) (t u : List ℕ) → ends u ≡ true → Spells t ns u → read so (length ns) k t ≡ Ok (so ++ ns, u)
reads [] so k t u e h = λ i. Ok (sym (append-nil so) i, h i)
reads (v ∷ ns) so k t u e h =
    let s : List ℕ = h.0 in
    let f : Field t v s = h.1.0 in
    let w : List ℕ = f.digits in
    let cut = field_ends w s (digits_of w v f.value) (begins s ns u h.1.1 e) in
    let is : figure (before 32 (w ++ s)) ≡ Some v = ap figure cut.0 ∙ f.value in
    let more : read (so ++ v ∷ []) (length ns) (k + 1) s ≡ Ok ((so ++ v ∷ []) ++ ns, u) = reads ns (so ++ v ∷ []) (k + 1) s u e h.1.1 in
    ap (read so (suc (length ns)) k) f.stands
    ∙ (λ i. by_figure (is i) (λ (n : ℕ). read (so ++ n ∷ []) (length ns) (k + 1) (cut.1 i)) (Err (no_figure k)))
    ∙ more ∙ ap (λ (l : List ℕ). Ok (l, u)) (append_assoc so (v ∷ []) ns)
