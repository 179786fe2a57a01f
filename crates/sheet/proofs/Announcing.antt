-- The code of a line by its first bytes.
use Rattle.std.proofs.Common.{◌≡◌, ℕ, ◌≤◌, true, false, eqb, List, [], ◌∷◌, length, get_or, drop, None, Option, sym, refl, ap, ◌∙◌, ⊎_elim, arith}
use Rattle.std.proofs.lemmas.Bool.{eqb-true, cases_Bool}
use Rattle.sheet_text.specs.Cuts.{before, onward}
use Rattle.sheet.specs.declared.codes.Form.{Form}
use Rattle.sheet.specs.Codes.{one_letter, two_letters, form_of, ends, with_text, announced}

-- a text at whose front a code ends
stops : (t : List ℕ) → ends t ≡ true → (before 32 t ≡ []) × (onward 32 t ≡ t)
stops [] e = (refl, refl)
stops (b ∷ bs) e = (rw e, rw e)

goes_on : (b : ℕ) (bs : List ℕ) → eqb b 32 ≡ false → (before 32 (b ∷ bs) ≡ b ∷ before 32 bs) × (onward 32 (b ∷ bs) ≡ onward 32 bs)
goes_on b bs e = (rw e, rw e)

-- a line that begins with a blank has no known code
blank : (b : ℕ) (bs : List ℕ) → eqb b 32 ≡ true → announced (b ∷ bs) ≡ None
blank b bs e = ap (λ (l : List ℕ). with_text (form_of l) (onward 32 (b ∷ bs))) (stops (b ∷ bs) e).0

no_one : (b : ℕ) → eqb b 32 ≡ true → one_letter b ≡ None
no_one b e = ap one_letter (eqb-true b 32 e)

no_two : (b c : ℕ) → eqb b 32 ≡ true → two_letters b c ≡ None
no_two b c e = ap (λ x. two_letters x c) (eqb-true b 32 e)

pub one : (t : List ℕ) (o : Option Form) → 1 ≤ length t → ends (drop 1 t) ≡ true → o ≡ one_letter (get_or t 0 0) → with_text o (drop 1 t) ≡ announced t
one [] o some e is = absurd (omega arith)
one (b ∷ bs) o some e is =
    let next = stops bs e in
    ⊎_elim
    (λ h. ap (λ (x : Option Form). with_text x bs) (is ∙ no_one b h) ∙ sym (blank b bs h))
    (λ h.
    let past = goes_on b bs h in
    let code : before 32 (b ∷ bs) ≡ b ∷ [] = past.0 ∙ ap (λ (l : List ℕ). b ∷ l) next.0 in
    let text : onward 32 (b ∷ bs) ≡ bs = past.1 ∙ next.1 in
    ap (λ (x : Option Form). with_text x bs) is ∙ sym (λ i. with_text (form_of (code i)) (text i)))
    (cases_Bool (eqb b 32))

pub two : (t : List ℕ) (o : Option Form) → 2 ≤ length t → ends (drop 1 t) ≡ false → ends (drop 2 t) ≡ true → o ≡ two_letters (get_or t 0 0) (get_or t 1 0) → with_text o (drop 2 t) ≡ announced t
two [] o some one-no e is = absurd (omega arith)
two (b ∷ []) o some one-no e is = absurd (omega arith)
two (b ∷ c ∷ cs) o some one-no e is =
    let next = stops cs e in
    let second = goes_on c cs one-no in
    ⊎_elim
    (λ h. ap (λ (x : Option Form). with_text x cs) (is ∙ no_two b c h) ∙ sym (blank b (c ∷ cs) h))
    (λ h.
    let past = goes_on b (c ∷ cs) h in
    let code : before 32 (b ∷ c ∷ cs) ≡ b ∷ c ∷ [] = past.0 ∙ ap (λ (l : List ℕ). b ∷ l) (second.0 ∙ ap (λ (l : List ℕ). c ∷ l) next.0) in
    let text : onward 32 (b ∷ c ∷ cs) ≡ cs = past.1 ∙ second.1 ∙ next.1 in
    ap (λ (x : Option Form). with_text x cs) is ∙ sym (λ i. with_text (form_of (code i)) (text i)))
    (cases_Bool (eqb b 32))
