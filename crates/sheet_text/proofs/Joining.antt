-- The lines of a sheet: one step, and the law of the lines.
use Rattle.std.proofs.Common.{◌≡◌, ℕ, ◌+◌, ◌≤◌, true, false, cond, eqb, List, [], ◌∷◌, length, drop, sym, refl, ap, ◌∙◌, ⊎_elim, arith}
use Rattle.std.specs.List.{AllByRecursion}
use Rattle.std.proofs.lemmas.Bool.{eqb-true, eqb-false, cases_Bool, cond-true, cond-false, cond_both}
use Rattle.sheet_text.specs.Cuts.{before, onward}
use Rattle.sheet_text.specs.Lines.{onto_first, lines, ended, with_end, Without, LinesOf}

-- the lines of a sheet are its first line, and the lines of what stands behind that
pub lines_step : (b : ℕ) (bs : List ℕ) → lines (b ∷ bs) ≡ before 10 (b ∷ bs) ∷ lines (drop 1 (onward 10 (b ∷ bs)))
lines_step b [] =
    elim (eqb b 10) as (λ v. cond v ([] ∷ []) (onto_first b []) ≡ cond v [] (b ∷ []) ∷ lines (drop 1 (cond v (b ∷ []) []))) [
      | true ↦ refl
      | false ↦ refl
    ]
lines_step b (c ∷ cs) =
    elim (eqb b 10) as (λ v. cond v ([] ∷ lines (c ∷ cs)) (onto_first b (lines (c ∷ cs))) ≡ cond v [] (b ∷ before 10 (c ∷ cs)) ∷ lines (drop 1 (cond v (b ∷ c ∷ cs) (onward 10 (c ∷ cs))))) [
      | true ↦ refl
      | false ↦ ap (onto_first b) (lines_step c cs)
    ]

-- a line takes at least one byte
onto_few : (b : ℕ) (ls : List (List ℕ)) → length (onto_first b ls) ≤ 1 + length ls
onto_few b [] = omega arith
onto_few b (l ∷ ls) = omega arith

pub lines_few : (t : List ℕ) → length (lines t) ≤ length t
lines_few [] = omega arith
lines_few (b ∷ bs) =
    let few = lines_few bs in
    let onto = onto_few b (lines bs) in
    elim (eqb b 10) as (λ v. length (cond v ([] ∷ lines bs) (onto_first b (lines bs))) ≤ length (b ∷ bs)) [
      | true ↦ omega arith
      | false ↦ omega arith
    ]

joins : (t : List ℕ) → ended (lines t) ≡ with_end t
joins [] = refl
joins (b ∷ []) =
    ⊎_elim
    (λ e. rw e (ap (λ x. x ∷ []) (sym (eqb-true b 10 e))))
    (λ e. rw e)
    (cases_Bool (eqb b 10))
joins (b ∷ c ∷ cs) =
    let more : ended (lines (c ∷ cs)) ≡ with_end (c ∷ cs) = joins (c ∷ cs) in
    let step = lines_step c cs in
    ⊎_elim
    (λ e. ap ended (cond-true (eqb b 10) ([] ∷ lines (c ∷ cs)) (onto_first b (lines (c ∷ cs))) e) ∙ ap (λ s. 10 ∷ s) more ∙ ap (λ x. x ∷ with_end (c ∷ cs)) (sym (eqb-true b 10 e)))
    (λ e. ap ended (cond-false (eqb b 10) ([] ∷ lines (c ∷ cs)) (onto_first b (lines (c ∷ cs))) e) ∙ ap (λ ls. ended (onto_first b ls)) step ∙ ap (λ ls. b ∷ ended ls) (sym step) ∙ ap (λ s. b ∷ s) more)
    (cases_Bool (eqb b 10))

without_more : (b : ℕ) (ls : List (List ℕ)) → (b ≡ 10 → ⊥) → AllByRecursion (Without 10) ls → AllByRecursion (Without 10) (onto_first b ls)
without_more b [] ne h = ((ne, tt), tt)
without_more b (l ∷ ls) ne h = ((ne, h.0), h.1)

stand_apart : (t : List ℕ) → AllByRecursion (Without 10) (lines t)
stand_apart [] = tt
stand_apart (b ∷ bs) =
    let more : AllByRecursion (Without 10) (lines bs) = stand_apart bs in
    cond_both (eqb b 10) ([] ∷ lines bs) (onto_first b (lines bs)) (AllByRecursion (Without 10)) (λ _. (tt, more)) (λ e. without_more b (lines bs) (eqb-false b 10 e) more)

pub lines_law : (t : List ℕ) → LinesOf t
lines_law t = record { joined_again = joins t; apart = stand_apart t }
