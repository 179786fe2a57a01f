-- Figures that were read are spelt in the text.
use Rattle.std.proofs.Common.{◌≡◌, ℕ, zero, suc, ◌+◌, true, false, cond, eqb, List, [], ◌∷◌, ◌++◌, length, Some, None, Ok, Err, Option, sym, refl, ap, ◌∙◌, ⊎_elim, append_assoc, append-nil, arith}
use Rattle.std.proofs.lemmas.Bool.{eqb-true, cases_Bool, cond-true, cond-false}
use Rattle.sheet_text.specs.Cuts.{before, onward}
use Rattle.sheet_text.specs.Figures.{figure}
use Rattle.sheet.specs.declared.fault.Fault.{Fault}
use Rattle.sheet.specs.Codes.{ends}
use Rattle.sheet.specs.Faults.{no_figure}
use Rattle.sheet.specs.Fields.{Read, by_figure, read}
use Rattle.sheet.specs.Written.{Spells}

-- a text is its two parts
pub whole : (b : ℕ) (t : List ℕ) → t ≡ before b t ++ onward b t
whole b [] = refl
whole b (x ∷ xs) =
    let more = whole b xs in
    elim (eqb x b) as (λ v. x ∷ xs ≡ cond v [] (x ∷ before b xs) ++ cond v (x ∷ xs) (onward b xs)) [
      | true ↦ refl
      | false ↦ ap (λ (s : List ℕ). x ∷ s) more
    ]

pub led : (t : List ℕ) → ends (onward 32 t) ≡ true
led [] = refl
led (x ∷ xs) =
    ⊎_elim
    (λ e. ap ends (cond-true (eqb x 32) (x ∷ xs) (onward 32 xs) e) ∙ e)
    (λ e. ap ends (cond-false (eqb x 32) (x ∷ xs) (onward 32 xs) e) ∙ led xs)
    (cases_Bool (eqb x 32))

-- figures that were read are spelt in the text
pub record Spelt (so : List ℕ) (n : ℕ) (t : List ℕ) (p : List ℕ × List ℕ) : Type 0 where
  pub figures : List ℕ
  pub all : p.0 ≡ so ++ figures
  pub many : length figures ≡ n
  pub spells : Spells t figures p.1
  pub closes : ends p.1 ≡ true

not_read : {A : Type 0} (e : Fault) (p : List ℕ × List ℕ) → ◌≡◌ {A = Read} (Err e) (Ok p) → A
not_read e p eq = let z : ◌≡◌ {A = ℕ} 0 1 = cc in absurd (omega arith)

same_read : (p q : List ℕ × List ℕ) → ◌≡◌ {A = Read} (Ok p) (Ok q) → p ≡ q
same_read p q eq = cc

pub spelt : (n : ℕ) (so : List ℕ) (k : ℕ) (t : List ℕ) (p : List ℕ × List ℕ) → ends t ≡ true → read so n k t ≡ Ok p → Spelt so n t p
spelt zero so k t p e eq =
    let q : (so, t) ≡ p = same_read (so, t) p eq in
    record { figures = []; all = sym (ap (λ (x : List ℕ × List ℕ). x.0) q) ∙ sym (append-nil so); many = refl; spells = ap (λ (x : List ℕ × List ℕ). x.1) q; closes = ap (λ (x : List ℕ × List ℕ). ends x.1) (sym q) ∙ e }
spelt (suc n) so k [] p e eq = not_read _ p eq
spelt (suc n) so k (b ∷ t) p e eq =
    by (figure (before 32 t)) refl eq (λ v got. spelt n (so ++ v ∷ []) (k + 1) (onward 32 t) p (led t) got)
  where
    by : (o : Option ℕ) → figure (before 32 t) ≡ o → by_figure o (λ v. read (so ++ v ∷ []) n (k + 1) (onward 32 t)) (Err (no_figure k)) ≡ Ok p
        → ((v : ℕ) → read (so ++ v ∷ []) n (k + 1) (onward 32 t) ≡ Ok p → Spelt (so ++ v ∷ []) n (onward 32 t) p) → Spelt so (suc n) (b ∷ t) p
    by None is got on = not_read _ p got
    by (Some v) is got on =
        let more : Spelt (so ++ v ∷ []) n (onward 32 t) p = on v got in
        record {
          figures = v ∷ more.figures;
          all = more.all ∙ append_assoc so (v ∷ []) more.figures;
          many = ap (λ m. suc m) more.many;
          spells = (onward 32 t, (record { digits = before 32 t; stands = (λ i. eqb-true b 32 e i ∷ whole 32 t i); value = is }, more.spells));
          closes = more.closes;
        }
