-- One row more of a text.
use Rattle.std.proofs.Common.{◌≡◌, ℕ, ◌<◌, ◌≤◌, eqb, List, [], ◌∷◌, ◌++◌, length, drop, Some, None, Option, sym, ap, ◌∙◌, append_assoc, arith, length-drop}
use Rattle.std.specs.List.{flat_map}
use Rattle.std.proofs.lemmas.Bool.{cond_both}
use Rattle.sheet_text.specs.Cuts.{before, onward}
use Rattle.sheet_text.specs.Lines.{first_line}
use Rattle.sheet_text.proofs.Joining.{lines_step}
use Rattle.explaining.specs.Notes.{explained_row, explained}

same_first : (a b c d : List ℕ) → ◌≡◌ {A = Option (List ℕ × List ℕ)} (Some (a, b)) (Some (c, d)) → (a ≡ c) × (b ≡ d)
same_first a b c d h = let p : ◌≡◌ {A = List ℕ × List ℕ} (a, b) (c, d) = cc in (ap (λ (x : List ℕ × List ℕ). x.0) p, ap (λ (x : List ℕ × List ℕ). x.1) p)

none : (a b : List ℕ) → ◌≡◌ {A = Option (List ℕ × List ℕ)} (Some (a, b)) None → ⊥
none a b h = let z : ◌≡◌ {A = ℕ} 0 1 = cc in omega arith

pub explained_turn : (t a b row rest : List ℕ) → Some (row, rest) ≡ first_line t → b ≡ a ++ explained_row row → b ++ explained rest ≡ a ++ explained t
explained_turn [] a b row rest h e = absurd (none row rest h)
explained_turn (x ∷ xs) a b row rest h e =
    let p = same_first row rest (before 10 (x ∷ xs)) (drop 1 (onward 10 (x ∷ xs))) h in
    ap (λ (v : List ℕ). v ++ explained rest) e
    ∙ append_assoc a (explained_row row) (explained rest)
    ∙ ap (λ (v : List ℕ). a ++ (explained_row v ++ explained rest)) p.0
    ∙ ap (λ (v : List ℕ). a ++ (explained_row (before 10 (x ∷ xs)) ++ explained v)) p.1
    ∙ ap (λ (v : List (List ℕ)). a ++ flat_map explained_row v) (sym (lines_step x xs))

onward_le : (b : ℕ) (xs : List ℕ) → length (onward b xs) ≤ length xs
onward_le b [] = omega arith
onward_le b (x ∷ xs) =
    let r = onward_le b xs in
    let P : List ℕ → Type 0 = λ v. length v ≤ length (x ∷ xs) in
    cond_both (eqb x b) (x ∷ xs) (onward b xs) P (λ e. omega arith) (λ e. omega (arith, r))

pub less_left : (t row rest : List ℕ) → Some (row, rest) ≡ first_line t → length rest < length t
less_left [] row rest h = absurd (none row rest h)
less_left (x ∷ xs) row rest h =
    let p = ap length (same_first row rest (before 10 (x ∷ xs)) (drop 1 (onward 10 (x ∷ xs))) h).1 in
    let l = length-drop 1 (onward 10 (x ∷ xs)) in
    let m = onward_le 10 (x ∷ xs) in
    omega (arith, p, l, m)
