-- What a reader has to hand out: at its making, and one line on.
use Rattle.std.proofs.Common.{◌≡◌, ℕ, suc, ◌+◌, ◌<◌, ◌≤◌, leb, List, [], ◌∷◌, length, Some, None, Ok, Err, Option, Result, sym, refl, ap, ◌∙◌, ⊎_elim, arith}
use native.Mathlib.Nat.{min-eq_left}
use Rattle.std.proofs.lemmas.Bool.{le-leb, lt-leb, leb-true, cases_Bool, cond-true, cond-false}
use Rattle.std.specs.List.{AllByRecursion}
use Rattle.market.specs.declared.refusal.Refusal.TheVariants.{SheetTooLong}
use Rattle.sheet_text.specs.Lines.{lines, first_line, ended, with_end, Without}
use Rattle.sheet_text.proofs.Joining.{lines_step, lines_few, lines_law}
use Rattle.sheet.specs.declared.fault.Fault.{Fault}
use Rattle.sheet.specs.Faults.{fault}
use Rattle.sheet.specs.Told.{Told}
use Rattle.sheet.specs.Parsing.{parsed}
use Rattle.std.specs.Option.{option_map, MatchOption}
use Rattle.sheet.specs.declared.line.Numbered.{Numbered}
use Rattle.sheet.specs.Handing.{Handed, numbered, sheet_lines, next_place, handed, first_of, rest_of, opening}

abbrev lines_by : Option (List ℕ × List ℕ) → List (List ℕ)
lines_by None = []
lines_by (Some p) = p.0 ∷ lines p.1

begun : (t : List ℕ) → lines t ≡ lines_by (first_line t)
begun [] = refl
begun (b ∷ bs) = lines_step b bs

-- the places stay few: at the making, and one line on
pub few_at_start : (t : List ℕ) → length t ≤ 65536 → 1 + length (lines t) ≤ 65537
few_at_start t short = omega (arith, lines_few t)

pub one_fewer : (t l r : List ℕ) → Some (l, r) ≡ first_line t → length (lines t) ≡ suc (length (lines r))
one_fewer t l r e = ap length (begun t ∙ ap lines_by (sym e))

-- what is handed out, and what is left
pub first : (k : ℕ) (t l r : List ℕ) (x : Told) → Some (l, r) ≡ first_line t → x ≡ parsed l → Some (record { place = k; line = x }) ≡ first_of (numbered next_place k (lines t))
first k t l r x e says =
    ap (λ (y : Told). Some (record { place = k; line = y })) says
    ∙ sym (ap (λ ls. first_of (numbered next_place k ls)) (begun t ∙ ap lines_by (sym e)))

-- the same for any count
module _ (k n : ℕ) (t l r : List ℕ) (x : Told) (e : Some (l, r) ≡ first_line t) (says : x ≡ parsed l) (next : n ≡ next_place k) where
  pub step : numbered next_place k (lines t) ≡ record { place = k; line = x } ∷ numbered next_place n (lines r)
  step =
      ap (numbered next_place k) (begun t ∙ ap lines_by (sym e))
      ∙ sym (λ i. record { place = k; line = says i } ∷ numbered next_place (next i) (lines r))

  pub answer : Some (record { place = k; line = x }) ≡ first_of (numbered next_place k (lines t))
  answer = sym (ap first_of step)

  pub after : numbered next_place n (lines r) ≡ rest_of (numbered next_place k (lines t))
  after = sym (ap rest_of step)

-- the same for a reader, whose places are few
pub step_within : (k : ℕ) (t l r : List ℕ) (x : Told) → Some (l, r) ≡ first_line t → x ≡ parsed l → k + length (lines t) ≤ 65537 → numbered next_place k (lines t) ≡ record { place = k; line = x } ∷ numbered next_place (k + 1) (lines r)
step_within k t l r x e says few =
    let room : k + 1 ≤ 18446744073709551615 = omega arith in step k (k + 1) t l r x e says (sym (min-eq_left room))

-- no line is left
pub none_left : (k : ℕ) (t : List ℕ) → None ≡ first_line t → numbered next_place k (lines t) ≡ []
none_left k t e = ap (numbered next_place k) (begun t ∙ ap lines_by (sym e))

-- the count of 64 bits is the plain one
counted : (k : ℕ) (ls : List (List ℕ)) → k + length ls ≤ 18446744073709551615 → numbered next_place k ls ≡ numbered (λ j. j + 1) k ls
counted k [] fits = refl
counted k (l ∷ ls) fits =
    let room : k + 1 ≤ 18446744073709551615 = omega arith in
    let rest : k + 1 + length ls ≤ 18446744073709551615 = omega arith in
    ap (λ n. record { place = k; line = parsed l } ∷ numbered next_place n ls) (min-eq_left room)
    ∙ ap (λ hs. record { place = k; line = parsed l } ∷ hs) (counted (k + 1) ls rest)

pub opens : (t : List ℕ) → length t ≤ 65536 → Ok (numbered next_place 1 (lines t)) ≡ opening t
opens t short =
    let few = lines_few t in
    let fits : 1 + length (lines t) ≤ 18446744073709551615 = omega arith in
    ap Ok (counted 1 (lines t) fits) ∙ sym (cond-true (leb (length t) 65536) (Ok (sheet_lines t)) _ (le-leb (length t) 65536 short))

pub too_long : (t : List ℕ) → 65536 < length t → Err (fault SheetTooLong 0) ≡ opening t
too_long t long = sym (cond-false (leb (length t) 65536) (Ok (sheet_lines t)) _ (lt-leb (length t) 65536 long))

-- the law of the lines, by its parts
pub joined : (t : List ℕ) → ended (lines t) ≡ with_end t
joined t = (lines_law t).joined_again

pub apart : (t : List ℕ) → AllByRecursion (Without 10) (lines t)
apart t = (lines_law t).apart

-- for callers: a sheet that is not refused has at most 65,536 lines
as_many : (f : ℕ → ℕ) (k : ℕ) (ls : List (List ℕ)) → length (numbered f k ls) ≡ length ls
as_many f k [] = refl
as_many f k (l ∷ ls) = ap (λ n. suc n) (as_many f (f k) ls)

pub few_lines : (t : List ℕ) (hs : List Handed) → Ok hs ≡ opening t → length hs ≤ 65536
few_lines t hs e =
    ⊎_elim
    (λ short.
    let all : hs ≡ sheet_lines t = from_ok (e ∙ cond-true (leb (length t) 65536) (Ok (sheet_lines t)) _ short) in
    omega (arith, ap length all, as_many (λ j. j + 1) 1 (lines t), lines_few t, leb-true (length t) 65536 short))
    (λ long. absurd (ok_is_not_err (e ∙ cond-false (leb (length t) 65536) (Ok (sheet_lines t)) _ long)))
    (cases_Bool (leb (length t) 65536))
  where
    from_ok : {xs ys : List Handed} → ◌≡◌ {A = Result (List Handed) Fault} (Ok xs) (Ok ys) → xs ≡ ys
    from_ok e = cc

    ok_is_not_err : {xs : List Handed} {y : Fault} → ◌≡◌ {A = Result (List Handed) Fault} (Ok xs) (Err y) → ⊥
    ok_is_not_err e = let z : ◌≡◌ {A = ℕ} 0 1 = cc in omega arith

-- a line that was handed out was the first of what was left
pub yielded : (s t : List Handed) (r : Option Numbered) → option_map handed r ≡ first_of s → t ≡ rest_of s → MatchOption r ((s ≡ []) × (t ≡ [])) (λ x. s ≡ handed x ∷ t)
yielded [] t None a b = (refl, b)
yielded [] t (Some x) a b = let z : ◌≡◌ {A = ℕ} 0 1 = cc in absurd (omega arith)
yielded (h ∷ hs) t None a b = let z : ◌≡◌ {A = ℕ} 0 1 = cc in absurd (omega arith)
yielded (h ∷ hs) t (Some x) a b =
    let e : handed x ≡ h = cc in
    ap (λ (v : Handed). v ∷ hs) (sym e) ∙ ap (λ (v : List Handed). handed x ∷ v) (sym b)
