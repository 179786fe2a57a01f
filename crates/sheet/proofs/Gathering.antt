-- What one turn of `read_figures` keeps.
use Rattle.std.proofs.Common.{◌≡◌, ℕ, suc, ◌+◌, ◌-◌, ◌<◌, ◌≤◌, List, [], ◌∷◌, ◌++◌, length, take, drop, set, Some, None, Err, Option, sym, ap, ◌∙◌, arith, length-set}
use Rattle.std.proofs.lemmas.List.{take_more_set}
use Rattle.sheet_text.specs.Cuts.{before, onward}
use Rattle.sheet_text.specs.Figures.{figure}
use Rattle.sheet.specs.Faults.{no_figure}
use Rattle.sheet.specs.Fields.{Read, by_figure, read}

-- i of w figures are read, and reading on from the rest gives what the whole gives
pub record Sofar (whole : Read) (w i : ℕ) (numbers rest : List ℕ) : Type 0 where
  pub long : length numbers ≡ 9
  pub same : read (take i numbers) (w - i) (i + 2) rest ≡ whole

-- one more field
step : (w i k : ℕ) (so rest text : List ℕ) → i < w → 1 ≤ length rest → text ≡ drop 1 rest
    → read so (w - i) k rest ≡ by_figure (figure (before 32 text)) (λ v. read (so ++ v ∷ []) (w - (i + 1)) (k + 1) (onward 32 text)) (Err (no_figure k))
step w i k so [] text lt some e = absurd (omega arith)
step w i k so (b ∷ t) text lt some e =
    let fewer : w - i ≡ suc (w - (i + 1)) = omega arith in
    ap (λ n. read so n k (b ∷ t)) fewer
    ∙ ap (λ (s : List ℕ). by_figure (figure (before 32 s)) (λ v. read (so ++ v ∷ []) (w - (i + 1)) (k + 1) (onward 32 s)) (Err (no_figure k))) (sym e)

module _ (whole : Read) (w i : ℕ) (numbers rest : List ℕ) (h : Sofar whole w i numbers rest) (lt : i < w) where
  module _ (text : List ℕ) (some : 1 ≤ length rest) (is : text ≡ drop 1 rest) (v : Option ℕ) (read_as : v ≡ figure (before 32 text)) where
    at_field : by_figure v (λ n. read (take i numbers ++ n ∷ []) (w - (i + 1)) (i + 2 + 1) (onward 32 text)) (Err (no_figure (i + 2))) ≡ whole
    at_field =
        ap (λ (o : Option ℕ). by_figure o (λ n. read (take i numbers ++ n ∷ []) (w - (i + 1)) (i + 2 + 1) (onward 32 text)) (Err (no_figure (i + 2)))) read_as
        ∙ sym (step w i (i + 2) (take i numbers) rest text lt some is) ∙ h.same

  -- the next field is no figure
  pub no_digits : (text : List ℕ) → 1 ≤ length rest → text ≡ drop 1 rest → None ≡ figure (before 32 text) → Err (no_figure (i + 2)) ≡ whole
  no_digits text some is none_read = at_field text some is None none_read

  -- the next field is the figure n
  pub one_more : (text : List ℕ) (n : ℕ) (behind : List ℕ) → w ≤ 9 → 1 ≤ length rest → text ≡ drop 1 rest → Some n ≡ figure (before 32 text) → behind ≡ onward 32 text → Sofar whole w (i + 1) (set numbers i n) behind
  one_more text n behind few some is reads past =
      let room : i < length numbers = omega (arith, h.long) in
      let place : i + 1 + 2 ≡ i + 2 + 1 = omega arith in
      record {
        long = length-set numbers i n ∙ h.long;
        same = (λ j. read (take_more_set numbers i n room j) (w - (i + 1)) (place j) (past j)) ∙ at_field text some is (Some n) reads;
      }
