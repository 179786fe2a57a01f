-- A move of one pair as a whole, by its check and its change: the answer, the book and what the records keep to.
--   not_found, short, written   the three ways of such a move
--   filled_kept, lent_answer, lent_after   what was done to records that were lent, in the list that lent them
use Rattle.std.proofs.Common.{◌≡◌, ℕ, ◌<◌, ◌≤◌, List, ◌++◌, length, take, set, Ok, Err, sym, ap, ◌∙◌, subst, arith, take_all}
use lib.Seq.{take-append-le}
use Rattle.market.specs.declared.refusal.Refusal.{Refusal}
use Rattle.market.specs.declared.refusal.Refusal.TheVariants.{PairNotOpen}
use Rattle.ledger.specs.Books.{Figures, Book, nothing, Lawful}
use Rattle.ledger.specs.Moves.{Answer, Change, put, edit, checked, when_done}
use Rattle.ledger.proofs.Fairly.{Fair, edit_lawful}
use Rattle.ledger.proofs.OnePair.{not_open, too_small, enough}
use Rattle.line_ledger.specs.declared.record.PairRecord.{PairRecord}
use Rattle.line_ledger.specs.Rows.{figures, row, look, Kept}
use Rattle.line_ledger.specs.Reading.{look_at, look_set, kept_set, kept_lawful}

-- the record of the pair a i stands at place k
pub record At (rows : List PairRecord) (k a i : ℕ) : Type 0 where
  pub inside : k < length rows
  pub account : (row rows k).account ≡ a
  pub item : (row rows k).item ≡ i

-- the answer, the book, and what the records keep to
pub record Out (r : Answer) (rows : List PairRecord) (want : Answer) (left : Book) : Type 0 where
  pub answer : r ≡ want
  pub after : look rows ≡ left
  pub kept : Kept rows

at_place : (rows : List PairRecord) (k a i : ℕ) → Kept rows → At rows k a i → look rows a i ≡ figures (row rows k)
at_place rows k a i K P = look_at rows k a i K.apart P.inside P.account P.item

-- a way that changes nothing
pub refused : (e : Refusal) (rows : List PairRecord) (want : Answer) (after : Book) → Kept rows → want ≡ Err e → Out (Err e) rows want (when_done want after (look rows))
refused e rows want after K h = record {
  answer = sym h;
  after = ap (λ (r : Answer). when_done r after (look rows)) (sym h);
  kept = K;
}

-- one that does
done : (rows rows' : List PairRecord) (want : Answer) (after : Book) → want ≡ Ok tt → look rows' ≡ after → Kept rows' → Out (Ok tt) rows' want (when_done want after (look rows))
done rows rows' want after h e K = record {
  answer = sym h;
  after = e ∙ ap (λ (r : Answer). when_done r after (look rows)) (sym h);
  kept = K;
}

-- a write of a record whose figures are changed is an edit
pub edit_row : (change : Change) (rows : List PairRecord) (k a i x : ℕ) (p : PairRecord) → Kept rows → At rows k a i → p.account ≡ a → p.item ≡ i → figures p ≡ change (figures (row rows k)) x → look (set rows k p) ≡ edit change (look rows) a i x
unfolding edit
edit_row change rows k a i x p K P e d h =
    look_set rows k a i p K.apart P.inside P.account P.item e d
    ∙ ap (λ (f : Figures). put (look rows) a i f) h
    ∙ ap (λ (f : Figures). put (look rows) a i (change f x)) (sym (at_place rows k a i K P))

pub edit_kept : (change : Change) (rows : List PairRecord) (k a i x : ℕ) (p : PairRecord) (g l u v : ℕ) → Kept rows → At rows k a i → p.account ≡ a → p.item ≡ i → figures p ≡ change (figures (row rows k)) x → Fair change (look rows) a i x g l u v → Kept (set rows k p)
edit_kept change rows k a i x p g l u v K P e d h F =
    kept_set rows k a i p K P.inside P.account P.item e d
    (subst Lawful (sym (edit_row change rows k a i x p K P e d h)) (edit_lawful change (look rows) a i x g l u v (kept_lawful rows K) F))

-- the three ways of a move of one pair
pub not_found : (change : Change) (rows : List PairRecord) (a i x have need : ℕ) (e : Refusal) → Kept rows → look rows a i ≡ nothing → Out (Err PairNotOpen) rows (checked (look rows a i) have need e) (when_done (checked (look rows a i) have need e) (edit change (look rows) a i x) (look rows))
not_found change rows a i x have need e K h =
    refused PairNotOpen rows _ (edit change (look rows) a i x) K (not_open (look rows a i) have need e (ap (λ (f : Figures). f.is_open) h))

pub short : (change : Change) (rows : List PairRecord) (k a i x have need : ℕ) (e : Refusal) → Kept rows → At rows k a i → have < need → Out (Err e) rows (checked (look rows a i) have need e) (when_done (checked (look rows a i) have need e) (edit change (look rows) a i x) (look rows))
short change rows k a i x have need e K P h =
    refused e rows _ (edit change (look rows) a i x) K (too_small (look rows a i) have need e (ap (λ (f : Figures). f.is_open) (at_place rows k a i K P)) h)

pub written : (change : Change) (rows : List PairRecord) (k a i x have need : ℕ) (e : Refusal) (p : PairRecord) (g l u v : ℕ) → Kept rows → At rows k a i → need ≤ have → p.account ≡ a → p.item ≡ i → figures p ≡ change (figures (row rows k)) x → Fair change (look rows) a i x g l u v → Out (Ok tt) (set rows k p) (checked (look rows a i) have need e) (when_done (checked (look rows a i) have need e) (edit change (look rows) a i x) (look rows))
written change rows k a i x have need e p g l u v K P h ea ei ef F =
    done rows (set rows k p) _ (edit change (look rows) a i x)
    (enough (look rows a i) have need e (ap (λ (f : Figures). f.is_open) (at_place rows k a i K P)) h)
    (edit_row change rows k a i x p K P ea ei ef)
    (edit_kept change rows k a i x p g l u v K P ea ei ef F)

filled : (n : ℕ) (ws zs : List PairRecord) → length ws ≡ n → take n (ws ++ zs) ≡ ws
filled n ws zs e = take-append-le n ws zs (omega arith) ∙ take_all n ws (omega arith)

pub filled_kept : (n u : ℕ) (ws zs : List PairRecord) → length ws ≡ n → Kept (take u ws) → Kept (take u (take n (ws ++ zs)))
filled_kept n u ws zs e K = subst (λ (x : List PairRecord). Kept (take u x)) (sym (filled n ws zs e)) K

-- a move of the first u: the answer and the book, in the records as they were before they were lent
pub lent_answer : (A : Book → Answer) (r : Answer) (xs ys : List PairRecord) (u : ℕ) → xs ≡ ys → r ≡ A (look (take u xs)) → r ≡ A (look (take u ys))
lent_answer A r xs ys u v e = e ∙ ap (λ (x : List PairRecord). A (look (take u x))) v

pub lent_after : (B : Book → Book) (n : ℕ) (xs ys ws zs : List PairRecord) (u : ℕ) → length ws ≡ n → xs ≡ ys → look (take u ws) ≡ B (look (take u xs)) → look (take u (take n (ws ++ zs))) ≡ B (look (take u ys))
lent_after B n xs ys ws zs u l v e =
    ap (λ (x : List PairRecord). look (take u x)) (filled n ws zs l) ∙ e ∙ ap (λ (x : List PairRecord). B (look (take u x))) v
