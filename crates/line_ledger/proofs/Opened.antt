-- A table with no record, and one more record: a pair opened with nothing.
use Rattle.std.proofs.Common.{◌≡◌, ◌≢◌, ℕ, ◌<◌, true, false, List, [], ◌∷◌, ◌++◌, length, sym, refl, ap, ◌∙◌, subst, ⊎_elim, arith}
use Rattle.std.proofs.lemmas.List.{length_push, get_or_push, get_or_append_left}
use Rattle.std.proofs.lemmas.Bool.{cases_eq, true≢false, cond-true, cond-false}
use Rattle.ledger.specs.Books.{Figures, accounts_end, in_range, total, Lawful}
use Rattle.ledger.specs.Moves.{Answer, put, when_done}
use Rattle.ledger.specs.Opening.{new_pair, open_answer, open_after, SameFigures}
use Rattle.ledger.proofs.Adding.{sum_to_none}
use Rattle.ledger.proofs.Pairs.{opened_lawful, opened_same}
use Rattle.line_ledger.specs.declared.record.PairRecord.{PairRecord}
use Rattle.line_ledger.specs.Rows.{blank, row, look, Kept}
use Rattle.line_ledger.specs.Opening.{no_pairs}
use Rattle.line_ledger.specs.Reading.{look_more, look_at, kept_lawful}

kept_none : Kept []
unfolding look total
kept_none = record {
  apart = λ j k c. let h = c.inside in omega arith;
  ranged = λ k h. absurd (omega arith);
  bounded = λ i. let z = sum_to_none accounts_end in omega arith;
}

pub kept_new : (rows : List PairRecord) → rows ≡ [] → Kept rows
kept_new rows e = subst Kept (sym e) kept_none

pub look_new : (rows : List PairRecord) → rows ≡ [] → look rows ≡ no_pairs
unfolding look
look_new rows e = ap look e

-- no record is of the pair of p
abbrev Fresh : List PairRecord → PairRecord → Type 0
Fresh rows p = (k : ℕ) → k < length rows → (row rows k).account ≡ p.account → (row rows k).item ≢ p.item

fresh : (rows : List PairRecord) (p : PairRecord) → Kept rows → (look rows p.account p.item).is_open ≡ false → Fresh rows p
fresh rows p K h k l e d = true≢false (sym (ap (λ (f : Figures). f.is_open) (look_at rows k p.account p.item K.apart l e d)) ∙ h)

-- a place of the longer list is an old one or the last
each_push : (P : ℕ → PairRecord → Type 0) (rows : List PairRecord) (p : PairRecord) → P (length rows) p → ((k : ℕ) → k < length rows → P k (row rows k)) → (k : ℕ) → k < length (rows ++ p ∷ []) → P k (row (rows ++ p ∷ []) k)
each_push P rows p last old k l =
    let n = length_push rows p in
    ⊎_elim
    (λ (z : length rows ≡ k). subst (λ (x : ℕ). P x (row (rows ++ p ∷ []) x)) z (subst (P (length rows)) (sym (get_or_push rows p blank (length rows) refl)) last))
    (λ (nz : length rows ≡ k → ⊥).
    let b : k < length rows = omega arith in subst (P k) (sym (get_or_append_left rows (p ∷ []) blank k b)) (old k b))
    (cases_eq (length rows) k)

kept_push : (rows : List PairRecord) (p : PairRecord) → Kept rows → Fresh rows p → in_range p.account p.item ≡ true → Lawful (look (rows ++ p ∷ [])) → Kept (rows ++ p ∷ [])
kept_push rows p K h r L =
    let n = length_push rows p in
    record {
      apart = λ j k c.
          let b = c.before in
          let g = c.inside in
          let e : row (rows ++ p ∷ []) j ≡ row rows j = get_or_append_left rows (p ∷ []) blank j (omega arith) in
          each_push (λ x q. x ≡ k → (row rows j).account ≡ q.account → (row rows j).item ≢ q.item) rows p
          (λ z. h j (omega arith))
          (λ x l z a d. K.apart j x (record { before = omega arith; inside = l; accounts = a; items = d }))
          k c.inside refl (ap (λ (q : PairRecord). q.account) (sym e) ∙ c.accounts) (ap (λ (q : PairRecord). q.item) (sym e) ∙ c.items);
      ranged = each_push (λ x q. in_range q.account q.item ≡ true) rows p r K.ranged;
      bounded = L.bounded;
    }

-- a pair opened with nothing
opened_book : (rows : List PairRecord) (p : PairRecord) → Kept rows → (look rows p.account p.item).is_open ≡ false → in_range p.account p.item ≡ true → p.free ≡ 0 → p.held ≡ 0 → look (rows ++ p ∷ []) ≡ open_after (look rows) 1 p.account p.item
unfolding open_answer open_after
opened_book rows p K c r f h =
    let m = look rows in
    let a = p.account in
    let i = p.item in
    look_more rows p
    ∙ ap (λ (x : ℕ). put m a i (record { is_open = true; free = x; held = p.held })) f
    ∙ ap (λ (x : ℕ). put m a i (record { is_open = true; free = 0; held = x })) h
    ∙ ap (λ (x : Answer). when_done x (put m a i new_pair) m) (sym (cond-true (in_range a i) _ _ r ∙ cond-false (m a i).is_open _ _ c))

pub kept_opened : (rows xs : List PairRecord) (p : PairRecord) → xs ≡ rows ++ p ∷ [] → Kept rows → false ≡ (look rows p.account p.item).is_open → true ≡ in_range p.account p.item → p.free ≡ 0 → p.held ≡ 0 → Kept xs
kept_opened rows xs p e K c r f h =
    subst Kept (sym e) (kept_push rows p K (fresh rows p K (sym c)) (sym r) (subst Lawful (sym (opened_book rows p K (sym c) (sym r) f h)) (opened_lawful (look rows) 1 p.account p.item (kept_lawful rows K))))

pub same_figures : (rows xs : List PairRecord) (p : PairRecord) → xs ≡ rows ++ p ∷ [] → Kept rows → false ≡ (look rows p.account p.item).is_open → true ≡ in_range p.account p.item → p.free ≡ 0 → p.held ≡ 0 → SameFigures (look rows) (look xs)
same_figures rows xs p e K c r f h =
    subst (SameFigures (look rows)) (sym (ap look e ∙ opened_book rows p K (sym c) (sym r) f h)) (opened_same (look rows) 1 p.account p.item (kept_lawful rows K))

-- what an opening is proved by
pub ruleset opens = (look_more, same_figures)
