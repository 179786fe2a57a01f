-- What a write of one record's figures comes to. Each lemma names first the term at which a tactic is to take it up.
use Rattle.std.proofs.Common.{◌≡◌, ℕ, ◌+◌, ◌<◌, ◌≤◌, true, List, length, get_or, set, sym, refl, ap, ◌∙◌, subst, arith, length-set}
use borrow.Author.Rules.{get_or_read}
use Rattle.ledger.specs.Books.{Figures, Book, limit, total, Lawful}
use Rattle.ledger.specs.Moves.{put, edit}
use Rattle.ledger.proofs.Puts.{in_accounts, of_here, of_zero, total_part, total_put, worth_open}
use Rattle.ledger.proofs.Fairly.{edit_lawful}
use Rattle.line_ledger.specs.declared.record.PairRecord.{PairRecord}
use Rattle.line_ledger.specs.Rows.{blank, figures, row, look, Kept}
use Rattle.line_ledger.specs.Reading.{look_at, look_set, account_set, item_set, kept_set, kept_lawful}

-- q with other figures
abbrev pub with_figures : PairRecord → ℕ → ℕ → PairRecord
with_figures q f h = record { account = q.account; item = q.item; free = f; held = h }

abbrev pub of_figures : ℕ → ℕ → Figures
of_figures f h = record { is_open = true; free = f; held = h }

-- q was read at place k
pub record Read (rows : List PairRecord) (k : ℕ) (q : PairRecord) : Type 0 where
  pub account : (row rows k).account ≡ q.account
  pub item : (row rows k).item ≡ q.item
  pub says : look rows q.account q.item ≡ figures q
  pub part : q.free + q.held ≤ total (look rows) q.item

was_read : (rows : List PairRecord) (k : ℕ) (q : PairRecord) → Kept rows → k < length rows → q ≡ get_or rows k q → Read rows k q
was_read rows k q K l r =
    let e = get_or_read rows k q l r blank in
    let a = ap (λ (x : PairRecord). x.account) (sym e) in
    let i = ap (λ (x : PairRecord). x.item) (sym e) in
    let s : look rows q.account q.item ≡ figures q = look_at rows k q.account q.item K.apart l a i ∙ ap figures (sym e) in
    let o = ap (λ (x : Figures). x.is_open) s in
    let x : (look rows q.account q.item).free ≡ q.free = ap (λ (z : Figures). z.free) s in
    let y : (look rows q.account q.item).held ≡ q.held = ap (λ (z : Figures). z.held) s in
    let w = worth_open (look rows q.account q.item) o in
    let t = total_part (look rows) q.account q.item (in_accounts q.account q.item ((kept_lawful rows K).ranged q.account q.item o)) in
    record { account = a; item = i; says = s; part = omega arith }

-- what was read is within its item's total
pub row_fits : (rows : List PairRecord) (k : ℕ) (q : PairRecord) → Kept rows → k < length rows → q ≡ get_or rows k q → (get_or rows k q ≡ get_or rows k q) × (q.free + q.held ≤ total (look rows) q.item) × (total (look rows) q.item ≤ limit)
row_fits rows k q K l r = (refl, (was_read rows k q K l r).part, K.bounded q.item)

pub look_written : (rows : List PairRecord) (k : ℕ) (q : PairRecord) (f h : ℕ) → Kept rows → k < length rows → q ≡ get_or rows k q → look (set rows k (with_figures q f h)) ≡ put (look rows) q.account q.item (of_figures f h)
look_written rows k q f h K l r =
    let R = was_read rows k q K l r in look_set rows k q.account q.item (with_figures q f h) K.apart l R.account R.item refl refl

-- the item's total changes as the record's figures do
pub total_written : (rows : List PairRecord) (k : ℕ) (q : PairRecord) (f h : ℕ) → Kept rows → k < length rows → q ≡ get_or rows k q → total (look (set rows k (with_figures q f h))) q.item + (q.free + q.held) ≡ total (look rows) q.item + (f + h)
total_written rows k q f h K l r =
    let R = was_read rows k q K l r in
    let m = look rows in
    let o = ap (λ (x : Figures). x.is_open) R.says in
    let x : (m q.account q.item).free ≡ q.free = ap (λ (z : Figures). z.free) R.says in
    let y : (m q.account q.item).held ≡ q.held = ap (λ (z : Figures). z.held) R.says in
    let w = worth_open (m q.account q.item) o in
    let t = total_put m q.account q.item (of_figures f h) (f + h) (q.free + q.held) 0 0 (in_accounts q.account q.item ((kept_lawful rows K).ranged q.account q.item o)) (omega arith) q.item in
    let g = of_here q.item (f + h) q.item refl in
    let p = of_here q.item (q.free + q.held) q.item refl in
    let z = of_zero q.item q.item in
    let e : total (look (set rows k (with_figures q f h))) q.item ≡ total (put m q.account q.item (of_figures f h)) q.item = ap (λ (v : Book). total v q.item) (look_written rows k q f h K l r) in
    omega arith

pub kept_written : (rows : List PairRecord) (k : ℕ) (q : PairRecord) (f h : ℕ) → Kept rows → k < length rows → q ≡ get_or rows k q → total (look rows) q.item + (f + h) ≤ limit + (q.free + q.held) → Kept (set rows k (with_figures q f h))
unfolding edit
kept_written rows k q f h K l r w =
    let R = was_read rows k q K l r in
    let x : (look rows q.account q.item).free ≡ q.free = ap (λ (z : Figures). z.free) R.says in
    let y : (look rows q.account q.item).held ≡ q.held = ap (λ (z : Figures). z.held) R.says in
    kept_set rows k q.account q.item (with_figures q f h) K l R.account R.item refl refl
    (subst Lawful (sym (look_written rows k q f h K l r))
    (edit_lawful (λ z n. of_figures f h) (look rows) q.account q.item 0 f q.free h q.held (kept_lawful rows K)
    (record { was = ap (λ (z : Figures). z.is_open) R.says; stays = refl; free = omega arith; held = omega arith; fits = w })))

-- r was read at place k once the figures of the record q at place j were written, with no more than before
pub row_again : (rows : List PairRecord) (j : ℕ) (q : PairRecord) (f h k : ℕ) (r : PairRecord) → Kept rows → j < length rows → k < length rows → q ≡ get_or rows j q → f + h ≤ q.free + q.held → (row rows k).item ≡ (row rows j).item → r ≡ get_or (set rows j (with_figures q f h)) k r → (get_or (set rows j (with_figures q f h)) k r ≡ get_or (set rows j (with_figures q f h)) k r) × (r.account ≡ (row rows k).account) × (r.item ≡ q.item) × (put (look rows) q.account q.item (of_figures f h) r.account q.item ≡ figures r) × (r.free + r.held + (q.free + q.held) ≤ limit + (f + h))
row_again rows j q f h k r K l l' e w d e' =
    let xs = set rows j (with_figures q f h) in
    let R = was_read rows j q K l e in
    let b = K.bounded q.item in
    let n = length-set rows j (with_figures q f h) in
    let M : Kept xs = kept_written rows j q f h K l e (omega arith) in
    let S = was_read xs k r M (omega arith) e' in
    let i : r.item ≡ q.item = sym S.item ∙ item_set rows j q.item (with_figures q f h) l R.item refl k ∙ d ∙ R.item in
    let t = total_written rows j q f h K l e in
    let p : r.free + r.held ≤ total (look xs) q.item = subst (λ (x : ℕ). r.free + r.held ≤ total (look xs) x) i S.part in (
      refl,
      sym S.account ∙ account_set rows j q.account (with_figures q f h) l R.account refl k,
      i,
      ap (λ (m : Book). m r.account q.item) (sym (look_written rows j q f h K l e)) ∙ ap (λ (x : ℕ). look xs r.account x) (sym i) ∙ S.says,
      omega arith,
    )

pub look_again : (rows : List PairRecord) (j : ℕ) (q : PairRecord) (f h k : ℕ) (r : PairRecord) (g u : ℕ) → Kept rows → j < length rows → k < length rows → q ≡ get_or rows j q → f + h ≤ q.free + q.held → r ≡ get_or (set rows j (with_figures q f h)) k r → look (set (set rows j (with_figures q f h)) k (with_figures r g u)) ≡ put (put (look rows) q.account q.item (of_figures f h)) r.account r.item (of_figures g u)
look_again rows j q f h k r g u K l l' e w e' =
    let R = was_read rows j q K l e in
    let x = R.part in
    let b = K.bounded q.item in
    let n = length-set rows j (with_figures q f h) in
    look_written (set rows j (with_figures q f h)) k r g u (kept_written rows j q f h K l e (omega arith)) (omega arith) e'
    ∙ ap (λ (m : Book). put m r.account r.item (of_figures g u)) (look_written rows j q f h K l e)

pub kept_again : (rows : List PairRecord) (j : ℕ) (q : PairRecord) (f h k : ℕ) (r : PairRecord) (g u : ℕ) → Kept rows → j < length rows → k < length rows → q ≡ get_or rows j q → f + h ≤ q.free + q.held → (row rows k).item ≡ (row rows j).item → r ≡ get_or (set rows j (with_figures q f h)) k r → (g + u) + (f + h) ≤ (r.free + r.held) + (q.free + q.held) → Kept (set (set rows j (with_figures q f h)) k (with_figures r g u))
kept_again rows j q f h k r g u K l l' e w d e' v =
    let xs = set rows j (with_figures q f h) in
    let R = was_read rows j q K l e in
    let b = K.bounded q.item in
    let n = length-set rows j (with_figures q f h) in
    let t = total_written rows j q f h K l e in
    let A = row_again rows j q f h k r K l l' e w d e' in
    let z : total (look xs) r.item ≡ total (look xs) q.item = ap (total (look xs)) A.2 in
    kept_written xs k r g u (kept_written rows j q f h K l e (omega arith)) (omega arith) e' (omega arith)

-- what the moves are proved by
pub ruleset writes = (row_fits, look_written, row_again, look_again)
