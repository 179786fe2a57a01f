-- An item's total is the sum over the records.
use Rattle.std.proofs.Common.{◌≡◌, ℕ, suc, ◌+◌, ◌<◌, ◌≤◌, List, [], ◌∷◌, length, take, sym, refl, ap, ◌∙◌, sum_by, take_all, arith}
use Rattle.std.proofs.lemmas.List.Sums.{sum_by-cons, sum_by_more_le}
use Rattle.ledger.specs.Books.{Book, accounts_end, limit, total, worth}
use Rattle.ledger.specs.Moves.{put}
use Rattle.ledger.specs.Laws.{of}
use Rattle.ledger.proofs.Adding.{sum_to_none}
use Rattle.ledger.proofs.Puts.{in_accounts, of_here, of_zero, total_put}
use Rattle.line_ledger.specs.declared.record.PairRecord.{PairRecord}
use Rattle.line_ledger.specs.Rows.{blank, figures, row, look, Apart, Ranged, Kept}
use Rattle.line_ledger.specs.Reading.{rest_apart, first_alone, look_front}

-- what a record adds to an item's total
abbrev pub weight : ℕ → PairRecord → ℕ
weight i p = of p.item (p.free + p.held) i

pub total_look : (rows : List PairRecord) (i : ℕ) → Apart rows → Ranged rows → total (look rows) i ≡ sum_by (weight i) rows
unfolding total look
total_look [] i A R = sum_to_none accounts_end
total_look (p ∷ rows) i A R =
    let ih = total_look rows i (rest_apart p rows A) (λ k l. R (suc k) (omega arith)) in
    let s = sum_by-cons (weight i) p rows in
    let f = first_alone p rows p.account p.item A refl refl in
    let m : total (look (p ∷ rows)) i ≡ total (put (look rows) p.account p.item (figures p)) i = ap (λ (x : Book). total x i) (look_front p rows f) in
    let w : worth (look rows p.account p.item) ≡ 0 = ap worth f in
    let t = total_put (look rows) p.account p.item (figures p) (p.free + p.held) 0 0 0 (in_accounts p.account p.item (R 0 (omega arith))) (omega arith) i in
    let z = of_zero p.item i in
    omega arith

-- the records of an item are within the limit, as far as they are summed
pub sum_fits : (rows : List PairRecord) (i k : ℕ) → Kept rows → k < length rows → (row rows k).item ≡ i → sum_by (weight i) (take k rows) + ((row rows k).free + (row rows k).held) ≤ limit
sum_fits rows i k K l e =
    let s = sum_by_more_le (weight i) rows k blank l in
    let w = of_here (row rows k).item ((row rows k).free + (row rows k).held) i e in
    let t = total_look rows i K.apart K.ranged in
    let b = K.bounded i in
    omega arith

pub sum_whole : (rows : List PairRecord) (i k : ℕ) → Kept rows → length rows ≤ k → (sum_by (weight i) (take k rows) ≡ total (look rows) i) × (total (look rows) i ≤ limit)
sum_whole rows i k K l = (ap (sum_by (weight i)) (take_all k rows l) ∙ sym (total_look rows i K.apart K.ranged), K.bounded i)

-- what the loop over the records is proved by
pub ruleset sums = (sum_fits, sum_whole)
