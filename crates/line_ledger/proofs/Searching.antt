-- Where a pair's record stands, and whether a record holds something.
use Rattle.std.proofs.Common.{◌==◌, ◌&&◌, not, nat_lt, ◌≡◌, ℕ, suc, ◌<◌, ◌≢◌, Bool, true, false, List, [], ◌∷◌, length, Option, Some, None, Decides, MatchOption, MatchResult, ok_or, sym, refl, ap, ◌∙◌, subst, ⊎_elim, arith}
use borrow.Author.Rules.{get_or_read}
use Rattle.std.specs.List.{HoldsAt, AllWithin, list_any}
use Rattle.std.proofs.lemmas.List.Folds.{Any-from_list_any, list_any_at}
use Rattle.std.proofs.lemmas.Bool.{and_from, and_parts, eqb-true, eqb-false, ne_eqb, lt-ltb, ltb-true, not-true, cases_Bool, cond-true}
use Rattle.std.proofs.lemmas.Bool.Decides.{same_from_decides}
use Rattle.market.specs.declared.refusal.Refusal.TheVariants.{PairNotOpen}
use Rattle.ledger.specs.Books.{Figures, Book, nothing, Lawful}
use Rattle.ledger.specs.Questions.{any_money, any_security}
use Rattle.ledger.proofs.Puts.{in_accounts, in_items}
use Rattle.ledger.proofs.Holding.{HeldIn, money_decides, security_decides}
use Rattle.line_ledger.specs.declared.record.PairRecord.{PairRecord}
use Rattle.line_ledger.specs.Rows.{blank, figures, row, stands, look, Place, Kept}
use Rattle.line_ledger.specs.Reading.{stands_is, look_closed, front_here, front_past, look_fresh, look_at, kept_lawful}

-- what a search for the pair's record found
abbrev IsOf : ℕ → ℕ → PairRecord → Type 0
IsOf a i p = (p.account ≡ a) × (p.item ≡ i)

abbrev NotOf : ℕ → ℕ → PairRecord → Type 0
NotOf a i p = p.account ≡ a → p.item ≢ i

pub placed : (rows : List PairRecord) (a i : ℕ) (o : Option ℕ) → Kept rows → MatchOption o (AllWithin (NotOf a i) rows 0 (length rows)) (λ k. (k < length rows) × HoldsAt (IsOf a i) rows k × AllWithin (NotOf a i) rows 0 k) → MatchResult (ok_or o PairNotOpen) (Place rows a i) (λ e. (e ≡ PairNotOpen) × (look rows a i ≡ nothing))
placed rows a i None K h = (refl, look_fresh rows a i (λ k l. h k blank (omega arith) l))
placed rows a i (Some k) K h =
    let q = h.1 blank in
    record { inside = h.0; account = q.0; item = q.1; says = look_at rows k a i K.apart h.0 q.0 q.1 }

held_row : (rows : List PairRecord) (a i : ℕ) → 0 < (look rows a i).held → (k : ℕ) × (k < length rows) × ((row rows k).item ≡ i) × (0 < (row rows k).held)
unfolding look
held_row [] a i h = absurd (omega arith)
held_row (p ∷ rows) a i h = ⊎_elim
    (λ (o : (look rows a i).is_open ≡ true).
    let e : (look (p ∷ rows) a i).held ≡ (look rows a i).held = ap (λ (f : Figures). f.held) (cond-true (look rows a i).is_open _ _ o) in
    let w = held_row rows a i (omega arith) in
    (suc w.0, omega arith, w.2, w.3))
    (λ (c : (look rows a i).is_open ≡ false).
    let z = look_closed rows a i c in
    ⊎_elim
    (λ (s : stands p a i ≡ true).
    let e : (look (p ∷ rows) a i).held ≡ p.held = ap (λ (f : Figures). f.held) (front_here p rows a i s z) in
    (0, omega arith, (stands_is p a i s).1, omega arith))
    (λ (s : stands p a i ≡ false).
    let e : (look (p ∷ rows) a i).held ≡ 0 = ap (λ (f : Figures). f.held) (front_past p rows a i s ∙ z) in
    absurd (omega arith))
    (cases_Bool (stands p a i)))
    (cases_Bool (look rows a i).is_open)

held_open : (m : Book) (a i : ℕ) → Lawful m → 0 < (m a i).held → (m a i).is_open ≡ true
held_open m a i L h = ⊎_elim
    (λ (o : (m a i).is_open ≡ true). o)
    (λ (o : (m a i).is_open ≡ false). let e : (m a i).held ≡ 0 = ap (λ (f : Figures). f.held) (L.closed a i o) in absurd (omega arith))
    (cases_Bool (m a i).is_open)

-- what a search of the records for something held, of the items that t has, says of the book
abbrev pub holds : (ℕ → Bool) → PairRecord → Bool
holds t p = t p.item && nat_lt 0 p.held

abbrev HeldOf : Book → (ℕ → Bool) → Type 0
HeldOf m t = (i : ℕ) × (t i ≡ true) × HeldIn m i

decided : (rows : List PairRecord) (t : ℕ → Bool) → Kept rows → Decides (list_any (holds t) rows) (HeldOf (look rows) t)
decided rows t K = (found, searched)
  where
    found : list_any (holds t) rows ≡ true → HeldOf (look rows) t
    found h =
        let w = Any-from_list_any (holds t) rows h in
        let p = w.1 in
        let r : p ≡ row rows w.0 = get_or_read rows w.0 p w.2 (sym w.3) blank in
        let q = and_parts (t p.item) (nat_lt 0 p.held) w.4 in
        let l : 0 < p.held = ltb-true 0 p.held q.1 in
        let s : look rows p.account p.item ≡ figures p =
        look_at rows w.0 p.account p.item K.apart w.2 (ap (λ (x : PairRecord). x.account) (sym r)) (ap (λ (x : PairRecord). x.item) (sym r)) ∙ ap figures (sym r)
        in
        let e : (look rows p.account p.item).held ≡ p.held = ap (λ (f : Figures). f.held) s in
        let g = (kept_lawful rows K).ranged p.account p.item (ap (λ (f : Figures). f.is_open) s) in
        (p.item, q.0, (p.account, in_accounts p.account p.item g, omega arith))

    searched : HeldOf (look rows) t → list_any (holds t) rows ≡ true
    searched w =
        let q = held_row rows w.2.0 w.0 w.2.2 in
        list_any_at (holds t) rows q.0 blank q.1 (and_from (t (row rows q.0).item) (nat_lt 0 (row rows q.0).held) (ap t q.2 ∙ w.1) (lt-ltb 0 (row rows q.0).held q.3))

pub money_any : (rows : List PairRecord) → Kept rows → any_money (look rows) ≡ list_any (holds (λ i. i == 0)) rows
money_any rows K =
    let m = look rows in
    same_from_decides (any_money m) (list_any (holds (λ i. i == 0)) rows)
    (λ t. (0, refl, (money_decides m).0 t), λ w. (money_decides m).1 (subst (HeldIn m) (eqb-true w.0 0 w.1) w.2))
    (decided rows (λ i. i == 0) K)

pub security_any : (rows : List PairRecord) → Kept rows → any_security (look rows) ≡ list_any (holds (λ i. not (i == 0))) rows
security_any rows K =
    let m = look rows in
    same_from_decides (any_security m) (list_any (holds (λ i. not (i == 0))) rows) (
      λ t. let w = (security_decides m).0 t in let l = w.2.0 in (w.0, ap not (ne_eqb w.0 0 (λ z. omega arith)), w.2.1),
      λ w.
          let o = held_open m w.2.0 w.0 (kept_lawful rows K) w.2.2 in
          let z = eqb-false w.0 0 (not-true (w.0 == 0) w.1) in
          (security_decides m).1 (w.0, in_items w.2.0 w.0 ((kept_lawful rows K).ranged w.2.0 w.0 o), (omega arith, w.2)),
    )
    (decided rows (λ i. not (i == 0)) K)
