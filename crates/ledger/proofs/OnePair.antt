-- Every move of one pair: a check of `have` against `need`, and a change that is fair if the check is passed.
use Rattle.std.proofs.Common.{◌≡◌, ℕ, ◌<◌, ◌≤◌, Bool, true, false, cond, ltb, Ok, Err, sym, refl, ap, ◌∙◌, subst}
use Rattle.std.proofs.lemmas.Bool.{ltb-false, lt-ltb, le-ltb, cond-true, cond-false}
use Rattle.market.specs.declared.refusal.Refusal.{Refusal}
use Rattle.market.specs.declared.refusal.Refusal.TheVariants.{PairNotOpen}
use Rattle.ledger.specs.Books.{Figures, Book, Lawful}
use Rattle.ledger.specs.Moves.{Answer, Change, edit, checked, when_done}
use Rattle.ledger.specs.Laws.{done, at, of, Leaves}
use Rattle.ledger.proofs.Puts.{of_zero, at_zero}
use Rattle.ledger.proofs.Fairly.{Fair, Shift, shift_none, edit_shift, edit_lawful}

-- what an answer moved, and nothing else
pub record Moved (m after : Book) (r : Answer) (a i g l k h : ℕ) : Type 0 where
  pub lawful : Lawful after
  pub leaves : Leaves r m after
  pub shift : Shift m after a i (done r g) (done r l) (done r k) (done r h)

pub one_pair : (change : Change) (m : Book) (a i n have need : ℕ) (e : Refusal) (g l k h : ℕ) → Lawful m → ((m a i).is_open ≡ true → need ≤ have → Fair change m a i n g l k h) → Moved m (when_done (checked (m a i) have need e) (edit change m a i n) m) (checked (m a i) have need e) a i g l k h
one_pair change m a i n have need e g l k h L F = go (m a i).is_open refl (ltb have need) refl
  where
    none : (r : Refusal) → Moved m m (Err r) a i g l k h
    none r = record { lawful = L; leaves = refl; shift = shift_none m a i }

    go : (b : Bool) → (m a i).is_open ≡ b → (t : Bool) → ltb have need ≡ t → Moved m (when_done (cond b (cond t (Err e) (Ok tt)) (Err PairNotOpen)) (edit change m a i n) m) (cond b (cond t (Err e) (Ok tt)) (Err PairNotOpen)) a i g l k h
    go false o t d = none PairNotOpen
    go true o true d = none e
    go true o false d =
        let f = F o (ltb-false have need d) in
        record { lawful = edit_lawful change m a i n g l k h L f; leaves = tt; shift = edit_shift change m a i n g l k h L f }

done_none : (r : Answer) → done r 0 ≡ 0
done_none (Ok x) = refl
done_none (Err e) = refl

pub of_none : (r : Answer) (i j : ℕ) → of i (done r 0) j ≡ 0
of_none r i j = ap (λ (x : ℕ). of i x j) (done_none r) ∙ of_zero i j

pub at_none : (r : Answer) (a i b j : ℕ) → at a i (done r 0) b j ≡ 0
at_none r a i b j = ap (λ (x : ℕ). at a i x b j) (done_none r) ∙ at_zero a i b j

-- the three ways of a check, for an implementation to end with
pub not_open : (f : Figures) (have need : ℕ) (e : Refusal) → f.is_open ≡ false → checked f have need e ≡ Err PairNotOpen
not_open f have need e o = cond-false f.is_open _ _ o

pub too_small : (f : Figures) (have need : ℕ) (e : Refusal) → f.is_open ≡ true → have < need → checked f have need e ≡ Err e
too_small f have need e o h = cond-true f.is_open _ _ o ∙ cond-true (ltb have need) _ _ (lt-ltb have need h)

pub enough : (f : Figures) (have need : ℕ) (e : Refusal) → f.is_open ≡ true → need ≤ have → checked f have need e ≡ Ok tt
enough f have need e o h = cond-true f.is_open _ _ o ∙ cond-false (ltb have need) _ _ (le-ltb have need h)

-- a law of what the definitions give is one of what equals it
pub carried : (P : Book → Answer → Type 0) (x y : Book) (r s : Answer) → x ≡ y → r ≡ s → P y s → P x r
carried P x y r s e d p = subst (λ (z : Book). P z r) (sym e) (subst (P y) (sym d) p)
