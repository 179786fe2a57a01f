-- What the searches for something held say.
use Rattle.std.proofs.Common.{◌≡◌, ℕ, ◌<◌, Bool, true, false, ◌&&◌, ◌||◌, ltb, Decides, MatchBool, sym, ap, ◌∙◌, subst, ⊎_elim, arith}
use Rattle.std.proofs.lemmas.Bool.{cases_eq, cases_Bool, or_left, or_right, or_cases, true≢false}
use Rattle.std.proofs.lemmas.Bool.Decides.{Decides-ltb, Decides-and}
use Rattle.ledger.specs.Books.{Figures, Book, accounts_end, items_end, Lawful}
use Rattle.ledger.specs.Questions.{held_in, any_money, any_security, any_held, NoneHeld, SomeHeld}
use Rattle.ledger.proofs.Adding.{any_to_decides}
use Rattle.ledger.proofs.Puts.{in_accounts, in_items}

abbrev pub HeldIn : Book → ℕ → Type 0
HeldIn m i = (a : ℕ) × (a < accounts_end) × (0 < (m a i).held)

pub held_decides : (m : Book) (i : ℕ) → Decides (held_in m i) (HeldIn m i)
unfolding held_in
held_decides m i = any_to_decides (λ a. ltb 0 (m a i).held) (λ a. 0 < (m a i).held) (λ a. Decides-ltb 0 (m a i).held) accounts_end

pub money_decides : (m : Book) → Decides (any_money m) (HeldIn m 0)
unfolding any_money
money_decides m = held_decides m 0

pub security_decides : (m : Book) → Decides (any_security m) ((i : ℕ) × (i < items_end) × ((0 < i) × HeldIn m i))
unfolding any_security
security_decides m = any_to_decides (λ i. ltb 0 i && held_in m i) (λ i. (0 < i) × HeldIn m i) (λ i. Decides-and (ltb 0 i) (held_in m i) (Decides-ltb 0 i) (held_decides m i)) items_end

-- something held is found
pub held_found : (m : Book) (a i : ℕ) → Lawful m → 0 < (m a i).held → any_held m ≡ true
held_found m a i L h =
    ⊎_elim
    (λ (o : (m a i).is_open ≡ true).
    let x = in_accounts a i (L.ranged a i o) in
    let y = in_items a i (L.ranged a i o) in
    ⊎_elim
    (λ (z : i ≡ 0). or_left (any_money m) (any_security m) ((money_decides m).1 (a, x, subst (λ (j : ℕ). 0 < (m a j).held) z h)))
    (λ (z : i ≡ 0 → ⊥). or_right (any_money m) (any_security m) ((security_decides m).1 (i, y, (omega arith, (a, x, h)))))
    (cases_eq i 0))
    (λ (o : (m a i).is_open ≡ false).
    let g : (m a i).held ≡ 0 = ap (λ (f : Figures). f.held) (L.closed a i o) in
    absurd (omega arith))
    (cases_Bool (m a i).is_open)

pub none_held : (m : Book) → Lawful m → any_held m ≡ false → NoneHeld m
none_held m L e a i =
    ⊎_elim
    (λ (z : (m a i).held ≡ 0). z)
    (λ (z : (m a i).held ≡ 0 → ⊥). absurd (true≢false (sym (held_found m a i L (omega arith)) ∙ e)))
    (cases_eq (m a i).held 0)

pub some_held : (m : Book) → any_held m ≡ true → SomeHeld m
some_held m e =
    ⊎_elim
    (λ (t : any_money m ≡ true). let w = (money_decides m).0 t in (w.0, 0, w.2))
    (λ (t : any_security m ≡ true). let w = (security_decides m).0 t in (w.2.1.0, w.0, w.2.1.2))
    (or_cases (any_money m) (any_security m) e)

pub held_says : (m : Book) (r : Bool) → Lawful m → r ≡ any_held m → MatchBool r (SomeHeld m) (NoneHeld m)
held_says m true L e = some_held m (sym e)
held_says m false L e = none_held m L (sym e)

pub money_found : (m : Book) (r : Bool) → r ≡ any_money m → r ≡ true → r ≡ any_held m
money_found m r e t = t ∙ sym (or_left (any_money m) (any_security m) (sym e ∙ t))

pub money_not : (m : Book) (r : Bool) → r ≡ any_security m → false ≡ any_money m → r ≡ any_held m
money_not m r e f = e ∙ ap (λ (x : Bool). x || any_security m) f
