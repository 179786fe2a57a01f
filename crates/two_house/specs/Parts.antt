-- The book of two: one house's book wherever the item is its own.
use Rattle.std.specs.Prelude.{◌≡◌, ℕ, ◌≤◌, Bool, true, false, ◌&&◌, ltb, ◌==◌, ◌≢◌, nat_lt, refl}
use Rattle.std.proofs.Common.{sym, ap, subst, ⊎_elim}
use Rattle.std.proofs.Math.Path.{fun_ext}
use Rattle.std.proofs.lemmas.Bool.{cases_eq, eq-eqb, ne_eqb, cond-true, cond-false}
use Rattle.ledger.specs.Ranging.{sum_to, any_to}
use Rattle.ledger.specs.Books.{Figures, Book, worth, total, accounts_end, items_end, limit, in_range, nothing, Lawful}
use Rattle.ledger.specs.Questions.{held_in, any_money, any_security}
use Rattle.two_house.specs.Houses.{both}

pub money : (m d : Book) (a i : ℕ) → i ≡ 0 → both m d a i ≡ m a i
unfolding both
money m d a i e = cond-true (i == 0) (m a i) (d a i) (eq-eqb i 0 e)

pub security : (m d : Book) (a i : ℕ) → (i ≢ 0) → both m d a i ≡ d a i
unfolding both
security m d a i e = cond-false (i == 0) (m a i) (d a i) (ne_eqb i 0 e)

-- books that agree in an item have one total of it, and one answer whether any is held
pub same_total : (m d : Book) (i : ℕ) → ((a : ℕ) → m a i ≡ d a i) → total m i ≡ total d i
unfolding total
same_total m d i e = ap (sum_to accounts_end) (fun_ext (λ a. ap worth (e a)))

same_held : (m d : Book) (i : ℕ) → ((a : ℕ) → m a i ≡ d a i) → held_in m i ≡ held_in d i
unfolding held_in
same_held m d i e = ap (any_to accounts_end) (fun_ext (λ a. ap (λ (f : Figures). ltb 0 f.held) (e a)))

pub both_money : (m d : Book) → any_money m ≡ any_money (both m d)
unfolding any_money
both_money m d = same_held m (both m d) 0 (λ a. sym (money m d a 0 refl))

pub both_security : (m d : Book) → any_security d ≡ any_security (both m d)
unfolding any_security
both_security m d = ap (any_to items_end) (fun_ext (λ i. ⊎_elim
    (λ (e : i ≡ 0). subst (λ (x : ℕ). (nat_lt 0 x && held_in d x) ≡ (nat_lt 0 x && held_in (both m d) x)) (sym e) refl)
    (λ (e : i ≡ 0 → ⊥). ap (λ (x : Bool). nat_lt 0 i && x) (same_held d (both m d) i (λ a. sym (security m d a i e))))
    (cases_eq i 0)))

-- what holds of each item in both books holds in the book of the two
in_each : (m d : Book) (P : (ℕ → Figures) → ℕ → Type 0) (i : ℕ) → P (λ a. m a i) i → P (λ a. d a i) i → P (λ a. both m d a i) i
in_each m d P i p q = ⊎_elim
    (λ (e : i ≡ 0). subst (λ (x : ℕ → Figures). P x i) (fun_ext (λ a. sym (money m d a i e))) p)
    (λ (e : i ≡ 0 → ⊥). subst (λ (x : ℕ → Figures). P x i) (fun_ext (λ a. sym (security m d a i e))) q)
    (cases_eq i 0)

pub both_lawful : (m d : Book) → Lawful m → Lawful d → Lawful (both m d)
unfolding total
both_lawful m d p q = record {
  bounded = λ i. in_each m d (λ f j. sum_to accounts_end (λ a. worth (f a)) ≤ limit) i (p.bounded i) (q.bounded i);
  ranged = λ a i. in_each m d (λ f j. (f a).is_open ≡ true → in_range a j ≡ true) i (p.ranged a i) (q.ranged a i);
  closed = λ a i. in_each m d (λ f j. (f a).is_open ≡ false → f a ≡ nothing) i (p.closed a i) (q.closed a i);
}
