-- Laws of sums and searches below a bound.
use Rattle.std.proofs.Common.{◌≡◌, ℕ, zero, suc, ◌+◌, ◌<◌, ◌≤◌, Bool, Decides, refl, ap, ⊎_elim, arith}
use Rattle.std.proofs.lemmas.Bool.{cases_eq}
use Rattle.std.proofs.lemmas.Bool.Decides.{Decides-below_or}
use Rattle.ledger.specs.Ranging.{sum_to, any_to}

pub sum_to_cong : (n : ℕ) (f g : ℕ → ℕ) → ((k : ℕ) → k < n → f k ≡ g k) → sum_to n f ≡ sum_to n g
unfolding sum_to
sum_to_cong zero f g h = refl
sum_to_cong (suc n) f g h =
    let e = sum_to_cong n f g (λ k l. h k (omega arith)) in let d = h n (omega arith) in omega arith

-- a change at one place
pub sum_to_change : (n a : ℕ) (f g : ℕ → ℕ) → a < n → ((k : ℕ) → (k ≡ a → ⊥) → f k ≡ g k) → sum_to n f + g a ≡ sum_to n g + f a
unfolding sum_to
sum_to_change zero a f g h same = omega arith
sum_to_change (suc n) a f g h same =
    ⊎_elim
    (λ (e : n ≡ a).
    let c = sum_to_cong n f g (λ k l. same k (λ z. omega arith)) in
    let p : f n ≡ f a = ap f e in
    let q : g n ≡ g a = ap g e in
    omega arith)
    (λ (ne : n ≡ a → ⊥).
    let l : a < n = omega arith in let c = sum_to_change n a f g l same in let d = same n ne in omega arith)
    (cases_eq n a)

pub sum_to_part : (n k : ℕ) (f : ℕ → ℕ) → k < n → f k ≤ sum_to n f
unfolding sum_to
sum_to_part zero k f h = omega arith
sum_to_part (suc n) k f h =
    ⊎_elim
    (λ (e : n ≡ k). let p : f n ≡ f k = ap f e in omega arith)
    (λ (ne : n ≡ k → ⊥). let l : k < n = omega arith in let c = sum_to_part n k f l in omega arith)
    (cases_eq n k)

pub sum_to_mono : (m n : ℕ) (f : ℕ → ℕ) → m ≤ n → sum_to m f ≤ sum_to n f
unfolding sum_to
sum_to_mono zero n f h = omega arith
sum_to_mono (suc m) zero f h = omega arith
sum_to_mono (suc m) (suc n) f h =
    ⊎_elim
    (λ (e : n ≡ m). let p : sum_to (suc n) f ≡ sum_to (suc m) f = ap (λ x. sum_to (suc x) f) e in omega arith)
    (λ (ne : n ≡ m → ⊥). let l : suc m ≤ n = omega arith in let c = sum_to_mono (suc m) n f l in omega arith)
    (cases_eq n m)

pub sum_to_none : (n : ℕ) → sum_to n (λ k. 0) ≡ 0
unfolding sum_to
sum_to_none zero = refl
sum_to_none (suc n) = let e = sum_to_none n in omega arith

pub any_to_decides : (p : ℕ → Bool) (P : ℕ → Type 0) → ((k : ℕ) → Decides (p k) (P k)) → (n : ℕ) → Decides (any_to n p) ((k : ℕ) × (k < n) × P k)
unfolding any_to
any_to_decides p P each n = Decides-below_or p P (λ x. any_to x p) each refl (λ _. refl) n
