-- What a put does to the pairs and to the totals.
use Rattle.std.proofs.Common.{◌≡◌, ℕ, ◌+◌, ◌<◌, ◌≤◌, true, false, eqb, sym, refl, ap, subst, ⊎_elim, arith}
use Rattle.std.proofs.lemmas.Bool.{cases_eq, cases_Bool, eq-eqb, ne_eqb, eqb-true, and_parts, and_left, and_right, and_from, cond-true, cond-false}
use Rattle.std.proofs.lemmas.Bool.Decides.{nat_tests}
use Rattle.ledger.specs.Books.{Figures, Book, accounts_end, items_end, in_range, worth, total}
use Rattle.ledger.specs.Moves.{put, same_pair}
use Rattle.ledger.specs.Laws.{at, of}
use Rattle.ledger.proofs.Adding.{sum_to_cong, sum_to_change, sum_to_part}

pub in_accounts : (a i : ℕ) → in_range a i ≡ true → a < accounts_end
unfolding in_range accounts_end
in_accounts a i h = grind (arith, nat_tests)

pub in_items : (a i : ℕ) → in_range a i ≡ true → i < items_end
unfolding in_range items_end
in_items a i h = grind (arith, nat_tests)

pub pair_same : (a i : ℕ) → same_pair a i a i ≡ true
pair_same a i = and_from (eqb a a) (eqb i i) (eq-eqb a a refl) (eq-eqb i i refl)

pub pair_is : (a i b j : ℕ) → same_pair a i b j ≡ true → (a ≡ b) × (i ≡ j)
pair_is a i b j h = let q = and_parts (eqb a b) (eqb i j) h in (eqb-true a b q.0, eqb-true i j q.1)

pub put_same : (m : Book) (a i : ℕ) (f : Figures) → put m a i f a i ≡ f
unfolding put
put_same m a i f = cond-true (same_pair a i a i) f (m a i) (pair_same a i)

pub put_other : (m : Book) (a i : ℕ) (f : Figures) (b j : ℕ) → same_pair a i b j ≡ false → put m a i f b j ≡ m b j
unfolding put
put_other m a i f b j h = cond-false (same_pair a i b j) f (m b j) h

-- a fact of all figures after a put: of the new ones at the pair, of the old ones elsewhere
pub put_each : (m : Book) (a i : ℕ) (f : Figures) (P : ℕ → ℕ → Figures → Type 0) → P a i f → ((b j : ℕ) → same_pair a i b j ≡ false → P b j (m b j)) → (b j : ℕ) → P b j (put m a i f b j)
put_each m a i f P here there b j =
    ⊎_elim
    (λ (e : same_pair a i b j ≡ true).
    let q = pair_is a i b j e in
    subst (λ (x : ℕ). P x j (put m a i f x j)) q.0
    (subst (λ (y : ℕ). P a y (put m a i f a y)) q.1 (subst (P a i) (sym (put_same m a i f)) here)))
    (λ (e : same_pair a i b j ≡ false). subst (P b j) (sym (put_other m a i f b j e)) (there b j e))
    (cases_Bool (same_pair a i b j))

total_here : (m : Book) (a i : ℕ) (f : Figures) → a < accounts_end → total (put m a i f) i + worth (m a i) ≡ total m i + worth f
unfolding total
total_here m a i f h =
    let e =
    sum_to_change accounts_end a (λ b. worth (put m a i f b i)) (λ b. worth (m b i)) h
    (λ b ne. ap worth (put_other m a i f b i (and_left (eqb a b) (eqb i i) (ne_eqb a b (λ z. ne (sym z))))))
    in
    let s : worth (put m a i f a i) ≡ worth f = ap worth (put_same m a i f) in
    omega arith

total_there : (m : Book) (a i : ℕ) (f : Figures) (j : ℕ) → (i ≡ j → ⊥) → total (put m a i f) j ≡ total m j
unfolding total
total_there m a i f j ne =
    sum_to_cong accounts_end (λ b. worth (put m a i f b j)) (λ b. worth (m b j))
    (λ b l. ap worth (put_other m a i f b j (and_right (eqb a b) (eqb i j) (ne_eqb i j ne))))

pub of_here : (i n j : ℕ) → i ≡ j → of i n j ≡ n
unfolding of
of_here i n j e = cond-true (eqb i j) n 0 (eq-eqb i j e)

pub of_there : (i n j : ℕ) → (i ≡ j → ⊥) → of i n j ≡ 0
unfolding of
of_there i n j e = cond-false (eqb i j) n 0 (ne_eqb i j e)

pub of_zero : (i j : ℕ) → of i 0 j ≡ 0
of_zero i j = ⊎_elim (λ (e : i ≡ j). of_here i 0 j e) (λ (e : i ≡ j → ⊥). of_there i 0 j e) (cases_eq i j)

pub at_here : (a i n : ℕ) → at a i n a i ≡ n
unfolding at
at_here a i n = cond-true (same_pair a i a i) n 0 (pair_same a i)

pub at_there : (a i n b j : ℕ) → same_pair a i b j ≡ false → at a i n b j ≡ 0
unfolding at
at_there a i n b j e = cond-false (same_pair a i b j) n 0 e

pub at_zero : (a i b j : ℕ) → at a i 0 b j ≡ 0
unfolding at
at_zero a i b j = ⊎_elim (λ (e : same_pair a i b j ≡ true). cond-true (same_pair a i b j) 0 0 e) (λ (e : same_pair a i b j ≡ false). cond-false (same_pair a i b j) 0 0 e) (cases_Bool (same_pair a i b j))

-- a put moves one total: by g and k more and l and h less, if it does so to the pair's worth
pub total_put : (m : Book) (a i : ℕ) (f : Figures) (g l k h : ℕ) → a < accounts_end → worth f + (l + h) ≡ worth (m a i) + (g + k) → (j : ℕ) → total (put m a i f) j + (of i l j + of i h j) ≡ total m j + (of i g j + of i k j)
total_put m a i f g l k h r e j =
    ⊎_elim
    (λ (d : i ≡ j).
    let t : total (put m a i f) j + worth (m a i) ≡ total m j + worth f = subst (λ (x : ℕ). total (put m a i f) x + worth (m a i) ≡ total m x + worth f) d (total_here m a i f r) in
    let p = of_here i l j d in
    let q = of_here i g j d in
    let u = of_here i h j d in
    let v = of_here i k j d in
    omega arith)
    (λ (ne : i ≡ j → ⊥).
    let t = total_there m a i f j ne in
    let p = of_there i l j ne in
    let q = of_there i g j ne in
    let u = of_there i h j ne in
    let v = of_there i k j ne in
    omega arith)
    (cases_eq i j)

-- one pair's worth is within the total
pub total_part : (m : Book) (a i : ℕ) → a < accounts_end → worth (m a i) ≤ total m i
unfolding total
total_part m a i h = sum_to_part accounts_end a (λ b. worth (m b i)) h

pub worth_open : (f : Figures) → f.is_open ≡ true → worth f ≡ f.free + f.held
worth_open f e = cond-true f.is_open (f.free + f.held) 0 e
