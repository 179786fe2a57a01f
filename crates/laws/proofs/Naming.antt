-- Orders and their names: no event but an entry changes them.
use Rattle.std.proofs.Common.{◌≡◌, ℕ, zero, suc, ◌+◌, ◌<◌, ◌≤◌, ◌≢◌, List, [], ◌∷◌, ◌++◌, length, get_or, set, sum_by, sym, refl, ap, ◌∙◌, subst, ⊎_elim, arith}
use Rattle.std.proofs.lemmas.List.{length-set, length_push, get_or-set_same, get_or-set_other, get_or_append_left, get_or_push, set_past}
use Rattle.std.proofs.lemmas.List.Sums.{sum_by-cons, sum_by-set}
use Rattle.std.proofs.lemmas.Bool.{cases_eq, cases_lt}
use Rattle.ledger.specs.Books.{Book}
use Rattle.ledger.specs.Laws.{at}
use Rattle.rules.specs.declared.order.Order.{Order}
use Rattle.rules.specs.declared.order.Standing.{Standing}
use Rattle.rules.specs.Orders.{order_at, no_one, less_live}
use Rattle.laws.specs.Days.{Fresh, CanDeal}
use Rattle.laws.specs.Sound.{Distinct, Open, AllOpen}
use Rattle.market.specs.declared.kinds.Side.{Side}
use Rattle.market.specs.declared.kinds.Side.TheVariants.{Buy, Sell}
use Rattle.laws.proofs.Needing.{at_here, at_other}

-- each order of u is that of t at its place
abbrev pub SameOrders : List Standing → List Standing → Type 0
SameOrders t u = (length u ≡ length t) × ((k : ℕ) → (order_at u k).order ≡ (order_at t k).order)

pub same_put : (t : List Standing) (k : ℕ) (y : Standing) → y.order ≡ (order_at t k).order → SameOrders t (set t k y)
same_put t k y same = (
  length-set t k y,
  λ l.
      ⊎_elim
      (λ (e : l ≡ k).
      ⊎_elim
      (λ (h : k < length t).
      ap (λ x. (order_at (set t k y) x).order) e
      ∙ ap (λ x. x.order) (get_or-set_same t k y no_one h)
      ∙ same
      ∙ ap (λ x. (order_at t x).order) (sym e))
      (λ (h : length t ≤ k). ap (λ x. (order_at x l).order) (set_past t k y h))
      (cases_lt k (length t)))
      (λ (ne : l ≡ k → ⊥). ap (λ x. x.order) (get_or-set_other t k l y no_one ne))
      (cases_eq l k),
)

pub same_trans : (t u v : List Standing) → SameOrders t u → SameOrders u v → SameOrders t v
same_trans t u v p q = (q.0 ∙ p.0, λ k. q.1 k ∙ p.1 k)

pub distinct_same : (t u : List Standing) → SameOrders t u → Distinct t → Distinct u
distinct_same t u s h k l hk hl unit serial =
    let long = s.0 in
    h
    k
    l
    (omega arith)
    (omega arith)
    (sym (ap (λ o. o.unit) (s.1 k)) ∙ unit ∙ ap (λ o. o.unit) (s.1 l))
    (sym (ap (λ o. o.serial) (s.1 k)) ∙ serial ∙ ap (λ o. o.serial) (s.1 l))

pub distinct_more : (t : List Standing) (x : Standing) → Fresh x.order t → Distinct t → Distinct (t ++ x ∷ [])
distinct_more t x f h k l hk hl unit serial =
    let long = length_push t x in
    ⊎_elim
    (λ (a : k < length t).
    let ek = get_or_append_left t (x ∷ []) no_one k a in
    ⊎_elim
    (λ (b : l < length t).
    let el = get_or_append_left t (x ∷ []) no_one l b in
    h
    k
    l
    a
    b
    (sym (ap (λ y. y.order.unit) ek) ∙ unit ∙ ap (λ y. y.order.unit) el)
    (sym (ap (λ y. y.order.serial) ek) ∙ serial ∙ ap (λ y. y.order.serial) el))
    (λ (b : length t ≤ l).
    let el = get_or_push t x no_one l (omega arith) in
    let bad = f k a (sym (ap (λ y. y.order.unit) ek) ∙ unit ∙ ap (λ y. y.order.unit) el) (sym (ap (λ y. y.order.serial) ek) ∙ serial ∙ ap (λ y. y.order.serial) el) in
    omega arith)
    (cases_lt l (length t)))
    (λ (a : length t ≤ k).
    let ek = get_or_push t x no_one k (omega arith) in
    ⊎_elim
    (λ (b : l < length t).
    let el = get_or_append_left t (x ∷ []) no_one l b in
    let bad = f l b (sym (ap (λ y. y.order.unit) el) ∙ sym unit ∙ ap (λ y. y.order.unit) ek) (sym (ap (λ y. y.order.serial) el) ∙ sym serial ∙ ap (λ y. y.order.serial) ek) in
    omega arith)
    (λ (b : length t ≤ l). omega arith)
    (cases_lt l (length t)))
    (cases_lt k (length t))

-- a sum of nothing
pub sum_none : (f : Standing → ℕ) (t : List Standing) → ((k : ℕ) → k < length t → f (order_at t k) ≡ 0) → sum_by f t ≡ 0
sum_none f [] h = refl
sum_none f (x ∷ xs) h =
    let rest = sum_none f xs (λ k l. h (suc k) (omega arith)) in
    let first : f x ≡ 0 = h 0 (omega arith) in let c = sum_by-cons f x xs in omega arith

-- of all that the table has under the name of its order k, it has at k
pub sum_named : (g : Standing → ℕ) (t : List Standing) (k : ℕ) → Distinct t → k < length t →
    sum_by (λ x. at x.order.unit x.order.serial (g x) (order_at t k).order.unit (order_at t k).order.serial) t ≡ g (order_at t k)
sum_named g t k h hk =
    let o : Order = (order_at t k).order in
    let f : Standing → ℕ = λ x. at x.order.unit x.order.serial (g x) o.unit o.serial in
    let here : f (order_at t k) ≡ g (order_at t k) = at_here o.unit o.serial (g (order_at t k)) in
    alone f t k hk (λ l hl ne. at_other _ _ _ _ _ (λ unit serial. ne (h l k hl hk unit serial))) ∙ here
  where
    alone : (f : Standing → ℕ) (t : List Standing) (k : ℕ) → k < length t →
        ((l : ℕ) → l < length t → (l ≡ k → ⊥) → f (order_at t l) ≡ 0) → sum_by f t ≡ f (order_at t k)
    alone f [] k hk h = omega arith
    alone f (x ∷ xs) zero hk h =
        let rest = sum_none f xs (λ l hl. h (suc l) (omega arith) (λ e. omega arith)) in let c = sum_by-cons f x xs in omega arith
    alone f (x ∷ xs) (suc k) hk h =
        let rest = alone f xs k (omega arith) (λ l hl ne. h (suc l) (omega arith) (λ e. ne (omega arith))) in
        let first : f x ≡ 0 = h 0 (omega arith) (λ e. omega arith) in let c = sum_by-cons f x xs in omega arith

-- every order's pairs stay open
pub opens_same : (t u : List Standing) (m : Book) → SameOrders t u → AllOpen t m → AllOpen u m
opens_same t u m s h k l =
    let long = s.0 in subst (λ (o : Order). Open m o.account o.security) (sym (s.1 k)) (h k (omega arith))

pub opens_more : (t : List Standing) (x : Standing) (m : Book) → Open m x.order.account x.order.security → AllOpen t m → AllOpen (t ++ x ∷ []) m
opens_more t x m o h k l =
    let long = length_push t x in
    let P : Standing → Type 0 = λ y. Open m y.order.account y.order.security in
    ⊎_elim
    (λ (a : k < length t). subst P (sym (get_or_append_left t (x ∷ []) no_one k a)) (h k a))
    (λ (a : length t ≤ k). subst P (sym (get_or_push t x no_one k (omega arith))) o)
    (cases_lt k (length t))

pub opens_book : (t : List Standing) (m n : Book) → ((b j : ℕ) → (n b j).is_open ≡ (m b j).is_open) → AllOpen t m → AllOpen t n
opens_book t m n s h k l = let o = h k l in record { money = s _ 0 ∙ o.money; security = s _ _ ∙ o.security }

-- a sum over the table where two of its places change
pub sum_set_two : (f : Standing → ℕ) (t : List Standing) (i j : ℕ) (x y : Standing) → i < length t → j < length t → j ≢ i →
    sum_by f (set (set t i x) j y) + f (order_at t i) + f (order_at t j) ≡ sum_by f t + f x + f y
sum_set_two f t i j x y hi hj ne =
    let one = sum_by-set f t i x no_one hi in
    let long : j < length (set t i x) = simp length-set hj in
    let two = sum_by-set f (set t i x) j y no_one long in
    let same : f (get_or (set t i x) j no_one) ≡ f (order_at t j) = ap f (get_or-set_other t i j x no_one ne) in omega arith

-- who buys is not who sells
pub apart : (t : List Standing) (i j q : ℕ) → CanDeal (order_at t i) (order_at t j) q → j ≢ i
apart t i j q h e =
    let same : (order_at t j).order.side ≡ (order_at t i).order.side = ap (λ k. (order_at t k).order.side) e in
    let buy : ◌≡◌ {A = Side} Buy Sell = sym h.buys ∙ sym same ∙ h.sells in
    let z : ◌≡◌ {A = ℕ} 0 1 = cc in omega arith

pub same_two : (t : List Standing) (i j q : ℕ) → SameOrders t (set (set t i (less_live (order_at t i) q)) j (less_live (order_at t j) q))
same_two t i j q =
    let one = same_put t i (less_live (order_at t i) q) refl in
    same_trans t _ _ one (same_put (set t i (less_live (order_at t i) q)) j (less_live (order_at t j) q) (sym (one.1 j)))
