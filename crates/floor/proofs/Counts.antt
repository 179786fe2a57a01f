-- The count of live orders, and the places that it leaves.
use Rattle.std.proofs.Common.{◌≡◌, ℕ, ◌+◌, ◌-◌, ◌<◌, ◌≤◌, Bool, true, false, cond, ltb, List, [], ◌∷◌, ◌++◌, length, set, sym, ap, ◌∙◌, ⊎_elim, arith}
use Rattle.std.proofs.lemmas.List.Sums.{sum_by_push, sum_by-set}
use Rattle.std.proofs.lemmas.List.{length-set, get_or-set_same, get_or-set_other}
use Rattle.std.proofs.lemmas.Bool.{cases_eq, cases_Bool, ltb-true, lt-ltb}
use Rattle.rules.specs.declared.order.Standing.{Standing}
use Rattle.rules.specs.Orders.{order_at, no_one, is_live, live_count, with_live, less_live}

abbrev one : Standing → ℕ
one x = cond (is_live x) 1 0

at_most_one : (b : Bool) → cond b 1 0 ≤ 1
at_most_one true = omega arith
at_most_one false = omega arith

-- fewer live, fewer that count
one_le : (m n : ℕ) → m ≤ n → cond (ltb 0 m) 1 0 ≤ cond (ltb 0 n) 1 0
one_le m n h =
    ⊎_elim
    (λ (e : ltb 0 m ≡ true).
    let p : 0 < m = ltb-true 0 m e in
    let a : ◌≡◌ {A = ℕ} (cond (ltb 0 n) 1 0) 1 = ap (λ (b : Bool). cond b 1 0) (lt-ltb 0 n (omega arith)) in
    let b = at_most_one (ltb 0 m) in
    omega (arith, a, b))
    (λ (e : ltb 0 m ≡ false).
    let a : ◌≡◌ {A = ℕ} (cond (ltb 0 m) 1 0) 0 = ap (λ (b : Bool). cond b 1 0) e in
    omega (arith, a))
    (cases_Bool (ltb 0 m))

pub entered_places : (t u : List Standing) (x : Standing) (len len' c : ℕ) → u ≡ t ++ x ∷ [] → len' ≡ len + 1 → (live_count t + (len + c)) + 2 ≤ 512 →
    live_count u + (len' + c) ≤ 512
entered_places t u x len len' c eu el h =
    let a : live_count u ≡ live_count t + one x = ap live_count eu ∙ sum_by_push one t x in
    let b = at_most_one (is_live x) in
    omega (arith, a, b, el, h)

-- an order that is put in place of another with no less live
set_le : (t : List Standing) (k : ℕ) (y : Standing) → k < length t → y.live.number ≤ (order_at t k).live.number → live_count (set t k y) ≤ live_count t
set_le t k y h le =
    let a : live_count (set t k y) + one (order_at t k) ≡ live_count t + one y = sum_by-set one t k y no_one h in
    let b : one y ≤ one (order_at t k) = one_le y.live.number (order_at t k).live.number le in
    omega (arith, a, b)

pub cancelled_count : (t u : List Standing) (k : ℕ) → k < length t → u ≡ set t k (with_live (order_at t k) 0) → live_count u ≤ live_count t
cancelled_count t u k h e =
    let a = set_le t k (with_live (order_at t k) 0) h (omega arith) in
    let b = ap live_count e in
    omega (arith, a, b)

-- a live order that is cancelled counts no more
pub cancelled_live : (t u : List Standing) (k : ℕ) → k < length t → is_live (order_at t k) ≡ true → u ≡ set t k (with_live (order_at t k) 0) → live_count u + 1 ≡ live_count t
cancelled_live t u k h l e =
    let a : live_count (set t k (with_live (order_at t k) 0)) + one (order_at t k) ≡ live_count t + 0 = sum_by-set one t k (with_live (order_at t k) 0) no_one h in
    let b : one (order_at t k) ≡ 1 = ap (λ (x : Bool). cond x 1 0) l in
    let d = ap live_count e in
    omega (arith, a, b, d)

left_live : (t : List Standing) (i j q : ℕ) → i < length t →
    (order_at t j).live.number - q ≤ (order_at (set t i (less_live (order_at t i) q)) j).live.number
left_live t i j q h =
    ⊎_elim
    (λ (e : j ≡ i).
    let a : (order_at (set t i (less_live (order_at t i) q)) j).live.number ≡ (order_at t j).live.number - q =
    ap (λ (x : ℕ). (order_at (set t i (less_live (order_at t i) q)) x).live.number) e
    ∙ ap (λ (x : Standing). x.live.number) (get_or-set_same t i (less_live (order_at t i) q) no_one h)
    ∙ ap (λ (x : ℕ). (order_at t x).live.number - q) (sym e) in
    omega (arith, a))
    (λ (ne : j ≡ i → ⊥).
    let a : (order_at (set t i (less_live (order_at t i) q)) j).live.number ≡ (order_at t j).live.number =
    ap (λ (x : Standing). x.live.number) (get_or-set_other t i j (less_live (order_at t i) q) no_one ne) in
    omega (arith, a))
    (cases_eq j i)

pub dealt_count : (t : List Standing) (i j q : ℕ) → i < length t → j < length t →
    live_count (set (set t i (less_live (order_at t i) q)) j (less_live (order_at t j) q)) ≤ live_count t
dealt_count t i j q hi hj =
    let u : List Standing = set t i (less_live (order_at t i) q) in
    let l = length-set t i (less_live (order_at t i) q) in
    let a = set_le t i (less_live (order_at t i) q) hi (omega arith) in
    let b = set_le u j (less_live (order_at t j) q) (omega (arith, l, hj)) (left_live t i j q hi) in
    omega (arith, a, b)
