-- What `leave` keeps of a table: its orders; and none has more live.
use Rattle.std.proofs.Common.{◌≡◌, ℕ, zero, suc, ◌-◌, ◌<◌, ◌≤◌, Bool, true, false, cond, ◌&&◌, eqb, List, [], ◌∷◌, ◌++◌, length, take, count_by, sym, refl, ap, ◌∙◌, subst, ⊎_elim, arith}
use Rattle.std.proofs.lemmas.List.{length_push, get_or_append_left, get_or_push, take-append-le, take_at}
use Rattle.std.proofs.lemmas.List.Sums.{sum_by-cons}
use Rattle.std.proofs.lemmas.Bool.{and_parts, and_from, ltb-true, lt-ltb, cases_lt}
use Rattle.market.specs.declared.kinds.OrderKind.{OrderKind}
use Rattle.market.specs.declared.kinds.OrderKind.TheVariants.{FirmQuote, Negotiated}
use Rattle.market.specs.Kinds.{kind_number}
use Rattle.rules.specs.declared.order.Order.{Order}
use Rattle.rules.specs.declared.order.Standing.{Standing}
use Rattle.rules.specs.Orders.{order_at, no_one, is_live}
use Rattle.rules.specs.Checks.{is_kind, waits}
use Rattle.rules.specs.Plain.{live_of, leave}
use Rattle.laws.specs.Single.{Numbered, Single, Fewer}

one_order : (b : Bool) (x y : Standing) → y.order ≡ x.order → (cond b y x).order ≡ x.order
one_order true x y e = e
one_order false x y e = refl

one_live : (b : Bool) (x y : Standing) → y.live.number ≤ x.live.number → (cond b y x).live.number ≤ x.live.number
one_live true x y e = e
one_live false x y e = omega arith

pub leave_fewer : (p : Standing → Bool) (f : Standing → ℕ) → ((x : Standing) → f x ≤ x.live.number) → (t : List Standing) → Fewer t (leave p f t)
leave_fewer p f h [] = record { long = refl; same = λ k. refl; less = λ k. omega arith }
leave_fewer p f h (x ∷ xs) =
    let r = leave_fewer p f h xs in
    record { long = ap suc r.long; same = same r; less = less r }
  where
    same : Fewer xs (leave p f xs) → (k : ℕ) → (order_at (leave p f (x ∷ xs)) k).order ≡ (order_at (x ∷ xs) k).order
    same r zero = one_order (p x) x (live_of x (f x)) refl
    same r (suc k) = r.same k

    less : Fewer xs (leave p f xs) → (k : ℕ) → (order_at (leave p f (x ∷ xs)) k).live.number ≤ (order_at (x ∷ xs) k).live.number
    less r zero = one_live (p x) x (live_of x (f x)) (h x)
    less r (suc k) = r.less k

one_kind : (q : OrderKind) (b : Bool) (x y : Standing) → y.order ≡ x.order → is_kind q (cond b y x) ≡ is_kind q x
one_kind q b x y e = ap (λ (o : Order). eqb (kind_number o.kind) (kind_number q)) (one_order b x y e)

pub leave_count : (q : OrderKind) (p : Standing → Bool) (f : Standing → ℕ) (t : List Standing) (k : ℕ) → count_by (is_kind q) (take k (leave p f t)) ≡ count_by (is_kind q) (take k t)
leave_count q p f [] zero = refl
leave_count q p f [] (suc k) = refl
leave_count q p f (x ∷ xs) zero = refl
leave_count q p f (x ∷ xs) (suc k) =
    let g : Standing → ℕ = λ y. cond (is_kind q y) 1 0 in
    let y : Standing = cond (p x) (live_of x (f x)) x in
    let a = sum_by-cons g y (take k (leave p f xs)) in
    let b = sum_by-cons g x (take k xs) in
    let c = leave_count q p f xs k in
    let d : g y ≡ g x = ap (λ (v : Bool). cond v 1 0) (one_kind q (p x) x (live_of x (f x)) refl) in
    omega (arith, a, b, c, d)

pub leave_numbered : (p : Standing → Bool) (f : Standing → ℕ) → ((x : Standing) → f x ≤ x.live.number) → (t : List Standing) → Numbered t → Numbered (leave p f t)
leave_numbered p f h t num k l q =
    let w = leave_fewer p f h t in
    let e = w.same k in
    let long = w.long in
    let q' : is_kind FirmQuote (order_at t k) ≡ true = ap (λ (o : Order). eqb (kind_number o.kind) (kind_number FirmQuote)) (sym e) ∙ q in
    ap (λ (o : Order). o.agreement) e ∙ num k (omega (arith, long)) q' ∙ ap (λ (n : ℕ). 99999999 - n) (sym (leave_count FirmQuote p f t k))

-- an order that waits waited before
pub waited : (x y : Standing) (u v n : ℕ) → y.order ≡ x.order → y.live.number ≤ x.live.number → waits u v n y ≡ true → waits u v n x ≡ true
waited x y u v n e l h =
    let a = and_parts (is_kind Negotiated y) _ h in
    let b = and_parts (is_live y) _ a.1 in
    let live = ltb-true 0 y.live.number b.0 in
    and_from _ _ (ap (λ (o : Order). eqb (kind_number o.kind) (kind_number Negotiated)) (sym e) ∙ a.0)
    (and_from _ _ (lt-ltb 0 x.live.number (omega (arith, live, l)))
    (ap (λ (o : Order). eqb o.unit u && (eqb o.counterpart v && eqb o.agreement n)) (sym e) ∙ b.1))

pub fewer_single : (t u : List Standing) → Fewer t u → Single t → Single u
fewer_single t u w s a b n k l hk hl pk pl =
    let long = w.long in
    s a b n k l (omega (arith, long)) (omega (arith, long)) (waited (order_at t k) (order_at u k) a b n (w.same k) (w.less k) pk) (waited (order_at t l) (order_at u l) a b n (w.same l) (w.less l) pl)

-- one more order behind the table
pub single_more : (t : List Standing) (x : Standing) → Single t → ((u v n : ℕ) → waits u v n x ≡ true → (k : ℕ) → k < length t → waits u v n (order_at t k) ≡ true → ⊥) → Single (t ++ (x ∷ []))
single_more t x s none u v n k l hk hl pk pl =
    let long = length_push t x in
    let P : Standing → Type 0 = λ y. waits u v n y ≡ true in
    ⊎_elim
    (λ (a : k < length t).
    let qk = subst P (get_or_append_left t (x ∷ []) no_one k a) pk in
    ⊎_elim
    (λ (b : l < length t). s u v n k l a b qk (subst P (get_or_append_left t (x ∷ []) no_one l b) pl))
    (λ (b : length t ≤ l). absurd (none u v n (subst P (get_or_push t x no_one l (omega (arith, long))) pl) k a qk))
    (cases_lt l (length t)))
    (λ (a : length t ≤ k).
    let qk = subst P (get_or_push t x no_one k (omega (arith, long))) pk in
    ⊎_elim
    (λ (b : l < length t). absurd (none u v n qk l b (subst P (get_or_append_left t (x ∷ []) no_one l b) pl)))
    (λ (b : length t ≤ l). omega (arith, long))
    (cases_lt l (length t)))
    (cases_lt k (length t))

pub numbered_more : (t : List Standing) (x : Standing) → Numbered t → (is_kind FirmQuote x ≡ true → x.order.agreement ≡ 99999999 - count_by (is_kind FirmQuote) t) → Numbered (t ++ (x ∷ []))
numbered_more t x num own k hk q =
    let long = length_push t x in
    let P : Standing → Type 0 = λ y. is_kind FirmQuote y ≡ true in
    ⊎_elim
    (λ (a : k < length t).
    let e = get_or_append_left t (x ∷ []) no_one k a in
    ap (λ (y : Standing). y.order.agreement) e ∙ num k a (subst P e q) ∙ ap (λ (z : List Standing). 99999999 - count_by (is_kind FirmQuote) z) (sym (take-append-le k t (x ∷ []) (omega arith))))
    (λ (a : length t ≤ k).
    let here : length t ≡ k = omega (arith, long) in
    let e = get_or_push t x no_one k here in
    ap (λ (y : Standing). y.order.agreement) e ∙ own (subst P e q) ∙ ap (λ (z : List Standing). 99999999 - count_by (is_kind FirmQuote) z) (sym (take_at t (x ∷ []) k here)))
    (cases_lt k (length t))
