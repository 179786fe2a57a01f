-- Laws of `at`, and of what an order needs.
use Rattle.std.proofs.Common.{◌≡◌, ℕ, ◌+◌, ◌-◌, ◌*◌, ◌≤◌, Bool, true, false, cond, ◌&&◌, eqb, sym, refl, ap, ◌∙◌, add-mul, arith}
use Rattle.std.proofs.lemmas.Bool.{eqb-true, and_parts, and_from, eq-eqb, cond-true}
use Rattle.ledger.specs.Laws.{at}
use Rattle.market.specs.declared.kinds.Side.{Side}
use Rattle.market.specs.declared.kinds.Side.TheVariants.{Buy, Sell}
use Rattle.market.specs.declared.price.Price.{Price}
use Rattle.market.specs.Figures.{quantity}
use Rattle.tape.specs.declared.line.OrderLine.{OrderLine}
use Rattle.tape.specs.Nets.{at as net_at, brings, takes}
use Rattle.rules.specs.declared.order.Standing.{Standing}
use Rattle.rules.specs.Orders.{item_of, item_for, amount_of, amount_for, need, less_live, with_live}

cond_add : (b : Bool) (m n : ℕ) → cond b (m + n) 0 ≡ cond b m 0 + cond b n 0
cond_add true m n = refl
cond_add false m n = refl

cond_none : (b : Bool) → ◌≡◌ {A = ℕ} (cond b 0 0) 0
cond_none true = refl
cond_none false = refl

pub at_add : (a i m n b j : ℕ) → at a i (m + n) b j ≡ at a i m b j + at a i n b j
unfolding at
at_add a i m n b j = cond_add (eqb a b && eqb i j) m n

pub at_nil : (a i b j : ℕ) → at a i 0 b j ≡ 0
unfolding at
at_nil a i b j = cond_none (eqb a b && eqb i j)

pub at_here : (a i n : ℕ) → at a i n a i ≡ n
unfolding at
at_here a i n = cond-true (eqb a a && eqb i i) n 0 (and_from (eqb a a) (eqb i i) (eq-eqb a a refl) (eq-eqb i i refl))

pub at_other : (a i n b j : ℕ) → (a ≡ b → i ≡ j → ⊥) → at a i n b j ≡ 0
unfolding at
at_other a i n b j ne = go (eqb a b && eqb i j) refl
  where
    go : (t : Bool) → (eqb a b && eqb i j) ≡ t → cond t n 0 ≡ 0
    go true e = let p = and_parts (eqb a b) (eqb i j) e in let bad = ne (eqb-true a b p.0) (eqb-true i j p.1) in omega arith
    go false e = refl

-- what at sees of a quantity less q, and of q
pub at_less : (a i n q b j : ℕ) → q ≤ n → at a i (n - q) b j + at a i q b j ≡ at a i n b j
at_less a i n q b j h =
    let sum : (n - q) + q ≡ n = omega arith in
    sym (at_add a i (n - q) q b j) ∙ ap (λ x. at a i x b j) sum

-- the lines' word is the ledger's
pub same_at : (b j n a i : ℕ) → net_at b j n a i ≡ at b j n a i
unfolding at
same_at b j n a i = refl

amount_add : (side : Side) (m n : ℕ) (p : Price) → amount_for side (quantity (m + n)) p ≡ amount_for side (quantity m) p + amount_for side (quantity n) p
amount_add Buy m n p = add-mul m n p.number
amount_add Sell m n p = refl

amount_none : (side : Side) (p : Price) → amount_for side (quantity 0) p ≡ 0
amount_none Buy p = omega arith
amount_none Sell p = refl

-- an order that is less live by q needs as much less as q needs
pub need_less : (a i q : ℕ) (s : Standing) → q ≤ s.live.number →
    need a i (less_live s q) + at s.order.account (item_of s.order) (amount_of s.order (quantity q)) a i ≡ need a i s
need_less a i q s h =
    let o = s.order in
    let n : ℕ = s.live.number - q in
    let sum : n + q ≡ s.live.number = omega arith in
    sym (at_add o.account (item_of o) (amount_of o (quantity n)) (amount_of o (quantity q)) a i)
    ∙ ap (λ x. at o.account (item_of o) x a i) (sym (amount_add o.side n q o.price) ∙ ap (λ x. amount_of o (quantity x)) sum)

pub need_none : (a i : ℕ) (s : Standing) → need a i (with_live s 0) ≡ 0
need_none a i s =
    let o = s.order in
    ap (λ x. at o.account (item_of o) x a i) (amount_none o.side o.price) ∙ at_nil o.account (item_of o) a i

pub buyer_need : (a i q : ℕ) (s : Standing) → s.order.side ≡ Buy → q ≤ s.live.number →
    need a i (less_live s q) + at s.order.account 0 (q * s.order.price.number) a i ≡ need a i s
buyer_need a i q s e h =
    ap (λ x. need a i (less_live s q) + at s.order.account (item_for x s.order.security) (amount_for x (quantity q) s.order.price) a i) (sym e)
    ∙ need_less a i q s h

pub seller_need : (a i q : ℕ) (s : Standing) → s.order.side ≡ Sell → q ≤ s.live.number →
    need a i (less_live s q) + at s.order.account s.order.security q a i ≡ need a i s
seller_need a i q s e h =
    ap (λ x. need a i (less_live s q) + at s.order.account (item_for x s.order.security) (amount_for x (quantity q) s.order.price) a i) (sym e)
    ∙ need_less a i q s h

-- what the lines of a deal bring and take
pub brings_buyer : (l : OrderLine) (a i : ℕ) → l.side ≡ Buy → brings l.side l a i ≡ at l.account l.security l.quantity.number a i
brings_buyer l a i e = ap (λ s. brings s l a i) e ∙ same_at l.account l.security l.quantity.number a i

pub takes_buyer : (l : OrderLine) (a i : ℕ) → l.side ≡ Buy → takes l.side l a i ≡ at l.account 0 (l.quantity.number * l.price.number) a i
takes_buyer l a i e = ap (λ s. takes s l a i) e ∙ same_at l.account 0 (l.quantity.number * l.price.number) a i

pub brings_seller : (l : OrderLine) (a i : ℕ) → l.side ≡ Sell → brings l.side l a i ≡ at l.account 0 (l.quantity.number * l.price.number) a i
brings_seller l a i e = ap (λ s. brings s l a i) e ∙ same_at l.account 0 (l.quantity.number * l.price.number) a i

pub takes_seller : (l : OrderLine) (a i : ℕ) → l.side ≡ Sell → takes l.side l a i ≡ at l.account l.security l.quantity.number a i
takes_seller l a i e = ap (λ s. takes s l a i) e ∙ same_at l.account l.security l.quantity.number a i
