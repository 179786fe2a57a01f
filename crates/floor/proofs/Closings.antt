-- The close, order by order.
use Rattle.std.proofs.Common.{◌≡◌, ℕ, suc, ◌+◌, ◌<◌, ◌≤◌, Bool, true, false, cond, List, ◌∷◌, length, drop, set, sym, refl, ap, ◌∙◌, subst, add-one, arith}
use Rattle.std.proofs.lemmas.List.{drop_more, drop-set, drop_all, length-set}
use Rattle.market.specs.declared.kinds.CancelReason.TheVariants.{Close}
use Rattle.rules.specs.Orders.{order_at, no_one, is_live, with_live}
use Rattle.rules.specs.Dealing.{close_from, close_events, close_time}
use Rattle.rules.specs.Effects.{effect, effects}
use Rattle.rules.specs.State.{State}
use Rattle.rules.specs.declared.order.Standing.{Standing}
use Rattle.rules.specs.declared.event.Event.{Event}
use Rattle.rules.specs.declared.event.Event.TheVariants.{Cancelled}

-- from s, the orders below k are closed in v
pub record Closing (s v : State) (k : ℕ) : Type 0 where
  pub rest : effects v (close_from k (drop k s.orders)) ≡ effects s (close_events s.orders)
  pub same : drop k v.orders ≡ drop k s.orders
  pub long : length v.orders ≡ length s.orders

tail_of : {X : Type 0} (x y : X) (xs ys : List X) → ◌≡◌ {A = List X} (x ∷ xs) (y ∷ ys) → xs ≡ ys
tail_of x y xs ys e = cc

head_of : {X : Type 0} (x y : X) (xs ys : List X) → ◌≡◌ {A = List X} (x ∷ xs) (y ∷ ys) → x ≡ y
head_of x y xs ys e = cc

pub closing_starts : (s : State) → Closing s s 0
closing_starts s = record { rest = refl; same = refl; long = refl }

-- both tables go on alike
parts : (s v : State) (k : ℕ) → k < length s.orders → Closing s v k →
    ◌≡◌ {A = List Standing} (order_at v.orders k ∷ drop (k + 1) v.orders) (order_at s.orders k ∷ drop (k + 1) s.orders)
parts s v k h c =
    let l = c.long in
    sym (drop_more v.orders k no_one (omega arith)) ∙ c.same ∙ drop_more s.orders k no_one h

next : (s v : State) (k : ℕ) (b : Bool) → k < length s.orders → Closing s v k → is_live (order_at v.orders k) ≡ b →
    effects v (cond b (Cancelled k Close close_time ∷ close_from (k + 1) (drop (k + 1) s.orders)) (close_from (k + 1) (drop (k + 1) s.orders))) ≡ effects s (close_events s.orders)
next s v k b h c e =
    let x : Standing = order_at s.orders k in
    let r : List Standing = drop (k + 1) s.orders in
    let i : is_live x ≡ b = sym (ap is_live (head_of _ _ _ _ (parts s v k h c))) ∙ e in
    let f : Bool → ℕ → List Event = λ b n. cond b (Cancelled k Close close_time ∷ close_from n r) (close_from n r) in
    ap (λ (n : ℕ). effects v (f b n)) (add-one k)
    ∙ ap (λ (z : Bool). effects v (f z (suc k))) (sym i)
    ∙ ap (λ (z : List Standing). effects v (close_from k z)) (sym (drop_more s.orders k no_one h))
    ∙ c.rest

pub closing_dead : (s v : State) (k : ℕ) → k < length s.orders → Closing s v k → is_live (order_at v.orders k) ≡ false → Closing s v (k + 1)
closing_dead s v k h c l = record { rest = next s v k false h c l; same = tail_of _ _ _ _ (parts s v k h c); long = c.long }

cancels_next : (s v : State) (k : ℕ) → k < length s.orders → Closing s v k → is_live (order_at v.orders k) ≡ true → Closing s (effect v (Cancelled k Close close_time)) (k + 1)
unfolding effect
cancels_next s v k h c l =
    let y : Standing = with_live (order_at v.orders k) 0 in
    let ls = c.long in
    let lv : k < length v.orders = omega arith in
    let lw : length (set v.orders k y) ≡ length v.orders = length-set v.orders k y in
    let a = sym (drop_more (set v.orders k y) k no_one (omega arith)) ∙ drop-set v.orders k y lv in
    record {
      rest = next s v k true h c l;
      same = tail_of _ _ _ _ a ∙ tail_of _ _ _ _ (parts s v k h c);
      long = lw ∙ ls;
    }

pub closing_live : (s v w : State) (k : ℕ) → k < length s.orders → Closing s v k → is_live (order_at v.orders k) ≡ true → w ≡ effect v (Cancelled k Close close_time) → Closing s w (k + 1)
closing_live s v w k h c l e = subst (λ (z : State). Closing s z (k + 1)) (sym e) (cancels_next s v k h c l)

pub closing_ends : (s v : State) (k : ℕ) → length s.orders ≤ k → Closing s v k → v ≡ effects s (close_events s.orders)
closing_ends s v k h c = ap (λ (z : List Standing). effects v (close_from k z)) (sym (drop_all k s.orders h)) ∙ c.rest
