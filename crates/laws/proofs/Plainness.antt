-- After an entry the table is the plain day's.
use Rattle.std.proofs.Common.{◌≡◌, ℕ, zero, suc, ◌-◌, ◌<◌, Bool, true, false, cond, ◌&&◌, eqb, ltb, List, [], ◌∷◌, ◌++◌, length, set, Some, None, Option, sym, refl, ap, ◌∙◌, arith}
use Rattle.std.specs.Option.{option_map}
use Rattle.std.proofs.lemmas.List.{set-append_left, set_at, get_or_append_left, get_or_push, get_or-set_same, set-set, set-get_or, length-set}
use Rattle.std.proofs.lemmas.Bool.{cond_both, cond-true, cond-false, and_parts, eqb-true, ltb-true, ltb-false, both_ways}
use Rattle.market.specs.declared.kinds.Side.{Side}
use Rattle.market.specs.declared.kinds.Side.TheVariants.{Buy, Sell}
use Rattle.market.specs.declared.kinds.OrderKind.{OrderKind}
use Rattle.market.specs.declared.kinds.OrderKind.TheVariants.{Intention, FirmQuote, Negotiated, Click}
use Rattle.rules.specs.declared.event.Follow.{Follow}
use Rattle.rules.specs.declared.event.Follow.TheVariants.{CancelBoth, CancelOne}
use Rattle.market.specs.declared.kinds.CancelReason.TheVariants.{Mismatch}
use Rattle.rules.specs.declared.order.Order.{Order}
use Rattle.rules.specs.declared.order.Standing.{Standing}
use Rattle.rules.specs.declared.security.Security.{Security}
use Rattle.rules.specs.Orders.{order_at, no_one, first_place, less_live, with_live}
use Rattle.rules.specs.Listing.{find_listed}
use Rattle.rules.specs.Dealing.{waits_for, quoted_for, fits, stands_on, deal, meet, click_short, quote_short, hit, click, decide_as, follow_events, cancel_events}
use Rattle.rules.specs.Plain.{live_of, leave, nothing, any, rest_of, plain_entry_as}
use Rattle.laws.specs.Plainly.{tables, One, EntriesPlain, CancelsPlain, ClosesPlain}
use Rattle.laws.proofs.Entering.{Found, found}

-- nothing passes: nothing is changed
pub leave_none : (p : Standing → Bool) (f : Standing → ℕ) (t : List Standing) → ((k : ℕ) → k < length t → p (order_at t k) ≡ false) → leave p f t ≡ t
leave_none p f [] h = refl
leave_none p f (x ∷ xs) h =
    ap (λ b. cond b (live_of x (f x)) x ∷ leave p f xs) (h 0 (omega arith)) ∙ ap (λ (v : List Standing). x ∷ v) (leave_none p f xs (λ k l. h (suc k) (omega arith)))

-- one passes: it alone is changed
pub leave_one : (p : Standing → Bool) (f : Standing → ℕ) (t : List Standing) (k : ℕ) → k < length t → p (order_at t k) ≡ true → One p t → leave p f t ≡ set t k (live_of (order_at t k) (f (order_at t k)))
leave_one p f [] k l e one = absurd (omega arith)
leave_one p f (x ∷ xs) zero l e one =
    ap (λ b. cond b (live_of x (f x)) x ∷ leave p f xs) e
    ∙ ap (λ (v : List Standing). live_of x (f x) ∷ v) (leave_none p f xs (λ j h. no_other j h (p (order_at xs j)) refl))
  where
    no_other : (j : ℕ) → j < length xs → (b : Bool) → p (order_at xs j) ≡ b → b ≡ false
    no_other j h true q = let z = one 0 (suc j) (omega arith) (omega arith) e q in absurd (omega (arith, z))
    no_other j h false q = refl
leave_one p f (x ∷ xs) (suc k) l e one =
    ap (λ b. cond b (live_of x (f x)) x ∷ leave p f xs) (not_first (p x) refl)
    ∙ ap (λ (v : List Standing). x ∷ v) (leave_one p f xs k (omega arith) e (λ i j hi hj ei ej. let z = one (suc i) (suc j) (omega arith) (omega arith) ei ej in omega (arith, z)))
  where
    not_first : (b : Bool) → p x ≡ b → b ≡ false
    not_first true q = let z = one 0 (suc k) (omega arith) (omega arith) q e in absurd (omega (arith, z))
    not_first false q = refl

-- the search answers what the plain day asks
rest_none : (r : Option ℕ) → option_map suc r ≡ None → r ≡ None
rest_none None q = refl
rest_none (Some k) q = cc

any_none : (p : Standing → Bool) (t : List Standing) → first_place p t ≡ None → any p t ≡ false
any_none p [] h = refl
any_none p (x ∷ xs) h = go (p x) h (λ q. any_none p xs (rest_none (first_place p xs) q))
  where
    go : (b : Bool) → cond b (Some 0) (option_map suc (first_place p xs)) ≡ None → (option_map suc (first_place p xs) ≡ None → any p xs ≡ false) → cond b true (any p xs) ≡ false
    go true q r = cc
    go false q r = r q

pub any_some : (p : Standing → Bool) (t : List Standing) (k : ℕ) → k < length t → p (order_at t k) ≡ true → any p t ≡ true
any_some p [] k l e = absurd (omega arith)
any_some p (x ∷ xs) zero l e = cond-true (p x) true (any p xs) e
any_some p (x ∷ xs) (suc k) l e = go (p x) (any_some p xs k (omega arith) e)
  where
    go : (b : Bool) → any p xs ≡ true → cond b true (any p xs) ≡ true
    go true q = refl
    go false q = q

none_passes : (p : Standing → Bool) (t : List Standing) → any p t ≡ false → (k : ℕ) → k < length t → p (order_at t k) ≡ false
none_passes p t h k l = go (p (order_at t k)) refl
  where
    go : (b : Bool) → p (order_at t k) ≡ b → b ≡ false
    go true q = absurd (both_ways (any p t) h (any_some p t k l q))
    go false q = refl

-- a newcomer x behind the table t; changes at its place and at a place k of t
abbrev with_new : List Standing → Standing → List Standing
with_new t x = t ++ (x ∷ [])

new_at : (t : List Standing) (x : Standing) → order_at (with_new t x) (length t) ≡ x
new_at t x = get_or_push t x no_one (length t) refl

old_at : (t : List Standing) (x : Standing) (k : ℕ) → k < length t → order_at (with_new t x) k ≡ order_at t k
old_at t x k h = get_or_append_left t (x ∷ []) no_one k h

set_new : (t : List Standing) (x v : Standing) → set (with_new t x) (length t) v ≡ with_new t v
set_new t x v = set_at t x [] v (length t) refl

set_old : (t : List Standing) (x : Standing) (k : ℕ) (v : Standing) → k < length t → set (with_new t x) k v ≡ with_new (set t k v) x
set_old t x k v h = set-append_left t (x ∷ []) k v h

new_then_old : (t : List Standing) (x v w : Standing) (k : ℕ) → k < length t → set (set (with_new t x) (length t) v) k w ≡ with_new (set t k w) v
new_then_old t x v w k h = ap (λ (z : List Standing). set z k w) (set_new t x v) ∙ set_old t v k w h

old_then_new : (t : List Standing) (x v w : Standing) (k : ℕ) → k < length t → set (set (with_new t x) k w) (length t) v ≡ with_new (set t k w) v
old_then_new t x v w k h =
    ap (λ (z : List Standing). set z (length t) v) (set_old t x k w h)
    ∙ ap (λ (n : ℕ). set (with_new (set t k w) x) n v) (sym (length-set t k w))
    ∙ set_new (set t k w) x v

-- a deal of q between the newcomer and the order at k
dealt_table : (t : List Standing) (x : Standing) (k q time : ℕ) (side : Side) → k < length t → tables (with_new t x) (follow_events time (deal side (length t) k q)) ≡ with_new (set t k (less_live (order_at t k) q)) (less_live x q)
dealt_table t x k q time Buy h =
    ap (λ (y : Standing). set (set (with_new t x) (length t) (less_live y q)) k (less_live (order_at (with_new t x) k) q)) (new_at t x)
    ∙ ap (λ (y : Standing). set (set (with_new t x) (length t) (less_live x q)) k (less_live y q)) (old_at t x k h)
    ∙ new_then_old t x (less_live x q) (less_live (order_at t k) q) k h
dealt_table t x k q time Sell h =
    ap (λ (y : Standing). set (set (with_new t x) k (less_live (order_at (with_new t x) k) q)) (length t) (less_live y q)) (new_at t x)
    ∙ ap (λ (y : Standing). set (set (with_new t x) k (less_live y q)) (length t) (less_live x q)) (old_at t x k h)
    ∙ old_then_new t x (less_live x q) (less_live (order_at t k) q) k h

abbrev newcomer : Order → Standing
newcomer o = record { order = o; live = o.quantity }

less_all : (x : Standing) (q : ℕ) → q ≡ x.live.number → less_live x q ≡ with_live x 0
less_all x q e = let z : x.live.number - q ≡ 0 = omega (arith, e) in ap (with_live x) z

-- both are cancelled
both_cancelled : (t : List Standing) (x : Standing) (k : ℕ) → k < length t →
    set (set (with_new t x) k (with_live (order_at (with_new t x) k) 0)) (length t) (with_live (order_at (set (with_new t x) k (with_live (order_at (with_new t x) k) 0)) (length t)) 0)
    ≡ with_new (set t k (with_live (order_at t k) 0)) (with_live x 0)
both_cancelled t x k h =
    let u : List Standing = set (with_new t x) k (with_live (order_at (with_new t x) k) 0) in
    let y : Standing = with_live (order_at t k) 0 in
    let eu : u ≡ with_new (set t k y) x = ap (λ (z : Standing). set (with_new t x) k (with_live z 0)) (old_at t x k h) ∙ set_old t x k y h in
    let en : order_at u (length t) ≡ x = ap (λ (z : List Standing). order_at z (length t)) eu ∙ ap (λ (n : ℕ). order_at (with_new (set t k y) x) n) (sym (length-set t k y)) ∙ new_at (set t k y) x in
    ap (λ (z : Standing). set u (length t) (with_live z 0)) en
    ∙ ap (λ (z : Standing). set (set (with_new t x) k (with_live z 0)) (length t) (with_live x 0)) (old_at t x k h)
    ∙ old_then_new t x (with_live x 0) y k h

meet_plain : (t : List Standing) (o : Order) (time : ℕ) → One (waits_for o) t → (r : Option ℕ) → first_place (waits_for o) t ≡ r → Found (waits_for o) t r →
    tables (with_new t (newcomer o)) (follow_events time (meet (length t) o t r)) ≡ leave (waits_for o) nothing t ++ (live_of (newcomer o) (cond (any (waits_for o) t) 0 o.quantity.number) ∷ [])
meet_plain t o time one None e f =
    let a = any_none (waits_for o) t e in
    sym (ap (λ (b : Bool). leave (waits_for o) nothing t ++ (live_of (newcomer o) (cond b 0 o.quantity.number) ∷ [])) a
    ∙ ap (λ (z : List Standing). z ++ (newcomer o ∷ [])) (leave_none (waits_for o) nothing t (none_passes (waits_for o) t a)))
meet_plain t o time one (Some k) e f =
    let y : Standing = order_at t k in
    let a = any_some (waits_for o) t k f.0 f.1 in
    let goal : List Standing = with_new (set t k (with_live y 0)) (with_live (newcomer o) 0) in
    let right : leave (waits_for o) nothing t ++ (live_of (newcomer o) (cond (any (waits_for o) t) 0 o.quantity.number) ∷ []) ≡ goal =
    ap (λ (b : Bool). leave (waits_for o) nothing t ++ (live_of (newcomer o) (cond b 0 o.quantity.number) ∷ [])) a
    ∙ ap (λ (z : List Standing). z ++ (live_of (newcomer o) 0 ∷ [])) (leave_one (waits_for o) nothing t k f.0 f.1 one) in
    let P : Follow → Type 0 = λ w. tables (with_new t (newcomer o)) (follow_events time w) ≡ goal in
    cond_both (fits o y && eqb o.quantity.number y.live.number) (deal o.side (length t) k o.quantity.number) (CancelBoth k (length t)) P
    (λ c. let q = eqb-true o.quantity.number y.live.number (and_parts (fits o y) _ c).1 in
    dealt_table t (newcomer o) k o.quantity.number time o.side f.0
    ∙ ap (λ (z : Standing). with_new (set t k z) (less_live (newcomer o) o.quantity.number)) (less_all y o.quantity.number q)
    ∙ ap (λ (z : Standing). with_new (set t k (with_live y 0)) z) (less_all (newcomer o) o.quantity.number refl))
    (λ c. both_cancelled t (newcomer o) k f.0)
    ∙ sym right

-- the newcomer, or the other, is cancelled in a table where the other has become y
new_cancelled : (t : List Standing) (x : Standing) → set (with_new t x) (length t) (with_live (order_at (with_new t x) (length t)) 0) ≡ with_new t (with_live x 0)
new_cancelled t x = ap (λ (z : Standing). set (with_new t x) (length t) (with_live z 0)) (new_at t x) ∙ set_new t x (with_live x 0)

new_cancelled_after : (t : List Standing) (x y : Standing) (k : ℕ) → set (with_new (set t k y) x) (length t) (with_live (order_at (with_new (set t k y) x) (length t)) 0) ≡ with_new (set t k y) (with_live x 0)
new_cancelled_after t x y k = ap (λ (n : ℕ). set (with_new (set t k y) x) n (with_live (order_at (with_new (set t k y) x) n) 0)) (sym (length-set t k y)) ∙ new_cancelled (set t k y) x

old_cancelled_after : (t : List Standing) (x y : Standing) (k : ℕ) → k < length t → set (with_new (set t k y) x) k (with_live (order_at (with_new (set t k y) x) k) 0) ≡ with_new (set t k (with_live y 0)) x
old_cancelled_after t x y k h =
    let l : k < length (set t k y) = simp length-set h in
    ap (λ (z : Standing). set (with_new (set t k y) x) k (with_live z 0)) (old_at (set t k y) x k l ∙ get_or-set_same t k y no_one h)
    ∙ set_old (set t k y) x k (with_live y 0) l
    ∙ ap (λ (z : List Standing). with_new z x) (set-set t k y (with_live y 0))

click_short_table : (t : List Standing) (x : Standing) (k l time : ℕ) (side : Side) → k < length t → tables (with_new t x) (follow_events time (click_short side (length t) k l)) ≡ with_new (set t k (less_live (order_at t k) l)) (with_live x 0)
click_short_table t x k l time Buy h =
    ap (λ (z : List Standing). set z (length t) (with_live (order_at z (length t)) 0)) (dealt_table t x k l time Buy h) ∙ new_cancelled_after t (less_live x l) (less_live (order_at t k) l) k
click_short_table t x k l time Sell h =
    ap (λ (z : List Standing). set z (length t) (with_live (order_at z (length t)) 0)) (dealt_table t x k l time Sell h) ∙ new_cancelled_after t (less_live x l) (less_live (order_at t k) l) k

quote_short_table : (t : List Standing) (x : Standing) (k q time : ℕ) (side : Side) → k < length t → tables (with_new t x) (follow_events time (quote_short side (length t) k q)) ≡ with_new (set t k (with_live (order_at t k) 0)) (less_live x q)
quote_short_table t x k q time Buy h =
    ap (λ (z : List Standing). set z k (with_live (order_at z k) 0)) (dealt_table t x k q time Buy h) ∙ old_cancelled_after t (less_live x q) (less_live (order_at t k) q) k h
quote_short_table t x k q time Sell h =
    ap (λ (z : List Standing). set z k (with_live (order_at z k) 0)) (dealt_table t x k q time Sell h) ∙ old_cancelled_after t (less_live x q) (less_live (order_at t k) q) k h

no_rest : (b : Bool) (n : ℕ) → n ≡ 0 → cond b n 0 ≡ 0
no_rest true n e = e
no_rest false n e = refl

-- a click that fits its quote, which has l live
hit_plain : (s : Option Security) (t : List Standing) (o : Order) (k time : ℕ) → k < length t →
    tables (with_new t (newcomer o)) (follow_events time (hit s (length t) o k (order_at t k).order (order_at t k).live.number))
    ≡ with_new (set t k (with_live (order_at t k) (cond (stands_on s (order_at t k).order ((order_at t k).live.number - o.quantity.number)) ((order_at t k).live.number - o.quantity.number) 0))) (with_live (newcomer o) 0)
hit_plain s t o k time h =
    let y : Standing = order_at t k in
    let l : ℕ = y.live.number in
    let w : ℕ = o.quantity.number in
    let x : Standing = newcomer o in
    let b : Bool = stands_on s y.order (l - w) in
    let goal : ℕ → List Standing = λ n. with_new (set t k (with_live y n)) (with_live x 0) in
    let P : Follow → Type 0 = λ f. tables (with_new t x) (follow_events time f) ≡ goal (cond b (l - w) 0) in
    let click-gone : less_live x w ≡ with_live x 0 = less_all x w refl in
    cond_both (ltb l w) (click_short o.side (length t) k l)
    (cond (eqb l w) (deal o.side (length t) k l) (cond b (deal o.side (length t) k w) (quote_short o.side (length t) k w))) P
    (λ c. let lt = ltb-true l w c in
    click_short_table t x k l time o.side h
    ∙ ap (λ (z : Standing). with_new (set t k z) (with_live x 0)) (less_all y l refl)
    ∙ ap goal (sym (no_rest b (l - w) (omega (arith, lt)))))
    (λ c. let ge = ltb-false l w c in
    cond_both (eqb l w) (deal o.side (length t) k l) (cond b (deal o.side (length t) k w) (quote_short o.side (length t) k w)) P
    (λ u. let eq = eqb-true l w u in
    dealt_table t x k l time o.side h
    ∙ ap (λ (z : Standing). with_new (set t k z) (less_live x l)) (less_all y l refl)
    ∙ ap (λ (z : Standing). with_new (set t k (with_live y 0)) z) (less_all x l eq)
    ∙ ap goal (sym (no_rest b (l - w) (omega (arith, eq)))))
    (λ u.
    cond_both b (deal o.side (length t) k w) (quote_short o.side (length t) k w) P
    (λ v. dealt_table t x k w time o.side h
    ∙ ap (λ (z : Standing). with_new (set t k (less_live y w)) z) click-gone
    ∙ ap goal (sym (cond-true b (l - w) 0 v)))
    (λ v. quote_short_table t x k w time o.side h
    ∙ ap (λ (z : Standing). with_new (set t k (with_live y 0)) z) click-gone
    ∙ ap goal (sym (cond-false b (l - w) 0 v)))))

click_plain : (ss : List Security) (t : List Standing) (o : Order) (time : ℕ) → One (quoted_for o) t → (r : Option ℕ) → first_place (quoted_for o) t ≡ r → Found (quoted_for o) t r →
    tables (with_new t (newcomer o)) (follow_events time (click (find_listed ss o.security) (length t) o t r)) ≡ leave (quoted_for o) (rest_of ss o) t ++ (live_of (newcomer o) 0 ∷ [])
click_plain ss t o time one None e f =
    new_cancelled t (newcomer o)
    ∙ sym (ap (λ (z : List Standing). z ++ (live_of (newcomer o) 0 ∷ [])) (leave_none (quoted_for o) (rest_of ss o) t (none_passes (quoted_for o) t (any_none (quoted_for o) t e))))
click_plain ss t o time one (Some k) e f =
    let y : Standing = order_at t k in
    let s : Option Security = find_listed ss o.security in
    let w : ℕ = o.quantity.number in
    let kept : ℕ = cond (stands_on s y.order (y.live.number - w)) (y.live.number - w) 0 in
    let right : leave (quoted_for o) (rest_of ss o) t ++ (live_of (newcomer o) 0 ∷ []) ≡ with_new (set t k (with_live y (rest_of ss o y))) (with_live (newcomer o) 0) =
    ap (λ (z : List Standing). z ++ (live_of (newcomer o) 0 ∷ [])) (leave_one (quoted_for o) (rest_of ss o) t k f.0 f.1 one) in
    let goal : ℕ → List Standing = λ n. with_new (set t k (with_live y n)) (with_live (newcomer o) 0) in
    let P : Follow → Type 0 = λ v. tables (with_new t (newcomer o)) (follow_events time v) ≡ goal (rest_of ss o y) in
    cond_both (fits o y) (hit s (length t) o k y.order y.live.number) (CancelOne (length t) Mismatch) P
    (λ c. hit_plain s t o k time f.0 ∙ ap goal (sym (cond-true (fits o y) kept y.live.number c)))
    (λ c. new_cancelled t (newcomer o)
    ∙ ap (λ (z : List Standing). with_new z (with_live (newcomer o) 0)) (sym (set-get_or t k no_one))
    ∙ ap goal (sym (cond-false (fits o y) kept y.live.number c)))
    ∙ sym right

entry_plain_as : (kind : OrderKind) (ss : List Security) (t : List Standing) (o : Order) (time : ℕ) → One (waits_for o) t → One (quoted_for o) t →
    tables (with_new t (newcomer o)) (follow_events time (decide_as kind ss t o)) ≡ plain_entry_as kind (record { securities = ss; orders = t }) o
entry_plain_as Intention ss t o time ow oq = refl
entry_plain_as FirmQuote ss t o time ow oq = refl
entry_plain_as Negotiated ss t o time ow oq = meet_plain t o time ow (first_place (waits_for o) t) refl (found (waits_for o) t)
entry_plain_as Click ss t o time ow oq = click_plain ss t o time oq (first_place (quoted_for o) t) refl (found (quoted_for o) t)

pub entries_plain : EntriesPlain
entries_plain ss t o ow oq = entry_plain_as o.kind ss t o o.time ow oq

pub cancels_plain : CancelsPlain
cancels_plain t p time one = go (first_place p t) refl (found p t)
  where
    go : (r : Option ℕ) → first_place p t ≡ r → Found p t r → tables t (cancel_events r time) ≡ leave p nothing t
    go None e f = sym (leave_none p nothing t (none_passes p t (any_none p t e)))
    go (Some k) e f = sym (leave_one p nothing t k f.0 f.1 one)

pub closes_plain : ClosesPlain
closes_plain [] = refl
closes_plain (x ∷ xs) = ap (λ (v : List Standing). with_live x 0 ∷ v) (closes_plain xs)
