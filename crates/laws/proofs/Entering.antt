-- The events that follow from an accepted entry are valid, one after the other.
use Rattle.std.proofs.Common.{◌≡◌, ℕ, suc, ◌+◌, ◌-◌, ◌<◌, ◌≤◌, Bool, true, cond, ◌&&◌, eqb, ltb, ◌≢◌, ◌⊎◌, List, [], ◌∷◌, length, set, IfSome, Some, None, Option, sym, refl, ap, ◌∙◌, subst, inl, inr, ⊎_elim, arith}
use Rattle.std.specs.Option.{option_map}
use Rattle.std.proofs.lemmas.List.{length-set, length_push, get_or-set_same, get_or-set_other, get_or_append_left, get_or_push}
use Rattle.std.proofs.lemmas.Bool.{cond_both, and_parts, eqb-true, ltb-true, ltb-false, eqb-false}
use Rattle.market.specs.declared.kinds.Side.{Side}
use Rattle.market.specs.declared.kinds.Side.TheVariants.{Buy, Sell}
use Rattle.market.specs.declared.kinds.OrderKind.{OrderKind}
use Rattle.market.specs.declared.kinds.OrderKind.TheVariants.{Intention, FirmQuote, Negotiated, Click}
use Rattle.market.specs.declared.kinds.CancelReason.{CancelReason}
use Rattle.market.specs.declared.kinds.CancelReason.TheVariants.{QuoteRest, ClickRest, NoQuote, Mismatch}
use Rattle.market.specs.declared.price.Price.{Price}
use Rattle.market.specs.Figures.{quantity, price}
use Rattle.rules.specs.declared.event.Event.{Event}
use Rattle.rules.specs.declared.event.Event.TheVariants.{Entered, Dealt, Cancelled}
use Rattle.rules.specs.declared.event.Follow.{Follow}
use Rattle.rules.specs.declared.event.Follow.TheVariants.{CancelBoth, CancelOne}
use Rattle.rules.specs.declared.order.Order.{Order}
use Rattle.rules.specs.declared.order.Standing.{Standing}
use Rattle.rules.specs.declared.security.Security.{Security}
use Rattle.rules.specs.Orders.{order_at, no_one, is_live, first_place, less_live, with_live}
use Rattle.rules.specs.Listing.{find_listed}
use Rattle.rules.specs.Checks.{is_kind}
use Rattle.rules.specs.Dealing.{opposite, waits_for, quoted_for, fits, stands_on, deal, meet, click_short, quote_short, hit, click, decide_as, follow_events, entry_events}
use Rattle.laws.specs.Days.{Day, step, Valid, ValidAll, CanEnter, CanCancel}
use Rattle.laws.specs.Ending.{Strict, StrictAll}

-- a search that found something found it there
abbrev pub Found : (Standing → Bool) → List Standing → Option ℕ → Type 0
Found p t r = IfSome r (λ k. (k < length t) × (p (order_at t k) ≡ true))

found_further : (p : Standing → Bool) (x : Standing) (t : List Standing) (r : Option ℕ) → Found p t r → Found p (x ∷ t) (option_map suc r)
found_further p x t None h = tt
found_further p x t (Some k) h = (omega arith, h.1)

pub found : (p : Standing → Bool) (t : List Standing) → Found p t (first_place p t)
found p [] = tt
found p (x ∷ xs) =
    let P : Option ℕ → Type 0 = λ r. Found p (x ∷ xs) r in
    cond_both (p x) (Some 0) (option_map suc (first_place p xs)) P (λ e. (omega arith, e)) (λ e. found_further p x xs (first_place p xs) (found p xs))

other_buys : (a b : Side) → opposite a b ≡ true → a ≡ Sell → b ≡ Buy
other_buys Buy Buy h e = cc
other_buys Buy Sell h e = cc
other_buys Sell Buy h e = refl
other_buys Sell Sell h e = cc

other_sells : (a b : Side) → opposite a b ≡ true → a ≡ Buy → b ≡ Sell
other_sells Buy Buy h e = cc
other_sells Buy Sell h e = refl
other_sells Sell Buy h e = cc
other_sells Sell Sell h e = cc

-- what a fit tells, of a newcomer x and the order y
record Match (x y : Standing) (q : ℕ) : Type 0 where
  sides : opposite x.order.side y.order.side ≡ true
  security : x.order.security ≡ y.order.security
  same_price : x.order.price ≡ y.order.price
  some : 0 < q
  here : q ≤ x.live.number
  there : q ≤ y.live.number
  whole : (q ≡ x.live.number) ⊎ (q ≡ y.live.number)

abbrev side_deal : Side → ℕ → ℕ → ℕ → ℕ → Event
side_deal Buy n k q time = Dealt n k (quantity q) time
side_deal Sell n k q time = Dealt k n (quantity q) time

deal_valid : (d : Day) (n k q time : ℕ) → n < length d.orders → k < length d.orders → Match (order_at d.orders n) (order_at d.orders k) q →
    (side : Side) → (order_at d.orders n).order.side ≡ side → Strict d (side_deal side n k q time)
deal_valid d n k q time hn hk m Buy e =
    (record { buyer = hn; seller = hk; agree = record { some = m.some; buys = e; sells = other_sells _ _ m.sides e; bought = m.here; sold = m.there; security = m.security; price = m.same_price } }, m.whole)
deal_valid d n k q time hn hk m Sell e =
    (record { buyer = hk; seller = hn; agree = record { some = m.some; buys = other_buys _ _ m.sides e; sells = e; bought = m.there; sold = m.here; security = sym m.security; price = sym m.same_price } }, ⊎_elim inr inl m.whole)

abbrev two_less : List Standing → ℕ → ℕ → ℕ → List Standing
two_less t i j q = set (set t i (less_live (order_at t i) q)) j (less_live (order_at t j) q)

first_less : (t : List Standing) (i j q : ℕ) → i < length t → i ≢ j → order_at (two_less t i j q) i ≡ less_live (order_at t i) q
first_less t i j q h ne = get_or-set_other _ j i _ no_one ne ∙ get_or-set_same t i _ no_one h

second_less : (t : List Standing) (i j q : ℕ) → j < length t → order_at (two_less t i j q) j ≡ less_live (order_at t j) q
second_less t i j q h = let l : j < length (set t i (less_live (order_at t i) q)) = simp length-set h in get_or-set_same _ j _ no_one l

two_length : (t : List Standing) (i j q : ℕ) → length (two_less t i j q) ≡ length t
two_length t i j q = simp length-set

first_rest : (t : List Standing) (i j q : ℕ) → i < length t → i ≢ j → q < (order_at t i).live.number → CanCancel (two_less t i j q) i
first_rest t i j q h ne l =
    let live = ap (λ (y : Standing). y.live.number) (first_less t i j q h ne) in let long = two_length t i j q in record { there = omega (arith, long); live = omega (arith, live) }

second_rest : (t : List Standing) (i j q : ℕ) → j < length t → q < (order_at t j).live.number → CanCancel (two_less t i j q) j
second_rest t i j q h l =
    let live = ap (λ (y : Standing). y.live.number) (second_less t i j q h) in let long = two_length t i j q in record { there = omega (arith, long); live = omega (arith, live) }

-- after a deal with a rest, the rest can be cancelled: the newcomer's, or the other's
newcomer_rest : (d : Day) (side : Side) (n k q time : ℕ) (why : CancelReason) → n < length d.orders → n ≢ k → q < (order_at d.orders n).live.number →
    Valid (step d (side_deal side n k q time)) (Cancelled n why time)
newcomer_rest d Buy n k q time why h ne l = first_rest d.orders n k q h ne l
newcomer_rest d Sell n k q time why h ne l = second_rest d.orders k n q h l

other_rest : (d : Day) (side : Side) (n k q time : ℕ) (why : CancelReason) → k < length d.orders → k ≢ n → q < (order_at d.orders k).live.number →
    Valid (step d (side_deal side n k q time)) (Cancelled k why time)
other_rest d Buy n k q time why h ne l = second_rest d.orders n k q h l
other_rest d Sell n k q time why h ne l = first_rest d.orders k n q h ne l

-- the day once the order o stands at the end of the table
abbrev entered_day : Day → Order → Day
entered_day d o = step d (Entered o)

abbrev newcomer : Order → Standing
newcomer o = record { order = o; live = o.quantity }

old_place : (d : Day) (o : Order) (k : ℕ) → k < length d.orders → order_at (entered_day d o).orders k ≡ order_at d.orders k
old_place d o k h = get_or_append_left d.orders (newcomer o ∷ []) no_one k h

new_place : (d : Day) (o : Order) → order_at (entered_day d o).orders (length d.orders) ≡ newcomer o
new_place d o = get_or_push d.orders (newcomer o) no_one (length d.orders) refl

new_length : (d : Day) (o : Order) → length (entered_day d o).orders ≡ length d.orders + 1
new_length d o = length_push d.orders (newcomer o)

cancel_new : (d : Day) (o : Order) (why : CancelReason) (time : ℕ) → 0 < o.quantity.number → Valid (entered_day d o) (Cancelled (length d.orders) why time)
cancel_new d o why time h =
    let live = ap (λ (y : Standing). y.live.number) (new_place d o) in let long = new_length d o in record { there = omega (arith, long); live = omega (arith, live) }

same_price_of : (p q : Price) → p.number ≡ q.number → p ≡ q
same_price_of p q e = ap price e

match_of : (o : Order) (y : Standing) (q : ℕ) → fits o y ≡ true → 0 < q → q ≤ o.quantity.number → q ≤ y.live.number → (q ≡ o.quantity.number) ⊎ (q ≡ y.live.number) → Match (newcomer o) y q
match_of o y q h hq hx hy all =
    let a = and_parts (opposite o.side y.order.side) _ h in
    let b = and_parts (eqb o.security y.order.security) _ a.1 in
    record {
      sides = a.0;
      security = eqb-true _ _ b.0;
      same_price = same_price_of o.price y.order.price (eqb-true _ _ b.1);
      some = hq;
      here = hx;
      there = hy;
      whole = all;
    }

-- the newcomer's deal with the order at k
new_deal : (d : Day) (o : Order) (k q time : ℕ) → k < length d.orders → fits o (order_at d.orders k) ≡ true → 0 < q → q ≤ o.quantity.number →
    q ≤ (order_at d.orders k).live.number → (q ≡ o.quantity.number) ⊎ (q ≡ (order_at d.orders k).live.number) → Strict (entered_day d o) (side_deal o.side (length d.orders) k q time)
new_deal d o k q time hk m hq here there all =
    let n = new_place d o in
    let long = new_length d o in
    let x : Match (newcomer o) (order_at d.orders k) q = match_of o (order_at d.orders k) q m hq here there all in
    let P : Standing → Type 0 = λ a. Match a (order_at d.orders k) q in
    let Q : Standing → Type 0 = λ b. Match (order_at (entered_day d o).orders (length d.orders)) b q in
    deal_valid (entered_day d o) (length d.orders) k q time (omega (arith, long)) (omega (arith, long)) (subst Q (sym (old_place d o k hk)) (subst P (sym n) x)) o.side (ap (λ (y : Standing). y.order.side) n)

cancel_both : (d : Day) (o : Order) (k : ℕ) (why : CancelReason) (time : ℕ) → k < length d.orders → 0 < (order_at d.orders k).live.number → 0 < o.quantity.number →
    StrictAll (entered_day d o) (Cancelled k why time ∷ (Cancelled (length d.orders) why time ∷ []))
cancel_both d o k why time hk live some =
    let t : List Standing = (entered_day d o).orders in
    let n : ℕ = length d.orders in
    let long = new_length d o in
    let old = ap (λ (y : Standing). y.live.number) (old_place d o k hk) in
    let ne : n ≢ k = omega arith in
    let new = ap (λ (y : Standing). y.live.number) (get_or-set_other t k n (with_live (order_at t k) 0) no_one ne ∙ new_place d o) in
    let longer = length-set t k (with_live (order_at t k) 0) in
    ((record { there = omega (arith, long); live = omega (arith, old) }, tt), ((record { there = omega (arith, long, longer); live = omega (arith, new) }, tt), tt))

-- a search for a live order finds one that is live
waiting_live : (o : Order) (x : Standing) → waits_for o x ≡ true → 0 < x.live.number
waiting_live o x h = let a = and_parts (is_kind Negotiated x) _ h in let b = and_parts (is_live x) _ a.1 in ltb-true 0 x.live.number b.0

quote_live : (o : Order) (x : Standing) → quoted_for o x ≡ true → 0 < x.live.number
quote_live o x h = let a = and_parts (is_kind FirmQuote x) _ h in let b = and_parts (is_live x) _ a.1 in ltb-true 0 x.live.number b.0

follow_deal : (d : Day) (n k q time : ℕ) (side : Side) → Strict d (side_deal side n k q time) → StrictAll d (follow_events time (deal side n k q))
follow_deal d n k q time Buy v = (v, tt)
follow_deal d n k q time Sell v = (v, tt)

meet_valid : (d : Day) (o : Order) (time : ℕ) → 0 < o.quantity.number → (r : Option ℕ) → Found (waits_for o) d.orders r →
    StrictAll (entered_day d o) (follow_events time (meet (length d.orders) o d.orders r))
meet_valid d o time some None f = tt
meet_valid d o time some (Some k) f =
    let y : Standing = order_at d.orders k in
    let P : Follow → Type 0 = λ w. StrictAll (entered_day d o) (follow_events time w) in
    cond_both
    (fits o y && eqb o.quantity.number y.live.number)
    (deal o.side (length d.orders) k o.quantity.number)
    (CancelBoth k (length d.orders))
    P
    (λ e. let a = and_parts (fits o y) _ e in
    let q = eqb-true o.quantity.number y.live.number a.1 in
    follow_deal (entered_day d o) (length d.orders) k o.quantity.number time o.side (new_deal d o k o.quantity.number time f.0 a.0 some (omega arith) (omega (arith, q)) (inl refl)))
    (λ e. cancel_both d o k Mismatch time f.0 (waiting_live o y f.1) some)

follow_click_short : (d : Day) (n k l time : ℕ) (side : Side) → Strict d (side_deal side n k l time) → Valid (step d (side_deal side n k l time)) (Cancelled n ClickRest time) →
    StrictAll d (follow_events time (click_short side n k l))
follow_click_short d n k l time Buy v w = (v, ((w, tt), tt))
follow_click_short d n k l time Sell v w = (v, ((w, tt), tt))

follow_quote_short : (d : Day) (n k q time : ℕ) (side : Side) → Strict d (side_deal side n k q time) → Valid (step d (side_deal side n k q time)) (Cancelled k QuoteRest time) →
    StrictAll d (follow_events time (quote_short side n k q))
follow_quote_short d n k q time Buy v w = (v, ((w, tt), tt))
follow_quote_short d n k q time Sell v w = (v, ((w, tt), tt))

hit_valid : (d : Day) (s : Option Security) (o : Order) (k time : ℕ) → 0 < o.quantity.number → k < length d.orders → 0 < (order_at d.orders k).live.number → fits o (order_at d.orders k) ≡ true →
    StrictAll (entered_day d o) (follow_events time (hit s (length d.orders) o k (order_at d.orders k).order (order_at d.orders k).live.number))
hit_valid d s o k time some hk live m =
    let n : ℕ = length d.orders in
    let l : ℕ = (order_at d.orders k).live.number in
    let w : ℕ = o.quantity.number in
    let quote : Order = (order_at d.orders k).order in
    let e : Day = entered_day d o in
    let long = new_length d o in
    let new = ap (λ (y : Standing). y.live.number) (new_place d o) in
    let old = ap (λ (y : Standing). y.live.number) (old_place d o k hk) in
    let P : Follow → Type 0 = λ f. StrictAll e (follow_events time f) in
    cond_both (ltb l w) (click_short o.side n k l)
    (cond (eqb l w) (deal o.side n k l) (cond (stands_on s quote (l - w)) (deal o.side n k w) (quote_short o.side n k w)))
    P
    (λ t. let lt = ltb-true l w t in
    follow_click_short e n k l time o.side (new_deal d o k l time hk m live (omega (arith, lt)) (omega arith) (inr refl)) (newcomer_rest e o.side n k l time ClickRest (omega (arith, long)) (omega arith) (omega (arith, lt, new))))
    (λ t. let ge = ltb-false l w t in
    cond_both (eqb l w) (deal o.side n k l) (cond (stands_on s quote (l - w)) (deal o.side n k w) (quote_short o.side n k w)) P
    (λ u. let eq = eqb-true l w u in follow_deal e n k l time o.side (new_deal d o k l time hk m live (omega (arith, eq)) (omega arith) (inr refl)))
    (λ u. let lt : w < l = let ne = eqb-false l w u in below ge ne in
    cond_both (stands_on s quote (l - w)) (deal o.side n k w) (quote_short o.side n k w) P
    (λ x. follow_deal e n k w time o.side (new_deal d o k w time hk m some (omega arith) (omega (arith, lt)) (inl refl)))
    (λ x. follow_quote_short e n k w time o.side (new_deal d o k w time hk m some (omega arith) (omega (arith, lt)) (inl refl)) (other_rest e o.side n k w time QuoteRest (omega (arith, long)) (omega arith) (omega (arith, lt, old))))))
  where
    below : {l w : ℕ} → w ≤ l → (l ≡ w → ⊥) → w < l
    below h ne = omega arith

click_valid : (d : Day) (s : Option Security) (o : Order) (time : ℕ) → 0 < o.quantity.number → (r : Option ℕ) → Found (quoted_for o) d.orders r →
    StrictAll (entered_day d o) (follow_events time (click s (length d.orders) o d.orders r))
click_valid d s o time some None f = ((cancel_new d o NoQuote time some, tt), tt)
click_valid d s o time some (Some k) f =
    let P : Follow → Type 0 = λ w. StrictAll (entered_day d o) (follow_events time w) in
    cond_both (fits o (order_at d.orders k)) (hit s (length d.orders) o k (order_at d.orders k).order (order_at d.orders k).live.number) (CancelOne (length d.orders) Mismatch) P
    (λ e. hit_valid d s o k time some f.0 (quote_live o (order_at d.orders k) f.1) e)
    (λ e. ((cancel_new d o Mismatch time some, tt), tt))

decide_valid : (d : Day) (ss : List Security) (o : Order) (time : ℕ) → 0 < o.quantity.number → (kind : OrderKind) → StrictAll (entered_day d o) (follow_events time (decide_as kind ss d.orders o))
decide_valid d ss o time some Intention = tt
decide_valid d ss o time some FirmQuote = tt
decide_valid d ss o time some Negotiated = meet_valid d o time some (first_place (waits_for o) d.orders) (found (waits_for o) d.orders)
decide_valid d ss o time some Click = click_valid d (find_listed ss o.security) o time some (first_place (quoted_for o) d.orders) (found (quoted_for o) d.orders)

pub entry_strict : (d : Day) (ss : List Security) (o : Order) → CanEnter o d.orders d.book → StrictAll d (entry_events ss d.orders o)
entry_strict d ss o can = ((can, tt), decide_valid d ss o o.time can.some o.kind)

pub valid_all : (d : Day) (es : List Event) → StrictAll d es → ValidAll d es
valid_all d [] v = tt
valid_all d (e ∷ es) v = (v.0.0, valid_all (step d e) es v.1)

pub entry_valid : (d : Day) (ss : List Security) (o : Order) → CanEnter o d.orders d.book → ValidAll d (entry_events ss d.orders o)
entry_valid d ss o can = valid_all d (entry_events ss d.orders o) (entry_strict d ss o can)
