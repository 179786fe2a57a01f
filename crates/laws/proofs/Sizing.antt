-- Every deal reaches the least size of its class.
use Rattle.std.proofs.Common.{◌≡◌, ℕ, zero, suc, ◌+◌, ◌-◌, ◌<◌, ◌≤◌, Bool, true, cond, eqb, ◌⊎◌, List, [], ◌∷◌, ◌++◌, length, Some, None, Option, sym, refl, ap, ◌∙◌, subst, ⊎_elim, arith}
use Rattle.std.proofs.lemmas.List.{length_push, get_or_append_left, get_or_push}
use Rattle.std.proofs.lemmas.Bool.{and_parts, and_from, eqb-true, cases_lt, cond_both}
use Rattle.market.specs.declared.kinds.OrderKind.{OrderKind}
use Rattle.market.specs.declared.kinds.OrderKind.TheVariants.{Intention, FirmQuote, Negotiated, Click}
use Rattle.market.specs.declared.kinds.CancelReason.TheVariants.{Mismatch}
use Rattle.market.specs.declared.price.Price.{Price}
use Rattle.market.specs.declared.quantity.Quantity.{Quantity}
use Rattle.market.specs.Classes.{reaches}
use Rattle.market.specs.Figures.{quantity}
use Rattle.tape.specs.declared.line.Line.{Line}
use Rattle.rules.specs.declared.event.Event.{Event}
use Rattle.rules.specs.declared.event.Event.TheVariants.{Entered, Dealt, Cancelled}
use Rattle.rules.specs.declared.event.Follow.{Follow}
use Rattle.rules.specs.declared.event.Follow.TheVariants.{Wait, Deal as deal_follows, CancelBoth, DealAndCancel, CancelOne}
use Rattle.rules.specs.declared.order.Order.{Order}
use Rattle.rules.specs.declared.order.Standing.{Standing}
use Rattle.rules.specs.declared.security.Security.{Security}
use Rattle.rules.specs.Orders.{order_at, no_one}
use Rattle.rules.specs.Listing.{find_listed}
use Rattle.rules.specs.Checks.{order_for}
use Rattle.rules.specs.Dealing.{opposite, waits_for, quoted_for, fits, stands_on, decide, follow_events}
use Rattle.rules.specs.Effects.{order_line, lines_of}
use Rattle.rules.specs.Plain.{live_of, leave, nothing, any, rest_of, plain_entry_as}
use Rattle.laws.specs.Days.{Day, step, run, CanDeal}
use Rattle.laws.specs.Accepted.{day}
use Rattle.laws.specs.Ending.{Strict, StrictAll}
use Rattle.laws.specs.Sized.{Sized, LiveSized, line_reaches, is_sized, all_sized, EntriesSized}
use Rattle.laws.proofs.Accepting.{entry_passed, entries_strict}

-- The table.
pub sized_leave : (ss : List Security) (p : Standing → Bool) (f : Standing → ℕ) → ((x : Standing) → Sized ss x → Sized ss (live_of x (f x))) → (t : List Standing) → LiveSized ss t → LiveSized ss (leave p f t)
sized_leave ss p f h [] l k lt = absurd (omega arith)
sized_leave ss p f h (x ∷ xs) l zero lt =
    let P : Standing → Type 0 = Sized ss in
    cond_both (p x) (live_of x (f x)) x P (λ e. h x (l 0 (omega arith))) (λ e. l 0 (omega arith))
sized_leave ss p f h (x ∷ xs) l (suc k) lt = sized_leave ss p f h xs (λ j g. l (suc j) (omega arith)) k (omega arith)

sized_push : (ss : List Security) (t : List Standing) (x : Standing) → LiveSized ss t → Sized ss x → LiveSized ss (t ++ (x ∷ []))
sized_push ss t x f g l h =
    let long = length_push t x in
    let P : Standing → Type 0 = Sized ss in
    ⊎_elim
    (λ (a : l < length t). subst P (sym (get_or_append_left t (x ∷ []) no_one l a)) (f l a))
    (λ (a : length t ≤ l). subst P (sym (get_or_push t x no_one l (omega (arith, long)))) g)
    (cases_lt l (length t))

pub sized_nothing : (ss : List Security) (x : Standing) → Sized ss x → Sized ss (live_of x (nothing x))
sized_nothing ss x h some = absurd (omega arith)

sized_rest : (ss : List Security) (o : Order) (x : Standing) → Sized ss x → Sized ss (live_of x (rest_of ss o x))
sized_rest ss o x h =
    let w : ℕ = x.live.number - o.quantity.number in
    let b : Bool = stands_on (find_listed ss o.security) x.order w in
    let P : ℕ → Type 0 = λ n. 0 < n → stands_on (find_listed ss x.order.security) x.order n ≡ true in
    cond_both (fits o x) (cond b w 0) x.live.number P
    (λ f. let a = and_parts (opposite o.side x.order.side) _ f in
    let c = and_parts (eqb o.security x.order.security) _ a.1 in
    let e = eqb-true _ _ c.0 in
    cond_both b w 0 P (λ g some. ap (λ (n : ℕ). stands_on (find_listed ss n) x.order w) (sym e) ∙ g) (λ g some. absurd (omega arith)))
    (λ f. h)

abbrev newcomer : Order → ℕ → Standing
newcomer o n = live_of (record { order = o; live = o.quantity }) n

sized_entry_as : (kind : OrderKind) (ss : List Security) (t : List Standing) (o : Order) → stands_on (find_listed ss o.security) o o.quantity.number ≡ true → LiveSized ss t → LiveSized ss (plain_entry_as kind (record { securities = ss; orders = t }) o)
sized_entry_as Intention ss t o h l = sized_push ss t (newcomer o o.quantity.number) l (λ some. h)
sized_entry_as FirmQuote ss t o h l = sized_push ss t (newcomer o o.quantity.number) l (λ some. h)
sized_entry_as Negotiated ss t o h l =
    let n : ℕ = cond (any (waits_for o) t) 0 o.quantity.number in
    let P : ℕ → Type 0 = λ m. 0 < m → stands_on (find_listed ss o.security) o m ≡ true in
    sized_push ss (leave (waits_for o) nothing t) (newcomer o n) (sized_leave ss (waits_for o) nothing (sized_nothing ss) t l)
    (cond_both (any (waits_for o) t) 0 o.quantity.number P (λ e some. absurd (omega arith)) (λ e some. h))
sized_entry_as Click ss t o h l =
    sized_push ss (leave (quoted_for o) (rest_of ss o) t) (newcomer o 0) (sized_leave ss (quoted_for o) (rest_of ss o) (sized_rest ss o) t l) (λ some. absurd (omega arith))

-- The lines.
pub sized_append : (ss : List Security) (ls ms : List Line) → all_sized ss ls ≡ true → all_sized ss ms ≡ true → all_sized ss (ls ++ ms) ≡ true
sized_append ss [] ms h g = g
sized_append ss (l ∷ ls) ms h g = let p = and_parts (is_sized ss l) (all_sized ss ls) h in and_from _ _ p.0 (sized_append ss ls ms p.1 g)

line_of_part : (r : Option Security) (o : Order) (q : Quantity) (time : ℕ) → line_reaches r (order_line o q time) ≡ stands_on r o q.number
line_of_part None o q time = refl
line_of_part (Some x) o q time = refl

-- of an order alike in security and price
alike : (ss : List Security) (x y : Order) (n : ℕ) → x.security ≡ y.security → x.price ≡ y.price → stands_on (find_listed ss x.security) x n ≡ true → stands_on (find_listed ss y.security) y n ≡ true
alike ss x y n es ep h =
    let by-price : (r : Option Security) → stands_on r x n ≡ stands_on r y n = λ r. same_price r in
    sym (by-price (find_listed ss y.security)) ∙ ap (λ (c : ℕ). stands_on (find_listed ss c) x n) (sym es) ∙ h
  where
    same_price : (r : Option Security) → stands_on r x n ≡ stands_on r y n
    same_price None = refl
    same_price (Some s) = ap (λ (p : Price). reaches s.class (quantity n) p) ep

deal_reaches : (ss : List Security) (b s : Standing) (q : ℕ) → CanDeal b s q → (q ≡ b.live.number) ⊎ (q ≡ s.live.number) → Sized ss b → Sized ss s → stands_on (find_listed ss b.order.security) b.order q ≡ true
deal_reaches ss b s q c ends hb hs =
    let some = c.some in
    ⊎_elim
    (λ (e : q ≡ b.live.number). ap (λ (n : ℕ). stands_on (find_listed ss b.order.security) b.order n) e ∙ hb (omega (arith, some, e)))
    (λ (e : q ≡ s.live.number).
    ap (λ (n : ℕ). stands_on (find_listed ss b.order.security) b.order n) e
    ∙ alike ss s.order b.order s.live.number (sym c.security) (sym c.price) (hs (omega (arith, some, e))))
    ends

dealt_sized : (ss : List Security) (d : Day) (i j : ℕ) (q : Quantity) (time : ℕ) → Strict d (Dealt i j q time) → LiveSized ss d.orders → all_sized ss (lines_of (Dealt i j q time) d.orders (d.deals + 1)) ≡ true
dealt_sized ss d i j q time v l =
    let b : Standing = order_at d.orders i in
    let s : Standing = order_at d.orders j in
    let h = deal_reaches ss b s q.number v.0.agree v.1 (l i v.0.buyer) (l j v.0.seller) in
    let g = alike ss b.order s.order q.number v.0.agree.security v.0.agree.price h in
    and_from _ _ (line_of_part (find_listed ss b.order.security) b.order q time ∙ h)
    (and_from _ _ (line_of_part (find_listed ss s.order.security) s.order q time ∙ g) refl)

pub sized_step : (ss : List Security) (d : Day) (e : Event) → all_sized ss (lines_of e d.orders (d.deals + 1)) ≡ true → all_sized ss d.lines ≡ true → all_sized ss (step d e).lines ≡ true
sized_step ss d e g h = sized_append ss d.lines (lines_of e d.orders (d.deals + 1)) h g

-- a deal is the first thing that follows, if there is one
follow_sized : (ss : List Security) (d : Day) (time : ℕ) (f : Follow) → StrictAll d (follow_events time f) → LiveSized ss d.orders → all_sized ss d.lines ≡ true → all_sized ss (run d (follow_events time f)).lines ≡ true
follow_sized ss d time Wait v l h = h
follow_sized ss d time (deal_follows i j q) v l h = sized_step ss d (Dealt i j q time) (dealt_sized ss d i j q time v.0 l) h
follow_sized ss d time (CancelBoth k n) v l h =
    sized_step ss (step d (Cancelled k Mismatch time)) (Cancelled n Mismatch time) refl (sized_step ss d (Cancelled k Mismatch time) refl h)
follow_sized ss d time (DealAndCancel i j q k why) v l h =
    sized_step ss (step d (Dealt i j q time)) (Cancelled k why time) refl (sized_step ss d (Dealt i j q time) (dealt_sized ss d i j q time v.0 l) h)
follow_sized ss d time (CancelOne n why) v l h = sized_step ss d (Cancelled n why time) refl h

pub entries_sized : EntriesSized
entries_sized s e h l g =
    let o : Order = order_for s.orders e in
    let ss : List Security = s.securities in
    let p = (entry_passed s e h).listed in
    let size : stands_on (find_listed ss o.security) o o.quantity.number ≡ true = ap (λ (r : Option Security). stands_on r o o.quantity.number) p.found ∙ p.sized in
    let d : Day = step (day s) (Entered o) in
    record {
      live = sized_entry_as o.kind ss s.orders o size l;
      deals = follow_sized ss d o.time (decide ss s.orders o) (entries_strict s e h).1
          (sized_push ss s.orders (record { order = o; live = o.quantity }) l (λ some. size))
          (sized_step ss (day s) (Entered o) refl g);
    }
