-- Under one number two units deal at most once in a day.
use Rattle.std.proofs.Common.{◌≡◌, ℕ, ◌+◌, ◌-◌, ◌<◌, Bool, true, false, cond, not, ◌&&◌, ◌||◌, eqb, ltb, ◌⊎◌, List, [], ◌∷◌, ◌++◌, length, Some, None, Option, sym, refl, ap, ◌∙◌, subst, inl, inr, ⊎_elim, append_assoc, append-nil, arith}
use Rattle.std.proofs.lemmas.List.{map_push, get_or_append_left, get_or_push}
use Rattle.std.proofs.lemmas.Bool.{and_parts, and_from, or_cases, or_parts, or_from, or_left, or_right, not-true, not_from_false, eqb-true, eq-eqb, ne_eqb, cases_Bool, both_ways, cond-true, cond-false, cond_both}
use Rattle.market.specs.declared.kinds.Side.{Side}
use Rattle.market.specs.declared.kinds.Side.TheVariants.{Buy, Sell}
use Rattle.market.specs.declared.kinds.OrderKind.{OrderKind}
use Rattle.market.specs.declared.kinds.OrderKind.TheVariants.{Intention, FirmQuote, Negotiated, Click}
use Rattle.market.specs.declared.kinds.CancelReason.TheVariants.{Mismatch}
use Rattle.market.specs.declared.quantity.Quantity.{Quantity}
use Rattle.market.specs.Kinds.{kind_number}
use Rattle.tape.specs.declared.line.Line.{Line}
use Rattle.tape.specs.declared.line.Line.TheVariants.{Deal}
use Rattle.tape.specs.declared.line.OrderLine.{OrderLine}
use Rattle.rules.specs.declared.event.Event.{Event}
use Rattle.rules.specs.declared.event.Event.TheVariants.{Entered, Dealt, Cancelled}
use Rattle.rules.specs.declared.event.Follow.{Follow}
use Rattle.rules.specs.declared.event.Follow.TheVariants.{Wait, Deal as deal_follows, CancelBoth, DealAndCancel, CancelOne}
use Rattle.rules.specs.declared.order.Agreement.{Agreement}
use Rattle.rules.specs.declared.order.Order.{Order}
use Rattle.rules.specs.declared.order.Standing.{Standing}
use Rattle.rules.specs.declared.security.Security.{Security}
use Rattle.rules.specs.Orders.{order_at, no_one, is_live, first_place}
use Rattle.rules.specs.Listing.{find_listed}
use Rattle.rules.specs.Checks.{is_kind, between_units, has_dealt, number_free_for, order_for}
use Rattle.rules.specs.Dealing.{waits_for, quoted_for, fits, stands_on, deal, meet, click_short, quote_short, hit, click, decide, decide_as, follow_events}
use Rattle.rules.specs.Effects.{order_line, lines_of, agreement, agreed_after}
use Rattle.laws.specs.Days.{Day, step, run, Valid, ValidAll}
use Rattle.laws.specs.Accepted.{day}
use Rattle.laws.specs.Agreed.{all_once, Party, same_side, party_of, party_in, under, buyer_of, seller_of, Agreed, agreements, EntriesAgreed}
use Rattle.laws.proofs.Accepting.{entries_valid, number_accepted}
use Rattle.laws.proofs.Entering.{Found, found}
use Rattle.laws.proofs.Searching.{deal_number}

or_turned : (x y : Bool) → (x || y) ≡ (y || x)
or_turned true true = refl
or_turned true false = refl
or_turned false true = refl
or_turned false false = refl

-- either way round
pub dealt_turned : (u v n : ℕ) (as' : List Agreement) → has_dealt u v n as' ≡ has_dealt v u n as'
dealt_turned u v n [] = refl
dealt_turned u v n (a ∷ rest) =
    ap (λ (b : Bool). (eqb a.number n && b) || has_dealt u v n rest) (or_turned (eqb a.buyer u && eqb a.seller v) (eqb a.buyer v && eqb a.seller u))
    ∙ ap (λ (b : Bool). (eqb a.number n && between_units v u a) || b) (dealt_turned u v n rest)

dealt_push : (u v n : ℕ) (as' : List Agreement) (a : Agreement) → has_dealt u v n as' ≡ false → (eqb a.number n && between_units u v a) ≡ false → has_dealt u v n (as' ++ a ∷ []) ≡ false
dealt_push u v n [] a h g = or_from _ false g refl
dealt_push u v n (x ∷ rest) a h g =
    let p = or_parts (eqb x.number n && between_units u v x) (has_dealt u v n rest) h in or_from _ _ p.0 (dealt_push u v n rest a p.1 g)

-- if x would stand for a, then a stands for x
seen_back : (x a : Agreement) → (eqb a.number x.number && between_units x.buyer x.seller a) ≡ true → (eqb x.number a.number && between_units a.buyer a.seller x) ≡ true
seen_back x a h =
    let p = and_parts (eqb a.number x.number) _ h in
    and_from _ _ (eq-eqb _ _ (sym (eqb-true _ _ p.0)))
    (⊎_elim
    (λ (q : (eqb a.buyer x.buyer && eqb a.seller x.seller) ≡ true).
    let r = and_parts (eqb a.buyer x.buyer) _ q in
    or_left _ _ (and_from _ _ (eq-eqb _ _ (sym (eqb-true _ _ r.0))) (eq-eqb _ _ (sym (eqb-true _ _ r.1)))))
    (λ (q : (eqb a.buyer x.seller && eqb a.seller x.buyer) ≡ true).
    let r = and_parts (eqb a.buyer x.seller) _ q in
    or_right _ _ (and_from _ _ (eq-eqb _ _ (sym (eqb-true _ _ r.1))) (eq-eqb _ _ (sym (eqb-true _ _ r.0)))))
    (or_cases _ _ p.1))

not_seen : (x a : Agreement) → (eqb x.number a.number && between_units a.buyer a.seller x) ≡ false → (eqb a.number x.number && between_units x.buyer x.seller a) ≡ false
not_seen x a h =
    ⊎_elim
    (λ (e : (eqb a.number x.number && between_units x.buyer x.seller a) ≡ true). absurd (both_ways _ h (seen_back x a e)))
    (λ e. e)
    (cases_Bool (eqb a.number x.number && between_units x.buyer x.seller a))

once_push : (as' : List Agreement) (a : Agreement) → all_once as' ≡ true → has_dealt a.buyer a.seller a.number as' ≡ false → all_once (as' ++ a ∷ []) ≡ true
once_push [] a h g = refl
once_push (x ∷ rest) a h g =
    let p = and_parts (not (has_dealt x.buyer x.seller x.number rest)) (all_once rest) h in
    let q = or_parts (eqb x.number a.number && between_units a.buyer a.seller x) _ g in
    and_from _ _ (not_from_false _ (dealt_push x.buyer x.seller x.number rest a (not-true _ p.0) (not_seen x a q.0))) (once_push rest a p.1 q.1)

under_append : (side : Side) (ls ms : List Line) → under side (ls ++ ms) ≡ under side ls ++ under side ms
under_append side [] ms = refl
under_append side (l ∷ ls) ms =
    ap (λ (x : List Party). party_in side l ++ x) (under_append side ls ms) ∙ sym (append_assoc (party_in side l) (under side ls) (under side ms))

-- lines that tell of no negotiated deal
agreed_on : (as' : List Agreement) (ls ms : List Line) → under Buy ms ≡ [] → under Sell ms ≡ [] → Agreed as' ls → Agreed as' (ls ++ ms)
agreed_on as' ls ms b s a =
    record {
      once = a.once;
      buyers = a.buyers ∙ sym (under_append Buy ls ms ∙ ap (λ (x : List Party). under Buy ls ++ x) b ∙ append-nil _);
      sellers = a.sellers ∙ sym (under_append Sell ls ms ∙ ap (λ (x : List Party). under Sell ls ++ x) s ∙ append-nil _);
    }

-- both parties of a deal are negotiated, under a number that is free between them; or neither is
record Under (b s : Standing) (as' : List Agreement) : Type 0 where
  buyer : is_kind Negotiated b ≡ true
  seller : is_kind Negotiated s ≡ true
  number : s.order.agreement ≡ b.order.agreement
  free : has_dealt b.order.unit s.order.unit b.order.agreement as' ≡ false

record Beside (b s : Standing) : Type 0 where
  buyer : is_kind Negotiated b ≡ false
  seller : is_kind Negotiated s ≡ false

abbrev Apt : List Standing → List Agreement → ℕ → ℕ → Type 0
Apt t as' i j = Under (order_at t i) (order_at t j) as' ⊎ Beside (order_at t i) (order_at t j)

-- the two lines of a deal, as one side sees them
two_parties : (side : Side) (x y : OrderLine) (n : ℕ) (bx by : Bool) → x.side ≡ Buy → y.side ≡ Sell → eqb (kind_number x.kind) 3 ≡ bx → eqb (kind_number y.kind) 3 ≡ by →
    under side (Deal x n ∷ (Deal y n ∷ [])) ≡ cond (same_side side Buy && bx) (party_of x ∷ []) [] ++ (cond (same_side side Sell && by) (party_of y ∷ []) [] ++ [])
two_parties side x y n bx by ex ey kx ky =
    ap (λ (s : Side). cond (same_side side s && eqb (kind_number x.kind) 3) (party_of x ∷ []) [] ++ (cond (same_side side y.side && eqb (kind_number y.kind) 3) (party_of y ∷ []) [] ++ [])) ex
    ∙ ap (λ (s : Side). cond (same_side side Buy && eqb (kind_number x.kind) 3) (party_of x ∷ []) [] ++ (cond (same_side side s && eqb (kind_number y.kind) 3) (party_of y ∷ []) [] ++ [])) ey
    ∙ ap (λ (b : Bool). cond (same_side side Buy && b) (party_of x ∷ []) [] ++ (cond (same_side side Sell && eqb (kind_number y.kind) 3) (party_of y ∷ []) [] ++ [])) kx
    ∙ ap (λ (b : Bool). cond (same_side side Buy && bx) (party_of x ∷ []) [] ++ (cond (same_side side Sell && b) (party_of y ∷ []) [] ++ [])) ky

dealt_agreed : (d : Day) (as' : List Agreement) (i j : ℕ) (q : Quantity) (time : ℕ) → Valid d (Dealt i j q time) → Apt d.orders as' i j → Agreed as' d.lines →
    Agreed (agreed_after (Dealt i j q time) d.orders as') (step d (Dealt i j q time)).lines
dealt_agreed d as' i j q time v apt a =
    let b : Standing = order_at d.orders i in
    let s : Standing = order_at d.orders j in
    let n : ℕ = d.deals + 1 in
    let x : OrderLine = order_line b.order q time in
    let y : OrderLine = order_line s.order q time in
    let ms : List Line = Deal x n ∷ (Deal y n ∷ []) in
    let new : Agreement = agreement b s in
    let P : List Agreement → Type 0 = λ z. Agreed z (d.lines ++ ms) in
    ⊎_elim
    (λ (u : Under b s as').
    let eb : under Buy ms ≡ party_of x ∷ [] = two_parties Buy x y n true true v.agree.buys v.agree.sells u.buyer u.seller in
    let es : under Sell ms ≡ party_of y ∷ [] = two_parties Sell x y n true true v.agree.buys v.agree.sells u.buyer u.seller in
    let numbers : party_of y ≡ seller_of new = ap (λ (m : ℕ). record { unit = s.order.unit; number = m }) u.number in
    subst P (sym (cond-true (is_kind Negotiated b) (as' ++ (new ∷ [])) as' u.buyer))
    (record {
      once = once_push as' new a.once u.free;
      buyers = map_push buyer_of as' new ∙ ap (λ (z : List Party). z ++ (party_of x ∷ [])) a.buyers ∙ ap (λ (z : List Party). under Buy d.lines ++ z) (sym eb) ∙ sym (under_append Buy d.lines ms);
      sellers = map_push seller_of as' new ∙ ap (λ (z : List Party). z ++ (seller_of new ∷ [])) a.sellers ∙ ap (λ (z : Party). under Sell d.lines ++ (z ∷ [])) (sym numbers) ∙ ap (λ (z : List Party). under Sell d.lines ++ z) (sym es) ∙ sym (under_append Sell d.lines ms);
    }))
    (λ (u : Beside b s).
    let eb : under Buy ms ≡ [] = two_parties Buy x y n false false v.agree.buys v.agree.sells u.buyer u.seller in
    let es : under Sell ms ≡ [] = two_parties Sell x y n false false v.agree.buys v.agree.sells u.buyer u.seller in
    subst P (sym (cond-false (is_kind Negotiated b) (as' ++ (new ∷ [])) as' u.buyer)) (agreed_on as' d.lines ms eb es a))
    apt

-- a deal is the first thing that follows, if there is one
abbrev AptFollow : List Standing → List Agreement → Follow → Type 0
AptFollow t as' Wait = Unit {0}
AptFollow t as' (deal_follows i j q) = Apt t as' i j
AptFollow t as' (CancelBoth k n) = Unit {0}
AptFollow t as' (DealAndCancel i j q k why) = Apt t as' i j
AptFollow t as' (CancelOne n why) = Unit {0}

pub agreed_beside : (d : Day) (as' : List Agreement) (e : Event) → under Buy (lines_of e d.orders (d.deals + 1)) ≡ [] → under Sell (lines_of e d.orders (d.deals + 1)) ≡ [] → Agreed as' d.lines → Agreed as' (step d e).lines
agreed_beside d as' e b s a = agreed_on as' d.lines (lines_of e d.orders (d.deals + 1)) b s a

follow_agreed : (d : Day) (as' : List Agreement) (time : ℕ) (f : Follow) → ValidAll d (follow_events time f) → AptFollow d.orders as' f → Agreed as' d.lines →
    Agreed (agreements d.orders as' (follow_events time f)) (run d (follow_events time f)).lines
follow_agreed d as' time Wait v apt a = a
follow_agreed d as' time (deal_follows i j q) v apt a = dealt_agreed d as' i j q time v.0 apt a
follow_agreed d as' time (CancelBoth k n) v apt a =
    agreed_beside (step d (Cancelled k Mismatch time)) as' (Cancelled n Mismatch time) refl refl (agreed_beside d as' (Cancelled k Mismatch time) refl refl a)
follow_agreed d as' time (DealAndCancel i j q k why) v apt a =
    agreed_beside (step d (Dealt i j q time)) (agreed_after (Dealt i j q time) d.orders as') (Cancelled k why time) refl refl (dealt_agreed d as' i j q time v.0 apt a)
follow_agreed d as' time (CancelOne n why) v apt a = agreed_beside d as' (Cancelled n why time) refl refl a

-- The decision is apt: a negotiated order meets one that waits for it, a click a firm quote.
abbrev newcomer : Order → Standing
newcomer o = record { order = o; live = o.quantity }

abbrev with_new : List Standing → Order → List Standing
with_new t o = t ++ (newcomer o ∷ [])

new_at : (t : List Standing) (o : Order) → order_at (with_new t o) (length t) ≡ newcomer o
new_at t o = get_or_push t (newcomer o) no_one (length t) refl

old_at : (t : List Standing) (o : Order) (k : ℕ) → k < length t → order_at (with_new t o) k ≡ order_at t k
old_at t o k h = get_or_append_left t (newcomer o ∷ []) no_one k h

both_at : (P : Standing → Standing → Type 0) (t : List Standing) (o : Order) (k : ℕ) → k < length t → P (newcomer o) (order_at t k) → P (order_at (with_new t o) (length t)) (order_at (with_new t o) k)
both_at P t o k h p =
    let Q : Standing → Type 0 = λ x. P x (order_at t k) in
    let R : Standing → Type 0 = λ y. P (order_at (with_new t o) (length t)) y in
    subst R (sym (old_at t o k h)) (subst Q (sym (new_at t o)) p)

under_new : (side : Side) (t : List Standing) (o : Order) (k q : ℕ) (as' : List Agreement) → k < length t → o.kind ≡ Negotiated → waits_for o (order_at t k) ≡ true → has_dealt o.unit o.counterpart o.agreement as' ≡ false →
    AptFollow (with_new t o) as' (deal side (length t) k q)
under_new side t o k q as' h kind w free =
    let x : Standing = order_at t k in
    let a = and_parts (is_kind Negotiated x) _ w in
    let b = and_parts (is_live x) _ a.1 in
    let c = and_parts (eqb x.order.unit o.counterpart) _ b.1 in
    let d = and_parts (eqb x.order.counterpart o.unit) _ c.1 in
    let unit = eqb-true _ _ c.0 in
    let number = eqb-true _ _ d.1 in
    let own : is_kind Negotiated (newcomer o) ≡ true = ap (λ (z : OrderKind). eqb (kind_number z) 3) kind in
    let free-here : has_dealt o.unit x.order.unit o.agreement as' ≡ false = ap (λ (u : ℕ). has_dealt o.unit u o.agreement as') unit ∙ free in
    let free-there : has_dealt x.order.unit o.unit x.order.agreement as' ≡ false = ap (λ (m : ℕ). has_dealt x.order.unit o.unit m as') number ∙ dealt_turned x.order.unit o.unit o.agreement as' ∙ free-here in
    let buys : Under (newcomer o) x as' = record { buyer = own; seller = a.0; number = number; free = free-here } in
    let sells : Under x (newcomer o) as' = record { buyer = a.0; seller = own; number = sym number; free = free-there } in
    sided side buys sells
  where
    sided : (side : Side) → Under (newcomer o) (order_at t k) as' → Under (order_at t k) (newcomer o) as' → AptFollow (with_new t o) as' (deal side (length t) k q)
    sided Buy p r = inl (both_at (λ b s. Under b s as') t o k h p)
    sided Sell p r = inl (both_at (λ s b. Under b s as') t o k h r)

meet_apt : (t : List Standing) (o : Order) (as' : List Agreement) → o.kind ≡ Negotiated → has_dealt o.unit o.counterpart o.agreement as' ≡ false → (r : Option ℕ) → Found (waits_for o) t r → AptFollow (with_new t o) as' (meet (length t) o t r)
meet_apt t o as' kind free None f = tt
meet_apt t o as' kind free (Some k) f =
    let P : Follow → Type 0 = AptFollow (with_new t o) as' in
    cond_both (fits o (order_at t k) && eqb o.quantity.number (order_at t k).live.number) (deal o.side (length t) k o.quantity.number) (CancelBoth k (length t)) P
    (λ e. under_new o.side t o k o.quantity.number as' f.0 kind f.1 free)
    (λ e. tt)

-- a click and a quote are not negotiated
record Clicked (t : List Standing) (o : Order) (k : ℕ) : Type 0 where
  here : Beside (order_at (with_new t o) (length t)) (order_at (with_new t o) k)
  there : Beside (order_at (with_new t o) k) (order_at (with_new t o) (length t))

clicked : (t : List Standing) (o : Order) (k : ℕ) → k < length t → o.kind ≡ Click → quoted_for o (order_at t k) ≡ true → Clicked t o k
clicked t o k h kind w =
    let x : Standing = order_at t k in
    let a = and_parts (is_kind FirmQuote x) _ w in
    let two = eqb-true (kind_number x.order.kind) 2 a.0 in
    let quote : is_kind Negotiated x ≡ false = ne_eqb (kind_number x.order.kind) 3 (λ e. omega (arith, two, e)) in
    let own : is_kind Negotiated (newcomer o) ≡ false = ap (λ (z : OrderKind). eqb (kind_number z) 3) kind in
    let one : Beside (newcomer o) x = record { buyer = own; seller = quote } in
    let other : Beside x (newcomer o) = record { buyer = quote; seller = own } in
    record { here = both_at (λ b s. Beside b s) t o k h one; there = both_at (λ s b. Beside b s) t o k h other }

apt_deal : (side : Side) (t : List Standing) (o : Order) (k q : ℕ) (as' : List Agreement) → Clicked t o k → AptFollow (with_new t o) as' (deal side (length t) k q)
apt_deal Buy t o k q as' c = inr c.here
apt_deal Sell t o k q as' c = inr c.there

apt_click_short : (side : Side) (t : List Standing) (o : Order) (k q : ℕ) (as' : List Agreement) → Clicked t o k → AptFollow (with_new t o) as' (click_short side (length t) k q)
apt_click_short Buy t o k q as' c = inr c.here
apt_click_short Sell t o k q as' c = inr c.there

apt_quote_short : (side : Side) (t : List Standing) (o : Order) (k q : ℕ) (as' : List Agreement) → Clicked t o k → AptFollow (with_new t o) as' (quote_short side (length t) k q)
apt_quote_short Buy t o k q as' c = inr c.here
apt_quote_short Sell t o k q as' c = inr c.there

click_apt : (s : Option Security) (t : List Standing) (o : Order) (as' : List Agreement) → o.kind ≡ Click → (r : Option ℕ) → Found (quoted_for o) t r → AptFollow (with_new t o) as' (click s (length t) o t r)
click_apt s t o as' kind None f = tt
click_apt s t o as' kind (Some k) f =
    let n : ℕ = length t in
    let l : ℕ = (order_at t k).live.number in
    let w : ℕ = o.quantity.number in
    let quote : Order = (order_at t k).order in
    let c = clicked t o k f.0 kind f.1 in
    let P : Follow → Type 0 = AptFollow (with_new t o) as' in
    cond_both (fits o (order_at t k)) (hit s n o k quote l) (CancelOne n Mismatch) P
    (λ e. cond_both (ltb l w) (click_short o.side n k l) (cond (eqb l w) (deal o.side n k l) (cond (stands_on s quote (l - w)) (deal o.side n k w) (quote_short o.side n k w))) P
    (λ x. apt_click_short o.side t o k l as' c)
    (λ x. cond_both (eqb l w) (deal o.side n k l) (cond (stands_on s quote (l - w)) (deal o.side n k w) (quote_short o.side n k w)) P
    (λ y. apt_deal o.side t o k l as' c)
    (λ y. cond_both (stands_on s quote (l - w)) (deal o.side n k w) (quote_short o.side n k w) P (λ z. apt_deal o.side t o k w as' c) (λ z. apt_quote_short o.side t o k w as' c))))
    (λ e. tt)

decide_apt : (kind : OrderKind) (ss : List Security) (t : List Standing) (o : Order) (as' : List Agreement) → o.kind ≡ kind → (o.kind ≡ Negotiated → has_dealt o.unit o.counterpart o.agreement as' ≡ false) → AptFollow (with_new t o) as' (decide_as kind ss t o)
decide_apt Intention ss t o as' e free = tt
decide_apt FirmQuote ss t o as' e free = tt
decide_apt Negotiated ss t o as' e free = meet_apt t o as' e (free e) (first_place (waits_for o) t) (found (waits_for o) t)
decide_apt Click ss t o as' e free = click_apt (find_listed ss o.security) t o as' e (first_place (quoted_for o) t) (found (quoted_for o) t)

pub entries_agreed : EntriesAgreed
entries_agreed s e h a =
    let t : List Standing = s.orders in
    let o : Order = order_for t e in
    let d : Day = step (day s) (Entered o) in
    let free-is = number_accepted s e h in
    let free : o.kind ≡ Negotiated → has_dealt o.unit o.counterpart o.agreement s.agreed ≡ false =
    λ kind.
    let en = deal_number e.sort t e.agreement kind in
    let f : number_free_for Negotiated s e.unit e.counterpart e.agreement ≡ true = ap (λ (z : OrderKind). number_free_for z s e.unit e.counterpart e.agreement) (sym kind) ∙ free-is in
    let p = and_parts (not (has_dealt e.unit e.counterpart e.agreement s.agreed)) _ f in
    ap (λ (m : ℕ). has_dealt e.unit e.counterpart m s.agreed) en ∙ not-true _ p.0 in
    follow_agreed d s.agreed o.time (decide s.securities t o) (entries_valid s e h).1 (decide_apt o.kind s.securities t o s.agreed refl free)
    (agreed_beside (day s) s.agreed (Entered o) refl refl a)
