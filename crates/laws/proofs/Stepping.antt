-- Every valid event keeps a day sound.
use Rattle.std.proofs.Common.{◌≡◌, ℕ, ◌+◌, ◌*◌, ◌<◌, ◌≤◌, true, List, [], ◌∷◌, ◌++◌, length, set, Ok, sym, refl, ap, ◌∙◌, arith}
use Rattle.std.proofs.lemmas.List.Sums.{sum_by-set, sum_by_push, sum_by-append, get_or-le-sum_by}
use Rattle.ledger.specs.Books.{Book, Lawful}
use Rattle.ledger.specs.Moves.{pass_answer, pass_after}
use Rattle.ledger.specs.Laws.{at}
use Rattle.ledger.proofs.Keeping.{hold_moved, release_moved, pay_in_moved, draw_out_moved}
use Rattle.market.specs.declared.kinds.Side.{Side}
use Rattle.market.specs.declared.kinds.Side.TheVariants.{Buy, Sell}
use Rattle.market.specs.declared.kinds.CancelReason.{CancelReason}
use Rattle.market.specs.declared.price.Price.{Price}
use Rattle.market.specs.declared.quantity.Quantity.{Quantity}
use Rattle.tape.specs.declared.line.Line.{Line}
use Rattle.tape.specs.declared.line.OrderLine.{OrderLine}
use Rattle.tape.specs.declared.line.PaymentLine.{PaymentLine}
use Rattle.tape.specs.Nets.{comes, goes}
use Rattle.rules.specs.declared.event.Event.TheVariants.{Entered, Dealt, Cancelled, PaidIn, DrawnOut}
use Rattle.rules.specs.declared.order.Order.{Order}
use Rattle.rules.specs.declared.order.Standing.{Standing}
use Rattle.rules.specs.Orders.{order_at, no_one, item_of, item_for, amount_of, need, needed, less_live, with_live}
use Rattle.rules.specs.Effects.{lines_of, order_line}
use Rattle.laws.specs.Accounts.{enters, deals, cancels, lives, asks}
use Rattle.laws.specs.Days.{Day, step, Valid, CanDealAt}
use Rattle.laws.specs.Sound.{Sound, StepSound, RunSound, OrdersWhole, MovesGranted}
use Rattle.laws.proofs.Doing.{hold_granted, release_granted, pass_granted, hold_did, release_did, pass_did, pay_in_did, draw_out_did}
use Rattle.laws.proofs.Needing.{at_nil, at_here, at_less, same_at, need_none, buyer_need, seller_need, brings_buyer, takes_buyer, brings_seller, takes_seller}
use Rattle.laws.proofs.Naming.{same_put, distinct_same, distinct_more, opens_same, opens_more, opens_book, sum_set_two, apart, same_two, sum_named}

-- the item that an order needs is open to it
needs_open : (s : Side) (m : Book) (a c : ℕ) → (m a 0).is_open ≡ true → (m a c).is_open ≡ true → (m a (item_for s c)).is_open ≡ true
needs_open Buy m a c money security = money
needs_open Sell m a c money security = security

entered_sound : (b : Book) (d : Day) (o : Order) → Valid d (Entered o) → Sound b d → Sound b (step d (Entered o))
entered_sound b d o v s =
    let x : Standing = record { order = o; live = o.quantity } in
    let ls : List Line = lines_of (Entered o) d.orders (d.deals + 1) in
    let open-item = needs_open o.side d.book o.account o.security v.money v.security in
    let h = hold_did d.book o.account (item_of o) (amount_of o o.quantity) s.lawful open-item v.enough in
    record {
      lawful = (hold_moved d.book o.account (item_of o) (amount_of o o.quantity) s.lawful).lawful;
      holds = λ a i. let p = s.holds a i in let q = h.held a i in let n = sum_by_push (need a i) d.orders x in omega (arith, p, q, n);
      keeps =
          λ a i. let k = s.keeps a i in let p = h.shares a i in
          let c = sum_by-append (λ l. comes l a i) d.lines ls in
          let g = sum_by-append (λ l. goes l a i) d.lines ls in omega (arith, k, p, c, g);
      tells =
          λ u n. let k = s.tells u n in
          let l = sum_by_push (lives u n) d.orders x in
          let e = sum_by-append (enters u n) d.lines ls in
          let f = sum_by-append (deals u n) d.lines ls in
          let g = sum_by-append (cancels u n) d.lines ls in omega (arith, k, l, e, f, g);
      asks =
          λ u n. let k = s.asks u n in
          let l = sum_by_push (asks u n) d.orders x in
          let e = sum_by-append (enters u n) d.lines ls in omega (arith, k, l, e);
      distinct = distinct_more d.orders x v.fresh s.distinct;
      opens = opens_book (d.orders ++ (x ∷ [])) d.book _ h.stays (opens_more d.orders x d.book (record { money = v.money; security = v.security }) s.opens);
    }

-- what an order needs is held for it
covered : (b : Book) (d : Day) → Sound b d → (k : ℕ) → k < length d.orders →
    amount_of (order_at d.orders k).order (order_at d.orders k).live ≤ (d.book (order_at d.orders k).order.account (item_of (order_at d.orders k).order)).held
covered b d s k there =
    let x : Standing = order_at d.orders k in
    let a : ℕ = x.order.account in
    let i : ℕ = item_of x.order in
    let most = get_or-le-sum_by (need a i) d.orders k no_one there in
    let all = at_here a i (amount_of x.order x.live) in
    let h = s.holds a i in omega (arith, most, all, h)

cancelled_sound : (b : Book) (d : Day) (k : ℕ) (why : CancelReason) (time : ℕ) → Valid d (Cancelled k why time) → Sound b d → Sound b (step d (Cancelled k why time))
cancelled_sound b d k why time v s =
    let t = d.orders in
    let x : Standing = order_at t k in
    let o : Order = x.order in
    let ls : List Line = lines_of (Cancelled k why time) t (d.deals + 1) in
    let opn = s.opens k v.there in
    let open-item = needs_open o.side d.book o.account o.security opn.money opn.security in
    let h = release_did d.book o.account (item_of o) (amount_of o x.live) s.lawful open-item (covered b d s k v.there) in
    record {
      lawful = (release_moved d.book o.account (item_of o) (amount_of o x.live) s.lawful).lawful;
      holds =
          λ a i. let p = s.holds a i in let q = h.held a i in
          let n = sum_by-set (need a i) t k (with_live x 0) no_one v.there in
          let z = need_none a i x in omega (arith, p, q, n, z);
      keeps =
          λ a i. let p = s.keeps a i in let q = h.shares a i in
          let c = sum_by-append (λ l. comes l a i) d.lines ls in
          let g = sum_by-append (λ l. goes l a i) d.lines ls in omega (arith, p, q, c, g);
      tells =
          λ u n. let p = s.tells u n in
          let l = sum_by-set (lives u n) t k (with_live x 0) no_one v.there in
          let z = at_nil o.unit o.serial u n in
          let e = sum_by-append (enters u n) d.lines ls in
          let f = sum_by-append (deals u n) d.lines ls in
          let g = sum_by-append (cancels u n) d.lines ls in omega (arith, p, l, z, e, f, g);
      asks =
          λ u n. let p = s.asks u n in
          let l = sum_by-set (asks u n) t k (with_live x 0) no_one v.there in
          let e = sum_by-append (enters u n) d.lines ls in omega (arith, p, l, e);
      distinct = distinct_same t _ (same_put t k (with_live x 0) refl) s.distinct;
      opens = opens_book (set t k (with_live x 0)) d.book _ h.stays (opens_same t _ d.book (same_put t k (with_live x 0) refl) s.opens);
    }

paid_sound : (b : Book) (d : Day) (p : PaymentLine) → Valid d (PaidIn p) → Sound b d → Sound b (step d (PaidIn p))
paid_sound b d p v s =
    let ls : List Line = lines_of (PaidIn p) d.orders (d.deals + 1) in
    let h = pay_in_did d.book p.account p.item p.sum s.lawful v in
    record {
      lawful = (pay_in_moved d.book p.account p.item p.sum s.lawful).lawful;
      holds = λ a i. h.held a i ∙ s.holds a i;
      keeps =
          λ a i. let k = s.keeps a i in let q = h.shares a i in
          let w = same_at p.account p.item p.sum a i in
          let c = sum_by-append (λ l. comes l a i) d.lines ls in
          let g = sum_by-append (λ l. goes l a i) d.lines ls in omega (arith, k, q, w, c, g);
      tells =
          λ u n. let k = s.tells u n in
          let e = sum_by-append (enters u n) d.lines ls in
          let f = sum_by-append (deals u n) d.lines ls in
          let g = sum_by-append (cancels u n) d.lines ls in omega (arith, k, e, f, g);
      asks = λ u n. let k = s.asks u n in let e = sum_by-append (enters u n) d.lines ls in omega (arith, k, e);
      distinct = s.distinct;
      opens = opens_book d.orders d.book _ h.stays s.opens;
    }

drawn_sound : (b : Book) (d : Day) (p : PaymentLine) → Valid d (DrawnOut p) → Sound b d → Sound b (step d (DrawnOut p))
drawn_sound b d p v s =
    let ls : List Line = lines_of (DrawnOut p) d.orders (d.deals + 1) in
    let h = draw_out_did d.book p.account p.item p.sum s.lawful v in
    record {
      lawful = (draw_out_moved d.book p.account p.item p.sum s.lawful).lawful;
      holds = λ a i. h.held a i ∙ s.holds a i;
      keeps =
          λ a i. let k = s.keeps a i in let q = h.shares a i in
          let w = same_at p.account p.item p.sum a i in
          let c = sum_by-append (λ l. comes l a i) d.lines ls in
          let g = sum_by-append (λ l. goes l a i) d.lines ls in omega (arith, k, q, w, c, g);
      tells =
          λ u n. let k = s.tells u n in
          let e = sum_by-append (enters u n) d.lines ls in
          let f = sum_by-append (deals u n) d.lines ls in
          let g = sum_by-append (cancels u n) d.lines ls in omega (arith, k, e, f, g);
      asks = λ u n. let k = s.asks u n in let e = sum_by-append (enters u n) d.lines ls in omega (arith, k, e);
      distinct = s.distinct;
      opens = opens_book d.orders d.book _ h.stays s.opens;
    }

-- a deal takes from what is needed what it passes on
deal_needs : (t : List Standing) (i j q : ℕ) → CanDealAt t i j q → (a x : ℕ) →
    needed (set (set t i (less_live (order_at t i) q)) j (less_live (order_at t j) q)) a x
    + at (order_at t i).order.account 0 (q * (order_at t i).order.price.number) a x
    + at (order_at t j).order.account (order_at t j).order.security q a x
    ≡ needed t a x
deal_needs t i j q can a x =
    let b = order_at t i in
    let s = order_at t j in
    let both = sum_set_two (need a x) t i j (less_live b q) (less_live s q) can.buyer can.seller (apart t i j q can.agree) in
    let l = buyer_need a x q b can.agree.buys can.agree.bought in
    let r = seller_need a x q s can.agree.sells can.agree.sold in omega (arith, both, l, r)

-- the two passes of a deal are granted, and settle it
record Settled (m after : Book) (b s : Order) (q : ℕ) : Type 0 where
  first : pass_answer m s.account b.account s.security q ≡ Ok tt
  second : pass_answer (pass_after m s.account b.account s.security q) b.account s.account 0 (q * b.price.number) ≡ Ok tt
  lawful : Lawful after
  stays : (a i : ℕ) → (after a i).is_open ≡ (m a i).is_open
  free : (a i : ℕ) → (after a i).free ≡ (m a i).free + at b.account s.security q a i + at s.account 0 (q * b.price.number) a i
  held : (a i : ℕ) → (after a i).held + at s.account s.security q a i + at b.account 0 (q * b.price.number) a i ≡ (m a i).held

settle : (b : Book) (d : Day) (i j : ℕ) (q : Quantity) → CanDealAt d.orders i j q.number → Sound b d →
    Settled d.book (pass_after (pass_after d.book (order_at d.orders j).order.account (order_at d.orders i).order.account (order_at d.orders j).order.security q.number) (order_at d.orders i).order.account (order_at d.orders j).order.account 0 (q.number * (order_at d.orders i).order.price.number)) (order_at d.orders i).order (order_at d.orders j).order q.number
settle b d i j q can snd =
    let t = d.orders in
    let m = d.book in
    let n : ℕ = q.number in
    let x : Order = (order_at t i).order in
    let y : Order = (order_at t j).order in
    let ox = snd.opens i can.buyer in
    let oy = snd.opens j can.seller in
    let needs = deal_needs t i j n can in
    let there = needs y.account y.security in
    let h-there = snd.holds y.account y.security in
    let z-there = at_here y.account y.security n in
    let x-open : (m x.account y.security).is_open ≡ true = ap (λ c. (m x.account c).is_open) (sym can.agree.security) ∙ ox.security in
    let enough-there : n ≤ (m y.account y.security).held = omega (arith, there, h-there, z-there) in
    let first = pass_did m y.account x.account y.security n snd.lawful oy.security x-open enough-there in
    let m1 : Book = pass_after m y.account x.account y.security n in
    let amount : ℕ = n * x.price.number in
    let here = needs x.account 0 in
    let h-here = snd.holds x.account 0 in
    let z-here = at_here x.account 0 amount in
    let f-here = first.law.held x.account 0 in
    let enough-here : amount ≤ (m1 x.account 0).held = omega (arith, here, h-here, z-here, f-here) in
    let pays = first.law.stays x.account 0 ∙ ox.money in
    let gets = first.law.stays y.account 0 ∙ oy.money in
    let second = pass_did m1 x.account y.account 0 amount first.lawful pays gets enough-here in
    record {
      first = pass_granted m y.account x.account y.security n oy.security x-open enough-there;
      second = pass_granted m1 x.account y.account 0 amount pays gets enough-here;
      lawful = second.lawful;
      stays = λ a c. second.law.stays a c ∙ first.law.stays a c;
      free = λ a c. let p = first.law.free a c in let r = second.law.free a c in omega (arith, p, r);
      held = λ a c. let p = first.law.held a c in let r = second.law.held a c in omega (arith, p, r);
    }

dealt_sound : (b : Book) (d : Day) (i j : ℕ) (q : Quantity) (time : ℕ) → Valid d (Dealt i j q time) → Sound b d → Sound b (step d (Dealt i j q time))
dealt_sound b d i j q time v snd =
    let t = d.orders in
    let n : ℕ = q.number in
    let x : Standing = order_at t i in
    let y : Standing = order_at t j in
    let lx : OrderLine = order_line x.order q time in
    let ly : OrderLine = order_line y.order q time in
    let ls : List Line = lines_of (Dealt i j q time) t (d.deals + 1) in
    let S = settle b d i j q v snd in
    record {
      lawful = S.lawful;
      holds =
          λ a c. let h = snd.holds a c in let k = S.held a c in
          let w = deal_needs t i j n v a c in omega (arith, h, k, w);
      keeps =
          λ a c. let k = snd.keeps a c in let p = S.free a c in let r = S.held a c in
          let sums = sum_by-append (λ l. comes l a c) d.lines ls in
          let sumg = sum_by-append (λ l. goes l a c) d.lines ls in
          let bx = brings_buyer lx a c v.agree.buys in
          let tx = takes_buyer lx a c v.agree.buys in
          let by = brings_seller ly a c v.agree.sells in
          let ty = takes_seller ly a c v.agree.sells in
          let code = ap (λ e. at x.order.account e n a c) v.agree.security in
          let price = ap (λ (e : Price). at y.order.account 0 (n * e.number) a c) v.agree.price in
          omega (arith, k, p, r, sums, sumg, bx, tx, by, ty, code, price);
      tells =
          λ u k. let p = snd.tells u k in
          let both = sum_set_two (lives u k) t i j (less_live x n) (less_live y n) v.buyer v.seller (apart t i j n v.agree) in
          let l = at_less x.order.unit x.order.serial x.live.number n u k v.agree.bought in
          let r = at_less y.order.unit y.order.serial y.live.number n u k v.agree.sold in
          let e = sum_by-append (enters u k) d.lines ls in
          let f = sum_by-append (deals u k) d.lines ls in
          let g = sum_by-append (cancels u k) d.lines ls in omega (arith, p, both, l, r, e, f, g);
      asks =
          λ u k. let p = snd.asks u k in
          let both = sum_set_two (asks u k) t i j (less_live x n) (less_live y n) v.buyer v.seller (apart t i j n v.agree) in
          let e = sum_by-append (enters u k) d.lines ls in omega (arith, p, both, e);
      distinct = distinct_same t _ (same_two t i j n) snd.distinct;
      opens = opens_book _ d.book _ S.stays (opens_same t _ d.book (same_two t i j n) snd.opens);
    }

pub step_sound : StepSound
step_sound b d (Entered o) v s = entered_sound b d o v s
step_sound b d (Dealt i j q time) v s = dealt_sound b d i j q time v s
step_sound b d (Cancelled k why time) v s = cancelled_sound b d k why time v s
step_sound b d (PaidIn p) v s = paid_sound b d p v s
step_sound b d (DrawnOut p) v s = drawn_sound b d p v s

pub run_sound : RunSound
run_sound b [] d v s = s
run_sound b (e ∷ es) d v s = run_sound b es (step d e) v.1 (step_sound b d e v.0 s)

pub orders_whole : OrdersWhole
orders_whole b d s k h =
    let o : Order = (order_at d.orders k).order in
    let a = s.asks o.unit o.serial in
    let t = s.tells o.unit o.serial in
    let q = sum_named (λ x. x.order.quantity.number) d.orders k s.distinct h in
    let l = sum_named (λ x. x.live.number) d.orders k s.distinct h in
    record { entered_once = omega (arith, a, q); accounted = omega (arith, a, t, q, l) }

pub moves_granted : MovesGranted
moves_granted b d (Entered o) v s =
    hold_granted d.book o.account (item_of o) (amount_of o o.quantity) (needs_open o.side d.book o.account o.security v.money v.security) v.enough
moves_granted b d (Dealt i j q time) v s = let S = settle b d i j q v s in (S.first, S.second)
moves_granted b d (Cancelled k why time) v s =
    let o : Order = (order_at d.orders k).order in
    let opn = s.opens k v.there in
    release_granted d.book o.account (item_of o) (amount_of o (order_at d.orders k).live) (needs_open o.side d.book o.account o.security opn.money opn.security) (covered b d s k v.there)
moves_granted b d (PaidIn p) v s = v
moves_granted b d (DrawnOut p) v s = v
