-- What each event does to the load of a tape.
use Rattle.std.proofs.Common.{◌≡◌, ℕ, ◌+◌, ◌-◌, ◌<◌, Bool, true, false, cond, ltb, refl, ap, arith}
use Rattle.std.proofs.lemmas.List.{length-append}
use Rattle.std.proofs.lemmas.List.Sums.{sum_by_push, sum_by-set}
use Rattle.std.proofs.lemmas.Bool.{lt-ltb}
use Rattle.rules.specs.declared.event.Event.TheVariants.{Entered, Dealt, Cancelled}
use Rattle.rules.specs.declared.order.Standing.{Standing}
use Rattle.rules.specs.Orders.{order_at, no_one, is_live, with_live, less_live}
use Rattle.rules.specs.Effects.{lines_of}
use Rattle.laws.specs.Reserves.{LoadEntered, LoadCancelled, LoadDealt}
use Rattle.laws.proofs.Naming.{sum_set_two, apart}

abbrev one : Standing → ℕ
one x = cond (is_live x) 1 0

live_one : (x : Standing) → 0 < x.live.number → one x ≡ 1
live_one x h = ap (λ (b : Bool). cond b 1 0) (lt-ltb 0 x.live.number h)

pub load_entered : LoadEntered
load_entered d o some =
    let x : Standing = record { order = o; live = o.quantity } in
    let c = sum_by_push one d.orders x in
    let l = live_one x some in
    let n = length-append d.lines (lines_of (Entered o) d.orders (d.deals + 1)) in
    omega (arith, c, l, n)

pub load_cancelled : LoadCancelled
load_cancelled d k why time v =
    let x : Standing = order_at d.orders k in
    let c = sum_by-set one d.orders k (with_live x 0) no_one v.there in
    let l = live_one x v.live in
    let n = length-append d.lines (lines_of (Cancelled k why time) d.orders (d.deals + 1)) in
    omega (arith, c, l, n)

left : (b : Bool) → cond b 1 0 + cond b 0 1 ≡ 1
left true = refl
left false = refl

pub load_dealt : LoadDealt
load_dealt d i j q time v =
    let t = d.orders in
    let x : Standing = order_at t i in
    let y : Standing = order_at t j in
    let m : ℕ = q.number in
    let some = v.agree.some in
    let bx = v.agree.bought in
    let by = v.agree.sold in
    let c = sum_set_two one t i j (less_live x m) (less_live y m) v.buyer v.seller (apart t i j m v.agree) in
    let lx = live_one x (omega (arith, some, bx)) in
    let ly = live_one y (omega (arith, some, by)) in
    let ex = left (ltb 0 (x.live.number - m)) in
    let ey = left (ltb 0 (y.live.number - m)) in
    let n = length-append d.lines (lines_of (Dealt i j q time) t (d.deals + 1)) in
    omega (arith, c, lx, ly, ex, ey, n)
