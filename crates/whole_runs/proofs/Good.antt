-- What holds of a day between any two events, and that a valid event with room to spare keeps it.
use Rattle.std.proofs.Common.{◌≡◌, ℕ, ◌+◌, ◌-◌, ◌<◌, ◌≤◌, Bool, true, cond, List, [], ◌∷◌, ◌++◌, length, set, sym, ap, ◌∙◌, subst, ⊎_elim, arith}
use Rattle.std.proofs.lemmas.List.{length-append, length_push, length-set, get_or_append_left, get_or_push, get_or-set_same, get_or-set_other}
use Rattle.std.proofs.lemmas.Bool.{le-ltb, cases_lt, cases_eq}
use Rattle.ledger.specs.Books.{Book}
use Rattle.market.specs.declared.ranges.Figure.TheVariants.{Time}
use Rattle.market.specs.Ranges.{admits}
use Rattle.tape.specs.Lines.{order_in_range, payment_in_range}
use Rattle.rules.specs.declared.event.Event.{Event}
use Rattle.rules.specs.declared.event.Event.TheVariants.{Entered, Dealt, Cancelled, PaidIn, DrawnOut}
use Rattle.rules.specs.declared.order.Standing.{Standing}
use Rattle.rules.specs.Orders.{order_at, no_one, live_count, less_live, with_live}
use Rattle.rules.specs.Effects.{order_line, lines_of}
use Rattle.laws.specs.Ending.{Strict}
use Rattle.laws.specs.Days.{Day, step, Valid}
use Rattle.laws.specs.Sound.{Sound}
use Rattle.laws.specs.Paired.{Paired}
use Rattle.laws.specs.First.{First}
use Rattle.laws.specs.Fitting.{Fit}
use Rattle.laws.specs.Reserves.{load, ends}
use Rattle.laws.proofs.Stepping.{step_sound}
use Rattle.laws.proofs.Pairing.{deals_paired}
use Rattle.laws.proofs.Firstly.{entries_first}
use Rattle.laws.proofs.Loading.{load_entered, load_cancelled, load_dealt}
use Rattle.laws.proofs.Naming.{same_two}

abbrev pub AllFit : List Standing → Type 0
AllFit t = (k : ℕ) → k < length t → Fit (order_at t k)

-- a day with a tape of that capacity, and so many cancels in the table
pub record Good (b : Book) (capacity cancels : ℕ) (d : Day) : Type 0 where
  pub sound : Sound b d
  pub paired : Paired d
  pub first : First d
  pub fit : AllFit d.orders
  pub loaded : load d ≤ capacity
  pub placed : live_count d.orders + (length d.orders + cancels) ≤ 512
  pub few : d.deals ≤ length d.orders

-- the figures that an event brings are in range
abbrev pub Writable : Event → Type 0
Writable (Entered o) = order_in_range (order_line o o.quantity o.time) ≡ true
Writable (Dealt i j q time) = admits Time time ≡ true
Writable (Cancelled k why time) = admits Time time ≡ true
Writable (PaidIn p) = payment_in_range p ≡ true
Writable (DrawnOut p) = payment_in_range p ≡ true

-- the room that an event takes beyond what live orders have in reserve
abbrev pub Spare : ℕ → ℕ → Day → Event → Type 0
Spare capacity cancels d (Entered o) = (load d + 2 ≤ capacity) × (live_count d.orders + (length d.orders + cancels) + 2 ≤ 512)
Spare capacity cancels d (Dealt i j q time) = (load d + 1 ≤ capacity) × (d.deals < length d.orders)
Spare capacity cancels d (Cancelled k why time) = Unit {0}
Spare capacity cancels d (PaidIn p) = load d + 1 ≤ capacity
Spare capacity cancels d (DrawnOut p) = load d + 1 ≤ capacity

fit_set : (t : List Standing) (k : ℕ) (y : Standing) → AllFit t → Fit y → AllFit (set t k y)
fit_set t k y f g l h =
    let long = length-set t k y in
    ⊎_elim
    (λ (e : l ≡ k).
    let hk : k < length t = omega (arith, long, e) in
    subst Fit (sym (ap (λ n. order_at (set t k y) n) e ∙ get_or-set_same t k y no_one hk)) g)
    (λ (ne : l ≡ k → ⊥). subst Fit (sym (get_or-set_other t k l y no_one ne)) (f l (omega (arith, long))))
    (cases_eq l k)

fit_push : (t : List Standing) (x : Standing) → AllFit t → Fit x → AllFit (t ++ x ∷ [])
fit_push t x f g l h =
    let long = length_push t x in
    ⊎_elim
    (λ (a : l < length t). subst Fit (sym (get_or_append_left t (x ∷ []) no_one l a)) (f l a))
    (λ (a : length t ≤ l). subst Fit (sym (get_or_push t x no_one l (omega (arith, long)))) g)
    (cases_lt l (length t))

fit_less : (x : Standing) (n : ℕ) → Fit x → Fit (less_live x n)
fit_less x n f = let w = f.within in record { whole = f.whole; within = omega (arith, w) }

fit_step : (d : Day) (e : Event) → Valid d e → Writable e → AllFit d.orders → AllFit (step d e).orders
fit_step d (Entered o) v w f = fit_push d.orders (record { order = o; live = o.quantity }) f (record { whole = w; within = omega arith })
fit_step d (Dealt i j q time) v w f =
    let t = d.orders in
    fit_set _ j (less_live (order_at t j) q.number)
    (fit_set t i (less_live (order_at t i) q.number) f (fit_less (order_at t i) q.number (f i v.buyer)))
    (fit_less (order_at t j) q.number (f j v.seller))
fit_step d (Cancelled k why time) v w f =
    let x : Standing = order_at d.orders k in
    fit_set d.orders k (with_live x 0) f (record { whole = (f k v.there).whole; within = omega arith })
fit_step d (PaidIn p) v w f = f
fit_step d (DrawnOut p) v w f = f

-- a deal of all that is live of an order ends it
ended : (x : Standing) (q : ℕ) → q ≡ x.live.number → ends x q ≡ 1
ended x q e = ap (λ (b : Bool). cond b 0 1) (le-ltb 0 (x.live.number - q) (omega (arith, e)))

-- what is written, and what is live afterwards
pub good_step : (b : Book) (capacity cancels : ℕ) (d : Day) (e : Event) → Strict d e → Writable e → Spare capacity cancels d e → Good b capacity cancels d → Good b capacity cancels (step d e)
good_step b capacity cancels d e v w s g =
    let r = room e v s in
    record {
      sound = step_sound b d e v.0 g.sound;
      paired = deals_paired (e ∷ []) d (v.0, tt) g.paired;
      first = entries_first d e v.0 g.first;
      fit = fit_step d e v.0 w g.fit;
      loaded = r.0;
      placed = r.1;
      few = r.2;
    }
  where
    room : (e : Event) → Strict d e → Spare capacity cancels d e → (load (step d e) ≤ capacity) × (live_count (step d e).orders + (length (step d e).orders + cancels) ≤ 512) × ((step d e).deals ≤ length (step d e).orders)
    room (Entered o) v s =
        let l = load_entered d o v.0.some in
        let n = length-append d.lines (lines_of (Entered o) d.orders (d.deals + 1)) in
        let m = length_push d.orders (record { order = o; live = o.quantity }) in
        let few = g.few in
        let s0 = s.0 in
        let s1 = s.1 in
        (omega (arith, l, s0), omega (arith, l, n, m, s1), omega (arith, m, few))
    room (Dealt i j q time) v s =
        let l = load_dealt d i j q time v.0 in
        let n = length-append d.lines (lines_of (Dealt i j q time) d.orders (d.deals + 1)) in
        let m = (same_two d.orders i j q.number).0 in
        let p = g.placed in
        let s0 = s.0 in
        let s1 = s.1 in
        let one : 1 ≤ ends (order_at d.orders i) q.number + ends (order_at d.orders j) q.number =
        ⊎_elim (λ (x : q.number ≡ (order_at d.orders i).live.number). let z = ended (order_at d.orders i) q.number x in omega (arith, z)) (λ (x : q.number ≡ (order_at d.orders j).live.number). let z = ended (order_at d.orders j) q.number x in omega (arith, z)) v.1 in
        (omega (arith, l, one, s0), omega (arith, l, n, m, p), omega (arith, m, s1))
    room (Cancelled k why time) v s =
        let l = load_cancelled d k why time v.0 in
        let n = length-append d.lines (lines_of (Cancelled k why time) d.orders (d.deals + 1)) in
        let m = length-set d.orders k (with_live (order_at d.orders k) 0) in
        let p = g.placed in
        let few = g.few in
        let a = g.loaded in
        (omega (arith, l, a), omega (arith, l, n, m, p), omega (arith, m, few))
    room (PaidIn x) v s =
        let n = length-append d.lines (lines_of (PaidIn x) d.orders (d.deals + 1)) in
        (omega (arith, n, s), g.placed, g.few)
    room (DrawnOut x) v s =
        let n = length-append d.lines (lines_of (DrawnOut x) d.orders (d.deals + 1)) in
        (omega (arith, n, s), g.placed, g.few)
