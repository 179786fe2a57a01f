-- An order's entry line comes first.
use Rattle.std.proofs.Common.{◌≡◌, ℕ, ◌+◌, ◌<◌, ◌≤◌, Bool, true, false, cond, List, [], ◌∷◌, ◌++◌, length, count_by, sym, refl, ap, ◌∙◌, subst, ⊎_elim, append_assoc, arith}
use Rattle.std.proofs.lemmas.List.{length_push, get_or_append_left, get_or_push, take-append-le, take_at}
use Rattle.std.proofs.lemmas.List.Sums.{sum_by_push, sum_by-set, sum_by-take-le, get_or-le-sum_by}
use Rattle.std.proofs.lemmas.Bool.{cases_lt, false≢true}
use Rattle.ledger.specs.Laws.{at}
use Rattle.tape.specs.declared.line.Line.{Line}
use Rattle.tape.specs.declared.line.Line.TheVariants.{Entry, Deal, Cancel, PaidIn, DrawnOut}
use Rattle.rules.specs.declared.event.Event.{Event}
use Rattle.rules.specs.declared.event.Event.TheVariants.{Entered, Dealt, Cancelled, PaidIn as paid_in_event, DrawnOut as drawn_out_event}
use Rattle.rules.specs.declared.order.Order.{Order}
use Rattle.rules.specs.declared.order.Standing.{Standing}
use Rattle.rules.specs.Orders.{order_at, no_one, with_live, less_live}
use Rattle.rules.specs.Checks.{of_unit}
use Rattle.rules.specs.Effects.{order_line}
use Rattle.laws.specs.Days.{Day, step}
use Rattle.laws.specs.First.{is_entry, is_later, entries, no_line, Behind, First, EntriesFirst, OrdersFirst}
use Rattle.laws.proofs.Naming.{sum_set_two, sum_named, apart}

-- one line more
behind_push : (ls : List Line) (l : Line) → Behind ls → ((u n : ℕ) → is_later u n l ≡ true → 0 < entries ls u n) → Behind (ls ++ l ∷ [])
behind_push ls l b new u n j h later =
    let long = length_push ls l in
    let P : Line → Type 0 = λ x. is_later u n x ≡ true in
    let Q : List Line → Type 0 = λ xs. 0 < entries xs u n in
    ⊎_elim
    (λ (a : j < length ls).
    subst Q (sym (take-append-le j ls (l ∷ []) (omega arith))) (b u n j a (subst P (get_or_append_left ls (l ∷ []) no_line j a) later)))
    (λ (a : length ls ≤ j).
    let here : length ls ≡ j = omega (arith, long) in
    subst Q (sym (take_at ls (l ∷ []) j here)) (new u n (subst P (get_or_push ls l no_line j here) later)))
    (cases_lt j (length ls))

-- an order of the table has an entry line
has_entry : (d : Day) (k u n : ℕ) → First d → k < length d.orders → of_unit u n (order_at d.orders k) ≡ true → 0 < entries d.lines u n
has_entry d k u n f h named =
    let one : Standing → ℕ = λ x. cond (of_unit u n x) 1 0 in
    let le = get_or-le-sum_by one d.orders k no_one h in
    let is : ◌≡◌ {A = ℕ} (cond (of_unit u n (order_at d.orders k)) 1 0) 1 = ap (λ (b : Bool). cond b 1 0) named in
    let all = f.entered u n in
    omega (arith, le, is, all)

-- a line that enters nothing
no_entry : (ls : List Line) (l : Line) (u n : ℕ) → is_entry u n l ≡ false → entries (ls ++ l ∷ []) u n ≡ entries ls u n
no_entry ls l u n e =
    let s = sum_by_push (λ x. cond (is_entry u n x) 1 0) ls l in
    let z : ◌≡◌ {A = ℕ} (cond (is_entry u n l) 1 0) 0 = ap (λ (b : Bool). cond b 1 0) e in
    omega (arith, s, z)

-- a payment
paid_first : (d : Day) (l : Line) → ((u n : ℕ) → is_entry u n l ≡ false) → ((u n : ℕ) → is_later u n l ≡ false) → First d → First (record { orders = d.orders; book = d.book; lines = d.lines ++ l ∷ []; deals = d.deals })
paid_first d l e late f =
    record {
      entered = λ u n. no_entry d.lines l u n (e u n) ∙ f.entered u n;
      behind = behind_push d.lines l f.behind (λ u n h. absurd (false≢true (sym (late u n) ∙ h)));
    }

cancel_first : (d : Day) (k : ℕ) (e : Event) (l : Line) (t : List Standing) → k < length d.orders → ((u n : ℕ) → is_entry u n l ≡ false) → ((u n : ℕ) → is_later u n l ≡ of_unit u n (order_at d.orders k)) → ((u n : ℕ) → count_by (of_unit u n) t ≡ count_by (of_unit u n) d.orders) → First d → First (record { orders = t; book = d.book; lines = d.lines ++ l ∷ []; deals = d.deals })
cancel_first d k e l t h en late same f =
    record {
      entered = λ u n. no_entry d.lines l u n (en u n) ∙ f.entered u n ∙ sym (same u n);
      behind = behind_push d.lines l f.behind (λ u n x. has_entry d k u n f h (sym (late u n) ∙ x));
    }

pub entries_first : EntriesFirst
entries_first d (Entered o) v f =
    let x : Standing = record { order = o; live = o.quantity } in
    let l : Line = Entry (order_line o o.quantity o.time) in
    record {
      entered = λ u n.
          let a = sum_by_push (λ y. cond (is_entry u n y) 1 0) d.lines l in
          let b = sum_by_push (λ y. cond (of_unit u n y) 1 0) d.orders x in
          let c = f.entered u n in
          a ∙ ap (λ (z : ℕ). z + cond (of_unit u n x) 1 0) c ∙ sym b;
      behind = behind_push d.lines l f.behind (λ u n h. absurd (false≢true h));
    }
entries_first d (Dealt i j q time) v f =
    let t = d.orders in
    let x : Standing = order_at t i in
    let y : Standing = order_at t j in
    let m : ℕ = q.number in
    let n : ℕ = d.deals + 1 in
    let lx : Line = Deal (order_line x.order q time) n in
    let ly : Line = Deal (order_line y.order q time) n in
    let one : First (record { orders = t; book = d.book; lines = d.lines ++ lx ∷ []; deals = d.deals }) =
    cancel_first d i (Dealt i j q time) lx t v.buyer (λ u k. refl) (λ u k. refl) (λ u k. refl) f in
    let d2 : Day = record { orders = t; book = d.book; lines = d.lines ++ lx ∷ []; deals = d.deals } in
    let two = cancel_first d2 j (Dealt i j q time) ly (step d (Dealt i j q time)).orders v.seller (λ u k. refl) (λ u k. refl)
    (λ u k. let c = sum_set_two (λ z. cond (of_unit u k z) 1 0) t i j (less_live x m) (less_live y m) v.buyer v.seller (apart t i j m v.agree) in omega (arith, c)) one in
    let P : List Line → Type 0 = λ ls. First (record { orders = (step d (Dealt i j q time)).orders; book = d.book; lines = ls; deals = d.deals }) in
    let r = subst P (append_assoc d.lines (lx ∷ []) (ly ∷ [])) two in
    record { entered = r.entered; behind = r.behind }
entries_first d (Cancelled k why time) v f =
    let x : Standing = order_at d.orders k in
    let r = cancel_first d k (Cancelled k why time) (Cancel (order_line x.order x.live time) why) (step d (Cancelled k why time)).orders v.there (λ u n. refl) (λ u n. refl)
    (λ u n. let c = sum_by-set (λ z. cond (of_unit u n z) 1 0) d.orders k (with_live x 0) no_one v.there in omega (arith, c)) f in
    record { entered = r.entered; behind = r.behind }
entries_first d (paid_in_event p) v f =
    let r = paid_first d (PaidIn p) (λ u n. refl) (λ u n. refl) f in record { entered = r.entered; behind = r.behind }
entries_first d (drawn_out_event p) v f =
    let r = paid_first d (DrawnOut p) (λ u n. refl) (λ u n. refl) f in record { entered = r.entered; behind = r.behind }

pub orders_first : OrdersFirst
unfolding at
orders_first d apart' f k h =
    let o : Order = (order_at d.orders k).order in
    let all = f.entered o.unit o.serial in
    let one = sum_named (λ x. 1) d.orders k apart' h in
    let once : entries d.lines o.unit o.serial ≡ 1 = all ∙ one in
    record {
      one = once;
      first = λ j l later.
          let some = f.behind o.unit o.serial j l later in
          let most = sum_by-take-le (λ x. cond (is_entry o.unit o.serial x) 1 0) d.lines j in
          omega (arith, some, most, once);
    }
