-- The other five calls, and the opening of a pair: all is granted, the table is the plain day's, the floor stands.
use Rattle.std.proofs.Common.{◌≡◌, ℕ, suc, ◌+◌, ◌≤◌, Bool, true, false, cond, not, ◌&&◌, eqb, ltb, leb, List, [], ◌∷◌, ◌++◌, length, set, Some, None, Ok, Err, Option, sym, refl, ap, ◌∙◌, subst, arith}
use Rattle.std.proofs.lemmas.List.{length_push, length-append, length-set}
use Rattle.std.proofs.lemmas.Bool.{and_parts, and_from, not-true, eqb-true, leb-true, cond_both, cond-true}
use Rattle.ledger.specs.Books.{Book, Lawful}
use Rattle.ledger.specs.Questions.{NoneHeld}
use Rattle.ledger.specs.Moves.{Answer as Moved, pay_in_answer, draw_out_answer}
use Rattle.ledger.proofs.Holding.{none_held}
use Rattle.market.specs.declared.kinds.CancelReason.TheVariants.{Withdrawn, Close}
use Rattle.market.specs.declared.kinds.Sort.{Sort}
use Rattle.market.specs.declared.refusal.Refusal.TheVariants.{DayNotOpen, DayOpen, OutOfRange, SerialUsed, BadPayment, TooFewLines, BadDate, SomethingHeld}
use Rattle.market.specs.declared.ranges.Figure.TheVariants.{Unit as a_unit, Serial, Account, Item, Time, Date}
use Rattle.market.specs.Kinds.{sort_number, sort_of_kind}
use Rattle.market.specs.Ranges.{admits}
use Rattle.tape.specs.declared.line.Line.{Line}
use Rattle.tape.specs.Lines.{payment_in_range}
use Rattle.tape.specs.Tapes.{Contents, begin_after}
use Rattle.rules.specs.declared.event.Event.{Event}
use Rattle.rules.specs.declared.event.Event.TheVariants.{Entered, Dealt, Cancelled, PaidIn, DrawnOut}
use Rattle.rules.specs.declared.event.Refused.TheVariants.{List as list_refused}
use Rattle.rules.specs.declared.order.Agreement.{Agreement}
use Rattle.rules.specs.declared.order.Name.{Name}
use Rattle.rules.specs.declared.order.Standing.{Standing}
use Rattle.rules.specs.declared.request.CancelOrder.{CancelOrder}
use Rattle.rules.specs.declared.request.Payment.{Payment}
use Rattle.rules.specs.declared.security.ListEntry.{ListEntry}
use Rattle.rules.specs.declared.security.Security.{Security}
use Rattle.rules.specs.State.{State, free_lines}
use Rattle.rules.specs.Orders.{order_at, is_live, live_count, with_live}
use Rattle.rules.specs.Listing.{good_list, listed}
use Rattle.rules.specs.Checks.{cancel_in_range, payment_in_range as payment_figures, payment_allowed, serial_used, answers_to}
use Rattle.rules.specs.Dealing.{cancel_events, close_from, close_events, close_time}
use Rattle.rules.specs.Effects.{lines_of, effect, effects}
use Rattle.rules.specs.Calls.{Answer, any_held, open_answer, found_answer, target_of, cancel_answer, with_cancel, paying_answer, pay_in_reply, draw_out_reply, payment_line, shut}
use Rattle.rules.specs.Plain.{opens, cancels, pays_in, draws_out, closes, leave, nothing}
use Rattle.laws.specs.Accepted.{day}
use Rattle.laws.specs.Ending.{StrictAll}
use Rattle.laws.specs.Days.{Day, step, run, ValidAll}
use Rattle.laws.specs.Sound.{Distinct}
use Rattle.laws.specs.Single.{KeptSingle}
use Rattle.laws.specs.Plainly.{One}
use Rattle.laws.specs.Sized.{LiveSized, all_sized}
use Rattle.laws.specs.Agreed.{Agreed, agreements}
use Rattle.laws.proofs.Accepting.{not_ok, passed, cancels_valid, payments_in_valid, payments_out_valid, closes_valid}
use Rattle.laws.proofs.Leaving.{leave_fewer, leave_numbered, fewer_single}
use Rattle.laws.proofs.Loading.{load_cancelled}
use Rattle.laws.proofs.Plainness.{cancels_plain, closes_plain}
use Rattle.laws.proofs.Sizing.{sized_leave, sized_nothing, sized_step}
use Rattle.laws.proofs.Agreeing.{agreed_beside}
use Rattle.whole_runs.specs.Granting.{GrantedAll}
use Rattle.whole_runs.proofs.Good.{Good}
use Rattle.whole_runs.proofs.Going.{Going, ReadyAll, WentAll, went_all, effects_orders, effects_securities, effects_agreed}
use Rattle.whole_runs.proofs.Entries.{Stands, Did, same_day}

kept_leave : (p : Standing → Bool) (t : List Standing) → KeptSingle t → KeptSingle (leave p nothing t)
kept_leave p t k =
    let none : (x : Standing) → nothing x ≤ x.live.number = λ x. omega arith in
    record { numbered = leave_numbered p nothing none t k.numbered; single = fewer_single t (leave p nothing t) (leave_fewer p nothing none t) k.single }

-- no two orders answer to one sort, unit and serial
one_named : (t : List Standing) (sort : Sort) (u n : ℕ) → Distinct t → One (answers_to sort u n) t
one_named t sort u n h k l hk hl pk pl =
    let ak = and_parts (eqb (sort_number (sort_of_kind (order_at t k).order.kind)) (sort_number sort)) _ pk in
    let al = and_parts (eqb (sort_number (sort_of_kind (order_at t l).order.kind)) (sort_number sort)) _ pl in
    let bk = and_parts (eqb (order_at t k).order.unit u) _ ak.1 in
    let bl = and_parts (eqb (order_at t l).order.unit u) _ al.1 in
    h k l hk hl (eqb-true _ _ bk.0 ∙ sym (eqb-true _ _ bl.0)) (eqb-true _ _ bk.1 ∙ sym (eqb-true _ _ bl.1))

-- Events that are no deals write no deal lines.
abbrev Quiet : List Event → Type 0
Quiet [] = Unit {0}
Quiet (Entered o ∷ es) = Quiet es
Quiet (Dealt i j q time ∷ es) = ⊥
Quiet (Cancelled k why time ∷ es) = Quiet es
Quiet (PaidIn p ∷ es) = Quiet es
Quiet (DrawnOut p ∷ es) = Quiet es

-- without a deal, valid is all that is asked
quiet_strict : (es : List Event) (d : Day) → Quiet es → ValidAll d es → StrictAll d es
quiet_strict [] d q v = tt
quiet_strict (Entered o ∷ es) d q v = ((v.0, tt), quiet_strict es (step d (Entered o)) q v.1)
quiet_strict (Dealt i j n time ∷ es) d q v = absurd q
quiet_strict (Cancelled k why time ∷ es) d q v = ((v.0, tt), quiet_strict es (step d (Cancelled k why time)) q v.1)
quiet_strict (PaidIn p ∷ es) d q v = ((v.0, tt), quiet_strict es (step d (PaidIn p)) q v.1)
quiet_strict (DrawnOut p ∷ es) d q v = ((v.0, tt), quiet_strict es (step d (DrawnOut p)) q v.1)

record Quietly (ss : List Security) (d : Day) (as' : List Agreement) (es : List Event) : Type 0 where
  sized : all_sized ss (run d es).lines ≡ true
  agreed : Agreed as' (run d es).lines
  same : agreements d.orders as' es ≡ as'

quietly : (es : List Event) (ss : List Security) (d : Day) (as' : List Agreement) → Quiet es → all_sized ss d.lines ≡ true → Agreed as' d.lines → Quietly ss d as' es
quietly [] ss d as' q h a = record { sized = h; agreed = a; same = refl }
quietly (Entered o ∷ es) ss d as' q h a =
    let r = quietly es ss (step d (Entered o)) as' q (sized_step ss d (Entered o) refl h) (agreed_beside d as' (Entered o) refl refl a) in record { sized = r.sized; agreed = r.agreed; same = r.same }
quietly (Dealt i j q time ∷ es) ss d as' x h a = absurd x
quietly (Cancelled k why time ∷ es) ss d as' q h a =
    let r = quietly es ss (step d (Cancelled k why time)) as' q (sized_step ss d (Cancelled k why time) refl h) (agreed_beside d as' (Cancelled k why time) refl refl a) in record { sized = r.sized; agreed = r.agreed; same = r.same }
quietly (PaidIn p ∷ es) ss d as' q h a =
    let r = quietly es ss (step d (PaidIn p)) as' q (sized_step ss d (PaidIn p) refl h) (agreed_beside d as' (PaidIn p) refl refl a) in record { sized = r.sized; agreed = r.agreed; same = r.same }
quietly (DrawnOut p ∷ es) ss d as' q h a =
    let r = quietly es ss (step d (DrawnOut p)) as' q (sized_step ss d (DrawnOut p) refl h) (agreed_beside d as' (DrawnOut p) refl refl a) in record { sized = r.sized; agreed = r.agreed; same = r.same }

-- the floor v after such events on the floor s
stands_quiet : (b : Book) (s v : State) (es : List Event) → Quiet es → Stands b s → Going b v → KeptSingle v.orders → LiveSized s.securities v.orders → v.securities ≡ s.securities → v.tape.lines ≡ (run (day s) es).lines → v.agreed ≡ agreements s.orders s.agreed es → Stands b v
stands_quiet b s v es quiet st going single live ess elines eagreed =
    let q = quietly es s.securities (day s) s.agreed quiet st.deals_sized st.agreed in
    record {
      going = going;
      single = single;
      live_sized = subst (λ (x : List Security). LiveSized x v.orders) (sym ess) live;
      deals_sized = subst (λ (x : List Security). all_sized x v.tape.lines ≡ true) (sym ess) (ap (all_sized s.securities) elines ∙ q.sized);
      agreed = subst (Agreed v.agreed) (sym elines) (subst (λ (x : List Agreement). Agreed x (run (day s) es).lines) (sym (eagreed ∙ q.same)) q.agreed);
    }

left_sized : (ss : List Security) (p : Standing → Bool) (t : List Standing) → LiveSized ss t → LiveSized ss (leave p nothing t)
left_sized ss p t l = sized_leave ss p nothing (sized_nothing ss) t l

-- Cancelling.
cancel_time : (c : CancelOrder) → cancel_in_range c ≡ true → admits Time c.time ≡ true
cancel_time c h =
    let a = and_parts (admits a_unit c.unit) _ h in
    let b = and_parts (admits Serial c.serial) _ a.1 in
    (and_parts (admits Serial c.target) _ b.1).1

cancel_passed : (s : State) (c : CancelOrder) → cancel_answer s c ≡ Ok tt → (admits Time c.time ≡ true) × (found_answer s c (target_of s c) ≡ Ok tt)
cancel_passed s c h =
    let a = passed s.day_open DayNotOpen _ h in
    let b = passed (cancel_in_range c) OutOfRange _ a.then in
    let d = passed (not (serial_used s c.unit c.serial)) SerialUsed _ b.then in
    (cancel_time c b.test, d.then)

cancelled_granted : (s : State) (c : CancelOrder) (e : Event) → GrantedAll s (e ∷ []) → GrantedAll (with_cancel s c) (e ∷ [])
cancelled_granted s c e g = (record { moved = g.0.moved; appended = g.0.appended }, tt)

-- the cancel's own place is that of the order that it ends
cancelled_going : (b : Book) (s : State) (c : CancelOrder) (k time : ℕ) → ValidAll (day s) (Cancelled k Withdrawn time ∷ []) → Going b s → WentAll b s (Cancelled k Withdrawn time ∷ []) → Going b (effects (with_cancel s c) (Cancelled k Withdrawn time ∷ []))
unfolding effect
cancelled_going b s c k time v g w =
    let h = w.going in
    let t : List Standing = set s.orders k (with_live (order_at s.orders k) 0) in
    let ls : List Line = s.tape.lines ++ lines_of (Cancelled k Withdrawn time) s.orders (s.deals + 1) in
    let l : live_count t + length ls ≡ live_count s.orders + length s.tape.lines = load_cancelled (day s) k Withdrawn time v.0 in
    let n : length ls ≡ length s.tape.lines + 1 = length-append s.tape.lines (lines_of (Cancelled k Withdrawn time) s.orders (s.deals + 1)) in
    let m : length t ≡ length s.orders = length-set s.orders k (with_live (order_at s.orders k) 0) in
    let p : live_count s.orders + (length s.orders + length s.cancels) ≤ 512 = g.placed in
    let name : Name = record { unit = c.unit; serial = c.serial } in
    let long : length (s.cancels ++ (name ∷ [])) ≡ length s.cancels + 1 = length_push s.cancels name in
    let placed : live_count t + (length t + length (s.cancels ++ (name ∷ []))) ≤ 512 = omega (arith, l, n, m, p, long) in
    record { sound = h.sound; paired = h.paired; first = h.first; fit = h.fit; loaded = h.loaded; placed = placed; few = h.few }

record CancelDid (b : Book) (s : State) (c : CancelOrder) (es : List Event) : Type 0 where
  granted : GrantedAll (with_cancel s c) es
  going : Going b (effects (with_cancel s c) es)
  lines : (effects (with_cancel s c) es).tape.lines ≡ (run (day s) es).lines
  quiet : Quiet es

cancel_did_at : (b : Book) (s : State) (c : CancelOrder) (r : Option ℕ) → target_of s c ≡ r → admits Time c.time ≡ true → found_answer s c r ≡ Ok tt → ValidAll (day s) (cancel_events r c.time) → Stands b s →
    CancelDid b s c (cancel_events r c.time)
unfolding effect
cancel_did_at b s c None e time h v st = absurd (not_ok _ h)
cancel_did_at b s c (Some k) e time h v st =
    let es : List Event = Cancelled k Withdrawn c.time ∷ [] in
    let w = went_all b es s (quiet_strict es (day s) tt v) (time, tt, tt) st.going in
    record {
      granted = cancelled_granted s c (Cancelled k Withdrawn c.time) w.granted;
      going = cancelled_going b s c k c.time v st.going w;
      lines = ap (λ (d : Day). d.lines) w.same;
      quiet = tt;
    }

pub cancel_did : (b : Book) (s : State) (c : CancelOrder) → cancel_answer s c ≡ Ok tt → Stands b s → Did b s (cancels c)
cancel_did b s c h st =
    let p = cancel_passed s c h in
    let es : List Event = cancel_events (target_of s c) c.time in
    let test : Standing → Bool = answers_to c.sort c.unit c.target in
    let w = cancel_did_at b s c (target_of s c) refl p.0 p.1 (cancels_valid s c h) st in
    let plain : (effects (with_cancel s c) es).orders ≡ leave test nothing s.orders =
    effects_orders es (with_cancel s c) ∙ cancels_plain s.orders test c.time (one_named s.orders c.sort c.unit c.target st.going.sound.distinct) in
    record {
      granted = w.granted;
      plain = same_day _ _ _ _ (effects_securities es (with_cancel s c)) plain;
      stands = stands_quiet b s (effects (with_cancel s c) es) es w.quiet st w.going
          (subst KeptSingle (sym plain) (kept_leave test s.orders st.single))
          (subst (LiveSized s.securities) (sym plain) (left_sized s.securities test s.orders st.live_sized))
          (effects_securities es (with_cancel s c)) w.lines (effects_agreed es (with_cancel s c));
    }

-- Closing.
close_ready : (t : List Standing) (k : ℕ) (s : State) → ReadyAll s (close_from k t)
close_ready [] k s = tt
close_ready (x ∷ xs) k s =
    let P : List Event → Type 0 = λ es. ReadyAll s es in
    let e : Event = Cancelled k Close close_time in
    cond_both (is_live x) (e ∷ close_from (suc k) xs) (close_from (suc k) xs) P (λ y. (refl, tt, close_ready xs (suc k) (effect s e))) (λ y. close_ready xs (suc k) s)

close_quiet : (t : List Standing) (k : ℕ) → Quiet (close_from k t)
close_quiet [] k = tt
close_quiet (x ∷ xs) k =
    let P : List Event → Type 0 = Quiet in
    cond_both (is_live x) (Cancelled k Close close_time ∷ close_from (suc k) xs) (close_from (suc k) xs) P (λ y. close_quiet xs (suc k)) (λ y. close_quiet xs (suc k))

pub close_did : (b : Book) (s : State) → Stands b s → Did b s closes
close_did b s st =
    let es : List Event = close_events s.orders in
    let c = closes_valid (day s) in
    let w = went_all b es s (quiet_strict es (day s) (close_quiet s.orders 0) c.valid) (close_ready s.orders 0 s) st.going in
    let plain : (effects s es).orders ≡ leave (λ x. true) nothing s.orders = ap (λ (d : Day). d.orders) w.same ∙ c.leaves ∙ closes_plain s.orders in
    let g = w.going in
    record {
      granted = w.granted;
      plain = same_day _ _ _ _ (effects_securities es s) plain;
      stands = stands_quiet b s (shut (effects s es)) es (close_quiet s.orders 0) st g
          (subst KeptSingle (sym plain) (kept_leave (λ x. true) s.orders st.single))
          (subst (LiveSized s.securities) (sym plain) (left_sized s.securities (λ x. true) s.orders st.live_sized))
          (effects_securities es s) (ap (λ (d : Day). d.lines) w.same) (effects_agreed es s);
    }

-- Paying.
record PaymentPassed (s : State) (p : Payment) : Type 0 where
  ranged : payment_in_range (payment_line p) ≡ true
  room : live_count s.orders + 1 ≤ free_lines s

payment_passed : (s : State) (p : Payment) (r : Moved) → paying_answer s p r ≡ Ok tt → PaymentPassed s p
payment_passed s p r h =
    let a = passed s.day_open DayNotOpen _ h in
    let b = passed (payment_figures p) OutOfRange _ a.then in
    let c = passed (payment_allowed p) BadPayment _ b.then in
    let d = passed (leb (live_count s.orders + 1) (free_lines s)) TooFewLines _ c.then in
    let f = and_parts (admits Account p.account) _ b.test in
    let g = and_parts (admits Item p.item) _ f.1 in
    record { ranged = and_from _ _ f.0 (and_from _ _ g.0 (and_from _ _ c.test g.1)); room = leb-true _ _ d.test }

paid_stands : (b : Book) (s : State) (es : List Event) → Quiet es → Stands b s → WentAll b s es → (effects s es).orders ≡ s.orders → Stands b (effects s es)
paid_stands b s es quiet st w e =
    stands_quiet b s (effects s es) es quiet st w.going (subst KeptSingle (sym e) st.single) (subst (LiveSized s.securities) (sym e) st.live_sized) (effects_securities es s) (ap (λ (d : Day). d.lines) w.same) (effects_agreed es s)

pub pay_in_did : (b : Book) (s : State) (p : Payment) → pay_in_reply s p ≡ Ok tt → Stands b s → Did b s (pays_in p)
pay_in_did b s p h st =
    let es : List Event = PaidIn (payment_line p) ∷ [] in
    let q = payment_passed s p (pay_in_answer s.book p.account p.item p.sum) h in
    let room = q.room in
    let w = went_all b es s (quiet_strict es (day s) tt (payments_in_valid s p h)) (q.ranged, omega (arith, room), tt) st.going in
    let e = effects_orders es s in
    record { granted = w.granted; plain = same_day _ _ _ _ (effects_securities es s) e; stands = paid_stands b s es tt st w e }

pub draw_out_did : (b : Book) (s : State) (p : Payment) → draw_out_reply s p ≡ Ok tt → Stands b s → Did b s (draws_out p)
draw_out_did b s p h st =
    let es : List Event = DrawnOut (payment_line p) ∷ [] in
    let q = payment_passed s p (draw_out_answer s.book p.account p.item p.sum) h in
    let room = q.room in
    let w = went_all b es s (quiet_strict es (day s) tt (payments_out_valid s p h)) (q.ranged, omega (arith, room), tt) st.going in
    let e = effects_orders es s in
    record { granted = w.granted; plain = same_day _ _ _ _ (effects_securities es s) e; stands = paid_stands b s es tt st w e }

-- Opening.
abbrev fresh_day : Book → Day
fresh_day m = record { orders = []; book = m; lines = []; deals = 0 }

fresh_good : (m : Book) (capacity : ℕ) → Lawful m → NoneHeld m → Good m capacity 0 (fresh_day m)
fresh_good m capacity law none =
    record {
      sound = record {
        lawful = law;
        holds = none;
        keeps = λ a i. refl;
        tells = λ u n. refl;
        asks = λ u n. refl;
        distinct = λ k l hk hl u n. absurd (omega arith);
        opens = λ k h. absurd (omega arith);
      };
      paired = record { alike = refl; numbered = refl };
      first = record { entered = λ u n. refl; behind = λ u n j h e. absurd (omega arith) };
      fit = λ k h. absurd (omega arith);
      loaded = omega arith;
      placed = omega arith;
      few = omega arith;
    }

record OpeningPassed (s : State) (d : ℕ) : Type 0 where
  dated : admits Date d ≡ true
  none : any_held s.book ≡ false

list_passed : (good : Bool) (k : ℕ) (rest : Answer) → cond good rest (Err (list_refused k)) ≡ Ok tt → rest ≡ Ok tt
list_passed true k rest h = h
list_passed false k rest h = absurd (not_ok _ h)

opening_passed : (s : State) (d : ℕ) (es : List ListEntry) (k : ℕ) → open_answer s d es k ≡ Ok tt → OpeningPassed s d
opening_passed s d es k h =
    let a = passed (not s.day_open) DayOpen _ h in
    let b = passed (admits Date d && ltb s.last_date d) BadDate _ a.then in
    let c = list_passed (good_list es) k _ b.then in
    let f = passed (not (any_held s.book)) SomethingHeld (Ok tt) c in
    record { dated = (and_parts (admits Date d) _ b.test).0; none = not-true _ f.test }

pub open_did : (s : State) (d : ℕ) (es : List ListEntry) (k : ℕ) → open_answer s d es k ≡ Ok tt → Lawful s.book → Did s.book s (opens d es)
open_did s d es k h law =
    let p = opening_passed s d es k h in
    let begun : begin_after d s.tape ≡ record { date = d; capacity = s.tape.capacity; lines = [] } = cond-true (admits Date d) _ _ p.dated in
    let P : Contents → Type 0 = λ c. Good s.book c.capacity 0 (record { orders = []; book = s.book; lines = c.lines; deals = 0 }) in
    record {
      granted = cond-true (admits Date d) _ _ p.dated;
      plain = refl;
      stands = record {
        going = subst P (sym begun) (fresh_good s.book s.tape.capacity law (none_held s.book law p.none));
        single = record { numbered = λ k' l q. absurd (omega arith); single = λ u v n k' l hk hl pk pl. absurd (omega arith) };
        live_sized = λ k' l. absurd (omega arith);
        deals_sized = subst (λ (c : Contents). all_sized (listed es) c.lines ≡ true) (sym begun) refl;
        agreed = subst (λ (c : Contents). Agreed [] c.lines) (sym begun) (record { once = refl; buyers = refl; sellers = refl });
      };
    }
