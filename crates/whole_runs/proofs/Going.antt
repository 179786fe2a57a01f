-- A floor between any two events: what an event leaves is what the day's step says, and all is granted.
use Rattle.std.proofs.Common.{◌≡◌, ℕ, ◌+◌, ◌<◌, ◌≤◌, Bool, true, cond, ltb, leb, List, [], ◌∷◌, length, Ok, Err, sym, refl, ap, ◌∙◌, subst, arith}
use Rattle.std.proofs.lemmas.List.{length_push}
use Rattle.std.proofs.lemmas.List.Sums.{get_or-le-sum_by}
use Rattle.std.proofs.lemmas.Bool.{and_parts, and_from, le-leb, lt-ltb, cond-true}
use Rattle.ledger.specs.Books.{Book}
use Rattle.market.specs.declared.refusal.Refusal.TheVariants.{TapeFull}
use Rattle.tape.specs.declared.line.Line.{Line}
use Rattle.tape.specs.Lines.{in_range, all_in_range}
use Rattle.tape.specs.Tapes.{Contents, has_room, with_line, append_answer, append_after}
use Rattle.rules.specs.declared.event.Event.{Event}
use Rattle.rules.specs.declared.event.Event.TheVariants.{Entered, Dealt, Cancelled, PaidIn, DrawnOut}
use Rattle.rules.specs.declared.order.Standing.{Standing}
use Rattle.rules.specs.State.{State}
use Rattle.rules.specs.Orders.{order_at, no_one, is_live, live_count}
use Rattle.rules.specs.Effects.{lines_of, orders_after, book_after, deals_after, effect, effects}
use Rattle.laws.specs.Accepted.{day}
use Rattle.laws.specs.Ending.{Strict, StrictAll}
use Rattle.laws.specs.Days.{Day, step, run, Valid}
use Rattle.laws.specs.Plainly.{tables}
use Rattle.laws.specs.Agreed.{agreements}
use Rattle.laws.proofs.Stepping.{moves_granted}
use Rattle.laws.proofs.Taking.{part_in_range, lines_taken}
use Rattle.whole_runs.specs.Granting.{Appended, Granted, GrantedAll}
use Rattle.whole_runs.proofs.Good.{AllFit, Good, Writable, Spare, good_step}

-- lines in range are taken, where there is room
all_appended : (ls : List Line) (c : Contents) → all_in_range ls ≡ true → length c.lines + length ls ≤ c.capacity → Appended ls c
all_appended [] c g r = tt
all_appended (l ∷ ls) c g r =
    let p = and_parts (in_range l) (all_in_range ls) g in
    let room : ltb (length c.lines) c.capacity ≡ true = lt-ltb _ _ (omega (arith, r)) in
    let one : append_after l c ≡ with_line l c = cond-true (in_range l) _ _ p.0 ∙ cond-true (has_room c) _ _ room in
    let yes' : append_answer l c ≡ Ok tt = cond-true (in_range l) _ _ p.0 ∙ cond-true (has_room c) (Ok tt) (Err TapeFull) room in
    let long = length_push c.lines l in
    let P : Contents → Type 0 = λ x. Appended ls x in
    (yes', subst P (sym one) (all_appended ls (with_line l c) p.1 (omega (arith, long, r))))

-- the lines of a valid event are in range
good_lines : (d : Day) (e : Event) → Valid d e → Writable e → AllFit d.orders → d.deals < 4096 → all_in_range (lines_of e d.orders (d.deals + 1)) ≡ true
good_lines d (Entered o) v w f few = and_from _ _ w refl
good_lines d (Dealt i j q time) v w f few =
    let x : Standing = order_at d.orders i in
    let y : Standing = order_at d.orders j in
    let fx = f i v.buyer in
    let fy = f j v.seller in
    let wx = fx.within in
    let wy = fy.within in
    let b = v.agree.bought in
    let s = v.agree.sold in
    let n : ℕ = d.deals + 1 in
    let number = and_from (leb 1 n) (leb n 4096) (le-leb 1 n (omega arith)) (le-leb n 4096 (omega (arith, few))) in
    let px = part_in_range x.order q time fx.whole v.agree.some (omega (arith, wx, b)) w in
    let py = part_in_range y.order q time fy.whole v.agree.some (omega (arith, wy, s)) w in
    and_from _ _ (and_from _ _ px number) (and_from _ _ (and_from _ _ py number) refl)
good_lines d (Cancelled k why time) v w f few =
    let x : Standing = order_at d.orders k in
    let fx = f k v.there in
    and_from _ _ (part_in_range x.order x.live time fx.whole v.live fx.within w) refl
good_lines d (PaidIn p) v w f few = and_from _ _ w refl
good_lines d (DrawnOut p) v w f few = and_from _ _ w refl

-- an order that is live is counted
one_live : (t : List Standing) (k : ℕ) → k < length t → 0 < (order_at t k).live.number → 1 ≤ live_count t
one_live t k h live =
    let le = get_or-le-sum_by (λ x. cond (is_live x) 1 0) t k no_one h in
    let is : ◌≡◌ {A = ℕ} (cond (is_live (order_at t k)) 1 0) 1 = ap (λ (x : Bool). cond x 1 0) (lt-ltb 0 (order_at t k).live.number live) in
    omega (arith, le, is)

-- the tape has room for them
abbrev Roomy : ℕ → Day → Event → Type 0
Roomy capacity d e = length d.lines + length (lines_of e d.orders (d.deals + 1)) ≤ capacity

has_room_for : (b : Book) (capacity cancels : ℕ) (d : Day) (e : Event) → Valid d e → Spare capacity cancels d e → Good b capacity cancels d → Roomy capacity d e
has_room_for b capacity cancels d (Entered o) v s g = let s0 = s.0 in omega (arith, s0)
has_room_for b capacity cancels d (Dealt i j q time) v s g =
    let some = v.agree.some in
    let h = v.agree.bought in
    let live = one_live d.orders i v.buyer (omega (arith, some, h)) in
    let s0 = s.0 in
    omega (arith, s0, live)
has_room_for b capacity cancels d (Cancelled k why time) v s g =
    let live = one_live d.orders k v.there v.live in
    let a = g.loaded in
    omega (arith, live, a)
has_room_for b capacity cancels d (PaidIn p) v s g = omega (arith, s)
has_room_for b capacity cancels d (DrawnOut p) v s g = omega (arith, s)

abbrev pub Going : Book → State → Type 0
Going b s = Good b s.tape.capacity (length s.cancels) (day s)

pub record Went (b : Book) (s : State) (e : Event) : Type 0 where
  pub granted : Granted s e
  pub same : day (effect s e) ≡ step (day s) e
  pub capacity : (effect s e).tape.capacity ≡ s.tape.capacity
  pub going : Going b (effect s e)

pub went : (b : Book) (s : State) (e : Event) → Strict (day s) e → Writable e → Spare s.tape.capacity (length s.cancels) (day s) e → Going b s → Went b s e
unfolding effect
went b s e v w spare g =
    let ls : List Line = lines_of e s.orders (s.deals + 1) in
    let few = g.few in
    let placed = g.placed in
    let ranged = good_lines (day s) e v.0 w g.fit (omega (arith, few, placed)) in
    let room = has_room_for b s.tape.capacity (length s.cancels) (day s) e v.0 spare g in
    let taken = lines_taken ls s.tape ranged room in
    let same : day (effect s e) ≡ step (day s) e = ap (λ (c : Contents). record { orders = orders_after e s.orders; book = book_after e s.orders s.book; lines = c.lines; deals = deals_after e s.deals }) taken in
    let capacity : (effect s e).tape.capacity ≡ s.tape.capacity = ap (λ (c : Contents). c.capacity) taken in
    let P : Day → Type 0 = λ d. Good b s.tape.capacity (length s.cancels) d in
    let Q : ℕ → Type 0 = λ n. Good b n (length s.cancels) (day (effect s e)) in
    record {
      granted = record { moved = moves_granted b (day s) e v.0 g.sound; appended = all_appended ls s.tape ranged room };
      same = same;
      capacity = capacity;
      going = subst Q (sym capacity) (subst P (sym same) (good_step b s.tape.capacity (length s.cancels) (day s) e v w spare g));
    }

-- several events, each with its room
abbrev pub ReadyAll : State → List Event → Type 0
ReadyAll s [] = Unit {0}
ReadyAll s (e ∷ es) = Writable e × Spare s.tape.capacity (length s.cancels) (day s) e × ReadyAll (effect s e) es

pub record WentAll (b : Book) (s : State) (es : List Event) : Type 0 where
  pub granted : GrantedAll s es
  pub same : day (effects s es) ≡ run (day s) es
  pub going : Going b (effects s es)

pub went_all : (b : Book) (es : List Event) (s : State) → StrictAll (day s) es → ReadyAll s es → Going b s → WentAll b s es
went_all b [] s v r g = record { granted = tt; same = refl; going = g }
went_all b (e ∷ es) s v r g =
    let one = went b s e v.0 r.0 r.1 g in
    let P : Day → Type 0 = λ d. StrictAll d es in
    let rest = went_all b es (effect s e) (subst P (sym one.same) v.1) r.2 one.going in
    record { granted = (one.granted, rest.granted); same = rest.same ∙ ap (λ d. run d es) one.same; going = rest.going }

-- what events leave of the rest of the floor
pub effects_orders : (es : List Event) (s : State) → (effects s es).orders ≡ tables s.orders es
unfolding effect
effects_orders [] s = refl
effects_orders (e ∷ es) s = effects_orders es (effect s e)

pub effects_securities : (es : List Event) (s : State) → (effects s es).securities ≡ s.securities
unfolding effect
effects_securities [] s = refl
effects_securities (e ∷ es) s = effects_securities es (effect s e)

pub effects_agreed : (es : List Event) (s : State) → (effects s es).agreed ≡ agreements s.orders s.agreed es
unfolding effect
effects_agreed [] s = refl
effects_agreed (e ∷ es) s = effects_agreed es (effect s e)
