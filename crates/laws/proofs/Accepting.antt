-- What an accepted call has passed.
use Rattle.std.proofs.Common.{◌≡◌, ℕ, zero, suc, ◌+◌, ◌<◌, ◌≤◌, Bool, true, false, cond, not, leb, List, [], ◌∷◌, ◌++◌, map, length, set, is_some, Some, None, Ok, Err, Option, sym, refl, ap, ◌∙◌, subst, append_assoc, arith}
use Rattle.std.specs.Option.{option_map}
use Rattle.std.proofs.lemmas.List.{length_push, length-append, get_or_at, set_at}
use Rattle.std.proofs.lemmas.Bool.{cond_both, and_parts, and_from, or_parts, not-true, eq-eqb, leb-true, ltb-true, ltb-false, both_ways}
use Rattle.ledger.specs.Moves.{Answer as Moved, pay_in_answer, draw_out_answer}
use Rattle.market.specs.declared.kinds.CancelReason.TheVariants.{Close}
use Rattle.market.specs.declared.refusal.Refusal.{Refusal}
use Rattle.market.specs.declared.refusal.Refusal.TheVariants.{DayNotOpen, OutOfRange, OutsideHours, BadPrice, AmountTooLarge, BelowLeastSize, SerialUsed, NumberTaken, TooFewPlaces, TooFewLines, PairNotOpen, FreeTooSmall, NotLive, BadPayment}
use Rattle.market.specs.declared.ranges.Figure.TheVariants.{Unit, Serial, Account, SecurityCode, Quantity}
use Rattle.market.specs.Ranges.{admits}
use Rattle.rules.specs.declared.event.Event.{Event}
use Rattle.rules.specs.declared.event.Event.TheVariants.{Cancelled}
use Rattle.rules.specs.declared.event.Refused.{Refused}
use Rattle.rules.specs.declared.order.Order.{Order}
use Rattle.rules.specs.declared.order.Standing.{Standing}
use Rattle.rules.specs.declared.request.Entry.{Entry}
use Rattle.rules.specs.declared.request.CancelOrder.{CancelOrder}
use Rattle.rules.specs.declared.request.Payment.{Payment}
use Rattle.rules.specs.declared.security.Security.{Security}
use Rattle.rules.specs.Orders.{order_at, no_one, is_live, live_count, first_place, with_live, item_of, amount_of}
use Rattle.rules.specs.Listing.{find_listed, quoted}
use Rattle.market.specs.Classes.{trades_at, reaches}
use Rattle.market.specs.Figures.{times, within_limit}
use Rattle.rules.specs.Checks.{entry_in_range, cancel_in_range, payment_in_range, payment_allowed, of_unit, has_name, serial_used, number_free, answers_to, order_for}
use Rattle.rules.specs.Dealing.{close_from, close_time, cancel_events, entry_events}
use Rattle.rules.specs.Calls.{Answer, unless, unless_at, listed_answer, enter_answer, found_answer, target_of, by_ledger, paying_answer}
use Rattle.rules.specs.State.{State, free_places, free_lines}
use Rattle.laws.specs.Days.{Day, step, run, ValidAll, Fresh}
use Rattle.laws.specs.Accepted.{day, EntriesValid, CancelsValid, PaymentsInValid, PaymentsOutValid, nothing_live, ClosesValid}
use Rattle.laws.specs.Ending.{EntriesStrict}
use Rattle.laws.proofs.Entering.{Found, found, entry_strict, valid_all}

pub not_ok : (e : Refused) → ◌≡◌ {A = Answer} (Err e) (Ok tt) → ⊥
not_ok e h = let z : ◌≡◌ {A = ℕ} 0 1 = cc in omega arith

pub record Passed (ok : Bool) (rest : Answer) : Type 0 where
  pub test : ok ≡ true
  pub then : rest ≡ Ok tt

pub passed : (ok : Bool) (e : Refusal) (rest : Answer) → unless ok e rest ≡ Ok tt → Passed ok rest
passed true e rest h = record { test = refl; then = h }
passed false e rest h = absurd (not_ok _ h)

passed_at : (ok : Bool) (e : Refusal) (i : ℕ) (rest : Answer) → unless_at ok e i rest ≡ Ok tt → Passed ok rest
passed_at true e i rest h = record { test = refl; then = h }
passed_at false e i rest h = absurd (not_ok _ h)

-- a search that found nothing: no order passes
none_further : (r : Option ℕ) → is_some (option_map suc r) ≡ is_some r
none_further None = refl
none_further (Some k) = refl

pub nothing_found : (p : Standing → Bool) (t : List Standing) → is_some (first_place p t) ≡ false → (k : ℕ) → k < length t → p (order_at t k) ≡ true → ⊥
nothing_found p [] h k l e = omega arith
nothing_found p (x ∷ xs) h zero l e = both_ways (p x) (first_no (p x) h) e
  where
    first_no : (b : Bool) → is_some (cond b (Some 0) (option_map suc (first_place p xs))) ≡ false → b ≡ false
    first_no true q = q
    first_no false q = refl
nothing_found p (x ∷ xs) h (suc k) l e = nothing_found p xs (rest_no (p x) h) k (omega arith) e
  where
    rest_no : (b : Bool) → is_some (cond b (Some 0) (option_map suc (first_place p xs))) ≡ false → is_some (first_place p xs) ≡ false
    rest_no true q = absurd (both_ways true q refl)
    rest_no false q = sym (none_further (first_place p xs)) ∙ q

fresh : (s : State) (o : Order) → not (serial_used s o.unit o.serial) ≡ true → Fresh o s.orders
fresh s o h k l eu es =
    let u = or_parts (is_some (first_place (of_unit o.unit o.serial) s.orders)) (has_name o.unit o.serial s.cancels) (not-true _ h) in
    nothing_found (of_unit o.unit o.serial) s.orders u.0 k l (and_from _ _ (eq-eqb _ _ eu) (eq-eqb _ _ es))

-- the figures of an entry in range
some_quantity : (e : Entry) → entry_in_range e ≡ true → 0 < e.quantity
some_quantity e h =
    let a = and_parts (admits Unit e.unit) _ h in
    let b = and_parts (admits Serial e.serial) _ a.1 in
    let c = and_parts (admits Account e.account) _ b.1 in
    let d = and_parts (admits SecurityCode e.security) _ c.1 in
    let q = and_parts (admits Quantity e.quantity) _ d.1 in
    let r = and_parts (leb 1 e.quantity) _ q.0 in
    let l = leb-true 1 e.quantity r.0 in omega (arith, l)

-- every check that an entry has passed once it is accepted
pub record Listed (s : State) (e : Entry) (o : Order) (r : Option Security) : Type 0 where
  pub security : Security
  pub found : r ≡ Some security
  pub limited : within_limit (times o.quantity o.price) ≡ true
  pub sized : reaches security.class o.quantity o.price ≡ true
  pub unused : not (serial_used s o.unit o.serial) ≡ true
  pub number : number_free s e ≡ true
  pub places : live_count s.orders + 2 ≤ free_places s
  pub lines : live_count s.orders + 3 ≤ free_lines s
  pub security_open : (s.book o.account o.security).is_open ≡ true
  pub money_open : (s.book o.account 0).is_open ≡ true
  pub enough : amount_of o o.quantity ≤ (s.book o.account (item_of o)).free

listed_passed : (s : State) (e : Entry) (o : Order) (r : Option Security) → listed_answer s e o r ≡ Ok tt → Listed s e o r
listed_passed s e o None h = absurd (not_ok _ h)
listed_passed s e o (Some x) h =
    let a = passed (trades_at x.class o.time) OutsideHours _ h in
    let b = passed (quoted x o.price) BadPrice _ a.then in
    let c = passed (within_limit (times o.quantity o.price)) AmountTooLarge _ b.then in
    let d = passed (reaches x.class o.quantity o.price) BelowLeastSize _ c.then in
    let f = passed (not (serial_used s o.unit o.serial)) SerialUsed _ d.then in
    let g = passed (number_free s e) NumberTaken _ f.then in
    let i = passed (leb (live_count s.orders + 2) (free_places s)) TooFewPlaces _ g.then in
    let j = passed (leb (live_count s.orders + 3) (free_lines s)) TooFewLines _ i.then in
    let k = passed_at (s.book o.account o.security).is_open PairNotOpen o.security _ j.then in
    let l = passed_at (s.book o.account 0).is_open PairNotOpen 0 _ k.then in
    let m = passed_at (leb (amount_of o o.quantity) (s.book o.account (item_of o)).free) FreeTooSmall (item_of o) (Ok tt) l.then in
    record {
      security = x;
      found = refl;
      limited = c.test;
      sized = d.test;
      unused = f.test;
      number = g.test;
      places = leb-true _ _ i.test;
      lines = leb-true _ _ j.test;
      security_open = k.test;
      money_open = l.test;
      enough = leb-true _ _ m.test;
    }

pub record EntryPassed (s : State) (e : Entry) : Type 0 where
  pub day_open : s.day_open ≡ true
  pub ranged : entry_in_range e ≡ true
  pub listed : Listed s e (order_for s.orders e) (find_listed s.securities e.security)

pub entry_passed : (s : State) (e : Entry) → enter_answer s e ≡ Ok tt → EntryPassed s e
entry_passed s e h =
    let a = passed s.day_open DayNotOpen _ h in
    let b = passed (entry_in_range e) OutOfRange _ a.then in
    record { day_open = a.test; ranged = b.test; listed = listed_passed s e (order_for s.orders e) (find_listed s.securities e.security) b.then }

pub number_accepted : (s : State) (e : Entry) → enter_answer s e ≡ Ok tt → number_free s e ≡ true
number_accepted s e h = (entry_passed s e h).listed.number

pub entries_strict : EntriesStrict
entries_strict s e h =
    let a = entry_passed s e h in
    let l = a.listed in
    let o : Order = order_for s.orders e in
    entry_strict (day s) s.securities o (record { fresh = fresh s o l.unused; some = some_quantity e a.ranged; money = l.money_open; security = l.security_open; enough = l.enough })

pub entries_valid : EntriesValid
entries_valid s e h = valid_all (day s) (entry_events s.securities s.orders (order_for s.orders e)) (entries_strict s e h)

found_passed : (s : State) (c : CancelOrder) (p : Standing → Bool) (r : Option ℕ) → Found p s.orders r → found_answer s c r ≡ Ok tt → ValidAll (day s) (cancel_events r c.time)
found_passed s c p None f h = absurd (not_ok _ h)
found_passed s c p (Some k) f h = let a = passed (is_live (order_at s.orders k)) NotLive _ h in (record { there = f.0; live = ltb-true 0 _ a.test }, tt)

pub cancels_valid : CancelsValid
cancels_valid s c h =
    let a = passed s.day_open DayNotOpen _ h in
    let b = passed (cancel_in_range c) OutOfRange _ a.then in
    let d = passed (not (serial_used s c.unit c.serial)) SerialUsed _ b.then in
    found_passed s c (answers_to c.sort c.unit c.target) (target_of s c) (found (answers_to c.sort c.unit c.target) s.orders) d.then

ledger_passed : (i : ℕ) (r : Moved) → by_ledger i r ≡ Ok tt → r ≡ Ok tt
ledger_passed i (Ok tt) h = refl
ledger_passed i (Err e) h = absurd (not_ok _ h)

paying_passed : (s : State) (p : Payment) (r : Moved) → paying_answer s p r ≡ Ok tt → r ≡ Ok tt
paying_passed s p r h =
    let a = passed s.day_open DayNotOpen _ h in
    let b = passed (payment_in_range p) OutOfRange _ a.then in
    let c = passed (payment_allowed p) BadPayment _ b.then in
    let d = passed (leb (live_count s.orders + 1) (free_lines s)) TooFewLines _ c.then in ledger_passed p.item r d.then

pub payments_in_valid : PaymentsInValid
payments_in_valid s p h = (paying_passed s p (pay_in_answer s.book p.account p.item p.sum) h, tt)

pub payments_out_valid : PaymentsOutValid
payments_out_valid s p h = (paying_passed s p (draw_out_answer s.book p.account p.item p.sum) h, tt)

-- the close of the orders `rest`, where those before stand closed
record Closes (before rest : List Standing) (d : Day) (es : List Event) : Type 0 where
  valid : ValidAll d es
  leaves : (run d es).orders ≡ before ++ map nothing_live rest

closes_more : (before : List Standing) (x y : Standing) (rest : List Standing) (d : Day) (es : List Event) →
    nothing_live x ≡ y → Closes (before ++ y ∷ []) rest d es → Closes before (x ∷ rest) d es
closes_more before x y rest d es e c =
    record { valid = c.valid; leaves = c.leaves ∙ append_assoc before (y ∷ []) (map nothing_live rest) ∙ ap (λ z. before ++ z ∷ map nothing_live rest) (sym e) }

close_goes : (rest before : List Standing) (d : Day) → d.orders ≡ before ++ rest → Closes before rest d (close_from (length before) rest)
close_goes [] before d e = record { valid = tt; leaves = e }
close_goes (x ∷ rest) before d e =
    let n : ℕ = length before in
    let after_one : Day = step d (Cancelled n Close close_time) in
    let there : order_at d.orders n ≡ x = ap (λ t. order_at t n) e ∙ get_or_at before x rest no_one n refl in
    let long = ap length e ∙ length-append before (x ∷ rest) in
    let after : after_one.orders ≡ (before ++ nothing_live x ∷ []) ++ rest =
    ap (λ t. set t n (nothing_live (order_at d.orders n))) e
    ∙ set_at before x rest (nothing_live (order_at d.orders n)) n refl
    ∙ ap (λ y. before ++ nothing_live y ∷ rest) there
    ∙ sym (append_assoc before (nothing_live x ∷ []) rest)
    in
    let same : d.orders ≡ (before ++ x ∷ []) ++ rest = e ∙ sym (append_assoc before (x ∷ []) rest) in
    let longer : (y : Standing) → length (before ++ y ∷ []) ≡ suc n = λ y. length_push before y ∙ omega arith in
    let yes' = close_goes rest (before ++ nothing_live x ∷ []) after_one after in
    let no' = close_goes rest (before ++ x ∷ []) d same in
    let P : List Event → Type 0 = λ es. Closes before (x ∷ rest) d es in
    cond_both
    (is_live x)
    (Cancelled n Close close_time ∷ close_from (suc n) rest)
    (close_from (suc n) rest)
    P
    (λ t. let l = ltb-true 0 x.live.number t in
    let live = ap (λ (y : Standing). y.live.number) there in
    let Q : ℕ → Type 0 = λ k. Closes (before ++ nothing_live x ∷ []) rest after_one (close_from k rest) in
    let c = closes_more before x (nothing_live x) rest after_one (close_from (suc n) rest) refl (subst Q (longer (nothing_live x)) yes') in
    record { valid = (record { there = omega (arith, long); live = omega (arith, l, live) }, c.valid); leaves = c.leaves })
    (λ t. let l = ltb-false 0 x.live.number t in
    let z : 0 ≡ x.live.number = omega (arith, l) in
    let R : ℕ → Type 0 = λ k. Closes (before ++ x ∷ []) rest d (close_from k rest) in
    closes_more before x x rest d (close_from (suc n) rest) (ap (λ k. with_live x k) z) (subst R (longer x) no'))

pub closes_valid : ClosesValid
closes_valid d = let c = close_goes d.orders [] d refl in record { valid = c.valid; leaves = c.leaves }
