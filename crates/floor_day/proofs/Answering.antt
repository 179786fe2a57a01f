-- Checks in parts, and what the exits of a call come to.
use Rattle.std.proofs.Common.{◌≡◌, ℕ, ◌+◌, Bool, true, false, cond, not, leb, List, IsErrAnd, Some, None, Ok, Err, Option, Result, sym, refl, ap, ◌∙◌, arith}
use Rattle.std.specs.Option.{ok_or}
use Rattle.market.specs.declared.kinds.Sort.{Sort}
use Rattle.market.specs.declared.kinds.Sort.TheVariants.{Intention as intentions, FirmQuote as firm_quotes, DealOrder}
use Rattle.market.specs.declared.kinds.OrderKind.{OrderKind}
use Rattle.market.specs.declared.kinds.OrderKind.TheVariants.{Intention, FirmQuote, Negotiated, Click}
use Rattle.market.specs.declared.refusal.Refusal.{Refusal}
use Rattle.market.specs.declared.refusal.Refusal.TheVariants.{DayNotOpen, OutOfRange, OutsideHours, BadPrice, AmountTooLarge, BelowLeastSize, SerialUsed, NumberTaken, TooFewPlaces, TooFewLines, BadPayment}
use Rattle.lookups.specs.Wanted.{day_of}
use Rattle.requests.specs.declared.cancelling.Cancelling.{Cancelling}
use Rattle.requests.specs.Narrow.{cancelling}
use Rattle.rules.specs.declared.event.Refused.{Refused}
use Rattle.rules.specs.declared.order.Order.{Order}
use Rattle.rules.specs.declared.order.Standing.{Standing}
use Rattle.rules.specs.declared.request.Entry.{Entry}
use Rattle.rules.specs.declared.request.CancelOrder.{CancelOrder}
use Rattle.rules.specs.declared.request.Payment.{Payment}
use Rattle.rules.specs.declared.security.Security.{Security}
use Rattle.rules.specs.Checks.{entry_in_range, kind_for, number_for, number_free, number_free_for, order_for, serial_used, cancel_in_range, payment_in_range, payment_allowed}
use Rattle.market.specs.Classes.{trades_at, reaches}
use Rattle.market.specs.Figures.{times, within_limit}
use Rattle.rules.specs.Listing.{find_listed, quoted}
use Rattle.rules.specs.Orders.{live_count}
use Rattle.rules.specs.Calls.{Answer, unless, enter_answer, listed_answer, holding_answer, cancel_answer, paying_answer, by_ledger}
use Rattle.rules.specs.State.{State, free_places, free_lines}
use Rattle.ledger.specs.Moves.{Answer as Moved}
use Rattle.floor_day.specs.Parts.{then, told, names_answer, space_answer, listed_parts, asked_answer, target_answer, widened, paying_checks}

-- a check that hands on the refusal of another
pub refused_is : {X : Type 0} (r : Result X Refused) (e : Refused) (a : Answer) → IsErrAnd r (λ y. y ≡ e) → Err e ≡ a → told r ≡ a
refused_is (Ok x) e a q p = absurd q
refused_is (Err y) e a q p = ap Err q ∙ p

-- a check that passed
pub passed : (b : Bool) (e : Refusal) → Ok tt ≡ unless b e (Ok tt) → b ≡ true
passed true e h = refl
passed false e h = let z : ◌≡◌ {A = ℕ} 0 1 = cc in absurd (omega arith)

-- a value that was there
pub found_is : {X E : Type 0} (r : Option X) (e : E) (x : X) → Ok x ≡ ok_or r e → r ≡ Some x
found_is None e x h = let z : ◌≡◌ {A = ℕ} 0 1 = cc in absurd (omega arith)
found_is (Some y) e x h = cc

then_unless : (b : Bool) (e : Refusal) (r q : Answer) → then (unless b e r) q ≡ unless b e (then r q)
then_unless true e r q = refl
then_unless false e r q = refl

then_two : (b c : Bool) (d e : Refusal) (q : Answer) → then (unless b d (unless c e (Ok tt))) q ≡ unless b d (unless c e q)
then_two b c d e q = then_unless b d (unless c e (Ok tt)) q ∙ ap (unless b d) (then_unless c e (Ok tt) q)

then_four : (b1 b2 b3 b4 : Bool) (e1 e2 e3 e4 : Refusal) (q : Answer) →
    then (unless b1 e1 (unless b2 e2 (unless b3 e3 (unless b4 e4 (Ok tt))))) q ≡ unless b1 e1 (unless b2 e2 (unless b3 e3 (unless b4 e4 q)))
then_four b1 b2 b3 b4 e1 e2 e3 e4 q =
    then_unless b1 e1 (unless b2 e2 (unless b3 e3 (unless b4 e4 (Ok tt)))) q
    ∙ ap (unless b1 e1) (then_unless b2 e2 (unless b3 e3 (unless b4 e4 (Ok tt))) q ∙ ap (unless b2 e2) (then_two b3 b4 e3 e4 q))

-- only a deal order's own number is asked about
free_same : (r : Sort) (s : State) (u v n : ℕ) (t : List Standing) → number_free_for (kind_for r n) s u v n ≡ number_free_for (kind_for r n) s u v (number_for r t n)
free_same intentions s u v n t = refl
free_same firm_quotes s u v n t = refl
free_same DealOrder s u v n t = refl

some_cond : {X : Type 0} (b : Bool) (x y : X) → Some x ≡ cond b (Some y) None → (b ≡ true) × (x ≡ y)
some_cond true x y e = (refl, cc)
some_cond false x y e = let z : ◌≡◌ {A = ℕ} 0 1 = cc in absurd (omega arith)

-- an entry in range, up to its security
pub entry_found : (s : State) (e : Entry) (t : List Standing) (ss : List Security) (o : Order) (f : Option Security) → s.day_open ≡ true → t ≡ s.orders →
    Some o ≡ cond (entry_in_range e) (Some (order_for t e)) None → ss ≡ s.securities → f ≡ find_listed ss o.security →
    (listed_answer s e o f ≡ enter_answer s e) × (o ≡ order_for s.orders e)
entry_found s e t ss o f d et eo es ef =
    let q = some_cond (entry_in_range e) o (order_for t e) eo in
    let o2 : o ≡ order_for s.orders e = q.1 ∙ ap (λ (z : List Standing). order_for z e) et in
    let f2 : f ≡ find_listed s.securities o.security = ef ∙ ap (λ (z : List Security). find_listed z o.security) es in
    let X : Answer = listed_answer s e (order_for s.orders e) (find_listed s.securities e.security) in
    let a : listed_answer s e o f ≡ X = ap (listed_answer s e o) f2 ∙ ap (λ (z : Order). listed_answer s e z (find_listed s.securities z.security)) o2 in
    let b : enter_answer s e ≡ X = ap (λ (z : Bool). unless z DayNotOpen (unless (entry_in_range e) OutOfRange X)) d ∙ ap (λ (z : Bool). unless z OutOfRange X) q.0 in
    (a ∙ sym b, o2)

abbrev listed_terms : Security → Order → Answer → Answer
listed_terms x o q =
    unless (trades_at x.class o.time) OutsideHours
    (unless (quoted x o.price) BadPrice
    (unless (within_limit (times o.quantity o.price)) AmountTooLarge
    (unless (reaches x.class o.quantity o.price) BelowLeastSize q)))

abbrev listed_names : State → Order → Bool → Answer → Answer
listed_names s o b q = unless (not (serial_used s o.unit o.serial)) SerialUsed (unless b NumberTaken q)

abbrev listed_space : State → Answer → Answer
listed_space s q =
    unless (leb (live_count s.orders + 2) (free_places s)) TooFewPlaces
    (unless (leb (live_count s.orders + 3) (free_lines s)) TooFewLines q)

-- only orders and agreed numbers are asked
free_day : (k : OrderKind) (s : State) (u v n : ℕ) → number_free_for k (day_of s.orders s.agreed) u v n ≡ number_free_for k s u v n
free_day Intention s u v n = refl
free_day FirmQuote s u v n = refl
free_day Negotiated s u v n = refl
free_day Click s u v n = refl

-- all that is asked of a listed order, in the parts of its checks
pub listed_is : (s : State) (e : Entry) (x : Security) (o : Order) → o ≡ order_for s.orders e → listed_parts s x o ≡ listed_answer s e o (Some x)
listed_is s e x o eo =
    let n : Bool = number_free_for o.kind (day_of s.orders s.agreed) o.unit o.counterpart o.agreement in
    let free : n ≡ number_free s e =
    free_day o.kind s o.unit o.counterpart o.agreement
    ∙ ap (λ (z : Order). number_free_for z.kind s z.unit z.counterpart z.agreement) eo
    ∙ sym (free_same e.sort s e.unit e.counterpart e.agreement s.orders) in
    let h : Answer = holding_answer s.book o in
    let sp : Answer = space_answer s.orders s.cancels s.tape in
    let space : then sp h ≡ listed_space s h =
    then_two (leb (live_count s.orders + 2) (free_places s)) (leb (live_count s.orders + 3) (free_lines s)) TooFewPlaces TooFewLines h in
    let names : then (names_answer s.orders s.cancels s.agreed o) (then sp h) ≡ listed_names s o n (listed_space s h) =
    then_two (not (serial_used s o.unit o.serial)) n SerialUsed NumberTaken (then sp h) ∙ ap (listed_names s o n) space in
    then_four (trades_at x.class o.time) (quoted x o.price) (within_limit (times o.quantity o.price)) (reaches x.class o.quantity o.price)
    OutsideHours BadPrice AmountTooLarge BelowLeastSize (then (names_answer s.orders s.cancels s.agreed o) (then sp h))
    ∙ ap (listed_terms x o) names
    ∙ ap (λ (b : Bool). listed_terms x o (listed_names s o b (listed_space s h))) free

-- a cancel's checks in two parts
pub cancel_is : (s : State) (c : CancelOrder) → then (asked_answer s.day_open c) (target_answer s c) ≡ cancel_answer s c
cancel_is s c = then_two s.day_open (cancel_in_range c) DayNotOpen OutOfRange (target_answer s c)

pub asked_refused : (s : State) (c : CancelOrder) (e : Refused) → Err e ≡ asked_answer s.day_open c → Err e ≡ cancel_answer s c
asked_refused s c e p = ap (λ (a : Answer). then a (target_answer s c)) p ∙ cancel_is s c

pub asked_passed : (s : State) (c : CancelOrder) (x : Cancelling) (r : Answer) → Ok tt ≡ asked_answer s.day_open c → x ≡ cancelling c → r ≡ target_answer s (widened x) → r ≡ cancel_answer s c
asked_passed s c x r p ex q =
    q
    ∙ ap (λ (z : Cancelling). target_answer s (widened z)) ex
    ∙ ap (λ (a : Answer). then a (target_answer s c)) p
    ∙ cancel_is s c

-- a payment's checks, and then the ledger
paying_is : (s : State) (p : Payment) (m : Moved) → then (paying_checks s.day_open s.orders s.tape p) (by_ledger p.item m) ≡ paying_answer s p m
paying_is s p m =
    then_four s.day_open (payment_in_range p) (payment_allowed p) (leb (live_count s.orders + 1) (free_lines s)) DayNotOpen OutOfRange BadPayment TooFewLines (by_ledger p.item m)

pub paying_refused : (s : State) (p : Payment) (m : Moved) (e : Refused) → Err e ≡ paying_checks s.day_open s.orders s.tape p → Err e ≡ paying_answer s p m
paying_refused s p m e q = ap (λ (a : Answer). then a (by_ledger p.item m)) q ∙ paying_is s p m

pub paying_passed : (s : State) (p : Payment) (m : Moved) → Ok tt ≡ paying_checks s.day_open s.orders s.tape p → by_ledger p.item m ≡ paying_answer s p m
paying_passed s p m q = ap (λ (a : Answer). then a (by_ledger p.item m)) q ∙ paying_is s p m
