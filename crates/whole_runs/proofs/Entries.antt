-- An accepted entry: all is granted, the table is the plain day's, and the floor stands.
use Rattle.std.proofs.Common.{◌≡◌, ℕ, ◌+◌, ◌-◌, ◌<◌, ◌≤◌, true, leb, List, length, Ok, count_by, sym, refl, ap, ◌∙◌, subst, arith}
use Rattle.std.proofs.lemmas.List.{length_push}
use Rattle.std.proofs.lemmas.Bool.{and_parts, and_from, le-leb}
use Rattle.ledger.specs.Books.{Book}
use Rattle.market.specs.declared.kinds.OrderKind.TheVariants.{FirmQuote}
use Rattle.market.specs.declared.kinds.Sort.{Sort}
use Rattle.market.specs.declared.kinds.Sort.TheVariants.{Intention, FirmQuote as firm_quotes, DealOrder}
use Rattle.market.specs.declared.ranges.Figure.TheVariants.{Unit, Serial, Account, SecurityCode, Quantity, Price, Time, AgreementNumber}
use Rattle.market.specs.Figures.{quantity, price, times, within_limit}
use Rattle.market.specs.Ranges.{admits}
use Rattle.rules.specs.declared.event.Event.{Event}
use Rattle.rules.specs.declared.event.Event.TheVariants.{Entered}
use Rattle.rules.specs.declared.event.Follow.{Follow}
use Rattle.rules.specs.declared.event.Follow.TheVariants.{Wait, Deal, CancelBoth, DealAndCancel, CancelOne}
use Rattle.rules.specs.declared.order.Agreement.{Agreement}
use Rattle.rules.specs.declared.order.Order.{Order}
use Rattle.rules.specs.declared.order.Standing.{Standing}
use Rattle.rules.specs.declared.request.Entry.{Entry}
use Rattle.rules.specs.declared.security.Security.{Security}
use Rattle.rules.specs.State.{State}
use Rattle.rules.specs.Checks.{is_kind, names_partner, entry_in_range, number_for, order_for}
use Rattle.rules.specs.Dealing.{decide, follow_events, entry_events}
use Rattle.rules.specs.Effects.{effect, effects}
use Rattle.rules.specs.Calls.{enter_answer}
use Rattle.rules.specs.Plain.{Day, Act, enters, plain_entry, plain_after}
use Rattle.rules.specs.Replies.{accepted}
use Rattle.laws.specs.Accepted.{day}
use Rattle.laws.specs.Days.{Day as Trading, run}
use Rattle.laws.specs.Reserves.{load}
use Rattle.laws.specs.Single.{KeptSingle}
use Rattle.laws.specs.Sized.{LiveSized, all_sized}
use Rattle.laws.specs.Agreed.{Agreed}
use Rattle.laws.proofs.Accepting.{entry_passed, entries_strict}
use Rattle.laws.proofs.Loading.{load_entered}
use Rattle.laws.proofs.Plainness.{entries_plain}
use Rattle.laws.proofs.Singly.{searches_single}
use Rattle.laws.proofs.Searching.{entries_single}
use Rattle.laws.proofs.Sizing.{entries_sized}
use Rattle.laws.proofs.Agreeing.{entries_agreed}
use Rattle.whole_runs.specs.Granting.{GrantedAct}
use Rattle.whole_runs.specs.Law.{plainly}
use Rattle.whole_runs.proofs.Good.{Writable, Spare}
use Rattle.whole_runs.proofs.Going.{Going, went, ReadyAll, went_all, effects_orders, effects_securities, effects_agreed}

-- a floor between calls
pub record Stands (b : Book) (s : State) : Type 0 where
  pub going : Going b s
  pub single : KeptSingle s.orders
  pub live_sized : LiveSized s.securities s.orders
  pub deals_sized : all_sized s.securities s.tape.lines ≡ true
  pub agreed : Agreed s.agreed s.tape.lines

-- what an accepted act did
pub record Did (b : Book) (s : State) (a : Act) : Type 0 where
  pub granted : GrantedAct s a
  pub plain : plainly (accepted s a) ≡ plain_after (plainly s) a
  pub stands : Stands b (accepted s a)

pub same_day : (ss tt' : List Security) (t u : List Standing) → ss ≡ tt' → t ≡ u → ◌≡◌ {A = Day} (record { securities = ss; orders = t }) (record { securities = tt'; orders = u })
same_day ss tt' t u p q = ap (λ (x : List Security). record { securities = x; orders = t }) p ∙ ap (λ (x : List Standing). record { securities = tt'; orders = x }) q

-- the figures of an entry
record Ranged (e : Entry) : Type 0 where
  unit : admits Unit e.unit ≡ true
  serial : admits Serial e.serial ≡ true
  account : admits Account e.account ≡ true
  security : admits SecurityCode e.security ≡ true
  quantity_of : admits Quantity e.quantity ≡ true
  price_of : admits Price e.price ≡ true
  partner : names_partner e.sort e.counterpart e.agreement ≡ true
  time : admits Time e.time ≡ true

ranged : (e : Entry) → entry_in_range e ≡ true → Ranged e
ranged e h =
    let a = and_parts (admits Unit e.unit) _ h in
    let b = and_parts (admits Serial e.serial) _ a.1 in
    let c = and_parts (admits Account e.account) _ b.1 in
    let d = and_parts (admits SecurityCode e.security) _ c.1 in
    let f = and_parts (admits Quantity e.quantity) _ d.1 in
    let g = and_parts (admits Price e.price) _ f.1 in
    let i = and_parts (names_partner e.sort e.counterpart e.agreement) _ g.1 in
    record { unit = a.0; serial = b.0; account = c.0; security = d.0; quantity_of = f.0; price_of = g.0; partner = i.0; time = i.1 }

number_ranged : (sort : Sort) (t : List Standing) (v n : ℕ) → names_partner sort v n ≡ true → admits AgreementNumber (number_for sort t n) ≡ true
number_ranged Intention t v n h = refl
number_ranged firm_quotes t v n h =
    let m : ℕ = 99999999 - count_by (is_kind FirmQuote) t in and_from (leb 0 m) (leb m 99999999) (le-leb 0 m (omega arith)) (le-leb m 99999999 (omega arith))
number_ranged DealOrder t v n h = (and_parts (admits Unit v) (admits AgreementNumber n) h).1

entry_writable : (t : List Standing) (e : Entry) → entry_in_range e ≡ true → within_limit (times (quantity e.quantity) (price e.price)) ≡ true → Writable (Entered (order_for t e))
entry_writable t e h limited =
    let r = ranged e h in
    and_from _ _ r.unit
    (and_from _ _ r.serial
    (and_from _ _ r.security
    (and_from _ _ r.account
    (and_from _ _ r.quantity_of
    (and_from _ _ r.price_of
    (and_from _ _ limited
    (and_from _ _ (number_ranged e.sort t e.counterpart e.agreement r.partner) r.time)))))))

-- what follows once the order stands needs no more room than that
follow_ready : (time : ℕ) (f : Follow) (s : State) → admits Time time ≡ true → load (day s) + 1 ≤ s.tape.capacity → s.deals < length s.orders → ReadyAll s (follow_events time f)
follow_ready time Wait s h l d = tt
follow_ready time (Deal i j q) s h l d = (h, (l, d), tt)
follow_ready time (CancelBoth k n) s h l d = (h, tt, (h, tt, tt))
follow_ready time (DealAndCancel i j q k why) s h l d = (h, (l, d), (h, tt, tt))
follow_ready time (CancelOne n why) s h l d = (h, tt, tt)

entry_ready : (b : Book) (s : State) (e : Entry) → enter_answer s e ≡ Ok tt → Going b s → ReadyAll s (entry_events s.securities s.orders (order_for s.orders e))
unfolding effect
entry_ready b s e h g =
    let o : Order = order_for s.orders e in
    let p = entry_passed s e h in
    let lines = p.listed.lines in
    let places = p.listed.places in
    let few = g.few in
    let v = entries_strict s e h in
    let w = entry_writable s.orders e p.ranged p.listed.limited in
    let spare : Spare s.tape.capacity (length s.cancels) (day s) (Entered o) = (omega (arith, lines), omega (arith, places)) in
    let one = went b s (Entered o) v.0 w spare g in
    let l = load_entered (day s) o v.0.0.some in
    let m = ap load one.same in
    let c = one.capacity in
    let n = length_push s.orders (record { order = o; live = o.quantity }) in
    (w, spare, follow_ready o.time (decide s.securities s.orders o) (effect s (Entered o)) (ranged e p.ranged).time (omega (arith, l, m, c, lines)) (omega (arith, n, few)))

pub entry_did : (b : Book) (s : State) (e : Entry) → enter_answer s e ≡ Ok tt → Stands b s → Did b s (enters e)
entry_did b s e h st =
    let t : List Standing = s.orders in
    let o : Order = order_for t e in
    let es : List Event = entry_events s.securities t o in
    let g = st.going in
    let all = went_all b es s (entries_strict s e h) (entry_ready b s e h g) g in
    let placed = g.placed in
    let one = searches_single t o (omega (arith, placed)) st.single.numbered st.single.single in
    let plain : (effects s es).orders ≡ plain_entry (plainly s) o = effects_orders es s ∙ entries_plain s.securities t o one.0 one.1 in
    let lines : (effects s es).tape.lines ≡ (run (day s) es).lines = ap (λ (d : Trading). d.lines) all.same in
    let sizes = entries_sized s e h st.live_sized st.deals_sized in
    record {
      granted = all.granted;
      plain = same_day _ _ _ _ (effects_securities es s) plain;
      stands = record {
        going = all.going;
        single = subst KeptSingle (sym plain) (entries_single s e h st.single);
        live_sized = subst (λ (x : List Security). LiveSized x (effects s es).orders) (sym (effects_securities es s)) (subst (LiveSized s.securities) (sym plain) sizes.live);
        deals_sized = subst (λ (x : List Security). all_sized x (effects s es).tape.lines ≡ true) (sym (effects_securities es s)) (ap (all_sized s.securities) lines ∙ sizes.deals);
        agreed = subst (Agreed (effects s es).agreed) (sym lines) (subst (λ (x : List Agreement). Agreed x (run (day s) es).lines) (sym (effects_agreed es s)) (entries_agreed s e h st.agreed));
      };
    }
