-- What follows from an entry, case by case.
use Rattle.std.proofs.Common.{◌≡◌, ℕ, ◌-◌, ◌<◌, true, cond, eqb, ltb, List, [], ◌∷◌, length, Some, None, Option, refl, ap, ◌∙◌, ⊎_elim, arith}
use Rattle.std.proofs.lemmas.Bool.{cond-true, cond-false, lt-ltb, le-ltb, eq-eqb, ne_eqb}
use Rattle.market.specs.declared.kinds.Side.{Side}
use Rattle.market.specs.declared.kinds.Side.TheVariants.{Buy, Sell}
use Rattle.market.specs.declared.kinds.OrderKind.{OrderKind}
use Rattle.market.specs.declared.kinds.OrderKind.TheVariants.{Intention, FirmQuote}
use Rattle.market.specs.declared.kinds.CancelReason.TheVariants.{QuoteRest, ClickRest, NoQuote, Mismatch}
use Rattle.rules.specs.declared.event.Event.{Event}
use Rattle.rules.specs.declared.event.Event.TheVariants.{Entered, Cancelled}
use Rattle.rules.specs.declared.event.Follow.{Follow}
use Rattle.rules.specs.declared.event.Follow.TheVariants.{Wait, CancelBoth, CancelOne}
use Rattle.rules.specs.declared.order.Order.{Order}
use Rattle.rules.specs.declared.order.Standing.{Standing}
use Rattle.rules.specs.declared.security.Security.{Security}
use Rattle.rules.specs.Orders.{order_at, first_place}
use Rattle.rules.specs.Listing.{find_listed}
use Rattle.rules.specs.Dealing.{waits_for, quoted_for, fits, stands_on, deal, meet, click_short, quote_short, hit, click, decide, decide_as, follow_events, entry_events}
use Rattle.laws.specs.Dealings.{deals, StandingLaw, NegotiatedLaw, ClickLaw, NumbersLaw}
use Rattle.laws.proofs.Singly.{few_quotes, quotes_apart}

-- the events of an entry whose decision is known
decided : (ss : List Security) (t : List Standing) (o : Order) (f : Follow) → decide ss t o ≡ f → entry_events ss t o ≡ Entered o ∷ follow_events o.time f
decided ss t o f e = ap (λ (x : Follow). Entered o ∷ follow_events o.time x) e

told_deal : (side : Side) (n k q time : ℕ) → follow_events time (deal side n k q) ≡ deals side n k q time ∷ []
told_deal Buy n k q time = refl
told_deal Sell n k q time = refl

told_click_short : (side : Side) (n k l time : ℕ) → follow_events time (click_short side n k l) ≡ deals side n k l time ∷ (Cancelled n ClickRest time ∷ [])
told_click_short Buy n k l time = refl
told_click_short Sell n k l time = refl

told_quote_short : (side : Side) (n k q time : ℕ) → follow_events time (quote_short side n k q) ≡ deals side n k q time ∷ (Cancelled k QuoteRest time ∷ [])
told_quote_short Buy n k q time = refl
told_quote_short Sell n k q time = refl

pub standing_law : StandingLaw
standing_law ss t o kind =
    decided ss t o Wait
    (⊎_elim
    (λ (a : o.kind ≡ Intention). ap (λ (z : OrderKind). decide_as z ss t o) a)
    (λ (a : o.kind ≡ FirmQuote). ap (λ (z : OrderKind). decide_as z ss t o) a)
    kind)

pub negotiated_law : NegotiatedLaw
negotiated_law ss t o kind =
    let n : ℕ = length t in
    let d : (r : Option ℕ) → first_place (waits_for o) t ≡ r → decide ss t o ≡ meet n o t r = λ r e. ap (λ (z : OrderKind). decide_as z ss t o) kind ∙ ap (λ (x : Option ℕ). meet n o t x) e in
    record {
      waits = λ e. decided ss t o Wait (d None e);
      agrees = λ k e h.
          decided ss t o (deal o.side n k o.quantity.number) (d (Some k) e ∙ cond-true _ _ (CancelBoth k n) h)
          ∙ ap (λ (x : List Event). Entered o ∷ x) (told_deal o.side n k o.quantity.number o.time);
      differs = λ k e h. decided ss t o (CancelBoth k n) (d (Some k) e ∙ cond-false _ (deal o.side n k o.quantity.number) _ h);
    }

pub click_law : ClickLaw
click_law ss t o kind =
    let n : ℕ = length t in
    let s : Option Security = find_listed ss o.security in
    let w : ℕ = o.quantity.number in
    let d : (r : Option ℕ) → first_place (quoted_for o) t ≡ r → decide ss t o ≡ click s n o t r = λ r e. ap (λ (z : OrderKind). decide_as z ss t o) kind ∙ ap (λ (x : Option ℕ). click s n o t x) e in
    let hits : (k : ℕ) → first_place (quoted_for o) t ≡ Some k → fits o (order_at t k) ≡ true → decide ss t o ≡ hit s n o k (order_at t k).order (order_at t k).live.number =
    λ k e h. d (Some k) e ∙ cond-true (fits o (order_at t k)) _ (CancelOne n Mismatch) h in
    let not-less : (k : ℕ) → first_place (quoted_for o) t ≡ Some k → fits o (order_at t k) ≡ true → w < (order_at t k).live.number →
    decide ss t o ≡ cond (stands_on s (order_at t k).order ((order_at t k).live.number - w)) (deal o.side n k w) (quote_short o.side n k w) =
    λ k e h l. hits k e h ∙ cond-false (ltb (order_at t k).live.number w) _ _ (le-ltb _ _ (omega arith)) ∙ cond-false (eqb (order_at t k).live.number w) _ _ (ne_eqb _ _ (λ z. omega arith)) in
    record {
      no_quote = λ e. decided ss t o (CancelOne n NoQuote) (d None e);
      differs = λ k e h. decided ss t o (CancelOne n Mismatch) (d (Some k) e ∙ cond-false (fits o (order_at t k)) _ _ h);
      for_more = λ k e h l.
          decided ss t o (click_short o.side n k (order_at t k).live.number) (hits k e h ∙ cond-true (ltb (order_at t k).live.number w) _ _ (lt-ltb _ _ l))
          ∙ ap (λ (x : List Event). Entered o ∷ x) (told_click_short o.side n k (order_at t k).live.number o.time);
      for_all = λ k e h q.
          decided ss t o (deal o.side n k (order_at t k).live.number)
          (hits k e h ∙ cond-false (ltb (order_at t k).live.number w) _ _ (le-ltb _ _ (omega (arith, q))) ∙ cond-true (eqb (order_at t k).live.number w) _ _ (eq-eqb _ _ q))
          ∙ ap (λ (x : List Event). Entered o ∷ x) (told_deal o.side n k (order_at t k).live.number o.time);
      for_part = λ k e h l st.
          decided ss t o (deal o.side n k w) (not-less k e h l ∙ cond-true (stands_on s (order_at t k).order ((order_at t k).live.number - w)) _ _ st)
          ∙ ap (λ (x : List Event). Entered o ∷ x) (told_deal o.side n k w o.time);
      for_most = λ k e h l st.
          decided ss t o (quote_short o.side n k w) (not-less k e h l ∙ cond-false (stands_on s (order_at t k).order ((order_at t k).live.number - w)) _ _ st)
          ∙ ap (λ (x : List Event). Entered o ∷ x) (told_quote_short o.side n k w o.time);
    }

pub numbers_law : NumbersLaw
numbers_law t few num =
    record {
      differ = λ k l h hl qk ql e. quotes_apart t k l few num h hl qk ql e;
      high = λ k h q. let n = num k h q in let c = few_quotes t k few in omega (arith, n, c);
    }
