-- Valid events keep the deals of the lines paired.
use Rattle.std.proofs.Common.{◌≡◌, ℕ, ◌+◌, List, [], ◌∷◌, ◌++◌, map, sym, refl, ap, ◌∙◌, append_assoc, append-nil, add-one}
use Rattle.std.proofs.lemmas.List.{map_push}
use Rattle.market.specs.declared.kinds.Side.{Side}
use Rattle.market.specs.declared.kinds.Side.TheVariants.{Buy, Sell}
use Rattle.market.specs.declared.price.Price.{Price}
use Rattle.market.specs.declared.quantity.Quantity.{Quantity}
use Rattle.tape.specs.declared.line.Line.{Line}
use Rattle.tape.specs.declared.line.Line.TheVariants.{Deal}
use Rattle.tape.specs.declared.line.OrderLine.{OrderLine}
use Rattle.rules.specs.declared.event.Event.{Event}
use Rattle.rules.specs.declared.event.Event.TheVariants.{Entered, Dealt, Cancelled, PaidIn, DrawnOut}
use Rattle.rules.specs.declared.order.Order.{Order}
use Rattle.rules.specs.Orders.{order_at}
use Rattle.rules.specs.Effects.{lines_of, order_line}
use Rattle.laws.specs.Days.{Day, step, Valid}
use Rattle.laws.specs.Paired.{Ticket, ticket, on_side, ticket_in, tickets, upto, Paired, DealsPaired}

tickets_append : (side : Side) (ls ms : List Line) → tickets side (ls ++ ms) ≡ tickets side ls ++ tickets side ms
tickets_append side [] ms = refl
tickets_append side (l ∷ ls) ms =
    ap (λ (x : List Ticket). ticket_in side l ++ x) (tickets_append side ls ms) ∙ sym (append_assoc (ticket_in side l) (tickets side ls) (tickets side ms))

-- lines without a deal
others : (d : Day) (ms : List Line) (e : Event) → (step d e).lines ≡ d.lines ++ ms → (step d e).deals ≡ d.deals → tickets Buy ms ≡ [] → tickets Sell ms ≡ [] → Paired d → Paired (step d e)
others d ms e el ed b s p =
    let eb : tickets Buy (step d e).lines ≡ tickets Buy d.lines = ap (tickets Buy) el ∙ tickets_append Buy d.lines ms ∙ ap (λ (x : List Ticket). tickets Buy d.lines ++ x) b ∙ append-nil _ in
    let es : tickets Sell (step d e).lines ≡ tickets Sell d.lines = ap (tickets Sell) el ∙ tickets_append Sell d.lines ms ∙ ap (λ (x : List Ticket). tickets Sell d.lines ++ x) s ∙ append-nil _ in
    record { alike = es ∙ p.alike ∙ sym eb; numbered = ap (map (λ (t : Ticket). t.number)) eb ∙ p.numbered ∙ ap upto (sym ed) }

-- the two lines of a deal, from one side
one_ticket : (side : Side) (x y : OrderLine) (n : ℕ) → x.side ≡ Buy → y.side ≡ Sell → tickets side (Deal x n ∷ (Deal y n ∷ [])) ≡ on_side side Buy (ticket x n) ++ (on_side side Sell (ticket y n) ++ [])
one_ticket side x y n ex ey =
    ap (λ (s : Side). on_side side s (ticket x n) ++ (on_side side y.side (ticket y n) ++ [])) ex
    ∙ ap (λ (s : Side). on_side side Buy (ticket x n) ++ (on_side side s (ticket y n) ++ [])) ey

same_ticket : (n q a b : ℕ) (p r : Price) → a ≡ b → p ≡ r → ◌≡◌ {A = Ticket} (record { number = n; security = a; quantity = q; price = p.number }) (record { number = n; security = b; quantity = q; price = r.number })
same_ticket n q a b p r e f = ap (λ (v : ℕ). record { number = n; security = v; quantity = q; price = p.number }) e ∙ ap (λ (v : Price). record { number = n; security = b; quantity = q; price = v.number }) f

dealt_paired : (d : Day) (i j : ℕ) (q : Quantity) (time : ℕ) → Valid d (Dealt i j q time) → Paired d → Paired (step d (Dealt i j q time))
dealt_paired d i j q time v p =
    let n : ℕ = d.deals + 1 in
    let b : Order = (order_at d.orders i).order in
    let s : Order = (order_at d.orders j).order in
    let x : OrderLine = order_line b q time in
    let y : OrderLine = order_line s q time in
    let ms : List Line = Deal x n ∷ (Deal y n ∷ []) in
    let eb : tickets Buy (d.lines ++ ms) ≡ tickets Buy d.lines ++ (ticket x n ∷ []) = tickets_append Buy d.lines ms ∙ ap (λ (z : List Ticket). tickets Buy d.lines ++ z) (one_ticket Buy x y n v.agree.buys v.agree.sells) in
    let es : tickets Sell (d.lines ++ ms) ≡ tickets Sell d.lines ++ (ticket y n ∷ []) = tickets_append Sell d.lines ms ∙ ap (λ (z : List Ticket). tickets Sell d.lines ++ z) (one_ticket Sell x y n v.agree.buys v.agree.sells) in
    let e : ticket y n ≡ ticket x n = same_ticket n q.number s.security b.security s.price b.price (sym v.agree.security) (sym v.agree.price) in
    record {
      alike = es ∙ ap (λ (z : List Ticket). z ++ (ticket y n ∷ [])) p.alike ∙ ap (λ (z : Ticket). tickets Buy d.lines ++ (z ∷ [])) e ∙ sym eb;
      numbered =
          ap (map (λ (t : Ticket). t.number)) eb
          ∙ map_push (λ (t : Ticket). t.number) (tickets Buy d.lines) (ticket x n)
          ∙ ap (λ (z : List ℕ). z ++ (n ∷ [])) p.numbered
          ∙ ap (λ (k : ℕ). upto d.deals ++ (k ∷ [])) (add-one d.deals)
          ∙ ap upto (sym (add-one d.deals));
    }

paired_step : (d : Day) (e : Event) → Valid d e → Paired d → Paired (step d e)
paired_step d (Entered o) v p = others d (lines_of (Entered o) d.orders (d.deals + 1)) (Entered o) refl refl refl refl p
paired_step d (Dealt i j q time) v p = dealt_paired d i j q time v p
paired_step d (Cancelled k w time) v p = others d (lines_of (Cancelled k w time) d.orders (d.deals + 1)) (Cancelled k w time) refl refl refl refl p
paired_step d (PaidIn x) v p = others d (lines_of (PaidIn x) d.orders (d.deals + 1)) (PaidIn x) refl refl refl refl p
paired_step d (DrawnOut x) v p = others d (lines_of (DrawnOut x) d.orders (d.deals + 1)) (DrawnOut x) refl refl refl refl p

pub deals_paired : DealsPaired
deals_paired [] d v p = p
deals_paired (e ∷ es) d v p = deals_paired es (step d e) v.1 (paired_step d e v.0 p)
