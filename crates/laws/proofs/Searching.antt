-- An accepted entry keeps every search single.
use Rattle.std.proofs.Common.{◌≡◌, ℕ, ◌-◌, ◌<◌, ◌≤◌, Bool, true, false, cond, not, ◌&&◌, eqb, leb, List, length, is_some, count_by, sym, refl, ap, ◌∙◌, ⊎_elim, arith}
use Rattle.std.proofs.lemmas.List.{take_all}
use Rattle.std.proofs.lemmas.Bool.{and_parts, or_cases, not-true, eqb-true, ltb-true, both_ways, cond_both, false≢true}
use Rattle.market.specs.declared.kinds.OrderKind.{OrderKind}
use Rattle.market.specs.declared.kinds.OrderKind.TheVariants.{Intention, FirmQuote, Negotiated, Click}
use Rattle.market.specs.declared.kinds.Sort.{Sort}
use Rattle.market.specs.declared.kinds.Sort.TheVariants.{Intention as intentions, FirmQuote as firm_quotes, DealOrder}
use Rattle.market.specs.Kinds.{kind_number}
use Rattle.rules.specs.declared.order.Order.{Order}
use Rattle.rules.specs.declared.order.Standing.{Standing}
use Rattle.rules.specs.declared.security.Security.{Security}
use Rattle.rules.specs.Orders.{order_at, is_live, first_place}
use Rattle.rules.specs.Checks.{is_kind, waits, kind_for, number_for, order_for, number_free_for, has_dealt}
use Rattle.rules.specs.Dealing.{waits_for, quoted_for, fits, stands_on}
use Rattle.rules.specs.Listing.{find_listed}
use Rattle.rules.specs.Plain.{live_of, leave, nothing, any, rest_of, plain_entry_as}
use Rattle.rules.specs.State.{State}
use Rattle.laws.specs.Single.{Fewer, KeptSingle, EntriesSingle}
use Rattle.laws.proofs.Accepting.{nothing_found, number_accepted}
use Rattle.laws.proofs.Leaving.{waited, leave_fewer, leave_count, leave_numbered, fewer_single, single_more, numbered_more}
use Rattle.laws.proofs.Plainness.{any_some}

abbrev newcomer : Order → ℕ → Standing
newcomer o n = live_of (record { order = o; live = o.quantity }) n

-- an order of another kind does not wait, nor does one with nothing live
not_kind : (o : Order) (n u v m : ℕ) → (eqb (kind_number o.kind) 3 ≡ true → ⊥) → waits u v m (newcomer o n) ≡ true → ⊥
not_kind o n u v m h w = h (and_parts (is_kind Negotiated (newcomer o n)) _ w).0

not_live : (o : Order) (u v m : ℕ) → waits u v m (newcomer o 0) ≡ true → ⊥
not_live o u v m w =
    let a = and_parts (is_kind Negotiated (newcomer o 0)) _ w in
    let b = and_parts (is_live (newcomer o 0)) (eqb o.unit u && (eqb o.counterpart v && eqb o.agreement m)) a.1 in false≢true b.0

nothing_less : (x : Standing) → nothing x ≤ x.live.number
nothing_less x = omega arith

rest_less : (ss : List Security) (o : Order) (x : Standing) → rest_of ss o x ≤ x.live.number
rest_less ss o x =
    let P : ℕ → Type 0 = λ n. n ≤ x.live.number in
    let w : ℕ = x.live.number - o.quantity.number in
    let b : Bool = stands_on (find_listed ss o.security) x.order w in
    cond_both (fits o x) (cond b w 0) x.live.number P (λ e. cond_both b w 0 P (λ f. omega arith) (λ f. omega arith)) (λ e. omega arith)

-- what a number that is free says of the table
abbrev pub Free : List Standing → Order → Type 0
Free t o = any (waits_for o) t ≡ false → (k : ℕ) → k < length t → waits o.unit o.counterpart o.agreement (order_at t k) ≡ true → ⊥

new_waits : (o : Order) (n u v m : ℕ) → waits u v m (newcomer o n) ≡ true → (0 < n) × (o.unit ≡ u) × (o.counterpart ≡ v) × (o.agreement ≡ m)
new_waits o n u v m w =
    let a = and_parts (is_kind Negotiated (newcomer o n)) _ w in
    let b = and_parts (is_live (newcomer o n)) _ a.1 in
    let c = and_parts (eqb o.unit u) _ b.1 in
    let d = and_parts (eqb o.counterpart v) _ c.1 in
    (ltb-true 0 n b.0, eqb-true _ _ c.0, eqb-true _ _ d.0, eqb-true _ _ d.1)

none_left : (b : Bool) (q : ℕ) → 0 < cond b 0 q → b ≡ false
none_left true q h = absurd (omega arith)
none_left false q h = refl

waited_before : (t u : List Standing) (k a c m : ℕ) → Fewer t u → waits a c m (order_at u k) ≡ true → waits a c m (order_at t k) ≡ true
waited_before t u k a c m w x = waited (order_at t k) (order_at u k) a c m (w.same k) (w.less k) x

pub kept_entry_as : (kind : OrderKind) (ss : List Security) (t : List Standing) (o : Order) → o.kind ≡ kind → (is_kind FirmQuote (newcomer o 0) ≡ true → o.agreement ≡ 99999999 - count_by (is_kind FirmQuote) t) → (o.kind ≡ Negotiated → Free t o) → KeptSingle t → KeptSingle (plain_entry_as kind (record { securities = ss; orders = t }) o)
kept_entry_as Intention ss t o ek own free s =
    record {
      numbered = numbered_more t (newcomer o o.quantity.number) s.numbered own;
      single = single_more t (newcomer o o.quantity.number) s.single (λ u v m w k h x. not_kind o o.quantity.number u v m (λ e. false≢true (ap (λ (z : OrderKind). eqb (kind_number z) 3) (sym ek) ∙ e)) w);
    }
kept_entry_as FirmQuote ss t o ek own free s =
    record {
      numbered = numbered_more t (newcomer o o.quantity.number) s.numbered own;
      single = single_more t (newcomer o o.quantity.number) s.single (λ u v m w k h x. not_kind o o.quantity.number u v m (λ e. false≢true (ap (λ (z : OrderKind). eqb (kind_number z) 3) (sym ek) ∙ e)) w);
    }
kept_entry_as Negotiated ss t o ek own free s =
    let b : Bool = any (waits_for o) t in
    let q : ℕ = o.quantity.number in
    let u : List Standing = leave (waits_for o) nothing t in
    let w = leave_fewer (waits_for o) nothing nothing_less t in
    record {
      numbered = numbered_more u (newcomer o (cond b 0 q)) (leave_numbered (waits_for o) nothing nothing_less t s.numbered) (λ e. own e ∙ ap (λ (n : ℕ). 99999999 - n) (counts t));
      single =
          single_more u (newcomer o (cond b 0 q)) (fewer_single t u w s.single)
          (λ a c m wt k h x. let p = new_waits o (cond b 0 q) a c m wt in
          let long = w.long in
          let x1 : waits o.unit o.counterpart o.agreement (order_at u k) ≡ true =
          ap (λ z. waits z o.counterpart o.agreement (order_at u k)) p.1 ∙ ap (λ z. waits a z o.agreement (order_at u k)) p.2 ∙ ap (λ z. waits a c z (order_at u k)) p.3 ∙ x in
          free ek (none_left b q p.0) k (omega (arith, long)) (waited_before t u k o.unit o.counterpart o.agreement w x1));
    }
  where
    counts : (t : List Standing) → count_by (is_kind FirmQuote) t ≡ count_by (is_kind FirmQuote) (leave (waits_for o) nothing t)
    counts t =
        let w = leave_fewer (waits_for o) nothing nothing_less t in
        let c = leave_count FirmQuote (waits_for o) nothing t (length t) in
        sym (ap (count_by (is_kind FirmQuote)) (sym (take_all (length t) (leave (waits_for o) nothing t) (omega (arith, w.long)))) ∙ c ∙ ap (count_by (is_kind FirmQuote)) (take_all (length t) t (omega arith)))
kept_entry_as Click ss t o ek own free s =
    let u : List Standing = leave (quoted_for o) (rest_of ss o) t in
    let w = leave_fewer (quoted_for o) (rest_of ss o) (rest_less ss o) t in
    record {
      numbered = numbered_more u (newcomer o 0) (leave_numbered (quoted_for o) (rest_of ss o) (rest_less ss o) t s.numbered) (λ e. absurd (false≢true (ap (λ (z : OrderKind). eqb (kind_number z) 2) (sym ek) ∙ e)));
      single = single_more u (newcomer o 0) (fewer_single t u w s.single) (λ a c m wt k h x. not_live o a c m wt);
    }

not_quote : (b : Bool) → eqb (kind_number (cond b Negotiated Click)) 2 ≡ true → ⊥
not_quote true h = false≢true h
not_quote false h = false≢true h

own_number : (sort : Sort) (t : List Standing) (n : ℕ) → eqb (kind_number (kind_for sort n)) 2 ≡ true → number_for sort t n ≡ 99999999 - count_by (is_kind FirmQuote) t
own_number intentions t n h = absurd (false≢true h)
own_number firm_quotes t n h = refl
own_number DealOrder t n h = absurd (not_quote (leb n 999999) h)

pub deal_number : (sort : Sort) (t : List Standing) (n : ℕ) → kind_for sort n ≡ Negotiated → number_for sort t n ≡ n
deal_number intentions t n h = absurd (false≢true (ap (λ (z : OrderKind). eqb (kind_number z) 3) h))
deal_number firm_quotes t n h = absurd (false≢true (ap (λ (z : OrderKind). eqb (kind_number z) 3) h))
deal_number DealOrder t n h = refl

-- between two units the number is free: nobody waits there; a unit with itself finds its own order
free_number : (s : State) (u v n : ℕ) → number_free_for Negotiated s u v n ≡ true → any (waits v u n) s.orders ≡ false → (k : ℕ) → k < length s.orders → waits u v n (order_at s.orders k) ≡ true → ⊥
free_number s u v n h none k l w =
    let a = and_parts (not (has_dealt u v n s.agreed)) _ h in
    ⊎_elim
    (λ (e : eqb u v ≡ true).
    let uv = eqb-true u v e in
    let back : waits v u n (order_at s.orders k) ≡ true = ap (λ z. waits z u n (order_at s.orders k)) (sym uv) ∙ ap (λ z. waits u z n (order_at s.orders k)) uv ∙ w in
    both_ways (any (waits v u n) s.orders) none (any_some (waits v u n) s.orders k l back))
    (λ e. nothing_found (waits u v n) s.orders (not-true _ e) k l w)
    (or_cases (eqb u v) (not (is_some (first_place (waits u v n) s.orders))) a.1)

pub entries_single : EntriesSingle
entries_single s e h kept =
    let t : List Standing = s.orders in
    let o : Order = order_for t e in
    let free-is = number_accepted s e h in
    kept_entry_as o.kind s.securities t o refl
    (own_number e.sort t e.agreement)
    (λ ek none k l w.
    let en = deal_number e.sort t e.agreement ek in
    let f : number_free_for Negotiated s e.unit e.counterpart e.agreement ≡ true = ap (λ (z : OrderKind). number_free_for z s e.unit e.counterpart e.agreement) (sym ek) ∙ free-is in
    let none2 : any (waits e.counterpart e.unit e.agreement) t ≡ false = ap (λ z. any (waits e.counterpart e.unit z) t) (sym en) ∙ none in
    free_number s e.unit e.counterpart e.agreement f none2 k l (ap (λ z. waits e.unit e.counterpart z (order_at t k)) (sym en) ∙ w))
    kept
