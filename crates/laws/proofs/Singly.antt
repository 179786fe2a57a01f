-- At most one live order answers a search.
use Rattle.std.proofs.Common.{◌≡◌, ℕ, ◌+◌, ◌<◌, ◌≤◌, true, cond, eqb, List, length, take, count_by, sym, ap, ◌∙◌, ⊎_elim, arith}
use Rattle.std.proofs.lemmas.List.{take-take, length-take}
use Rattle.std.proofs.lemmas.List.Sums.{count_by_more_yes, count_by-le-length, sum_by-take-le}
use Rattle.std.proofs.lemmas.Bool.{and_parts, eqb-true, cases_order}
use Rattle.market.specs.declared.kinds.OrderKind.TheVariants.{FirmQuote}
use Rattle.rules.specs.declared.order.Standing.{Standing}
use Rattle.rules.specs.Orders.{order_at, no_one, is_live}
use Rattle.rules.specs.Checks.{is_kind}
use Rattle.rules.specs.Dealing.{quoted_for}
use Rattle.laws.specs.Plainly.{One}
use Rattle.laws.specs.Single.{Numbered, SearchesSingle}

quotes_before : (t : List Standing) (k l : ℕ) → k < l → l < length t → is_kind FirmQuote (order_at t k) ≡ true → count_by (is_kind FirmQuote) (take k t) < count_by (is_kind FirmQuote) (take l t)
quotes_before t k l h hl q =
    let hk : k < length t = omega arith in
    let one = count_by_more_yes (is_kind FirmQuote) t k no_one hk q in
    let le : k + 1 ≤ l = omega arith in
    let m = sum_by-take-le (λ x. cond (is_kind FirmQuote x) 1 0) (take l t) (k + 1) in
    let e = ap (count_by (is_kind FirmQuote)) (take-take (k + 1) l t le) in
    omega (arith, one, m, e)

pub few_quotes : (t : List Standing) (k : ℕ) → length t ≤ 512 → count_by (is_kind FirmQuote) (take k t) ≤ 512
few_quotes t k h = let c = count_by-le-length (is_kind FirmQuote) (take k t) in let n = length-take k t in omega (arith, c, n)

pub quotes_apart : (t : List Standing) (k l : ℕ) → length t ≤ 512 → Numbered t → k < l → l < length t → is_kind FirmQuote (order_at t k) ≡ true → is_kind FirmQuote (order_at t l) ≡ true → (order_at t k).order.agreement ≡ (order_at t l).order.agreement → ⊥
quotes_apart t k l few num h hl qk ql e =
    let nk = num k (omega arith) qk in
    let nl = num l hl ql in
    let lt = quotes_before t k l h hl qk in
    let fk = few_quotes t k few in
    let fl = few_quotes t l few in
    omega (arith, nk, nl, lt, fk, fl, e)

pub searches_single : SearchesSingle
searches_single t o few num single = (single o.counterpart o.unit o.agreement, quotes)
  where
    quotes : One (quoted_for o) t
    quotes k l hk hl pk pl =
        let ak = and_parts (is_kind FirmQuote (order_at t k)) _ pk in
        let al = and_parts (is_kind FirmQuote (order_at t l)) _ pl in
        let bk = and_parts (is_live (order_at t k)) _ ak.1 in
        let bl = and_parts (is_live (order_at t l)) _ al.1 in
        let ck = and_parts (eqb (order_at t k).order.unit o.counterpart) _ bk.1 in
        let cl = and_parts (eqb (order_at t l).order.unit o.counterpart) _ bl.1 in
        let e : (order_at t k).order.agreement ≡ (order_at t l).order.agreement = eqb-true _ _ ck.1 ∙ sym (eqb-true _ _ cl.1) in
        ⊎_elim (λ q. q) (⊎_elim (λ (lt : k < l). absurd (quotes_apart t k l few num lt hl ak.0 al.0 e)) (λ (lt : l < k). absurd (quotes_apart t l k few num lt hk al.0 ak.0 (sym e)))) (cases_order k l)
