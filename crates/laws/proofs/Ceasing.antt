-- What follows from a cancel and from the close.
use Rattle.std.proofs.Common.{◌≡◌, ℕ, suc, ◌+◌, ◌<◌, Bool, true, false, cond, not, List, [], ◌∷◌, length, map, filter, is_some, Ok, Some, None, Option, sym, refl, ap, ◌∙◌, arith}
use Rattle.std.specs.List.{range_with_len}
use Rattle.market.specs.declared.kinds.CancelReason.TheVariants.{Close}
use Rattle.market.specs.declared.refusal.Refusal.TheVariants.{DayNotOpen, OutOfRange, SerialUsed}
use Rattle.rules.specs.declared.event.Event.{Event}
use Rattle.rules.specs.declared.event.Event.TheVariants.{Cancelled}
use Rattle.rules.specs.declared.order.Standing.{Standing}
use Rattle.rules.specs.declared.request.CancelOrder.{CancelOrder}
use Rattle.rules.specs.State.{State}
use Rattle.rules.specs.Orders.{order_at, is_live}
use Rattle.rules.specs.Checks.{cancel_in_range, serial_used}
use Rattle.rules.specs.Dealing.{cancel_events, close_from}
use Rattle.rules.specs.Calls.{found_answer, target_of}
use Rattle.laws.specs.Dealings.{CancelLaw, CloseLaw}
use Rattle.laws.proofs.Accepting.{passed, not_ok}

is_found : (s : State) (c : CancelOrder) (r : Option ℕ) → found_answer s c r ≡ Ok tt → is_some r ≡ true
is_found s c None h = absurd (not_ok _ h)
is_found s c (Some k) h = refl

pub cancel_law : CancelLaw
cancel_law s c h =
    let a = passed s.day_open DayNotOpen _ h in
    let b = passed (cancel_in_range c) OutOfRange _ a.then in
    let d = passed (not (serial_used s c.unit c.serial)) SerialUsed _ b.then in
    record { found = is_found s c (target_of s c) d.then; follows = λ k e. ap (λ (r : Option ℕ). cancel_events r c.time) e }

abbrev at_close : ℕ → Event
at_close k = Cancelled k Close 55800

one_more : (b : Bool) (k : ℕ) (es : List Event) (ks : List ℕ) → es ≡ map at_close ks → cond b (at_close k ∷ es) es ≡ map at_close (cond b (k ∷ ks) ks)
one_more true k es ks h = ap (λ (x : List Event). at_close k ∷ x) h
one_more false k es ks h = h

-- from the place n on, where p says which places are live
from_place : (p : ℕ → Bool) (t : List Standing) (n : ℕ) → ((j : ℕ) → j < length t → p (n + j) ≡ is_live (order_at t j)) → close_from n t ≡ map at_close (filter p (range_with_len n (length t)))
from_place p [] n h = refl
from_place p (x ∷ xs) n h =
    let rest : List ℕ = filter p (range_with_len (suc n) (length xs)) in
    one_more (is_live x) n (close_from (suc n) xs) rest (from_place p xs (suc n) (λ j l. ap p (omega arith) ∙ h (suc j) (omega (arith, l))))
    ∙ ap (λ (v : Bool). map at_close (cond v (n ∷ rest) rest)) (sym (ap p (omega arith) ∙ h 0 (omega arith)))
    ∙ ap (λ (m : ℕ). map at_close (filter p (n ∷ range_with_len m (length xs)))) (omega arith)

pub close_law : CloseLaw
close_law t = from_place (λ k. is_live (order_at t k)) t 0 (λ j l. ap (λ (k : ℕ). is_live (order_at t k)) (omega arith))
