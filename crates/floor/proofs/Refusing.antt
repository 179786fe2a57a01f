-- What the exits of a call come to.
use Rattle.std.proofs.Common.{◌≡◌, ℕ, List, IsErrAnd, Ok, Err, sym, refl, ap, ◌∙◌, subst}
use Rattle.rules.specs.declared.event.Refused.{Refused}
use Rattle.rules.specs.declared.security.ListEntry.{ListEntry}
use Rattle.rules.specs.Calls.{Answer, open_answer}
use Rattle.rules.specs.Replies.{Reply, counted, left_by, entry_named, PointsAtFault}
use Rattle.rules.specs.State.{State}

-- a refused call: its reply, and that nothing is changed
pub refusing : (r : Reply) (e : Refused) (a : Answer) (n : ℕ) (s t : State) → IsErrAnd r (λ y. y ≡ e) → Err e ≡ a → (r ≡ counted a n) × (s ≡ left_by r s t)
refusing (Ok x) e a n s t q p = absurd q
refusing (Err y) e a n s t q p = (ap Err q ∙ ap (λ (b : Answer). counted b n) p, refl)

-- a refused opening, and the entry that it points at
pub opening_refused : (r : Reply) (e : Refused) (s : State) (d : ℕ) (es : List ListEntry) (t : State) → IsErrAnd r (λ y. y ≡ e) →
    Err e ≡ open_answer s d es (entry_named (Err e)) → PointsAtFault (Err e) es →
    (r ≡ counted (open_answer s d es (entry_named r)) 0) × PointsAtFault r es × (s ≡ left_by r s t)
opening_refused (Ok x) e s d es t q p f = absurd q
opening_refused (Err y) e s d es t q p f = (
  subst (λ (z : Refused). Err z ≡ counted (open_answer s d es (entry_named (Err z))) 0) (sym q) (ap (λ (b : Answer). counted b 0) p),
  subst (λ (z : Refused). PointsAtFault (Err z) es) (sym q) f,
  refl,
)
