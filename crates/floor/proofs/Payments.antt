-- Payments: the checks, and then what the ledger says.
use Rattle.std.proofs.Common.{◌≡◌, ℕ, Ok, Err, ap, ◌∙◌}
use Rattle.ledger.specs.Moves.{Answer as Moved}
use Rattle.market.specs.declared.refusal.Refusal.{Refusal}
use Rattle.tape.specs.declared.line.PaymentLine.{PaymentLine}
use Rattle.rules.specs.declared.event.Refused.TheVariants.{Ledger}
use Rattle.rules.specs.declared.event.Event.{Event}
use Rattle.rules.specs.declared.request.Payment.{Payment}
use Rattle.rules.specs.Calls.{Answer, payment_line, paying_answer, by_ledger}
use Rattle.rules.specs.Effects.{effect}
use Rattle.rules.specs.Replies.{counted}
use Rattle.rules.specs.State.{State}
use Rattle.floor_day.specs.Parts.{paying_checks}
use Rattle.floor_day.proofs.Answering.{paying_passed}

-- what the move answers, by account, item and sum
abbrev Asked : Type 0
Asked = ℕ → ℕ → ℕ → Moved

asked : (f : Asked) (p : Payment) (l : PaymentLine) (m : Moved) → l ≡ payment_line p → m ≡ f l.account l.item l.sum → m ≡ f p.account p.item p.sum
asked f p l m el em = em ∙ ap (λ (z : PaymentLine). f z.account z.item z.sum) el

pub ledger_refused : (s : State) (p : Payment) (f : Asked) (l : PaymentLine) (e : Refusal) (n : ℕ) → Ok tt ≡ paying_checks s.day_open s.orders s.tape p → l ≡ payment_line p →
    Err e ≡ f l.account l.item l.sum → Err (Ledger e l.item) ≡ counted (paying_answer s p (f p.account p.item p.sum)) n
ledger_refused s p f l e n ok el em =
    ap (λ (z : PaymentLine). Err (Ledger e z.item)) el
    ∙ ap (λ (m : Moved). counted (by_ledger p.item m) n) (asked f p l (Err e) el em)
    ∙ ap (λ (a : Answer). counted a n) (paying_passed s p (f p.account p.item p.sum) ok)

pub ledger_granted : (s : State) (p : Payment) (f : Asked) (l : PaymentLine) → Ok tt ≡ paying_checks s.day_open s.orders s.tape p → l ≡ payment_line p →
    Ok tt ≡ f l.account l.item l.sum → Ok tt ≡ paying_answer s p (f p.account p.item p.sum)
ledger_granted s p f l ok el em =
    ap (by_ledger p.item) (asked f p l (Ok tt) el em) ∙ paying_passed s p (f p.account p.item p.sum) ok

pub told_line : (s w : State) (event : PaymentLine → Event) (p : Payment) (l : PaymentLine) → l ≡ payment_line p → w ≡ effect s (event l) → w ≡ effect s (event (payment_line p))
told_line s w event p l el ew = ew ∙ ap (λ (z : PaymentLine). effect s (event z)) el
