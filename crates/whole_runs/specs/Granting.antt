-- What is granted inside a call: every move by the ledger, every line by the tape.
--   Appended ls c     the tape takes the lines, one behind the other
--   Granted s e       so it is with the lines of the event e, and the ledger grants its moves
--   GrantedAll s es  so it is with each event of a list, after those before it
--   GrantedAct s a   so it is inside the act a, if it is accepted
use Rattle.std.specs.Prelude.{◌≡◌, ◌+◌, List, [], ◌∷◌, Ok}
use Rattle.tape.specs.declared.line.Line.{Line}
use Rattle.tape.specs.Tapes.{Contents, begin_answer, append_answer, append_after}
use Rattle.rules.specs.declared.event.Event.{Event}
use Rattle.rules.specs.declared.event.Event.TheVariants.{PaidIn, DrawnOut}
use Rattle.rules.specs.State.{State}
use Rattle.rules.specs.Checks.{order_for}
use Rattle.rules.specs.Dealing.{entry_events, cancel_events, close_events}
use Rattle.rules.specs.Effects.{lines_of, effect}
use Rattle.rules.specs.Calls.{target_of, with_cancel, payment_line}
use Rattle.rules.specs.Plain.{Act, opens, enters, cancels, pays_in, draws_out, closes}
use Rattle.laws.specs.Sound.{Moved}

abbrev pub Appended : List Line → Contents → Type 0
Appended [] c = Unit {0}
Appended (l ∷ ls) c = (append_answer l c ≡ Ok tt) × Appended ls (append_after l c)

pub record Granted (s : State) (e : Event) : Type 0 where
  pub moved : Moved e s.orders s.book
  pub appended : Appended (lines_of e s.orders (s.deals + 1)) s.tape

abbrev pub GrantedAll : State → List Event → Type 0
GrantedAll s [] = Unit {0}
GrantedAll s (e ∷ es) = Granted s e × GrantedAll (effect s e) es

abbrev pub GrantedAct : State → Act → Type 0
GrantedAct s (opens d es) = begin_answer d ≡ Ok tt
GrantedAct s (enters e) = GrantedAll s (entry_events s.securities s.orders (order_for s.orders e))
GrantedAct s (cancels c) = GrantedAll (with_cancel s c) (cancel_events (target_of s c) c.time)
GrantedAct s (pays_in p) = GrantedAll s (PaidIn (payment_line p) ∷ [])
GrantedAct s (draws_out p) = GrantedAll s (DrawnOut (payment_line p) ∷ [])
GrantedAct s closes = GrantedAll s (close_events s.orders)
