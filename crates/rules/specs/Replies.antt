-- The six calls as one: what a call is replied, and what it leaves.
--   Reply            how many lines an accepted call wrote, or why the call is refused
--   counted r n      the reply to a call that is answered r and writes n lines
--   more_lines s t   how many lines the tape of t has more than that of s
--   entry_named r    the entry of the list that a reply points at, else 0
--   PointsAtFault r es   the entry that it points at, if any, is a faulty one of the list es
--   left_by r s t    t after an accepted call, s after a refused one
--   accepted s a     the floor s after the act a, if it is accepted
--   Replied s a r    r is what the rules give for the act a
use Rattle.std.specs.Prelude.{◌≡◌, ℕ, ◌-◌, List, length, Ok, Err, Result}
use Rattle.rules.specs.declared.event.Refused.{Refused}
use Rattle.rules.specs.declared.event.Refused.TheVariants.{Floor, List as list_refused, Ledger}
use Rattle.rules.specs.declared.security.ListEntry.{ListEntry}
use Rattle.rules.specs.Listing.{Faulty}
use Rattle.rules.specs.State.{State}
use Rattle.rules.specs.Calls.{Answer, open_answer, opened, enter_answer, entered, cancel_answer, cancelled, pay_in_reply, paid_in, draw_out_reply, drawn_out, close_answer, closed}
use Rattle.rules.specs.Plain.{Act, opens, enters, cancels, pays_in, draws_out, closes}

abbrev pub Reply : Type 0
Reply = Result ℕ Refused

abbrev pub counted : Answer → ℕ → Reply
counted (Ok x) n = Ok n
counted (Err e) n = Err e

abbrev pub more_lines : State → State → ℕ
more_lines s t = length t.tape.lines - length s.tape.lines

abbrev pub entry_named : Reply → ℕ
entry_named (Ok n) = 0
entry_named (Err (Floor e)) = 0
entry_named (Err (list_refused k)) = k
entry_named (Err (Ledger e i)) = 0

abbrev pub PointsAtFault : Reply → List ListEntry → Type 0
PointsAtFault (Ok n) es = Unit {0}
PointsAtFault (Err (Floor e)) es = Unit {0}
PointsAtFault (Err (list_refused k)) es = Faulty es k
PointsAtFault (Err (Ledger e i)) es = Unit {0}

abbrev pub left_by : Reply → State → State → State
left_by (Ok n) s t = t
left_by (Err e) s t = s

abbrev pub accepted : State → Act → State
accepted s (opens d es) = opened s d es
accepted s (enters e) = entered s e
accepted s (cancels c) = cancelled s c
accepted s (pays_in p) = paid_in s p
accepted s (draws_out p) = drawn_out s p
accepted s closes = closed s

-- an opening writes no line; which entry a faulty list is refused for is told by a description
abbrev pub Replied : State → Act → Reply → Type 0
Replied s (opens d es) r = (r ≡ counted (open_answer s d es (entry_named r)) 0) × PointsAtFault r es
Replied s (enters e) r = r ≡ counted (enter_answer s e) (more_lines s (entered s e))
Replied s (cancels c) r = r ≡ counted (cancel_answer s c) (more_lines s (cancelled s c))
Replied s (pays_in p) r = r ≡ counted (pay_in_reply s p) (more_lines s (paid_in s p))
Replied s (draws_out p) r = r ≡ counted (draw_out_reply s p) (more_lines s (drawn_out s p))
Replied s closes r = r ≡ counted (close_answer s) (more_lines s (closed s))
