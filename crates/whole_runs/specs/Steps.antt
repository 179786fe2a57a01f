-- What a run of steps was granted, which calls it had, and with which book its last day began.
--   GrantedStep s k o      no move and no line inside the step k was refused, if it was accepted
--   GrantedRun share d ks os   so it is with every step of a run
--   acts_in ks              the calls among the steps
--   verdicts ks os          which of them were accepted
--   begun s k o b           the book as the last accepted opening began, once the step k has had the outcome o
--   opening_book share d b ks os   the same for a run
use Rattle.std.specs.Prelude.{Bool, List, [], ◌∷◌, is_ok, Some, Ok, Err, Option}
use Rattle.ledger.specs.Books.{Book}
use Rattle.ledger.specs.Opening.{Sharing}
use Rattle.rules.specs.State.{State}
use Rattle.rules.specs.Plain.{Act, opens, enters, cancels, pays_in, draws_out, closes}
use Rattle.rules.specs.Steps.{Step, call, pair, Outcome, replied, moved, Desk, leaves}
use Rattle.whole_runs.specs.Granting.{GrantedAct}

abbrev pub was_accepted : Outcome → Bool
was_accepted (replied r) = is_ok r
was_accepted (moved r) = is_ok r

abbrev pub GrantedStep : State → Step → Outcome → Type 0
GrantedStep s (call a) (replied (Ok n)) = GrantedAct s a
GrantedStep s (call a) (replied (Err e)) = Unit {0}
GrantedStep s (call a) (moved r) = Unit {0}
GrantedStep s (pair a i) o = Unit {0}

abbrev pub GrantedRun : Sharing → Desk → List Step → List Outcome → Type 0
GrantedRun share d [] os = Unit {0}
GrantedRun share d (k ∷ ks) [] = Unit {0}
GrantedRun share d (k ∷ ks) (o ∷ os) = GrantedStep d.state k o × GrantedRun share (leaves share d k o) ks os

abbrev pub acts_in : List Step → List Act
acts_in [] = []
acts_in (call a ∷ ks) = a ∷ acts_in ks
acts_in (pair a i ∷ ks) = acts_in ks

abbrev pub verdicts : List Step → List Outcome → List Bool
verdicts [] os = []
verdicts (k ∷ ks) [] = []
verdicts (call a ∷ ks) (o ∷ os) = was_accepted o ∷ verdicts ks os
verdicts (pair a i ∷ ks) (o ∷ os) = verdicts ks os

-- an accepted opening begins with the book as it is
abbrev pub begun_by : State → Act → Option Book → Option Book
begun_by s (opens d es) b = Some s.book
begun_by s (enters e) b = b
begun_by s (cancels c) b = b
begun_by s (pays_in p) b = b
begun_by s (draws_out p) b = b
begun_by s closes b = b

abbrev pub begun : State → Step → Outcome → Option Book → Option Book
begun s (call a) (replied (Ok n)) b = begun_by s a b
begun s (call a) (replied (Err e)) b = b
begun s (call a) (moved r) b = b
begun s (pair a i) o b = b

abbrev pub opening_book : Sharing → Desk → Option Book → List Step → List Outcome → Option Book
opening_book share d b [] os = b
opening_book share d b (k ∷ ks) [] = b
opening_book share d b (k ∷ ks) (o ∷ os) = opening_book share (leaves share d k o) (begun d.state k o b) ks os
