-- What a line of a sheet sets to do.
--   Task             the sheet alone answers the line, or it asks for a step
--   task g t         the task of a line that says t, with the securities g gathered
--   gathers g t      what is gathered behind the line; an opening takes all, whether or not it is accepted
--   steps_of g ts    the steps that the lines ts ask for, in their sequence, with g gathered before the first
--   told_as k o      what a line is answered whose step k had the outcome o
--   answers_of g ts os   what the lines ts are answered if their steps have the outcomes os
use Rattle.std.specs.Prelude.{ℕ, List, [], ◌∷◌, Ok, Err}
use Rattle.ledger.specs.Moves.{Answer as Moved}
use Rattle.rules.specs.declared.security.ListEntry.{ListEntry}
use Rattle.rules.specs.Plain.{opens, enters, cancels, pays_in, draws_out, closes}
use Rattle.rules.specs.Replies.{Reply}
use Rattle.rules.specs.Steps.{Step, call, pair, Outcome, replied, moved}
use Rattle.sheet.specs.declared.line.SetUp.{SetUp}
use Rattle.sheet.specs.declared.line.SetUp.TheVariants.{OpenPair, OpenDay, CloseDay, Security, PayIn, DrawOut}
use Rattle.sheet.specs.Told.{Told, order, cancel, set_up, refused}
use Rattle.answers.specs.Answers.{Answer, sheet_refused, call_refused}
use Rattle.answers.specs.declared.answer.NotDone.TheVariants.{Pair}
use Rattle.practice.specs.Requests.{entry_of, cancel_of, payment_of}
use Rattle.practice.specs.Gathering.{gather_answer, gather_after}

pub data Task : Type 0 where
  settled : Answer → Task
  asks : Step → Task

abbrev pub set_up_task : List ListEntry → SetUp → Task
set_up_task g (OpenPair a i) = asks (pair a i)
set_up_task g (OpenDay d) = asks (call (opens d g))
set_up_task g CloseDay = asks (call closes)
set_up_task g (Security c k l h) = settled (gather_answer g c k l h)
set_up_task g (PayIn a i n t) = asks (call (pays_in (payment_of a i n t)))
set_up_task g (DrawOut a i n t) = asks (call (draws_out (payment_of a i n t)))

abbrev pub task : List ListEntry → Told → Task
task g (order o t c) = asks (call (enters (entry_of o)))
task g (cancel x t) = asks (call (cancels (cancel_of x)))
task g (set_up s t) = set_up_task g s
task g (refused e) = settled (Err (sheet_refused e))

abbrev pub set_up_gathers : List ListEntry → SetUp → List ListEntry
set_up_gathers g (OpenPair a i) = g
set_up_gathers g (OpenDay d) = []
set_up_gathers g CloseDay = g
set_up_gathers g (Security c k l h) = gather_after g c k l h
set_up_gathers g (PayIn a i n t) = g
set_up_gathers g (DrawOut a i n t) = g

abbrev pub gathers : List ListEntry → Told → List ListEntry
gathers g (order o t c) = g
gathers g (cancel x t) = g
gathers g (set_up s t) = set_up_gathers g s
gathers g (refused e) = g

abbrev pub with_task : Task → List Step → List Step
with_task (settled a) ks = ks
with_task (asks k) ks = k ∷ ks

abbrev pub steps_of : List ListEntry → List Told → List Step
steps_of g [] = []
steps_of g (t ∷ ts) = with_task (task g t) (steps_of (gathers g t) ts)

abbrev pub reply_told : Reply → Answer
reply_told (Ok n) = Ok n
reply_told (Err e) = Err (call_refused e)

abbrev pub move_told : Moved → ℕ → Answer
move_told (Ok x) i = Ok 0
move_told (Err e) i = Err (Pair e i)

abbrev pub told_as : Step → Outcome → Answer
told_as (call a) (replied r) = reply_told r
told_as (call a) (moved r) = move_told r 0
told_as (pair a i) (replied r) = reply_told r
told_as (pair a i) (moved r) = move_told r i

-- a step without an outcome ends the list: there is none in a run
abbrev pub with_outcome : Task → List Outcome → (List Outcome → List Answer) → List Answer
with_outcome (settled a) os rest = a ∷ rest os
with_outcome (asks k) [] rest = []
with_outcome (asks k) (o ∷ os) rest = told_as k o ∷ rest os

abbrev pub answers_of : List ListEntry → List Told → List Outcome → List Answer
answers_of g [] os = []
answers_of g (t ∷ ts) os = with_outcome (task g t) os (answers_of (gathers g t) ts)
