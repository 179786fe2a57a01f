-- The run of a sheet: the answers to its lines, and the desk at the end.
--   told hs                    what handed-out lines say
--   Did share d k a e          the task k at the desk d is answered a and leaves the desk e
--   Worked share d g ts as e   from the desk d on, with g gathered, the lines ts are answered as and leave the desk e:
--                              their steps run one after the other, every answer is what its line's step had, and
--                              each line has one
--   Answered share d t as e    the same of a whole sheet that is opened as t, or its refusal, which changes nothing
--   LawfulSheet share d ts as e   from a new desk d the lines ts are answered as and leave the desk e, every answer is what
--                              its line's step had, each line has one, and the law of whole runs holds of the steps,
--                              pairs opened included
--   Practised share d t as e   the same of a whole sheet, or its refusal, which changes nothing
use Rattle.std.specs.Prelude.{◌≡◌, List, [], ◌∷◌, length, Ok, Err, vec_items, Result, Vec}
use Rattle.std.specs.declared.alloc.Global.{Global}
use Rattle.ledger.specs.Opening.{Sharing}
use Rattle.rules.specs.declared.security.ListEntry.{ListEntry}
use Rattle.rules.specs.Steps.{Step, Outcome, Desk, Happens, leaves, Ran}
use Rattle.sheet.specs.declared.fault.Fault.{Fault}
use Rattle.sheet.specs.Told.{Told}
use Rattle.sheet.specs.Handing.{Handed}
use Rattle.answers.specs.Answers.{Answer}
use Rattle.whole_runs.specs.Law.{Law}
use Rattle.practice.specs.Tasks.{Task, settled, asks, steps_of, told_as, answers_of}

abbrev pub told : List Handed → List Told
told [] = []
told (h ∷ hs) = h.line ∷ told hs

pub record Stepped (share : Sharing) (d : Desk) (k : Step) (a : Answer) (e : Desk) : Type 0 where
  pub outcome : Outcome
  pub happens : Happens d k outcome
  pub answer : a ≡ told_as k outcome
  pub left : e ≡ leaves share d k outcome

abbrev pub Did : Sharing → Desk → Task → Answer → Desk → Type 0
Did share d (settled b) a e = (a ≡ b) × (e ≡ d)
Did share d (asks k) a e = Stepped share d k a e

pub record Worked (share : Sharing) (d : Desk) (g : List ListEntry) (ts : List Told) (as' : List Answer) (e : Desk) : Type 0 where
  pub outcomes : List Outcome
  pub ran : Ran share d (steps_of g ts) outcomes e
  pub answers : as' ≡ answers_of g ts outcomes
  pub each : length as' ≡ length ts

abbrev pub Answered : Sharing → Desk → Result (List Handed) Fault → Result (Vec Answer Global) Fault → Desk → Type 0
Answered share d (Ok hs) (Ok v) e = Worked share d [] (told hs) (vec_items v) e
Answered share d (Ok hs) (Err f) e = ⊥
Answered share d (Err f) (Ok v) e = ⊥
Answered share d (Err f) (Err h) e = (h ≡ f) × (e ≡ d)

pub record LawfulSheet (share : Sharing) (d : Desk) (ts : List Told) (as' : List Answer) (e : Desk) : Type 0 where
  pub outcomes : List Outcome
  pub answers : as' ≡ answers_of [] ts outcomes
  pub each : length as' ≡ length ts
  pub law : Law share d (steps_of [] ts) outcomes e

abbrev pub Practised : Sharing → Desk → Result (List Handed) Fault → Result (Vec Answer Global) Fault → Desk → Type 0
Practised share d (Ok hs) (Ok v) e = LawfulSheet share d (told hs) (vec_items v) e
Practised share d (Ok hs) (Err f) e = ⊥
Practised share d (Err f) (Ok v) e = ⊥
Practised share d (Err f) (Err h) e = (h ≡ f) × (e ≡ d)
