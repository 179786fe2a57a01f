-- Calls, as the rules hear them.
--   act_of c          the act of the call c
--   steps_of cs       the steps of a list of calls
--   outcomes_of rs    their outcomes, if they were replied rs
--   no_sharing        no pair is opened, so that no items share places for one
use Rattle.std.specs.Prelude.{false, List, map, vec_items}
use Rattle.ledger.specs.Opening.{Sharing}
use Rattle.rules.specs.Replies.{Reply}
use Rattle.rules.specs.Steps.{Step, call, Outcome, replied}
use Rattle.rules.specs.Plain.{Act, opens, enters, cancels, pays_in, draws_out, closes}
use Rattle.runs.specs.declared.call.Call.{Call}
use Rattle.runs.specs.declared.call.Call.TheVariants.{Open, Enter, Cancel, PayIn, DrawOut, Close}

abbrev pub act_of : Call → Act
act_of (Open o) = opens o.date (vec_items o.securities)
act_of (Enter e) = enters e
act_of (Cancel c) = cancels c
act_of (PayIn p) = pays_in p
act_of (DrawOut p) = draws_out p
act_of Close = closes

abbrev pub step_of : Call → Step
step_of c = call (act_of c)

abbrev pub steps_of : List Call → List Step
steps_of cs = map step_of cs

abbrev pub outcomes_of : List Reply → List Outcome
outcomes_of rs = map replied rs

abbrev pub no_sharing : Sharing
no_sharing i j = false
