-- The law of whole runs.
--   Kept b s     what holds of a floor whose last day began with the book b
--   Law          what holds of every run from a new floor: how it was told, that all was granted, that the
--                table is the plain day's, and what is kept since the last accepted opening
--   new_desk     a desk before its first day
--   LawfulRuns  every run that is told has the law
--   RefusalsLeave   a refused call changes nothing
use Rattle.std.specs.Prelude.{◌≡◌, ℕ, ◌+◌, ◌<◌, ◌≤◌, true, List, [], length, IfSome, None, Err}
use Rattle.ledger.specs.Books.{Book, Room, Lawful}
use Rattle.ledger.specs.Opening.{Sharing}
use Rattle.tape.specs.Tapes.{Contents}
use Rattle.tape.specs.Nets.{coming, going}
use Rattle.rules.specs.declared.event.Refused.{Refused}
use Rattle.rules.specs.declared.order.Order.{Order}
use Rattle.rules.specs.State.{State, new_floor}
use Rattle.rules.specs.Orders.{order_at, needed, live_count}
use Rattle.rules.specs.Dealing.{waits_for, quoted_for}
use Rattle.rules.specs.Steps.{Step, call, Outcome, replied, Desk, leaves, Ran}
use Rattle.rules.specs.Plain.{Day, Act, plain_day}
use Rattle.laws.specs.Accepted.{day}
use Rattle.laws.specs.Sound.{Distinct, Whole}
use Rattle.laws.specs.First.{ToldFirst}
use Rattle.laws.specs.Paired.{Paired}
use Rattle.laws.specs.Plainly.{One}
use Rattle.laws.specs.Dealings.{QuotesNumbered}
use Rattle.laws.specs.Sized.{all_sized}
use Rattle.laws.specs.Agreed.{Agreed}
use Rattle.whole_runs.specs.Steps.{GrantedRun, acts_in, verdicts, opening_book}

pub record Kept (b : Book) (s : State) : Type 0 where
  -- what is held is what live orders need
  pub holds : (a i : ℕ) → (s.book a i).held ≡ needed s.orders a i
  -- free and held are what the day began with, and what came, less what went
  pub balances : (a i : ℕ) → (s.book a i).free + (s.book a i).held + going s.tape.lines a i ≡ (b a i).free + (b a i).held + coming s.tape.lines a i
  -- the lines of an order deal and cancel its quantity but for what is live
  pub whole : (k : ℕ) → k < length s.orders → Whole (day s) (order_at s.orders k)
  -- it has one entry line, and that comes first
  pub first : (k : ℕ) → k < length s.orders → ToldFirst (day s) (order_at s.orders k)
  -- each deal number stands in one buying and one selling line, which agree
  pub paired : Paired (day s)
  -- no two orders have one name, and no two answer one search
  pub distinct : Distinct s.orders
  pub waiting : (o : Order) → One (waits_for o) s.orders
  pub quoting : (o : Order) → One (quoted_for o) s.orders
  -- the numbers of firm quotes differ, and none is below 1,000,000
  pub quotes : QuotesNumbered s.orders
  -- every deal reaches the least size of its class
  pub sized : all_sized s.securities s.tape.lines ≡ true
  -- no two units have dealt twice under one number
  pub agreed : Agreed s.agreed s.tape.lines
  -- places and lines are left for the cancel of every live order
  pub places : live_count s.orders + (length s.orders + length s.cancels) ≤ 512
  pub lines : live_count s.orders + length s.tape.lines ≤ s.tape.capacity

-- a day before any
abbrev pub no_day : Day
no_day = record { securities = []; orders = [] }

abbrev pub plainly : State → Day
plainly s = record { securities = s.securities; orders = s.orders }

-- a desk before its first day: a new floor, and the room of its ledger
abbrev pub new_desk : Book → Room → Contents → Desk
new_desk m room t = record { state = new_floor m t; room = room }

pub record Law (share : Sharing) (new : Desk) (steps : List Step) (outcomes : List Outcome) (after : Desk) : Type 0 where
  pub told : Ran share new steps outcomes after
  pub granted : GrantedRun share new steps outcomes
  pub plain : plainly after.state ≡ plain_day no_day (acts_in steps) (verdicts steps outcomes)
  pub kept : IfSome (opening_book share new None steps outcomes) (λ b. Kept b after.state)

abbrev pub LawfulRuns : Type 0
LawfulRuns = (share : Sharing) (m : Book) (room : Room) (t : Contents) (steps : List Step) (outcomes : List Outcome) (after : Desk) → Lawful m → Ran share (new_desk m room t) steps outcomes after → Law share (new_desk m room t) steps outcomes after

-- a refused call changes nothing
abbrev pub RefusalsLeave : Type 0
RefusalsLeave = (share : Sharing) (d : Desk) (a : Act) (e : Refused) → leaves share d (call a) (replied (Err e)) ≡ d
