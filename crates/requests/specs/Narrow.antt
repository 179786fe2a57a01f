-- Requests in range, with figures of their own width.
--   EntryBounds e, CancelBounds c, PaymentBounds p   the highest that each figure can be
--   cancelling c      the cancel c with its figures
use Rattle.std.specs.Prelude.{◌≤◌}
use Rattle.rules.specs.declared.request.Entry.{Entry}
use Rattle.rules.specs.declared.request.CancelOrder.{CancelOrder}
use Rattle.rules.specs.declared.request.Payment.{Payment}
use Rattle.requests.specs.declared.cancelling.Cancelling.{Cancelling}

pub record EntryBounds (e : Entry) : Type 0 where
  pub unit : e.unit ≤ 999999
  pub serial : e.serial ≤ 99999999
  pub security : e.security ≤ 999999
  pub quantity : e.quantity ≤ 999999999
  pub price : e.price ≤ 99999999
  pub counterpart : e.counterpart ≤ 999999
  pub agreement : e.agreement ≤ 99999999
  pub time : e.time ≤ 86399

pub record CancelBounds (c : CancelOrder) : Type 0 where
  pub unit : c.unit ≤ 999999
  pub serial : c.serial ≤ 99999999
  pub target : c.target ≤ 99999999
  pub time : c.time ≤ 86399

pub record PaymentBounds (p : Payment) : Type 0 where
  pub item : p.item ≤ 999999
  pub time : p.time ≤ 86399

abbrev pub cancelling : CancelOrder → Cancelling
cancelling c = record { sort = c.sort; unit = c.unit; serial = c.serial; target = c.target; time = c.time }
