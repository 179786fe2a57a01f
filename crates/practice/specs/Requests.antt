-- A line of a sheet as a request to the floor: the same figures, none judged.
--   entry_of o            the entry that the order o asks for
--   cancel_of x           the cancel that x asks for
--   payment_of a i n t    the payment of n of item i, for account a at time t
use Rattle.std.specs.Prelude.{ℕ}
use Rattle.rules.specs.declared.request.Entry.{Entry}
use Rattle.rules.specs.declared.request.CancelOrder.{CancelOrder}
use Rattle.rules.specs.declared.request.Payment.{Payment}
use Rattle.sheet.specs.declared.line.Order.{Order}
use Rattle.sheet.specs.declared.line.Cancel.{Cancel}

abbrev pub entry_of : Order → Entry
entry_of o =
    record {
      sort = o.sort;
      side = o.side;
      unit = o.unit;
      serial = o.serial;
      account = o.account;
      security = o.code;
      quantity = o.quantity;
      price = o.price;
      counterpart = o.counterpart;
      agreement = o.number;
      time = o.time;
    }

abbrev pub cancel_of : Cancel → CancelOrder
cancel_of x = record { sort = x.sort; unit = x.unit; serial = x.serial; target = x.target; time = x.time }

abbrev pub payment_of : ℕ → ℕ → ℕ → ℕ → Payment
payment_of a i n t = record { account = a; item = i; sum = n; time = t }
