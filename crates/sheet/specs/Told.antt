-- What a line of a sheet says.
--   Told          a line as it is handed out: an order, a cancel, a set_up line or a fault; the first three
--                 with the text of their fields, an order also with its contact text
--   line_says l   what the line l, which borrows its texts from the sheet, says
--   says r        the same of a line that was read, or its fault
--   order_of s d ns, cancel_of s ns, set_up_of k ns   what a line is that has the figures ns
--   meaning f ns t c   what a line of the form f says, with the figures ns, the fields' text t and the contact c
use Rattle.std.specs.Prelude.{ℕ, List, slice_index, Ok, Err, Result}
use Rattle.market.specs.declared.kinds.Side.{Side}
use Rattle.market.specs.declared.kinds.Sort.{Sort}
use Rattle.market.specs.declared.kinds.Sort.TheVariants.{Intention, FirmQuote, DealOrder}
use Rattle.sheet.specs.declared.fault.Fault.{Fault}
use Rattle.sheet.specs.declared.line.Order.{Order}
use Rattle.sheet.specs.declared.line.Cancel.{Cancel}
use Rattle.sheet.specs.declared.line.SetUp.{SetUp}
use Rattle.sheet.specs.declared.line.SetUp.TheVariants.{OpenPair, OpenDay, CloseDay, Security, PayIn, DrawOut}
use Rattle.sheet.specs.declared.line.Line.{Line}
use Rattle.sheet.specs.declared.line.Line.TheVariants.{Order as an_order, Cancel as a_cancel, SetUp as a_set_up}
use Rattle.sheet.specs.declared.codes.Form.{Form}
use Rattle.sheet.specs.declared.codes.Form.TheVariants.{SetUp as set_ups, Order as orders, Cancel as cancels}
use Rattle.sheet.specs.declared.codes.SetUpForm.{SetUpForm}
use Rattle.sheet.specs.declared.codes.SetUpForm.TheVariants.{OpenPair as pairs, OpenDay as days, CloseDay as closes, Security as securities, PayIn as pay_in, DrawOut as draw_out}

pub data Told : Type 0 where
  order : Order → List ℕ → List ℕ → Told
  cancel : Cancel → List ℕ → Told
  set_up : SetUp → List ℕ → Told
  refused : Fault → Told

abbrev pub line_says : Line → Told
line_says (an_order o t c) = order o t.now c.now
line_says (a_cancel x t) = cancel x t.now
line_says (a_set_up s t) = set_up s t.now

abbrev pub says : Result Line Fault → Told
says (Ok l) = line_says l
says (Err e) = refused e

-- the figure at a place, from 0
abbrev pub at : List ℕ → ℕ → ℕ
at ns k = slice_index ns k

abbrev pub order_of : Sort → Side → List ℕ → Order
order_of Intention d ns = record { sort = Intention; side = d; unit = at ns 0; serial = at ns 1; account = at ns 2; code = at ns 3; quantity = at ns 4; price = at ns 5; counterpart = 0; number = 0; time = at ns 6 }
order_of FirmQuote d ns = record { sort = FirmQuote; side = d; unit = at ns 0; serial = at ns 1; account = at ns 2; code = at ns 3; quantity = at ns 4; price = at ns 5; counterpart = 0; number = 0; time = at ns 6 }
order_of DealOrder d ns = record { sort = DealOrder; side = d; unit = at ns 0; serial = at ns 1; account = at ns 2; code = at ns 3; quantity = at ns 4; price = at ns 5; counterpart = at ns 6; number = at ns 7; time = at ns 8 }

abbrev pub cancel_of : Sort → List ℕ → Cancel
cancel_of s ns = record { sort = s; unit = at ns 0; serial = at ns 1; target = at ns 2; time = at ns 3 }

abbrev pub set_up_of : SetUpForm → List ℕ → SetUp
set_up_of pairs ns = OpenPair (at ns 0) (at ns 1)
set_up_of days ns = OpenDay (at ns 0)
set_up_of closes ns = CloseDay
set_up_of securities ns = Security (at ns 0) (at ns 1) (at ns 2) (at ns 3)
set_up_of pay_in ns = PayIn (at ns 0) (at ns 1) (at ns 2) (at ns 3)
set_up_of draw_out ns = DrawOut (at ns 0) (at ns 1) (at ns 2) (at ns 3)

abbrev pub meaning : Form → List ℕ → List ℕ → List ℕ → Told
meaning (set_ups k) ns t c = set_up (set_up_of k ns) t
meaning (orders s d) ns t c = order (order_of s d ns) t c
meaning (cancels s) ns t c = cancel (cancel_of s ns) t
