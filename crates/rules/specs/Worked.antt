-- Worked runs of the rules, each from a floor with one bond listed and one or no quote standing.
--   a_day t      a day with bond 112,001 listed from 1 to 99,999,999, and the table t
--   asks …       an entry of unit 1, serial 1, account 1, at second 34,200
--   quote p      unit 2's quote to sell 10,000 at p
--   click q p    an entry that clicks it, for q at p
--   happens t e  the events of the entry e
--   stands t e   the table after it
--   withdrawn t e   the quantities that its lines cancel
--   Runs         what the rules give in each case
use Rattle.std.specs.Prelude.{◌≡◌, ℕ, true, List, [], ◌∷◌, flat_map, Ok, Err}
use Rattle.ledger.specs.Books.{Book}
use Rattle.market.specs.declared.class.Class.TheVariants.{Bond}
use Rattle.market.specs.declared.kinds.Side.{Side}
use Rattle.market.specs.declared.kinds.Side.TheVariants.{Buy, Sell}
use Rattle.market.specs.declared.kinds.OrderKind.TheVariants.{FirmQuote}
use Rattle.market.specs.declared.kinds.Sort.{Sort}
use Rattle.market.specs.declared.kinds.Sort.TheVariants.{Intention, DealOrder}
use Rattle.market.specs.declared.kinds.CancelReason.TheVariants.{NoQuote, QuoteRest, ClickRest}
use Rattle.market.specs.declared.refusal.Refusal.TheVariants.{BelowLeastSize}
use Rattle.market.specs.Figures.{quantity, price}
use Rattle.rules.specs.declared.event.Event.{Event}
use Rattle.rules.specs.declared.event.Event.TheVariants.{Entered, Dealt, Cancelled}
use Rattle.rules.specs.declared.event.Refused.TheVariants.{Floor}
use Rattle.rules.specs.declared.order.Standing.{Standing}
use Rattle.rules.specs.declared.request.Entry.{Entry as an_entry}
use Rattle.rules.specs.declared.security.Security.{Security}
use Rattle.tape.specs.declared.line.Line.{Line}
use Rattle.tape.specs.declared.line.Line.TheVariants.{Entry, Deal, Cancel, PaidIn, DrawnOut}
use Rattle.rules.specs.State.{State}
use Rattle.rules.specs.Checks.{order_for}
use Rattle.rules.specs.Dealing.{entry_events}
use Rattle.rules.specs.Calls.{enter_answer, entered}
use Rattle.rules.specs.Plain.{plain_entry}

abbrev pub rich : Book
rich a i = record { is_open = true; free = 1000000000000000; held = 0 }

abbrev pub bonds : List Security
bonds = record { code = 112001; class = Bond; low = price 1; high = price 99999999 } ∷ []

abbrev pub a_day : List Standing → State
a_day t =
    record {
      day_open = true;
      last_date = 20110831;
      securities = bonds;
      orders = t;
      cancels = [];
      agreed = [];
      deals = 0;
      book = rich;
      tape = record { date = 20110831; capacity = 2048; lines = [] };
    }

abbrev pub asks : Sort → Side → ℕ → ℕ → ℕ → ℕ → an_entry
asks sort side q p v n = record { sort = sort; side = side; unit = 1; serial = 1; account = 1; security = 112001; quantity = q; price = p; counterpart = v; agreement = n; time = 34200 }

-- unit 2's quote to sell 10,000
abbrev pub quote : ℕ → Standing
quote p =
    record {
      order = record { side = Sell; kind = FirmQuote; unit = 2; serial = 1; account = 2; security = 112001; quantity = quantity 10000; price = price p; counterpart = 0; agreement = 99999999; time = 34200 };
      live = quantity 10000;
    }

abbrev pub click : ℕ → ℕ → an_entry
click q p = asks DealOrder Buy q p 2 99999999

abbrev pub happens : List Standing → an_entry → List Event
happens t e = entry_events bonds t (order_for t e)

abbrev pub stands : List Standing → an_entry → List Standing
stands t e = plain_entry (record { securities = bonds; orders = t }) (order_for t e)

abbrev pub cancelled_by : Line → List ℕ
cancelled_by (Entry l) = []
cancelled_by (Deal l n) = []
cancelled_by (Cancel l why) = l.quantity.number ∷ []
cancelled_by (PaidIn p) = []
cancelled_by (DrawnOut p) = []

abbrev pub withdrawn : List Standing → an_entry → List ℕ
withdrawn t e = flat_map cancelled_by (entered (a_day t) e).tape.lines

abbrev pub with_live : Standing → ℕ → Standing
with_live x n = record { order = x.order; live = quantity n }

abbrev pub as_live : List Standing → an_entry → ℕ → Standing
as_live t e n = record { order = order_for t e; live = quantity n }

pub record Runs : Type 0 where
  pub by_quantity : enter_answer (a_day []) (asks Intention Buy 5000 90000 0 0) ≡ Ok tt
  pub by_amount : enter_answer (a_day []) (asks Intention Buy 4900 110000 0 0) ≡ Ok tt
  pub too_small : enter_answer (a_day []) (asks Intention Buy 4900 100000 0 0) ≡ Err (Floor BelowLeastSize)
  pub rest_stands : happens (quote 100000 ∷ []) (click 5000 100000) ≡ Entered (order_for (quote 100000 ∷ []) (click 5000 100000)) ∷ (Dealt 1 0 (quantity 5000) 34200 ∷ [])
  pub five_thousand_stay : stands (quote 100000 ∷ []) (click 5000 100000) ≡ with_live (quote 100000) 5000 ∷ (as_live (quote 100000 ∷ []) (click 5000 100000) 0 ∷ [])
  pub part_taken : enter_answer (a_day (quote 100000 ∷ [])) (click 5000 100000) ≡ Ok tt
  pub most_taken : enter_answer (a_day (quote 100000 ∷ [])) (click 6000 100000) ≡ Ok tt
  pub more_taken : enter_answer (a_day (quote 100000 ∷ [])) (click 16000 100000) ≡ Ok tt
  pub four_thousand_cancelled : withdrawn (quote 100000 ∷ []) (click 6000 100000) ≡ 4000 ∷ []
  pub six_thousand_cancelled : withdrawn (quote 100000 ∷ []) (click 16000 100000) ≡ 6000 ∷ []
  pub rest_cancelled : happens (quote 100000 ∷ []) (click 6000 100000) ≡ Entered (order_for (quote 100000 ∷ []) (click 6000 100000)) ∷ (Dealt 1 0 (quantity 6000) 34200 ∷ (Cancelled 0 QuoteRest 34200 ∷ []))
  pub click_too_large : happens (quote 100000 ∷ []) (click 16000 100000) ≡ Entered (order_for (quote 100000 ∷ []) (click 16000 100000)) ∷ (Dealt 1 0 (quantity 10000) 34200 ∷ (Cancelled 1 ClickRest 34200 ∷ []))
  pub amount_taken : enter_answer (a_day (quote 110000 ∷ [])) (click 5100 110000) ≡ Ok tt
  pub none_cancelled : withdrawn (quote 110000 ∷ []) (click 5100 110000) ≡ []
  pub rest_by_amount : stands (quote 110000 ∷ []) (click 5100 110000) ≡ with_live (quote 110000) 4900 ∷ (as_live (quote 110000 ∷ []) (click 5100 110000) 0 ∷ [])
  pub no_such_quote : happens [] (asks DealOrder Buy 5000 100000 2 1000000) ≡ Entered (order_for [] (asks DealOrder Buy 5000 100000 2 1000000)) ∷ (Cancelled 0 NoQuote 34200 ∷ [])
  pub waits : happens [] (asks DealOrder Buy 5000 100000 2 999999) ≡ Entered (order_for [] (asks DealOrder Buy 5000 100000 2 999999)) ∷ []
