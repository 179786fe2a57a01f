-- The numbers of sides, order kinds, sorts and cancel reasons, and the way back.
--   side_number s, kind_number k, sort_number s, reason_number w   the number of each
--   side_of n, kind_of n, reason_of n                              what has that number, if anything
--   sort_of_kind k                                                 the sort by which a cancel names it
use Rattle.std.specs.Prelude.{ℕ, cond, Some, None, Option, ◌==◌}
use Rattle.market.specs.declared.kinds.Side.{Side}
use Rattle.market.specs.declared.kinds.Side.TheVariants.{Buy, Sell}
use Rattle.market.specs.declared.kinds.OrderKind.{OrderKind}
use Rattle.market.specs.declared.kinds.OrderKind.TheVariants.{Intention, FirmQuote, Negotiated, Click}
use Rattle.market.specs.declared.kinds.Sort.{Sort}
use Rattle.market.specs.declared.kinds.Sort.TheVariants.{Intention as intentions, FirmQuote as firm_quotes, DealOrder}
use Rattle.market.specs.declared.kinds.CancelReason.{CancelReason}
use Rattle.market.specs.declared.kinds.CancelReason.TheVariants.{Withdrawn, QuoteRest, ClickRest, Close, NoQuote, Mismatch}

abbrev pub side_number : Side → ℕ
side_number Buy = 1
side_number Sell = 2

abbrev pub side_of : ℕ → Option Side
side_of n = cond (n == 1) (Some Buy) (cond (n == 2) (Some Sell) None)

abbrev pub kind_number : OrderKind → ℕ
kind_number Intention = 1
kind_number FirmQuote = 2
kind_number Negotiated = 3
kind_number Click = 4

abbrev pub kind_of : ℕ → Option OrderKind
kind_of n =
    cond (n == 1) (Some Intention)
    (cond (n == 2) (Some FirmQuote)
    (cond (n == 3) (Some Negotiated)
    (cond (n == 4) (Some Click) None)))

abbrev pub sort_number : Sort → ℕ
sort_number intentions = 1
sort_number firm_quotes = 2
sort_number DealOrder = 3

abbrev pub sort_of_kind : OrderKind → Sort
sort_of_kind Intention = intentions
sort_of_kind FirmQuote = firm_quotes
sort_of_kind Negotiated = DealOrder
sort_of_kind Click = DealOrder

abbrev pub reason_number : CancelReason → ℕ
reason_number Withdrawn = 1
reason_number QuoteRest = 2
reason_number ClickRest = 3
reason_number Close = 4
reason_number NoQuote = 18
reason_number Mismatch = 19

abbrev pub reason_of : ℕ → Option CancelReason
reason_of n =
    cond (n == 1) (Some Withdrawn)
    (cond (n == 2) (Some QuoteRest)
    (cond (n == 3) (Some ClickRest)
    (cond (n == 4) (Some Close)
    (cond (n == 18) (Some NoQuote)
    (cond (n == 19) (Some Mismatch) None)))))
