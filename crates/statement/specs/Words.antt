-- The words of a statement.
--   kind_word l                                     the word for a line's kind
--   side_word s, order_word k, reason_word w        the words for a side, an order kind and a cancel reason
--   order_words l                                   all three of a line; a payment has none of them
use Rattle.market.specs.declared.kinds.Side.{Side}
use Rattle.market.specs.declared.kinds.Side.TheVariants.{Buy as buys, Sell as sells}
use Rattle.market.specs.declared.kinds.OrderKind.{OrderKind}
use Rattle.market.specs.declared.kinds.OrderKind.TheVariants.{Intention as intends, FirmQuote as quotes, Negotiated as negotiates, Click as clicks}
use Rattle.market.specs.declared.kinds.CancelReason.{CancelReason}
use Rattle.market.specs.declared.kinds.CancelReason.TheVariants.{Withdrawn as by_withdrawal, QuoteRest as by_quote_rest, ClickRest as by_click_rest, Close as by_close, NoQuote as by_no_quote, Mismatch as by_mismatch}
use Rattle.tape.specs.declared.line.Line.{Line as a_line}
use Rattle.tape.specs.declared.line.Line.TheVariants.{Entry as entered, Deal as dealt, Cancel as cancelled, PaidIn as paid, DrawnOut as drawn}
use Rattle.tape.specs.declared.line.OrderLine.{OrderLine}
use Rattle.statement.specs.declared.words.OrderWords.{OrderWords}
use Rattle.row_text.specs.declared.words.Word.{Word}
use Rattle.row_text.specs.declared.words.Word.TheVariants.{Entry, Deal, Cancel, PaidIn, DrawnOut, Absent, Buy, Sell, Intention, FirmQuote, Negotiated, Click, Withdrawn, QuoteRest, ClickRest, Close, NoQuote, Mismatch}

abbrev pub kind_word : a_line → Word
kind_word (entered o) = Entry
kind_word (dealt o n) = Deal
kind_word (cancelled o w) = Cancel
kind_word (paid p) = PaidIn
kind_word (drawn p) = DrawnOut

abbrev pub side_word : Side → Word
side_word buys = Buy
side_word sells = Sell

abbrev pub order_word : OrderKind → Word
order_word intends = Intention
order_word quotes = FirmQuote
order_word negotiates = Negotiated
order_word clicks = Click

abbrev pub reason_word : CancelReason → Word
reason_word by_withdrawal = Withdrawn
reason_word by_quote_rest = QuoteRest
reason_word by_click_rest = ClickRest
reason_word by_close = Close
reason_word by_no_quote = NoQuote
reason_word by_mismatch = Mismatch

abbrev pub words_of : OrderLine → Word → OrderWords
words_of o why = record { side = side_word o.side; kind = order_word o.kind; reason = why }

abbrev pub order_words : a_line → OrderWords
order_words (entered o) = words_of o Absent
order_words (dealt o n) = words_of o Absent
order_words (cancelled o w) = words_of o (reason_word w)
order_words (paid p) = record { side = Absent; kind = Absent; reason = Absent }
order_words (drawn p) = record { side = Absent; kind = Absent; reason = Absent }
