-- What a refusal means, in words.
--   meaning r            the words for the refusal r
--   refusal_numbered n   the refusal of the number n, if there is one
--   NumbersBack         every refusal is found again by its number
use Rattle.std.specs.Prelude.{◌≡◌, ℕ, List, Some, codes, Option}
use Rattle.market.specs.declared.refusal.Refusal.{Refusal}
use Rattle.market.specs.declared.refusal.Refusal.TheVariants.{EmptyLine, UnknownCode, FieldCount, NotDigits, SheetTooLong, OutOfRange, NotListed, OutsideHours, BadPrice, BelowLeastSize, AmountTooLarge, SerialUsed, NumberTaken, NoSuchOrder, NotLive, PairNotOpen, FreeTooSmall, BadPayment, TotalTooLarge, PairOpen, NoLedgerLine, MoreThanHeld, DayNotOpen, DayOpen, BadDate, BadList, SomethingHeld, TooFewPlaces, TooFewLines, TapeFull, NoSuchLine, NotATape}
use Rattle.market.specs.Refusals.{refusal_number, refusal_of}

abbrev pub meaning : Refusal → List ℕ
meaning EmptyLine = codes "empty line"
meaning UnknownCode = codes "unknown code"
meaning FieldCount = codes "field missing or too many"
meaning NotDigits = codes "field not 1 to 18 digits"
meaning SheetTooLong = codes "sheet over 65,536 bytes"
meaning OutOfRange = codes "figure out of range"
meaning NotListed = codes "security not listed"
meaning OutsideHours = codes "outside the hours of its class"
meaning BadPrice = codes "price outside lowest to highest, or no multiple of the step"
meaning BelowLeastSize = codes "below the least size"
meaning AmountTooLarge = codes "amount above 10^15"
meaning SerialUsed = codes "serial used by this unit today"
meaning NumberTaken = codes "agreement number taken between these two units"
meaning NoSuchOrder = codes "no order of that sort and serial"
meaning NotLive = codes "order not live"
meaning PairNotOpen = codes "pair of account and item not open"
meaning FreeTooSmall = codes "free is too small"
meaning BadPayment = codes "payment of 0 or above 10^15"
meaning TotalTooLarge = codes "total of the item would pass 10^18"
meaning PairOpen = codes "pair open already"
meaning NoLedgerLine = codes "no ledger line left"
meaning MoreThanHeld = codes "more than is held"
meaning DayNotOpen = codes "no day open"
meaning DayOpen = codes "a day is open"
meaning BadDate = codes "date out of range, or not later than the last"
meaning BadList = codes "list of securities faulty"
meaning SomethingHeld = codes "something is held"
meaning TooFewPlaces = codes "too few free places in the order table"
meaning TooFewLines = codes "too few free lines on the tape"
meaning TapeFull = codes "tape full"
meaning NoSuchLine = codes "no such line"
meaning NotATape = codes "bytes are no tape"

abbrev pub refusal_numbered : ℕ → Option Refusal
refusal_numbered n = refusal_of n

abbrev pub NumbersBack : Type 0
NumbersBack = (r : Refusal) → refusal_numbered (refusal_number r) ≡ Some r
