-- The number of each refusal.
--   refusal_number r   the number that stands for r wherever one is printed
--   refusal_of n       the refusal of the number n, if there is one
use Rattle.std.specs.Prelude.{ℕ, cond, Some, None, Option, ◌==◌}
use Rattle.market.specs.declared.refusal.Refusal.{Refusal}
use Rattle.market.specs.declared.refusal.Refusal.TheVariants.{EmptyLine, UnknownCode, FieldCount, NotDigits, SheetTooLong, OutOfRange, NotListed, OutsideHours, BadPrice, BelowLeastSize, AmountTooLarge, SerialUsed, NumberTaken, NoSuchOrder, NotLive, PairNotOpen, FreeTooSmall, BadPayment, TotalTooLarge, PairOpen, NoLedgerLine, MoreThanHeld, DayNotOpen, DayOpen, BadDate, BadList, SomethingHeld, TooFewPlaces, TooFewLines, TapeFull, NoSuchLine, NotATape}

abbrev pub refusal_number : Refusal → ℕ
refusal_number EmptyLine = 1
refusal_number UnknownCode = 2
refusal_number FieldCount = 3
refusal_number NotDigits = 4
refusal_number SheetTooLong = 6
refusal_number OutOfRange = 11
refusal_number NotListed = 12
refusal_number OutsideHours = 13
refusal_number BadPrice = 15
refusal_number BelowLeastSize = 16
refusal_number AmountTooLarge = 17
refusal_number SerialUsed = 18
refusal_number NumberTaken = 19
refusal_number NoSuchOrder = 20
refusal_number NotLive = 21
refusal_number PairNotOpen = 31
refusal_number FreeTooSmall = 32
refusal_number BadPayment = 33
refusal_number TotalTooLarge = 34
refusal_number PairOpen = 35
refusal_number NoLedgerLine = 36
refusal_number MoreThanHeld = 37
refusal_number DayNotOpen = 41
refusal_number DayOpen = 42
refusal_number BadDate = 43
refusal_number BadList = 44
refusal_number SomethingHeld = 45
refusal_number TooFewPlaces = 46
refusal_number TooFewLines = 47
refusal_number TapeFull = 48
refusal_number NoSuchLine = 49
refusal_number NotATape = 50

abbrev pub refusal_of : ℕ → Option Refusal
refusal_of n =
    cond (n == 1) (Some EmptyLine)
    (cond (n == 2) (Some UnknownCode)
    (cond (n == 3) (Some FieldCount)
    (cond (n == 4) (Some NotDigits)
    (cond (n == 6) (Some SheetTooLong)
    (cond (n == 11) (Some OutOfRange)
    (cond (n == 12) (Some NotListed)
    (cond (n == 13) (Some OutsideHours)
    (cond (n == 15) (Some BadPrice)
    (cond (n == 16) (Some BelowLeastSize)
    (cond (n == 17) (Some AmountTooLarge)
    (cond (n == 18) (Some SerialUsed)
    (cond (n == 19) (Some NumberTaken)
    (cond (n == 20) (Some NoSuchOrder)
    (cond (n == 21) (Some NotLive)
    (cond (n == 31) (Some PairNotOpen)
    (cond (n == 32) (Some FreeTooSmall)
    (cond (n == 33) (Some BadPayment)
    (cond (n == 34) (Some TotalTooLarge)
    (cond (n == 35) (Some PairOpen)
    (cond (n == 36) (Some NoLedgerLine)
    (cond (n == 37) (Some MoreThanHeld)
    (cond (n == 41) (Some DayNotOpen)
    (cond (n == 42) (Some DayOpen)
    (cond (n == 43) (Some BadDate)
    (cond (n == 44) (Some BadList)
    (cond (n == 45) (Some SomethingHeld)
    (cond (n == 46) (Some TooFewPlaces)
    (cond (n == 47) (Some TooFewLines)
    (cond (n == 48) (Some TapeFull)
    (cond (n == 49) (Some NoSuchLine)
    (cond (n == 50) (Some NotATape)
    None)))))))))))))))))))))))))))))))
