-- The codes of lines.
--   one_letter b       the form of a line whose code is the byte b, if any
--   sort_letter b      the sort of order that a first letter names, if any
--   second_letter s c  what the second letter c makes of an order of sort s: buy, sell or cancel, if any
--   form_of code       the form of a line of that code, if it is known
--   announced l        the form of the line l and the text behind its code, if the code is known; the code is what
--                      stands before the first blank (byte 32) or the line's end
--   figures_of f       how many figures a line of the form f has
--   takes_contact f    whether any text may follow the last figure
use Rattle.std.specs.Prelude.{ℕ, Bool, true, false, cond, List, [], ◌∷◌, Some, None, Option, ◌==◌}
use Rattle.market.specs.declared.kinds.Side.TheVariants.{Buy, Sell}
use Rattle.market.specs.declared.kinds.Sort.{Sort}
use Rattle.market.specs.declared.kinds.Sort.TheVariants.{Intention, FirmQuote, DealOrder}
use Rattle.sheet_text.specs.Cuts.{before, onward}
use Rattle.sheet.specs.declared.codes.Form.{Form}
use Rattle.sheet.specs.declared.codes.Form.TheVariants.{SetUp, Order, Cancel}
use Rattle.sheet.specs.declared.codes.SetUpForm.{SetUpForm}
use Rattle.sheet.specs.declared.codes.SetUpForm.TheVariants.{OpenPair, OpenDay, CloseDay, Security, PayIn, DrawOut}

-- A D E S + -
abbrev pub one_letter : ℕ → Option Form
one_letter b =
    cond (b == 65) (Some (SetUp OpenPair))
    (cond (b == 68) (Some (SetUp OpenDay))
    (cond (b == 69) (Some (SetUp CloseDay))
    (cond (b == 83) (Some (SetUp Security))
    (cond (b == 43) (Some (SetUp PayIn))
    (cond (b == 45) (Some (SetUp DrawOut)) None)))))

-- H O 1
abbrev pub sort_letter : ℕ → Option Sort
sort_letter b =
    cond (b == 72) (Some Intention)
    (cond (b == 79) (Some FirmQuote)
    (cond (b == 49) (Some DealOrder) None))

-- B S C
abbrev pub second_letter : Sort → ℕ → Option Form
second_letter s c =
    cond (c == 66) (Some (Order s Buy))
    (cond (c == 83) (Some (Order s Sell))
    (cond (c == 67) (Some (Cancel s)) None))

abbrev pub with_sort : Option Sort → ℕ → Option Form
with_sort None c = None
with_sort (Some s) c = second_letter s c

abbrev pub two_letters : ℕ → ℕ → Option Form
two_letters b c = with_sort (sort_letter b) c

abbrev pub form_of : List ℕ → Option Form
form_of [] = None
form_of (b ∷ []) = one_letter b
form_of (b ∷ c ∷ []) = two_letters b c
form_of (b ∷ c ∷ d ∷ more) = None

-- whether a code that the text t follows ends there
abbrev pub ends : List ℕ → Bool
ends [] = true
ends (b ∷ bs) = b == 32

abbrev pub with_text : Option Form → List ℕ → Option (Form × List ℕ)
with_text None t = None
with_text (Some f) t = Some (f, t)

abbrev pub announced : List ℕ → Option (Form × List ℕ)
announced l = with_text (form_of (before 32 l)) (onward 32 l)

abbrev pub order_figures : Sort → ℕ
order_figures Intention = 7
order_figures FirmQuote = 7
order_figures DealOrder = 9

abbrev pub set_up_figures : SetUpForm → ℕ
set_up_figures OpenPair = 2
set_up_figures OpenDay = 1
set_up_figures CloseDay = 0
set_up_figures Security = 4
set_up_figures PayIn = 4
set_up_figures DrawOut = 4

abbrev pub figures_of : Form → ℕ
figures_of (SetUp k) = set_up_figures k
figures_of (Order s d) = order_figures s
figures_of (Cancel s) = 4

abbrev pub quotes : Sort → Bool
quotes Intention = true
quotes FirmQuote = true
quotes DealOrder = false

abbrev pub takes_contact : Form → Bool
takes_contact (SetUp k) = false
takes_contact (Order s d) = quotes s
takes_contact (Cancel s) = false
