-- What is handed out is what the line writes.
--   Field t v u    the text t is a blank, digits that write v, and then the text u
--   Spells t ns u  the text t is a field for each figure of ns, in that order, and then the text u
--   Behind u c     the text u behind an order's last figure is the contact c after a blank, or both are empty
--   sort_byte s, side_byte d, set_up_byte s         the letters of codes
--   order_spelt o, cancel_spelt x, set_up_spelt s   the figures in the order in which a line writes them
--   Writes l x     the line l is the code of x, the figures of x and the contact of x, and nothing else; no line
--                  writes a refusal
--   Written l x    the law, one way: x is a refusal, or the line l writes it
--   Only l x       the law, the other way: whatever the line l writes is x; so a line that writes something is not refused
use Rattle.std.specs.Prelude.{◌≡◌, ℕ, ◌⊎◌, List, [], ◌∷◌, ◌++◌, Some}
use Rattle.market.specs.declared.kinds.Side.{Side}
use Rattle.market.specs.declared.kinds.Side.TheVariants.{Buy, Sell}
use Rattle.market.specs.declared.kinds.Sort.{Sort}
use Rattle.market.specs.declared.kinds.Sort.TheVariants.{Intention, FirmQuote, DealOrder}
use Rattle.sheet_text.specs.Figures.{figure}
use Rattle.sheet.specs.declared.line.Order.{Order}
use Rattle.sheet.specs.declared.line.Cancel.{Cancel}
use Rattle.sheet.specs.declared.line.SetUp.{SetUp}
use Rattle.sheet.specs.declared.line.SetUp.TheVariants.{OpenPair, OpenDay, CloseDay, Security, PayIn, DrawOut}
use Rattle.sheet.specs.Told.{Told, order, cancel, set_up, refused}

pub record Field (t : List ℕ) (v : ℕ) (u : List ℕ) : Type 0 where
  pub digits : List ℕ
  pub stands : t ≡ 32 ∷ digits ++ u
  pub value : figure digits ≡ Some v

abbrev pub Spells : List ℕ → List ℕ → List ℕ → Type 0
Spells t [] u = t ≡ u
Spells t (v ∷ ns) u = (s : List ℕ) × (Field t v s × Spells s ns u)

abbrev pub Behind : List ℕ → List ℕ → Type 0
Behind u c = ((u ≡ []) × (c ≡ [])) ⊎ (u ≡ 32 ∷ c)

-- H O 1
abbrev pub sort_byte : Sort → ℕ
sort_byte Intention = 72
sort_byte FirmQuote = 79
sort_byte DealOrder = 49

-- B S
abbrev pub side_byte : Side → ℕ
side_byte Buy = 66
side_byte Sell = 83

-- A D E S + -
abbrev pub set_up_byte : SetUp → ℕ
set_up_byte (OpenPair a i) = 65
set_up_byte (OpenDay d) = 68
set_up_byte CloseDay = 69
set_up_byte (Security n k a b) = 83
set_up_byte (PayIn a i n t) = 43
set_up_byte (DrawOut a i n t) = 45

abbrev pub set_up_spelt : SetUp → List ℕ
set_up_spelt (OpenPair a i) = a ∷ i ∷ []
set_up_spelt (OpenDay d) = d ∷ []
set_up_spelt CloseDay = []
set_up_spelt (Security n k a b) = n ∷ k ∷ a ∷ b ∷ []
set_up_spelt (PayIn a i n t) = a ∷ i ∷ n ∷ t ∷ []
set_up_spelt (DrawOut a i n t) = a ∷ i ∷ n ∷ t ∷ []

abbrev pub cancel_spelt : Cancel → List ℕ
cancel_spelt x = x.unit ∷ x.serial ∷ x.target ∷ x.time ∷ []

-- only a deal order writes a counterpart and a number
abbrev pub named : Sort → Order → List ℕ
named Intention o = o.time ∷ []
named FirmQuote o = o.time ∷ []
named DealOrder o = o.counterpart ∷ o.number ∷ o.time ∷ []

abbrev pub order_spelt : Order → List ℕ
order_spelt o = o.unit ∷ o.serial ∷ o.account ∷ o.code ∷ o.quantity ∷ o.price ∷ named o.sort o

-- only a deal order has no contact, and only it names a counterpart
abbrev pub Closes : Sort → Order → List ℕ → List ℕ → Type 0
Closes Intention o u c = Behind u c × ((o.counterpart ≡ 0) × (o.number ≡ 0))
Closes FirmQuote o u c = Behind u c × ((o.counterpart ≡ 0) × (o.number ≡ 0))
Closes DealOrder o u c = (u ≡ []) × (c ≡ [])

abbrev pub Writes : List ℕ → Told → Type 0
Writes l (order o t c) = (l ≡ sort_byte o.sort ∷ side_byte o.side ∷ t) × ((u : List ℕ) × (Spells t (order_spelt o) u × Closes o.sort o u c))
Writes l (cancel x t) = (l ≡ sort_byte x.sort ∷ 67 ∷ t) × Spells t (cancel_spelt x) []
Writes l (set_up s t) = (l ≡ set_up_byte s ∷ t) × Spells t (set_up_spelt s) []
Writes l (refused e) = ⊥

abbrev pub Written : List ℕ → Told → Type 0
Written l (order o t c) = Writes l (order o t c)
Written l (cancel x t) = Writes l (cancel x t)
Written l (set_up s t) = Writes l (set_up s t)
Written l (refused e) = Unit {0}

abbrev pub Only : List ℕ → Told → Type 0
Only l x = (y : Told) → Writes l y → x ≡ y
