-- The law of `Only`: whatever a line writes is what it says.
use Rattle.std.proofs.Common.{◌≡◌, ℕ, true, false, eqb, List, [], ◌∷◌, length, Some, sym, refl, ap, ◌∙◌, subst, ⊎_elim, arith}
use Rattle.std.proofs.lemmas.Bool.{cond-true}
use Rattle.market.specs.declared.kinds.Side.{Side}
use Rattle.market.specs.declared.kinds.Side.TheVariants.{Buy, Sell}
use Rattle.market.specs.declared.kinds.Sort.{Sort}
use Rattle.market.specs.declared.kinds.Sort.TheVariants.{Intention, FirmQuote, DealOrder}
use Rattle.sheet.specs.declared.line.Order.{Order}
use Rattle.sheet.specs.declared.line.Cancel.{Cancel}
use Rattle.sheet.specs.declared.line.SetUp.{SetUp}
use Rattle.sheet.specs.declared.line.SetUp.TheVariants.{OpenPair, OpenDay, CloseDay, Security, PayIn, DrawOut}
use Rattle.sheet.specs.declared.codes.Form.{Form}
use Rattle.sheet.specs.declared.codes.Form.TheVariants.{SetUp as set_ups, Order as orders, Cancel as cancels}
use Rattle.sheet.specs.declared.codes.SetUpForm.TheVariants.{OpenPair as pairs, OpenDay as days, CloseDay as closes, Security as securities, PayIn as pay_in, DrawOut as draw_out}
use Rattle.sheet.specs.Codes.{one_letter, two_letters, ends, announced, figures_of, takes_contact}
use Rattle.sheet.specs.Fields.{read}
use Rattle.sheet.specs.Told.{Told, order, cancel, set_up, refused, meaning}
use Rattle.sheet.specs.Parsing.{closed, filled, by_form, parsed}
use Rattle.sheet.specs.Written.{Spells, Behind, sort_byte, side_byte, set_up_byte, set_up_spelt, cancel_spelt, order_spelt, Writes, Only}
use Rattle.sheet.proofs.Announcing.{one, two}
use Rattle.sheet.proofs.Reread.{begins, reads}

-- a line whose code is known, once its figures are spelt
module _ (b : ℕ) (bs t ns u : List ℕ) (f : Form) (is : Some (f, t) ≡ announced (b ∷ bs)) (many : length ns ≡ figures_of f) (e : ends u ≡ true) (h : Spells t ns u) where
  says_so : parsed (b ∷ bs) ≡ closed f t ns u
  unfolding parsed
  says_so =
      ap by_form (sym is)
      ∙ ap (filled f t) (ap (λ n. read [] n 2 t) (sym many) ∙ reads ns [] 2 t u e h)

one_code : (b : ℕ) (t : List ℕ) (f : Form) → Some f ≡ one_letter b → ends t ≡ true → Some (f, t) ≡ announced (b ∷ t)
one_code b t f known e = one (b ∷ t) (Some f) (omega arith) e known

two_code : (b c : ℕ) (t : List ℕ) (f : Form) → Some f ≡ two_letters b c → eqb c 32 ≡ false → ends t ≡ true → Some (f, t) ≡ announced (b ∷ c ∷ t)
two_code b c t f known past e = two (b ∷ c ∷ t) (Some f) (omega arith) past e known

set_up_said : (l t : List ℕ) (s : SetUp) → Writes l (set_up s t) → parsed l ≡ set_up s t
set_up_said l t s h = ap parsed h.0 ∙ by s h.1
  where
    begun : (x : SetUp) → Spells t (set_up_spelt x) [] → ends t ≡ true
    begun x g = begins t (set_up_spelt x) [] g refl

    by : (x : SetUp) → Spells t (set_up_spelt x) [] → parsed (set_up_byte x ∷ t) ≡ set_up x t
    by (OpenPair a i) g = says_so 65 t t (a ∷ i ∷ []) [] (set_ups pairs) (one_code 65 t (set_ups pairs) refl (begun (OpenPair a i) g)) refl refl g
    by (OpenDay d) g = says_so 68 t t (d ∷ []) [] (set_ups days) (one_code 68 t (set_ups days) refl (begun (OpenDay d) g)) refl refl g
    by CloseDay g = says_so 69 t t [] [] (set_ups closes) (one_code 69 t (set_ups closes) refl (begun CloseDay g)) refl refl g
    by (Security n k a b) g = says_so 83 t t (n ∷ k ∷ a ∷ b ∷ []) [] (set_ups securities) (one_code 83 t (set_ups securities) refl (begun (Security n k a b) g)) refl refl g
    by (PayIn a i n m) g = says_so 43 t t (a ∷ i ∷ n ∷ m ∷ []) [] (set_ups pay_in) (one_code 43 t (set_ups pay_in) refl (begun (PayIn a i n m) g)) refl refl g
    by (DrawOut a i n m) g = says_so 45 t t (a ∷ i ∷ n ∷ m ∷ []) [] (set_ups draw_out) (one_code 45 t (set_ups draw_out) refl (begun (DrawOut a i n m) g)) refl refl g

cancel_known : (s : Sort) → Some (cancels s) ≡ two_letters (sort_byte s) 67
cancel_known Intention = refl
cancel_known FirmQuote = refl
cancel_known DealOrder = refl

cancel_said : (l t : List ℕ) (x : Cancel) → Writes l (cancel x t) → parsed l ≡ cancel x t
cancel_said l t x h =
    let g : Spells t (cancel_spelt x) [] = h.1 in
    ap parsed h.0
    ∙ says_so (sort_byte x.sort) (67 ∷ t) t (cancel_spelt x) [] (cancels x.sort) (two_code (sort_byte x.sort) 67 t (cancels x.sort) (cancel_known x.sort) refl (begins t (cancel_spelt x) [] g refl)) refl refl g

order_known : (s : Sort) (d : Side) → Some (orders s d) ≡ two_letters (sort_byte s) (side_byte d)
order_known Intention Buy = refl
order_known Intention Sell = refl
order_known FirmQuote Buy = refl
order_known FirmQuote Sell = refl
order_known DealOrder Buy = refl
order_known DealOrder Sell = refl

no_blank : (d : Side) → eqb (side_byte d) 32 ≡ false
no_blank Buy = refl
no_blank Sell = refl

behind_ends : (u c : List ℕ) → Behind u c → ends u ≡ true
behind_ends u c h = ⊎_elim (λ p. ap ends p.0) (λ q. ap ends q) h

contacted : (f : Form) (t ns u c : List ℕ) → takes_contact f ≡ true → Behind u c → closed f t ns u ≡ meaning f ns t c
contacted f t ns u c taken h =
    ⊎_elim
    (λ p. ap (closed f t ns) p.0 ∙ ap (meaning f ns t) (sym p.1))
    (λ q. ap (closed f t ns) q ∙ cond-true (takes_contact f) (meaning f ns t c) _ taken)
    h

-- an order by its parts
module _ (d : Side) (unit serial account code quantity price counterpart number time : ℕ) where
  abbrev of_sort : Sort → Order
  of_sort s = record { sort = s; side = d; unit = unit; serial = serial; account = account; code = code; quantity = quantity; price = price; counterpart = counterpart; number = number; time = time }

  order_by : (s : Sort) (l t c : List ℕ) → Writes l (order (of_sort s) t c) → parsed l ≡ order (of_sort s) t c
  order_by Intention l t c h =
      let u : List ℕ = h.1.0 in
      let ns : List ℕ = order_spelt (of_sort Intention) in
      let g : Spells t (order_spelt (of_sort Intention)) h.1.0 = h.1.1.0 in
      let p : Behind h.1.0 c = h.1.1.1.0 in
      let z = h.1.1.1.1 in
      let e : ends h.1.0 ≡ true = behind_ends h.1.0 c p in
      ap parsed h.0
      ∙ says_so 72 (side_byte d ∷ t) t ns u (orders Intention d) (two_code 72 (side_byte d) t (orders Intention d) (order_known Intention d) (no_blank d) (begins t ns u g e)) refl e g
      ∙ contacted (orders Intention d) t ns u c refl p
      ∙ sym (λ i. order (record { sort = Intention; side = d; unit = unit; serial = serial; account = account; code = code; quantity = quantity; price = price; counterpart = z.0 i; number = z.1 i; time = time }) t c)
  order_by FirmQuote l t c h =
      let u : List ℕ = h.1.0 in
      let ns : List ℕ = order_spelt (of_sort FirmQuote) in
      let g : Spells t (order_spelt (of_sort FirmQuote)) h.1.0 = h.1.1.0 in
      let p : Behind h.1.0 c = h.1.1.1.0 in
      let z = h.1.1.1.1 in
      let e : ends h.1.0 ≡ true = behind_ends h.1.0 c p in
      ap parsed h.0
      ∙ says_so 79 (side_byte d ∷ t) t ns u (orders FirmQuote d) (two_code 79 (side_byte d) t (orders FirmQuote d) (order_known FirmQuote d) (no_blank d) (begins t ns u g e)) refl e g
      ∙ contacted (orders FirmQuote d) t ns u c refl p
      ∙ sym (λ i. order (record { sort = FirmQuote; side = d; unit = unit; serial = serial; account = account; code = code; quantity = quantity; price = price; counterpart = z.0 i; number = z.1 i; time = time }) t c)
  order_by DealOrder l t c h =
      let u : List ℕ = h.1.0 in
      let ns : List ℕ = order_spelt (of_sort DealOrder) in
      let g : Spells t (order_spelt (of_sort DealOrder)) h.1.0 = h.1.1.0 in
      let z = h.1.1.1 in
      let e : ends h.1.0 ≡ true = ap ends z.0 in
      ap parsed h.0
      ∙ says_so 49 (side_byte d ∷ t) t ns u (orders DealOrder d) (two_code 49 (side_byte d) t (orders DealOrder d) (order_known DealOrder d) (no_blank d) (begins t ns u g e)) refl e g
      ∙ ap (closed (orders DealOrder d) t ns) z.0
      ∙ ap (order (of_sort DealOrder) t) (sym z.1)

pub only_said : (l : List ℕ) → Only l (parsed l)
only_said l (order o t c) h = order_by o.side o.unit o.serial o.account o.code o.quantity o.price o.counterpart o.number o.time o.sort l t c h
only_said l (cancel x t) h = cancel_said l t x h
only_said l (set_up s t) h = set_up_said l t s h
only_said l (refused e) h = absurd h

pub told_only : (l : List ℕ) (x : Told) → x ≡ parsed l → Only l x
told_only l x e = subst (Only l) (sym e) (only_said l)
