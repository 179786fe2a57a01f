-- A code that is known, as text.
use Rattle.std.proofs.Common.{◌≡◌, ℕ, cond, eqb, ◌⊎◌, List, [], ◌∷◌, ◌++◌, Some, None, Option, sym, refl, ap, ◌∙◌, inl, inr, ⊎_elim, arith}
use Rattle.std.proofs.lemmas.Bool.{eqb-true, cases_Bool, cond-true, cond-false}
use Rattle.market.specs.declared.kinds.Side.TheVariants.{Buy, Sell}
use Rattle.market.specs.declared.kinds.Sort.{Sort}
use Rattle.market.specs.declared.kinds.Sort.TheVariants.{Intention, FirmQuote, DealOrder}
use Rattle.sheet_text.specs.Cuts.{before, onward}
use Rattle.sheet.specs.declared.codes.Form.{Form}
use Rattle.sheet.specs.declared.codes.Form.TheVariants.{SetUp, Order, Cancel}
use Rattle.sheet.specs.declared.codes.SetUpForm.TheVariants.{OpenPair, OpenDay, CloseDay, Security, PayIn, DrawOut}
use Rattle.sheet.specs.Codes.{one_letter, sort_letter, second_letter, with_sort, form_of, with_text, announced}
use Rattle.sheet.specs.Written.{sort_byte, side_byte}
use Rattle.sheet.proofs.Spelling.{whole}

-- a code, once known, is this text
abbrev pub code_text : Form → List ℕ
code_text (SetUp OpenPair) = 65 ∷ []
code_text (SetUp OpenDay) = 68 ∷ []
code_text (SetUp CloseDay) = 69 ∷ []
code_text (SetUp Security) = 83 ∷ []
code_text (SetUp PayIn) = 43 ∷ []
code_text (SetUp DrawOut) = 45 ∷ []
code_text (Order s d) = sort_byte s ∷ side_byte d ∷ []
code_text (Cancel s) = sort_byte s ∷ 67 ∷ []

pick : {X : Type 0} (b n : ℕ) (x y : X) (others : Option X) → cond (eqb b n) (Some x) others ≡ Some y → ((b ≡ n) × (x ≡ y)) ⊎ (others ≡ Some y)
pick b n x y others e =
    ⊎_elim
    (λ h. let s : Some x ≡ Some y = sym (cond-true (eqb b n) (Some x) others h) ∙ e in let q : x ≡ y = cc in inl (eqb-true b n h, q))
    (λ h. inr (sym (cond-false (eqb b n) (Some x) others h) ∙ e))
    (cases_Bool (eqb b n))

no_none : {X : Type 0} {A : Type 0} (y : X) → None ≡ Some y → A
no_none y e = let z : ◌≡◌ {A = ℕ} 0 1 = cc in absurd (omega arith)

here : (b n : ℕ) (f g : Form) → n ∷ [] ≡ code_text f → (b ≡ n) × (f ≡ g) → b ∷ [] ≡ code_text g
here b n f g e h = ap (λ x. x ∷ []) h.0 ∙ e ∙ ap code_text h.1

one_text : (b : ℕ) (f : Form) → one_letter b ≡ Some f → b ∷ [] ≡ code_text f
one_text b f e =
    ⊎_elim (here b 65 (SetUp OpenPair) f refl)
    (λ e1. ⊎_elim (here b 68 (SetUp OpenDay) f refl)
    (λ e2. ⊎_elim (here b 69 (SetUp CloseDay) f refl)
    (λ e3. ⊎_elim (here b 83 (SetUp Security) f refl)
    (λ e4. ⊎_elim (here b 43 (SetUp PayIn) f refl)
    (λ e5. ⊎_elim (here b 45 (SetUp DrawOut) f refl)
    (no_none f)
    (pick b 45 (SetUp DrawOut) f None e5))
    (pick b 43 (SetUp PayIn) f _ e4))
    (pick b 83 (SetUp Security) f _ e3))
    (pick b 69 (SetUp CloseDay) f _ e2))
    (pick b 68 (SetUp OpenDay) f _ e1))
    (pick b 65 (SetUp OpenPair) f _ e)

sort_text : (b : ℕ) (s : Sort) → sort_letter b ≡ Some s → b ≡ sort_byte s
sort_text b s e =
    ⊎_elim (λ h. h.0 ∙ ap sort_byte h.1)
    (λ e1. ⊎_elim (λ h. h.0 ∙ ap sort_byte h.1)
    (λ e2. ⊎_elim (λ h. h.0 ∙ ap sort_byte h.1)
    (no_none s)
    (pick b 49 DealOrder s None e2))
    (pick b 79 FirmQuote s _ e1))
    (pick b 72 Intention s _ e)

second_text : (s : Sort) (c : ℕ) (f : Form) → second_letter s c ≡ Some f → sort_byte s ∷ c ∷ [] ≡ code_text f
second_text s c f e =
    ⊎_elim (λ h. ap (λ x. sort_byte s ∷ x ∷ []) h.0 ∙ ap code_text h.1)
    (λ e1. ⊎_elim (λ h. ap (λ x. sort_byte s ∷ x ∷ []) h.0 ∙ ap code_text h.1)
    (λ e2. ⊎_elim (λ h. ap (λ x. sort_byte s ∷ x ∷ []) h.0 ∙ ap code_text h.1)
    (no_none f)
    (pick c 67 (Cancel s) f None e2))
    (pick c 83 (Order s Sell) f _ e1))
    (pick c 66 (Order s Buy) f _ e)

two_text : (b c : ℕ) (f : Form) (o : Option Sort) → sort_letter b ≡ o → with_sort o c ≡ Some f → b ∷ c ∷ [] ≡ code_text f
two_text b c f None is e = no_none f e
two_text b c f (Some s) is e = ap (λ x. x ∷ c ∷ []) (sort_text b s is) ∙ second_text s c f e

form_text : (code : List ℕ) (f : Form) → form_of code ≡ Some f → code ≡ code_text f
form_text [] f e = no_none f e
form_text (b ∷ []) f e = one_text b f e
form_text (b ∷ c ∷ []) f e = two_text b c f (sort_letter b) refl e
form_text (b ∷ c ∷ d ∷ more) f e = no_none f e

pub announced_text : (l : List ℕ) (p : Form × List ℕ) → announced l ≡ Some p → (l ≡ code_text p.0 ++ p.1) × (p.1 ≡ onward 32 l)
announced_text l p e = by (form_of (before 32 l)) refl e
  where
    by : (o : Option Form) → form_of (before 32 l) ≡ o → with_text o (onward 32 l) ≡ Some p → (l ≡ code_text p.0 ++ p.1) × (p.1 ≡ onward 32 l)
    by None is got = no_none p got
    by (Some f) is got =
        let q : (f, onward 32 l) ≡ p = cc in
        (whole 32 l ∙ ap (λ (s : List ℕ). s ++ onward 32 l) (form_text (before 32 l) f is) ∙ ap (λ (x : Form × List ℕ). code_text x.0 ++ x.1) q, sym (ap (λ (x : Form × List ℕ). x.1) q))
