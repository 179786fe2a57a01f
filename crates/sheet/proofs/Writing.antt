-- The law of `Written`: what a line says is what it writes.
use Rattle.std.proofs.Common.{◌≡◌, ℕ, zero, suc, ◌+◌, true, List, [], ◌∷◌, ◌++◌, length, get_or, drop, Some, None, Ok, Err, Option, sym, refl, ap, ◌∙◌, subst, inl, inr, arith}
use Rattle.std.proofs.lemmas.List.{drop_more, drop_all}
use Rattle.std.proofs.lemmas.Bool.{eqb-true, cond_both, false≢true}
use Rattle.market.specs.declared.kinds.Sort.TheVariants.{Intention, FirmQuote, DealOrder}
use Rattle.sheet.specs.declared.codes.Form.{Form}
use Rattle.sheet.specs.declared.codes.Form.TheVariants.{SetUp, Order, Cancel}
use Rattle.sheet.specs.declared.codes.SetUpForm.TheVariants.{OpenPair, OpenDay, CloseDay, Security, PayIn, DrawOut}
use Rattle.sheet.specs.Codes.{ends, announced, figures_of, takes_contact}
use Rattle.sheet.specs.Fields.{Read, read}
use Rattle.sheet.specs.Told.{Told, meaning}
use Rattle.sheet.specs.Parsing.{closed, filled, by_form, parsed}
use Rattle.sheet.specs.Written.{Spells, Written}
use Rattle.sheet.proofs.Spelling.{led, Spelt, spelt}
use Rattle.sheet.proofs.Naming.{code_text, announced_text}

-- a list by its places
abbrev places : ℕ → ℕ → List ℕ → List ℕ
places k zero ns = []
places k (suc n) ns = get_or ns k 0 ∷ places (k + 1) n ns

by_places : (k n : ℕ) (ns : List ℕ) → k + n ≡ length ns → places k n ns ≡ drop k ns
by_places k zero ns e = sym (drop_all k ns (omega arith))
by_places k (suc n) ns e =
    let more : places (k + 1) n ns ≡ drop (k + 1) ns = by_places (k + 1) n ns (omega arith) in
    ap (λ (s : List ℕ). get_or ns k 0 ∷ s) more ∙ sym (drop_more ns k 0 (omega arith))

-- the text t spells the first n of ns, by their places
listed : (n : ℕ) (t ns u : List ℕ) → length ns ≡ n → Spells t ns u → Spells t (places 0 n ns) u
listed n t ns u e h = subst (λ (s : List ℕ). Spells t s u) (sym (by_places 0 n ns (omega arith))) h

module _ (l t ns : List ℕ) where
  -- nothing follows the figures
  plain : (f : Form) → l ≡ code_text f ++ t → length ns ≡ figures_of f → Spells t ns [] → Written l (meaning f ns t [])
  plain (SetUp OpenPair) is many h = (is, listed 2 t ns [] many h)
  plain (SetUp OpenDay) is many h = (is, listed 1 t ns [] many h)
  plain (SetUp CloseDay) is many h = (is, listed 0 t ns [] many h)
  plain (SetUp Security) is many h = (is, listed 4 t ns [] many h)
  plain (SetUp PayIn) is many h = (is, listed 4 t ns [] many h)
  plain (SetUp DrawOut) is many h = (is, listed 4 t ns [] many h)
  plain (Order Intention d) is many h = (is, ([], (listed 7 t ns [] many h, (inl (refl, refl), (refl, refl)))))
  plain (Order FirmQuote d) is many h = (is, ([], (listed 7 t ns [] many h, (inl (refl, refl), (refl, refl)))))
  plain (Order DealOrder d) is many h = (is, ([], (listed 9 t ns [] many h, (refl, refl))))
  plain (Cancel s) is many h = (is, listed 4 t ns [] many h)

  -- a contact follows them
  contacted : (f : Form) (c : List ℕ) → takes_contact f ≡ true → l ≡ code_text f ++ t → length ns ≡ figures_of f → Spells t ns (32 ∷ c) → Written l (meaning f ns t c)
  contacted (SetUp k) c yes-it is many h = absurd (false≢true yes-it)
  contacted (Order Intention d) c yes-it is many h = (is, (32 ∷ c, (listed 7 t ns (32 ∷ c) many h, (inr refl, (refl, refl)))))
  contacted (Order FirmQuote d) c yes-it is many h = (is, (32 ∷ c, (listed 7 t ns (32 ∷ c) many h, (inr refl, (refl, refl)))))
  contacted (Order DealOrder d) c yes-it is many h = absurd (false≢true yes-it)
  contacted (Cancel s) c yes-it is many h = absurd (false≢true yes-it)

  closing : (f : Form) (u : List ℕ) → ends u ≡ true → l ≡ code_text f ++ t → length ns ≡ figures_of f → Spells t ns u → Written l (closed f t ns u)
  closing f [] e is many h = plain f is many h
  closing f (b ∷ c) e is many h =
      let blank : Spells t ns (32 ∷ c) = subst (λ x. Spells t ns (x ∷ c)) (eqb-true b 32 e) h in
      cond_both (takes_contact f) (meaning f ns t c) _ (Written l) (λ yes-it. contacted f c yes-it is many blank) (λ _. tt)

written_by : (l : List ℕ) (o : Option (Form × List ℕ)) → announced l ≡ o → Written l (by_form o)
written_by l None is = tt
written_by l (Some p) is = filling (read [] (figures_of p.0) 2 p.1) refl
  where
    filling : (r : Read) → read [] (figures_of p.0) 2 p.1 ≡ r → Written l (filled p.0 p.1 r)
    filling (Err e) got = tt
    filling (Ok q) got =
        let code = announced_text l p is in
        let h : Spelt [] (figures_of p.0) p.1 q = spelt (figures_of p.0) [] 2 p.1 q (ap ends code.1 ∙ led l) got in
        closing l p.1 q.0 p.0 q.1 h.closes code.0 (ap length h.all ∙ h.many) (subst (λ (s : List ℕ). Spells p.1 s q.1) (sym h.all) h.spells)

pub written : (l : List ℕ) → Written l (parsed l)
unfolding parsed
written [] = tt
written (b ∷ bs) = written_by (b ∷ bs) (announced (b ∷ bs)) refl

pub told_written : (l : List ℕ) (x : Told) → x ≡ parsed l → Written l x
told_written l x e = subst (Written l) (sym e) (written l)
