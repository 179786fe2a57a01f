-- A pair opened with nothing changes no figure.
use Rattle.std.proofs.Common.{◌≡◌, ℕ, ◌<◌, Bool, true, false, cond, ltb, Ok, Err, sym, refl, ap, arith}
use Rattle.std.proofs.lemmas.Bool.{cond-false, true≢false}
use Rattle.std.proofs.lemmas.Bool.Decides.{nat_tests}
use Rattle.market.specs.declared.refusal.Refusal.TheVariants.{OutOfRange, PairOpen, NoLedgerLine}
use Rattle.ledger.specs.Books.{Figures, Book, nothing, in_range, worth, Lawful}
use Rattle.ledger.specs.Moves.{Answer, put, when_done}
use Rattle.ledger.specs.Opening.{new_pair, open_answer, open_after, SameFigures}
use Rattle.ledger.proofs.Puts.{in_accounts, put_each, total_put}

pub same_none : (m : Book) → SameFigures m m
same_none m = record { free = λ a i. refl; held = λ a i. refl; totals = λ i. refl }

pub same_opened : (m : Book) (a i : ℕ) → in_range a i ≡ true → m a i ≡ nothing → SameFigures m (put m a i new_pair)
same_opened m a i r e =
    let f : (m a i).free ≡ 0 = ap (λ (x : Figures). x.free) e in
    let h : (m a i).held ≡ 0 = ap (λ (x : Figures). x.held) e in
    let w : worth (m a i) ≡ 0 = ap worth e in
    record {
      free = put_each m a i new_pair (λ b j g. g.free ≡ (m b j).free) (sym f) (λ b j d. refl);
      held = put_each m a i new_pair (λ b j g. g.held ≡ (m b j).held) (sym h) (λ b j d. refl);
      totals = λ j. let t = total_put m a i new_pair 0 0 0 0 (in_accounts a i r) (omega arith) j in omega arith;
    }

-- whatever is answered: by cases of the three checks
same_by : (m : Book) (room a i : ℕ) (x y z : Bool) → (x ≡ true → y ≡ false → SameFigures m (put m a i new_pair)) → SameFigures m (when_done (cond x (cond y (Err PairOpen) (cond z (Ok tt) (Err NoLedgerLine))) (Err OutOfRange)) (put m a i new_pair) m)
same_by m room a i true true z h = same_none m
same_by m room a i true false true h = h refl refl
same_by m room a i true false false h = same_none m
same_by m room a i false y z h = same_none m

pub opened_same : (m : Book) (room a i : ℕ) → Lawful m → SameFigures m (open_after m room a i)
unfolding open_after open_answer
opened_same m room a i L =
    same_by m room a i (in_range a i) (m a i).is_open (ltb 0 room) (λ r d. same_opened m a i r (L.closed a i d))

-- an opened pair keeps the ledger's law, and no pair closes
abbrev OpensWell : Book → Book → Type 0
OpensWell m after = Lawful after × ((b j : ℕ) → (m b j).is_open ≡ true → (after b j).is_open ≡ true)

opens_none : (m : Book) → Lawful m → OpensWell m m
opens_none m L = (L, λ b j h. h)

opens_new : (m : Book) (a i : ℕ) → Lawful m → in_range a i ≡ true → (m a i).is_open ≡ false → OpensWell m (put m a i new_pair)
opens_new m a i L r d =
    let S = same_opened m a i r (L.closed a i d) in (
      record {
        bounded = λ j. let t = S.totals j in let b = L.bounded j in omega arith;
        ranged = put_each m a i new_pair (λ b j f. f.is_open ≡ true → in_range b j ≡ true) (λ h. r) (λ b j o. L.ranged b j);
        closed = put_each m a i new_pair (λ b j f. f.is_open ≡ false → f ≡ nothing) (λ h. absurd (true≢false h)) (λ b j o. L.closed b j);
      },
      put_each m a i new_pair (λ b j f. (m b j).is_open ≡ true → f.is_open ≡ true) (λ h. refl) (λ b j o h. h),
    )

opens_by : (m : Book) (a i : ℕ) (x y z : Bool) → Lawful m → (x ≡ true → y ≡ false → OpensWell m (put m a i new_pair)) → OpensWell m (when_done (cond x (cond y (Err PairOpen) (cond z (Ok tt) (Err NoLedgerLine))) (Err OutOfRange)) (put m a i new_pair) m)
opens_by m a i true true z L h = opens_none m L
opens_by m a i true false true L h = h refl refl
opens_by m a i true false false L h = opens_none m L
opens_by m a i false y z L h = opens_none m L

opens_well : (m : Book) (room a i : ℕ) → Lawful m → OpensWell m (open_after m room a i)
unfolding open_after open_answer
opens_well m room a i L = opens_by m a i (in_range a i) (m a i).is_open (ltb 0 room) L (λ r d. opens_new m a i L r d)

pub opened_lawful : (m : Book) (room a i : ℕ) → Lawful m → Lawful (open_after m room a i)
opened_lawful m room a i L = (opens_well m room a i L).0

pub stays_open : (m : Book) (room a i : ℕ) → Lawful m → (b j : ℕ) → (m b j).is_open ≡ true → (open_after m room a i b j).is_open ≡ true
stays_open m room a i L = (opens_well m room a i L).1

-- no item is as large as the largest figure of 32 bits
out_of_range : (a i : ℕ) → 4294967295 < i → in_range a i ≡ false
unfolding in_range
out_of_range a i h = grind (arith, nat_tests)

pub answered_outside : (m : Book) (room a i : ℕ) → 4294967295 < i → open_answer m room a i ≡ Err OutOfRange
unfolding open_answer
answered_outside m room a i h = cond-false (in_range a i) _ _ (out_of_range a i h)

pub left_outside : (m : Book) (room a i : ℕ) → 4294967295 < i → open_after m room a i ≡ m
unfolding open_after
left_outside m room a i h = ap (λ (r : Answer). when_done r (put m a i new_pair) m) (answered_outside m room a i h)
