-- Moves that the ledger grants.
use Rattle.std.proofs.Common.{◌≡◌, ℕ, ◌≤◌, true, Ok, ◌∙◌, subst}
use Rattle.std.proofs.lemmas.Bool.{cond-true}
use Rattle.market.specs.declared.refusal.Refusal.TheVariants.{FreeTooSmall, MoreThanHeld}
use Rattle.ledger.specs.Books.{Book, Lawful}
use Rattle.ledger.specs.Moves.{Answer, hold_answer, hold_after, release_answer, release_after, pass_answer, pass_after, pay_in_answer, pay_in_after, draw_out_answer, draw_out_after}
use Rattle.ledger.specs.Laws.{Held, Released, PaidIn, DrawnOut}
use Rattle.ledger.proofs.OnePair.{enough}
use Rattle.ledger.proofs.Keeping.{hold_law, release_law, pay_in_law, draw_out_law}
use Rattle.ledger.proofs.Passing.{PassedWell, pass_well}

pub hold_granted : (m : Book) (a i n : ℕ) → (m a i).is_open ≡ true → n ≤ (m a i).free → hold_answer m a i n ≡ Ok tt
unfolding hold_answer
hold_granted m a i n o h = enough (m a i) (m a i).free n FreeTooSmall o h

pub hold_did : (m : Book) (a i n : ℕ) → Lawful m → (m a i).is_open ≡ true → n ≤ (m a i).free → Held m (hold_after m a i n) (Ok tt) a i n
hold_did m a i n L o h = let P : Answer → Type 0 = λ r. Held m (hold_after m a i n) r a i n in subst P (hold_granted m a i n o h) (hold_law m a i n L)

pub release_granted : (m : Book) (a i n : ℕ) → (m a i).is_open ≡ true → n ≤ (m a i).held → release_answer m a i n ≡ Ok tt
unfolding release_answer
release_granted m a i n o h = enough (m a i) (m a i).held n MoreThanHeld o h

pub release_did : (m : Book) (a i n : ℕ) → Lawful m → (m a i).is_open ≡ true → n ≤ (m a i).held → Released m (release_after m a i n) (Ok tt) a i n
release_did m a i n L o h = let P : Answer → Type 0 = λ r. Released m (release_after m a i n) r a i n in subst P (release_granted m a i n o h) (release_law m a i n L)

pub pass_granted : (m : Book) (a b i n : ℕ) → (m a i).is_open ≡ true → (m b i).is_open ≡ true → n ≤ (m a i).held → pass_answer m a b i n ≡ Ok tt
unfolding pass_answer
pass_granted m a b i n o p h = cond-true (m b i).is_open _ _ p ∙ enough (m a i) (m a i).held n MoreThanHeld o h

pub pass_did : (m : Book) (a b i n : ℕ) → Lawful m → (m a i).is_open ≡ true → (m b i).is_open ≡ true → n ≤ (m a i).held → PassedWell m (pass_after m a b i n) (Ok tt) a b i n
pass_did m a b i n L o p h = let P : Answer → Type 0 = λ r. PassedWell m (pass_after m a b i n) r a b i n in subst P (pass_granted m a b i n o p h) (pass_well m a b i n L)

pub pay_in_did : (m : Book) (a i n : ℕ) → Lawful m → pay_in_answer m a i n ≡ Ok tt → PaidIn m (pay_in_after m a i n) (Ok tt) a i n
pay_in_did m a i n L g = let P : Answer → Type 0 = λ r. PaidIn m (pay_in_after m a i n) r a i n in subst P g (pay_in_law m a i n L)

pub draw_out_did : (m : Book) (a i n : ℕ) → Lawful m → draw_out_answer m a i n ≡ Ok tt → DrawnOut m (draw_out_after m a i n) (Ok tt) a i n
draw_out_did m a i n L g = let P : Answer → Type 0 = λ r. DrawnOut m (draw_out_after m a i n) r a i n in subst P g (draw_out_law m a i n L)
