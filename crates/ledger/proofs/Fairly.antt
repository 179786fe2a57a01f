-- A fair edit: the pair stays open, has g more and l less free, k more and h less held, and its item's
-- total stays within the limit.
use Rattle.std.proofs.Common.{◌≡◌, ℕ, ◌+◌, ◌≤◌, true, false, sym, refl, ap, ◌∙◌, subst, ⊎_elim, arith}
use Rattle.std.proofs.lemmas.Bool.{cases_eq, cases_Bool, true≢false}
use Rattle.ledger.specs.Books.{Figures, Book, limit, in_range, nothing, total, Lawful}
use Rattle.ledger.specs.Moves.{Change, put, edit}
use Rattle.ledger.specs.Laws.{at, of, Stays, Else}
use Rattle.ledger.proofs.Puts.{in_accounts, put_other, put_each, total_put, total_part, worth_open, of_here, of_there, at_here, at_there}

pub record Fair (change : Change) (m : Book) (a i n g l k h : ℕ) : Type 0 where
  pub was : (m a i).is_open ≡ true
  pub stays : (change (m a i) n).is_open ≡ true
  pub free : (change (m a i) n).free + l ≡ (m a i).free + g
  pub held : (change (m a i) n).held + h ≡ (m a i).held + k
  pub fits : total m i + (g + k) ≤ limit + (l + h)

-- that much more and less at one pair, and nothing else
pub record Shift (m after : Book) (a i g l k h : ℕ) : Type 0 where
  pub stays : Stays m after
  pub others : Else a i m after
  pub free : (b j : ℕ) → (after b j).free + at a i l b j ≡ (m b j).free + at a i g b j
  pub held : (b j : ℕ) → (after b j).held + at a i h b j ≡ (m b j).held + at a i k b j
  pub totals : (j : ℕ) → total after j + (of i l j + of i h j) ≡ total m j + (of i g j + of i k j)

pub shift_none : (m : Book) (a i : ℕ) → Shift m m a i 0 0 0 0
shift_none m a i = record {
  stays = λ b j. refl;
  others = λ b j e. refl;
  free = λ b j. refl;
  held = λ b j. refl;
  totals = λ j. refl;
}

-- x at the pair before and y after, with l less and g more
put_at : (m : Book) (a i : ℕ) (f : Figures) (part : Figures → ℕ) (g l : ℕ) → part f + l ≡ part (m a i) + g → (b j : ℕ) → part (put m a i f b j) + at a i l b j ≡ part (m b j) + at a i g b j
put_at m a i f part g l e =
    put_each m a i f (λ b j x. part x + at a i l b j ≡ part (m b j) + at a i g b j)
    (let p = at_here a i l in let q = at_here a i g in omega arith)
    (λ b j d. let p = at_there a i l b j d in let q = at_there a i g b j d in omega arith)

pub edit_shift : (change : Change) (m : Book) (a i n g l k h : ℕ) → Lawful m → Fair change m a i n g l k h → Shift m (edit change m a i n) a i g l k h
unfolding edit
edit_shift change m a i n g l k h L F =
    let x = worth_open (m a i) F.was in
    let y = worth_open (change (m a i) n) F.stays in
    let p = F.free in
    let q = F.held in
    record {
      stays = put_each m a i (change (m a i) n) (λ b j f. f.is_open ≡ (m b j).is_open) (F.stays ∙ sym F.was) (λ b j e. refl);
      others = put_other m a i (change (m a i) n);
      free = put_at m a i (change (m a i) n) (λ f. f.free) g l p;
      held = put_at m a i (change (m a i) n) (λ f. f.held) k h q;
      totals = total_put m a i (change (m a i) n) g l k h (in_accounts a i (L.ranged a i F.was)) (omega arith);
    }

bounded_after : (m after : Book) (i g l k h : ℕ) → Lawful m → total m i + (g + k) ≤ limit + (l + h) → ((j : ℕ) → total after j + (of i l j + of i h j) ≡ total m j + (of i g j + of i k j)) → (j : ℕ) → total after j ≤ limit
bounded_after m after i g l k h L f e j =
    let t = e j in
    ⊎_elim
    (λ (d : i ≡ j).
    let p = of_here i l j d in
    let q = of_here i g j d in
    let u = of_here i h j d in
    let v = of_here i k j d in
    let w : total m j + (g + k) ≤ limit + (l + h) = subst (λ (x : ℕ). total m x + (g + k) ≤ limit + (l + h)) d f in
    omega arith)
    (λ (ne : i ≡ j → ⊥).
    let p = of_there i l j ne in
    let q = of_there i g j ne in
    let u = of_there i h j ne in
    let v = of_there i k j ne in
    let w = L.bounded j in
    omega arith)
    (cases_eq i j)

pub edit_lawful : (change : Change) (m : Book) (a i n g l k h : ℕ) → Lawful m → Fair change m a i n g l k h → Lawful (edit change m a i n)
unfolding edit
edit_lawful change m a i n g l k h L F = record {
  bounded = bounded_after m (put m a i (change (m a i) n)) i g l k h L F.fits (edit_shift change m a i n g l k h L F).totals;
  ranged = put_each m a i (change (m a i) n) (λ b j f. f.is_open ≡ true → in_range b j ≡ true) (λ e. L.ranged a i F.was) (λ b j e. L.ranged b j);
  closed = put_each m a i (change (m a i) n) (λ b j f. f.is_open ≡ false → f ≡ nothing) (λ e. absurd (true≢false (sym F.stays ∙ e))) (λ b j e. L.closed b j);
}

-- an open pair's figures are within the limit
pub open_fits : (m : Book) (a i : ℕ) → Lawful m → (m a i).is_open ≡ true → (m a i).free + (m a i).held ≤ limit
open_fits m a i L o =
    let p = total_part m a i (in_accounts a i (L.ranged a i o)) in
    let b = L.bounded i in
    let e = worth_open (m a i) o in
    omega arith

-- so are those of any pair, since one that is not open has nothing
pub figures_fit : (m : Book) (a i : ℕ) → Lawful m → (m a i).free + (m a i).held ≤ limit
figures_fit m a i L = ⊎_elim
    (λ (o : (m a i).is_open ≡ true). open_fits m a i L o)
    (λ (o : (m a i).is_open ≡ false).
    let f : (m a i).free ≡ 0 = ap (λ (x : Figures). x.free) (L.closed a i o) in
    let g : (m a i).held ≡ 0 = ap (λ (x : Figures). x.held) (L.closed a i o) in
    omega arith)
    (cases_Bool (m a i).is_open)
