-- The book of a list of records: what a read finds, and what a write leaves.
use Rattle.std.specs.Prelude.{◌≡◌, ℕ, zero, suc, ◌<◌, ◌≤◌, take, slice_index_or, Bool, true, false, cond, List, [], ◌∷◌, length, ◌++◌, ◌==◌, ◌≢◌, slice_set, refl}
use Rattle.std.proofs.Common.{sym, ap, subst, ◌∙◌, ⊎_elim, arith, length-set, get_or-set_same, get_or-set_other}
use Rattle.std.proofs.lemmas.List.{length-take, get_or-take, take-set-le}
use Rattle.std.proofs.Math.Path.{fun_ext}
use Rattle.std.proofs.lemmas.Bool.{cases_eq, cases_Bool, eq-eqb, ne_eqb, eqb-true, and_from, and_parts, and_left, and_right, true≢false, false≢true, cond-true, cond-false}
use Rattle.std.proofs.lemmas.Bool.Decides.{nat_tests}
use Rattle.ledger.specs.Books.{Figures, Book, nothing, in_range, Lawful}
use Rattle.ledger.specs.Moves.{same_pair, put}
use Rattle.line_ledger.specs.declared.record.PairRecord.{PairRecord}
use Rattle.line_ledger.specs.Rows.{blank, figures, row, stands, look, Apart, Ranged, Bounded, Kept}

pub stands_true : (p : PairRecord) (a i : ℕ) → p.account ≡ a → p.item ≡ i → stands p a i ≡ true
stands_true p a i e d = and_from (p.account == a) (p.item == i) (eq-eqb p.account a e) (eq-eqb p.item i d)

pub stands_false : (p : PairRecord) (a i : ℕ) → (p.account ≡ a → p.item ≢ i) → stands p a i ≡ false
stands_false p a i h =
    ⊎_elim
    (λ (e : p.account ≡ a). and_right (p.account == a) (p.item == i) (ne_eqb p.item i (h e)))
    (λ (ne : p.account ≡ a → ⊥). and_left (p.account == a) (p.item == i) (ne_eqb p.account a ne))
    (cases_eq p.account a)

pub stands_is : (p : PairRecord) (a i : ℕ) → stands p a i ≡ true → (p.account ≡ a) × (p.item ≡ i)
stands_is p a i h =
    let q = and_parts (p.account == a) (p.item == i) h in
    (eqb-true p.account a q.0, eqb-true p.item i q.1)

pub fewer_apart : (rows : List PairRecord) (n : ℕ) → Apart rows → Apart (take n rows)
fewer_apart rows n A j k c =
    let size = length-take n rows in
    let inside : k < length rows = omega (arith, c.inside, size) in
    let few : k < n = omega (arith, c.inside, size) in
    let at : (i : ℕ) → i < n → slice_index_or (take n rows) i blank ≡ slice_index_or rows i blank = λ i h. get_or-take _ _ _ _ h in
    let front : j < n = omega (arith, few, c.before) in
    A j k (record {
      before = c.before;
      inside = inside;
      accounts = sym (ap (λ (p : PairRecord). p.account) (at j front)) ∙ c.accounts ∙ ap (λ (p : PairRecord). p.account) (at k few);
      items = sym (ap (λ (p : PairRecord). p.item) (at j front)) ∙ c.items ∙ ap (λ (p : PairRecord). p.item) (at k few);
    })

pub rest_apart : (p : PairRecord) (rows : List PairRecord) → Apart (p ∷ rows) → Apart rows
rest_apart p rows A j k c =
    A (suc j) (suc k) (let b = c.before in let h = c.inside in record { before = omega arith; inside = omega arith; accounts = c.accounts; items = c.items })

pub look_none : (a i : ℕ) → look [] a i ≡ nothing
unfolding look
look_none a i = refl

pub look_closed : (rows : List PairRecord) (a i : ℕ) → (look rows a i).is_open ≡ false → look rows a i ≡ nothing
unfolding look
look_closed [] a i h = refl
look_closed (p ∷ rows) a i h =
    ⊎_elim
    (λ (o : (look rows a i).is_open ≡ true).
    absurd (true≢false (sym o ∙ sym (ap (λ (f : Figures). f.is_open) (cond-true (look rows a i).is_open _ _ o)) ∙ h)))
    (λ (c : (look rows a i).is_open ≡ false).
    let e = cond-false (look rows a i).is_open (look rows a i) (cond (stands p a i) (figures p) nothing) c in
    ⊎_elim
    (λ (s : stands p a i ≡ true). absurd (true≢false (sym (ap (λ (f : Figures). f.is_open) (e ∙ cond-true (stands p a i) _ _ s)) ∙ h)))
    (λ (s : stands p a i ≡ false). e ∙ cond-false (stands p a i) _ _ s)
    (cases_Bool (stands p a i)))
    (cases_Bool (look rows a i).is_open)

above : (s : Bool) (f g h : Figures) → f.is_open ≡ true → cond (cond s f g).is_open (cond s f g) h ≡ cond s f (cond g.is_open g h)
above true f g h o = cond-true f.is_open f h o
above false f g h o = refl

more_at : (rows : List PairRecord) (p : PairRecord) (b j : ℕ) → look (rows ++ p ∷ []) b j ≡ put (look rows) p.account p.item (figures p) b j
unfolding look put
more_at [] p b j = refl
more_at (q ∷ rows) p b j =
    ap (λ (f : Figures). cond f.is_open f (cond (stands q b j) (figures q) nothing)) (more_at rows p b j)
    ∙ above (stands p b j) (figures p) (look rows b j) (cond (stands q b j) (figures q) nothing) refl

-- one more record is a put
pub look_more : (rows : List PairRecord) (p : PairRecord) → look (rows ++ p ∷ []) ≡ put (look rows) p.account p.item (figures p)
look_more rows p = fun_ext (λ b. fun_ext (λ j. more_at rows p b j))

pub look_past : (rows : List PairRecord) (p : PairRecord) (a i : ℕ) → (p.account ≡ a → p.item ≢ i) → look (rows ++ p ∷ []) a i ≡ look rows a i
unfolding put
look_past rows p a i h = more_at rows p a i ∙ cond-false (stands p a i) (figures p) (look rows a i) (stands_false p a i h)

pub look_here : (rows : List PairRecord) (p : PairRecord) (a i : ℕ) → p.account ≡ a → p.item ≡ i → look (rows ++ p ∷ []) a i ≡ figures p
unfolding put
look_here rows p a i e d = more_at rows p a i ∙ cond-true (stands p a i) (figures p) (look rows a i) (stands_true p a i e d)

-- one record in front of the others: it counts for its pair if that has no other
pub front_past : (p : PairRecord) (rows : List PairRecord) (a i : ℕ) → stands p a i ≡ false → look (p ∷ rows) a i ≡ look rows a i
unfolding look
front_past p rows a i s =
    ⊎_elim
    (λ (o : (look rows a i).is_open ≡ true). cond-true (look rows a i).is_open _ _ o)
    (λ (c : (look rows a i).is_open ≡ false). cond-false (look rows a i).is_open _ _ c ∙ cond-false (stands p a i) _ _ s ∙ sym (look_closed rows a i c))
    (cases_Bool (look rows a i).is_open)

pub front_here : (p : PairRecord) (rows : List PairRecord) (a i : ℕ) → stands p a i ≡ true → look rows a i ≡ nothing → look (p ∷ rows) a i ≡ figures p
unfolding look
front_here p rows a i s z = cond-false (look rows a i).is_open _ _ (ap (λ (f : Figures). f.is_open) z) ∙ cond-true (stands p a i) _ _ s

front_at : (p : PairRecord) (rows : List PairRecord) → look rows p.account p.item ≡ nothing → (b j : ℕ) → look (p ∷ rows) b j ≡ put (look rows) p.account p.item (figures p) b j
unfolding put
front_at p rows z b j =
    ⊎_elim
    (λ (s : stands p b j ≡ true).
    let q = stands_is p b j s in
    front_here p rows b j s (ap (λ (x : ℕ). look rows x j) (sym q.0) ∙ ap (look rows p.account) (sym q.1) ∙ z) ∙ sym (cond-true (stands p b j) _ _ s))
    (λ (s : stands p b j ≡ false). front_past p rows b j s ∙ sym (cond-false (stands p b j) _ _ s))
    (cases_Bool (stands p b j))

pub look_front : (p : PairRecord) (rows : List PairRecord) → look rows p.account p.item ≡ nothing → look (p ∷ rows) ≡ put (look rows) p.account p.item (figures p)
look_front p rows z = fun_ext (λ b. fun_ext (λ j. front_at p rows z b j))

pub look_fresh : (rows : List PairRecord) (a i : ℕ) → ((k : ℕ) → k < length rows → (row rows k).account ≡ a → (row rows k).item ≢ i) → look rows a i ≡ nothing
look_fresh [] a i h = look_none a i
look_fresh (p ∷ rows) a i h = front_past p rows a i (stands_false p a i (h 0 (omega arith))) ∙ look_fresh rows a i (λ k l. h (suc k) (omega arith))

pub first_alone : (p : PairRecord) (rows : List PairRecord) (a i : ℕ) → Apart (p ∷ rows) → p.account ≡ a → p.item ≡ i → look rows a i ≡ nothing
first_alone p rows a i A e d = look_fresh rows a i (λ k l x y. A 0 (suc k) (record { before = omega arith; inside = omega arith; accounts = e ∙ sym x; items = d ∙ sym y }))

-- the record at k is what the book says of its pair
pub look_at : (rows : List PairRecord) (k a i : ℕ) → Apart rows → k < length rows → (row rows k).account ≡ a → (row rows k).item ≡ i → look rows a i ≡ figures (row rows k)
look_at [] k a i A l e d = absurd (omega arith)
look_at (p ∷ rows) zero a i A l e d = front_here p rows a i (stands_true p a i e d) (first_alone p rows a i A e d)
look_at (p ∷ rows) (suc k) a i A l e d =
    front_past p rows a i (stands_false p a i (λ x y. A 0 (suc k) (record { before = omega arith; inside = l; accounts = x ∙ sym e; items = y ∙ sym d })))
    ∙ look_at rows k a i (rest_apart p rows A) (omega arith) e d

-- a write at or past n does not count for the first n
pub look_set_past : (rows : List PairRecord) (n k : ℕ) (p : PairRecord) → n ≤ k → (b j : ℕ) → look (take n (slice_set rows k p)) b j ≡ look (take n rows) b j
look_set_past rows n k p h b j = ap (λ (v : List PairRecord). look v b j) (take-set-le n rows k p h)

twice : (t : Bool) (f g h : Figures) → cond t g (cond t f h) ≡ cond t g h
twice true f g h = refl
twice false f g h = refl

-- of two puts of one pair the first does not count; puts of two pairs can change places
put_twice : (m : Book) (a i : ℕ) (f g : Figures) → put (put m a i f) a i g ≡ put m a i g
unfolding put
put_twice m a i f g = fun_ext (λ b. fun_ext (λ j. twice (same_pair a i b j) f g (m b j)))

across : (s t : Bool) (f g h : Figures) → (s ≡ true → t ≢ true) → cond s f (cond t g h) ≡ cond t g (cond s f h)
across true true f g h k = absurd (k refl refl)
across true false f g h k = refl
across false true f g h k = refl
across false false f g h k = refl

put_across : (m : Book) (a i : ℕ) (f : Figures) (b j : ℕ) (g : Figures) → (a ≡ b → i ≢ j) → put (put m b j g) a i f ≡ put (put m a i f) b j g
unfolding put
put_across m a i f b j g h = fun_ext (λ c. fun_ext (λ l. across (same_pair a i c l) (same_pair b j c l) f g (m c l) (λ s t. h (grind (arith, nat_tests)) (grind (arith, nat_tests)))))

put_other : (m : Book) (a i : ℕ) (f : Figures) (b j : ℕ) → (a ≡ b → i ≢ j) → put m a i f b j ≡ m b j
unfolding put
put_other m a i f b j h = cond-false (same_pair a i b j) f (m b j) (stands_false (record { account = a; item = i; free = 0; held = 0 }) b j h)

-- a write at k, of the same pair, is a put
pub look_set : (rows : List PairRecord) (k a i : ℕ) (p : PairRecord) → Apart rows → k < length rows → (row rows k).account ≡ a → (row rows k).item ≡ i → p.account ≡ a → p.item ≡ i → look (slice_set rows k p) ≡ put (look rows) a i (figures p)
look_set [] k a i p A l e d e' d' = absurd (omega arith)
look_set (q ∷ rows) zero a i p A l e d e' d' =
    let z = first_alone q rows a i A e d in
    look_front p rows (ap (λ (x : ℕ). look rows x p.item) e' ∙ ap (look rows a) d' ∙ z)
    ∙ ap (λ (x : ℕ). put (look rows) x p.item (figures p)) e'
    ∙ ap (λ (x : ℕ). put (look rows) a x (figures p)) d'
    ∙ sym (put_twice (look rows) a i (figures q) (figures p))
    ∙ ap (λ (x : ℕ). put (put (look rows) x i (figures q)) a i (figures p)) (sym e)
    ∙ ap (λ (x : ℕ). put (put (look rows) q.account x (figures q)) a i (figures p)) (sym d)
    ∙ ap (λ (m : Book). put m a i (figures p)) (sym (look_front q rows (ap (λ (x : ℕ). look rows x q.item) e ∙ ap (look rows a) d ∙ z)))
look_set (q ∷ rows) (suc k) a i p A l e d e' d' =
    let z = first_alone q rows q.account q.item A refl refl in
    let h : q.account ≡ a → q.item ≢ i = λ x y. A 0 (suc k) (record { before = omega arith; inside = l; accounts = x ∙ sym e; items = y ∙ sym d }) in
    let ih = look_set rows k a i p (rest_apart q rows A) (omega arith) e d e' d' in
    look_front q (slice_set rows k p)
    (ap (λ (m : Book). m q.account q.item) ih ∙ put_other (look rows) a i (figures p) q.account q.item (λ x y. h (sym x) (sym y)) ∙ z)
    ∙ ap (λ (m : Book). put m q.account q.item (figures q)) ih
    ∙ put_across (look rows) q.account q.item (figures q) a i (figures p) h
    ∙ ap (λ (m : Book). put m a i (figures p)) (sym (look_front q rows z))

-- the pairs stay where they are
part_set : (part : PairRecord → ℕ) (rows : List PairRecord) (k : ℕ) (p : PairRecord) → k < length rows → part (row rows k) ≡ part p → (j : ℕ) → part (row (slice_set rows k p) j) ≡ part (row rows j)
part_set part rows k p l e j =
    ⊎_elim
    (λ (z : j ≡ k).
    ap (λ (x : ℕ). part (row (slice_set rows k p) x)) z ∙ ap part (get_or-set_same rows k p blank l) ∙ sym e ∙ ap (λ (x : ℕ). part (row rows x)) (sym z))
    (λ (nz : j ≡ k → ⊥). ap part (get_or-set_other rows k j p blank nz))
    (cases_eq j k)

pub account_set : (rows : List PairRecord) (k a : ℕ) (p : PairRecord) → k < length rows → (row rows k).account ≡ a → p.account ≡ a → (j : ℕ) → (row (slice_set rows k p) j).account ≡ (row rows j).account
account_set rows k a p l e e' = part_set (λ x. x.account) rows k p l (e ∙ sym e')

pub item_set : (rows : List PairRecord) (k i : ℕ) (p : PairRecord) → k < length rows → (row rows k).item ≡ i → p.item ≡ i → (j : ℕ) → (row (slice_set rows k p) j).item ≡ (row rows j).item
item_set rows k i p l e e' = part_set (λ x. x.item) rows k p l (e ∙ sym e')

pub kept_set : (rows : List PairRecord) (k a i : ℕ) (p : PairRecord) → Kept rows → k < length rows → (row rows k).account ≡ a → (row rows k).item ≡ i → p.account ≡ a → p.item ≡ i → Lawful (look (slice_set rows k p)) → Kept (slice_set rows k p)
kept_set rows k a i p K l e d e' d' L =
    let f = account_set rows k a p l e e' in
    let g = item_set rows k i p l d d' in
    let n = length-set rows k p in
    record {
      apart = λ x y c. let h = c.inside in K.apart x y (record { before = c.before; inside = omega arith; accounts = sym (f x) ∙ c.accounts ∙ f y; items = sym (g x) ∙ c.items ∙ g y });
      ranged = λ x h. subst (λ (v : ℕ). in_range v (row (slice_set rows k p) x).item ≡ true) (sym (f x)) (subst (λ (v : ℕ). in_range (row rows x).account v ≡ true) (sym (g x)) (K.ranged x (omega arith)));
      bounded = L.bounded;
    }

-- the law
look_ranged : (rows : List PairRecord) (a i : ℕ) → Ranged rows → (look rows a i).is_open ≡ true → in_range a i ≡ true
unfolding look
look_ranged [] a i R h = absurd (false≢true h)
look_ranged (p ∷ rows) a i R h =
    ⊎_elim
    (λ (s : stands p a i ≡ true).
    let q = stands_is p a i s in
    subst (λ (v : ℕ). in_range v i ≡ true) q.0 (subst (λ (v : ℕ). in_range p.account v ≡ true) q.1 (R 0 (omega arith))))
    (λ (s : stands p a i ≡ false). look_ranged rows a i (λ k l. R (suc k) (omega arith)) (ap (λ (f : Figures). f.is_open) (sym (front_past p rows a i s)) ∙ h))
    (cases_Bool (stands p a i))

pub look_lawful : (rows : List PairRecord) → Ranged rows → Bounded rows → Lawful (look rows)
look_lawful rows R B = record { bounded = B; ranged = λ a i h. look_ranged rows a i R h; closed = look_closed rows }

pub kept_lawful : (rows : List PairRecord) → Kept rows → Lawful (look rows)
kept_lawful rows K = look_lawful rows K.ranged K.bounded
