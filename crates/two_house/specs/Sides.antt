-- A move of one of the two is that move of both.
use Rattle.std.specs.Prelude.{◌≡◌, ℕ, Bool, true, false, cond, Ok, Err, ◌==◌, ◌≢◌, refl}
use Rattle.std.proofs.Common.{sym, ap, subst, ◌∙◌}
use Rattle.std.proofs.Math.Path.{fun_ext}
use Rattle.std.proofs.lemmas.Bool.{eq-eqb, ne_eqb, true≢false, false≢true}
use Rattle.ledger.specs.Books.{Figures, Book, total}
use Rattle.ledger.specs.Moves.{Answer, Change, same_pair, put, edit, when_done, checked, less_held, more_free, pass_answer, pass_after}
use Rattle.market.specs.declared.refusal.Refusal.TheVariants.{PairNotOpen, MoreThanHeld}
use Rattle.ledger.proofs.Puts.{pair_is}
use Rattle.two_house.specs.Houses.{both}
use Rattle.two_house.specs.Parts.{money, security, same_total}

turn : (x y : Bool) (f g h : Figures) → (y ≡ true → x ≡ true) → cond x (cond y f g) h ≡ cond y f (cond x g h)
turn true true f g h k = refl
turn true false f g h k = refl
turn false true f g h k = absurd (false≢true (k refl))
turn false false f g h k = refl

turn_other : (x y : Bool) (f g h : Figures) → (y ≡ true → x ≡ false) → cond x h (cond y f g) ≡ cond y f (cond x h g)
turn_other true true f g h k = absurd (true≢false (k refl))
turn_other true false f g h k = refl
turn_other false true f g h k = refl
turn_other false false f g h k = refl

edit_money : (change : Change) (m d : Book) (a i n : ℕ) → i ≡ 0 → both (edit change m a i n) d ≡ edit change (both m d) a i n
unfolding edit both put
edit_money change m d a i n e =
    fun_ext (λ b. fun_ext (λ j. turn (j == 0) (same_pair a i b j) (change (m a i) n) (m b j) (d b j) (λ t. eq-eqb j 0 (sym (pair_is a i b j t).1 ∙ e))))
    ∙ ap (λ (f : Figures). put (both m d) a i (change f n)) (sym (money m d a i e))

edit_security : (change : Change) (m d : Book) (a i n : ℕ) → (i ≢ 0) → both m (edit change d a i n) ≡ edit change (both m d) a i n
unfolding edit both put
edit_security change m d a i n e =
    fun_ext (λ b. fun_ext (λ j. turn_other (j == 0) (same_pair a i b j) (change (d a i) n) (d b j) (m b j) (λ t. ne_eqb j 0 (λ z. e ((pair_is a i b j t).1 ∙ z)))))
    ∙ ap (λ (f : Figures). put (both m d) a i (change f n)) (sym (security m d a i e))

done_money : (r s : Answer) (p m d q : Book) → r ≡ s → both p d ≡ q → both (when_done r p m) d ≡ when_done s q (both m d)
done_money (Ok x) s p m d q e h = subst (λ (t : Answer). both p d ≡ when_done t q (both m d)) e h
done_money (Err x) s p m d q e h = subst (λ (t : Answer). both m d ≡ when_done t q (both m d)) e refl

done_security : (r s : Answer) (p m d q : Book) → r ≡ s → both m p ≡ q → both m (when_done r p d) ≡ when_done s q (both m d)
done_security (Ok x) s p m d q e h = subst (λ (t : Answer). both m p ≡ when_done t q (both m d)) e h
done_security (Err x) s p m d q e h = subst (λ (t : Answer). both m d ≡ when_done t q (both m d)) e refl

-- every move of one pair, by its verdict on the pair's figures and the item's total, and by its change
abbrev pub Verdict : Type 0
Verdict = Figures → ℕ → Answer

verdicts : (v : Verdict) (m d : Book) (a i : ℕ) → m a i ≡ d a i → total m i ≡ total d i → v (m a i) (total m i) ≡ v (d a i) (total d i)
verdicts v m d a i e t = ap (λ (f : Figures). v f (total m i)) e ∙ ap (v (d a i)) t

abbrev pub Alike : Answer → Answer → Book → Book → Type 0
Alike r s after wanted = (r ≡ s) × (after ≡ wanted)

pub in_bank : (v : Verdict) (change : Change) (m d : Book) (a i n : ℕ) → i ≡ 0 → Alike (v (m a i) (total m i)) (v (both m d a i) (total (both m d) i)) (both (when_done (v (m a i) (total m i)) (edit change m a i n) m) d) (when_done (v (both m d a i) (total (both m d) i)) (edit change (both m d) a i n) (both m d))
in_bank v change m d a i n e =
    let r = verdicts v m (both m d) a i (sym (money m d a i e)) (same_total m (both m d) i (λ b. sym (money m d b i e))) in
    (r, done_money _ _ _ m d _ r (edit_money change m d a i n e))

pub in_depository : (v : Verdict) (change : Change) (m d : Book) (a i n : ℕ) → (i ≢ 0) → Alike (v (d a i) (total d i)) (v (both m d a i) (total (both m d) i)) (both m (when_done (v (d a i) (total d i)) (edit change d a i n) d)) (when_done (v (both m d a i) (total (both m d) i)) (edit change (both m d) a i n) (both m d))
in_depository v change m d a i n e =
    let r = verdicts v d (both m d) a i (sym (security m d a i e)) (same_total d (both m d) i (λ b. sym (security m d b i e))) in
    (r, done_security _ _ _ m d _ r (edit_security change m d a i n e))

-- a pass has two pairs
abbrev pass_verdict : Figures → Figures → ℕ → Answer
pass_verdict f g n = cond g.is_open (checked f f.held n MoreThanHeld) (Err PairNotOpen)

pass_verdicts : (m d : Book) (a b i n : ℕ) → m a i ≡ d a i → m b i ≡ d b i → pass_verdict (m a i) (m b i) n ≡ pass_verdict (d a i) (d b i) n
pass_verdicts m d a b i n e h = ap (λ (f : Figures). pass_verdict f (m b i) n) e ∙ ap (λ (g : Figures). pass_verdict (d a i) g n) h

pub pass_in_bank : (m d : Book) (a b i n : ℕ) → i ≡ 0 → Alike (pass_answer m a b i n) (pass_answer (both m d) a b i n) (both (pass_after m a b i n) d) (pass_after (both m d) a b i n)
unfolding pass_answer pass_after
pass_in_bank m d a b i n e =
    let r = pass_verdicts m (both m d) a b i n (sym (money m d a i e)) (sym (money m d b i e)) in
    (r, done_money _ _ _ m d _ r (edit_money more_free (edit less_held m a i n) d b i n e ∙ ap (λ (x : Book). edit more_free x b i n) (edit_money less_held m d a i n e)))

pub pass_in_depository : (m d : Book) (a b i n : ℕ) → (i ≢ 0) → Alike (pass_answer d a b i n) (pass_answer (both m d) a b i n) (both m (pass_after d a b i n)) (pass_after (both m d) a b i n)
unfolding pass_answer pass_after
pass_in_depository m d a b i n e =
    let r = pass_verdicts d (both m d) a b i n (sym (security m d a i e)) (sym (security m d b i e)) in
    (r, done_security _ _ _ m d _ r (edit_security more_free m (edit less_held d a i n) b i n e ∙ ap (λ (x : Book). edit more_free x b i n) (edit_security less_held m d a i n e)))
