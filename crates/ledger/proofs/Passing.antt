-- A pass: n less held by the giver, then n more free for the taker.
use Rattle.std.proofs.Common.{◌≡◌, ℕ, ◌+◌, ◌≤◌, Bool, true, false, cond, ltb, Ok, Err, refl, ◌∙◌, arith}
use Rattle.std.proofs.lemmas.Bool.{ltb-false}
use Rattle.market.specs.declared.refusal.Refusal.{Refusal}
use Rattle.market.specs.declared.refusal.Refusal.TheVariants.{PairNotOpen, MoreThanHeld}
use Rattle.ledger.specs.Books.{Book, limit, total, Lawful}
use Rattle.ledger.specs.Moves.{Answer, edit, when_done, more_free, less_held, pass_answer, pass_after}
use Rattle.ledger.specs.Laws.{Passed}
use Rattle.ledger.proofs.Puts.{of_here, of_zero, at_zero}
use Rattle.ledger.proofs.Fairly.{Fair, edit_shift, edit_lawful}

pub give_fair : (m : Book) (a i n : ℕ) → Lawful m → (m a i).is_open ≡ true → n ≤ (m a i).held → Fair less_held m a i n 0 0 0 n
give_fair m a i n L o h = record { was = o; stays = o; free = refl; held = omega arith; fits = let b = L.bounded i in omega arith }

-- once n is taken from the giver's held, the total has room for it
pub given_total : (m : Book) (a i n : ℕ) → Lawful m → Fair less_held m a i n 0 0 0 n → total (edit less_held m a i n) i + n ≤ limit
given_total m a i n L F =
    let t = (edit_shift less_held m a i n 0 0 0 n L F).totals i in
    let p = of_here i n i refl in
    let q = of_zero i i in
    let b = L.bounded i in
    omega arith

pub take_fair : (m : Book) (b i n : ℕ) → (m b i).is_open ≡ true → total m i + n ≤ limit → Fair more_free m b i n n 0 0 0
take_fair m b i n o h = record { was = o; stays = o; free = omega arith; held = refl; fits = omega arith }

pub record PassedWell (m after : Book) (r : Answer) (a b i n : ℕ) : Type 0 where
  pub lawful : Lawful after
  pub law : Passed m after r a b i n

pub pass_well : (m : Book) (a b i n : ℕ) → Lawful m → PassedWell m (pass_after m a b i n) (pass_answer m a b i n) a b i n
unfolding pass_after pass_answer
pass_well m a b i n L = go (m b i).is_open refl (m a i).is_open refl (ltb (m a i).held n) refl
  where
    none : (r : Refusal) → PassedWell m m (Err r) a b i n
    none r = record {
      lawful = L;
      law = record {
        leaves = refl;
        stays = λ c j. refl;
        others = λ c j p q. refl;
        totals = λ j. refl;
        free = λ c j. let q = at_zero b i c j in omega arith;
        held = λ c j. let p = at_zero a i c j in omega arith;
        shares = λ c j. let p = at_zero a i c j in let q = at_zero b i c j in omega arith;
      };
    }

    go : (q : Bool) → (m b i).is_open ≡ q → (p : Bool) → (m a i).is_open ≡ p → (t : Bool) → ltb (m a i).held n ≡ t → PassedWell m (when_done (cond q (cond p (cond t (Err MoreThanHeld) (Ok tt)) (Err PairNotOpen)) (Err PairNotOpen)) (edit more_free (edit less_held m a i n) b i n) m) (cond q (cond p (cond t (Err MoreThanHeld) (Ok tt)) (Err PairNotOpen)) (Err PairNotOpen)) a b i n
    go false u p v t h = none PairNotOpen
    go true u false v t h = none PairNotOpen
    go true u true v true h = none MoreThanHeld
    go true u true v false h =
        let F = give_fair m a i n L v (ltb-false (m a i).held n h) in
        let S = edit_shift less_held m a i n 0 0 0 n L F in
        let L' = edit_lawful less_held m a i n 0 0 0 n L F in
        let G = take_fair (edit less_held m a i n) b i n (S.stays b i ∙ u) (given_total m a i n L F) in
        let T = edit_shift more_free (edit less_held m a i n) b i n n 0 0 0 L' G in
        record {
          lawful = edit_lawful more_free (edit less_held m a i n) b i n n 0 0 0 L' G;
          law = record {
            leaves = tt;
            stays = λ c j. T.stays c j ∙ S.stays c j;
            others = λ c j p q. T.others c j q ∙ S.others c j p;
            totals = λ j. let s = S.totals j in let t = T.totals j in let z = of_zero i j in omega arith;
            free = λ c j. let s = S.free c j in let t = T.free c j in let y = at_zero a i c j in let z = at_zero b i c j in omega arith;
            held = λ c j. let s = S.held c j in let t = T.held c j in let y = at_zero a i c j in let z = at_zero b i c j in omega arith;
            shares = λ c j. let p = S.free c j in let q = T.free c j in let s = S.held c j in let t = T.held c j in let y = at_zero a i c j in let z = at_zero b i c j in omega arith;
          };
        }

pub pass_law : (m : Book) (a b i n : ℕ) → Lawful m → Passed m (pass_after m a b i n) (pass_answer m a b i n) a b i n
pass_law m a b i n L = (pass_well m a b i n L).law

pub pass_lawful : (m : Book) (a b i n : ℕ) → Lawful m → Lawful (pass_after m a b i n)
pass_lawful m a b i n L = (pass_well m a b i n L).lawful
