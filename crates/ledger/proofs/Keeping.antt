-- Each move is lawful, and keeps its law.
use Rattle.std.proofs.Common.{◌≡◌, ℕ, ◌+◌, ◌≤◌, true, arith}
use Rattle.market.specs.declared.refusal.Refusal.TheVariants.{FreeTooSmall, MoreThanHeld, TotalTooLarge}
use Rattle.ledger.specs.Books.{Book, limit, total, Lawful}
use Rattle.ledger.specs.Moves.{to_held, to_free, more_free, less_free, hold_answer, hold_after, release_answer, release_after, pay_in_answer, pay_in_after, draw_out_answer, draw_out_after}
use Rattle.ledger.specs.Laws.{Held, Released, PaidIn, DrawnOut}
use Rattle.ledger.proofs.Fairly.{Fair}
use Rattle.ledger.proofs.OnePair.{Moved, one_pair, of_none, at_none}
use Rattle.ledger.proofs.Passing.{take_fair}

pub hold_fair : (m : Book) (a i n : ℕ) → Lawful m → (m a i).is_open ≡ true → n ≤ (m a i).free → Fair to_held m a i n 0 n n 0
hold_fair m a i n L o h = record { was = o; stays = o; free = omega arith; held = omega arith; fits = let b = L.bounded i in omega arith }

pub release_fair : (m : Book) (a i n : ℕ) → Lawful m → (m a i).is_open ≡ true → n ≤ (m a i).held → Fair to_free m a i n n 0 0 n
release_fair m a i n L o h = record { was = o; stays = o; free = omega arith; held = omega arith; fits = let b = L.bounded i in omega arith }

pub draw_fair : (m : Book) (a i n : ℕ) → Lawful m → (m a i).is_open ≡ true → n ≤ (m a i).free → Fair less_free m a i n 0 n 0 0
draw_fair m a i n L o h = record { was = o; stays = o; free = omega arith; held = omega arith; fits = let b = L.bounded i in omega arith }

pub hold_moved : (m : Book) (a i n : ℕ) → Lawful m → Moved m (hold_after m a i n) (hold_answer m a i n) a i 0 n n 0
unfolding hold_after hold_answer
hold_moved m a i n L = one_pair to_held m a i n (m a i).free n FreeTooSmall 0 n n 0 L (hold_fair m a i n L)

pub hold_law : (m : Book) (a i n : ℕ) → Lawful m → Held m (hold_after m a i n) (hold_answer m a i n) a i n
hold_law m a i n L =
    let M = hold_moved m a i n L in
    let S = M.shift in
    let none = at_none (hold_answer m a i n) a i in
    let no_item = of_none (hold_answer m a i n) i in
    record {
      leaves = M.leaves;
      stays = S.stays;
      others = S.others;
      free = λ b j. let p = S.free b j in let z = none b j in omega arith;
      held = λ b j. let p = S.held b j in let z = none b j in omega arith;
      shares = λ b j. let p = S.free b j in let q = S.held b j in let z = none b j in omega arith;
      totals = λ j. let t = S.totals j in let z = no_item j in omega arith;
    }

pub release_moved : (m : Book) (a i n : ℕ) → Lawful m → Moved m (release_after m a i n) (release_answer m a i n) a i n 0 0 n
unfolding release_after release_answer
release_moved m a i n L = one_pair to_free m a i n (m a i).held n MoreThanHeld n 0 0 n L (release_fair m a i n L)

pub release_law : (m : Book) (a i n : ℕ) → Lawful m → Released m (release_after m a i n) (release_answer m a i n) a i n
release_law m a i n L =
    let M = release_moved m a i n L in
    let S = M.shift in
    let none = at_none (release_answer m a i n) a i in
    let no_item = of_none (release_answer m a i n) i in
    record {
      leaves = M.leaves;
      stays = S.stays;
      others = S.others;
      free = λ b j. let p = S.free b j in let z = none b j in omega arith;
      held = λ b j. let p = S.held b j in let z = none b j in omega arith;
      shares = λ b j. let p = S.free b j in let q = S.held b j in let z = none b j in omega arith;
      totals = λ j. let t = S.totals j in let z = no_item j in omega arith;
    }

pub pay_in_moved : (m : Book) (a i n : ℕ) → Lawful m → Moved m (pay_in_after m a i n) (pay_in_answer m a i n) a i n 0 0 0
unfolding pay_in_after pay_in_answer
pay_in_moved m a i n L = one_pair more_free m a i n limit (total m i + n) TotalTooLarge n 0 0 0 L (take_fair m a i n)

pub pay_in_law : (m : Book) (a i n : ℕ) → Lawful m → PaidIn m (pay_in_after m a i n) (pay_in_answer m a i n) a i n
pay_in_law m a i n L =
    let M = pay_in_moved m a i n L in
    let S = M.shift in
    let none = at_none (pay_in_answer m a i n) a i in
    let no_item = of_none (pay_in_answer m a i n) i in
    record {
      leaves = M.leaves;
      stays = S.stays;
      others = S.others;
      free = λ b j. let p = S.free b j in let z = none b j in omega arith;
      held = λ b j. let p = S.held b j in let z = none b j in omega arith;
      shares = λ b j. let p = S.free b j in let q = S.held b j in let z = none b j in omega arith;
      totals = λ j. let t = S.totals j in let z = no_item j in omega arith;
    }

pub draw_out_moved : (m : Book) (a i n : ℕ) → Lawful m → Moved m (draw_out_after m a i n) (draw_out_answer m a i n) a i 0 n 0 0
unfolding draw_out_after draw_out_answer
draw_out_moved m a i n L = one_pair less_free m a i n (m a i).free n FreeTooSmall 0 n 0 0 L (draw_fair m a i n L)

pub draw_out_law : (m : Book) (a i n : ℕ) → Lawful m → DrawnOut m (draw_out_after m a i n) (draw_out_answer m a i n) a i n
draw_out_law m a i n L =
    let M = draw_out_moved m a i n L in
    let S = M.shift in
    let none = at_none (draw_out_answer m a i n) a i in
    let no_item = of_none (draw_out_answer m a i n) i in
    record {
      leaves = M.leaves;
      stays = S.stays;
      others = S.others;
      free = λ b j. let p = S.free b j in let z = none b j in omega arith;
      held = λ b j. let p = S.held b j in let z = none b j in omega arith;
      shares = λ b j. let p = S.free b j in let q = S.held b j in let z = none b j in omega arith;
      totals = λ j. let t = S.totals j in let z = no_item j in omega arith;
    }
