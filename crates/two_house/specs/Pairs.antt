-- A pair opened at one of the two is that pair opened of both.
use Rattle.std.specs.Prelude.{◌≡◌, ℕ, ◌-◌, Bool, true, false, cond, not, ◌&&◌, Ok, Err, ◌==◌, ◌≢◌, nat_lt, refl}
use Rattle.std.proofs.Common.{sym}
use Rattle.std.proofs.Math.Path.{fun_ext}
use Rattle.std.proofs.lemmas.Bool.{eq-eqb, ne_eqb, true≢false, false≢true, cond-true, cond-false}
use Rattle.market.specs.declared.refusal.Refusal.TheVariants.{OutOfRange, PairOpen, NoLedgerLine}
use Rattle.ledger.specs.Books.{Book, Room, in_range}
use Rattle.ledger.specs.Moves.{Answer, edit}
use Rattle.ledger.specs.Opening.{Sharing, new_pair, open_answer, open_after, room_after}
use Rattle.two_house.specs.Houses.{both, both_room, both_share}
use Rattle.two_house.specs.Sides.{Verdict, Alike, in_bank, in_depository}

open_verdict : ℕ → ℕ → ℕ → Verdict
open_verdict room a i = λ f t. cond (in_range a i) (cond f.is_open (Err PairOpen) (cond (nat_lt 0 room) (Ok tt) (Err NoLedgerLine))) (Err OutOfRange)

pub open_in_bank : (m d : Book) (room a i : ℕ) → i ≡ 0 → Alike (open_answer m room a i) (open_answer (both m d) room a i) (both (open_after m room a i) d) (open_after (both m d) room a i)
unfolding open_answer open_after open_verdict edit
open_in_bank m d room a i e = in_bank (open_verdict room a i) (λ f n. new_pair) m d a i 0 e

pub open_in_depository : (m d : Book) (room a i : ℕ) → (i ≢ 0) → Alike (open_answer d room a i) (open_answer (both m d) room a i) (both m (open_after d room a i)) (open_after (both m d) room a i)
unfolding open_answer open_after open_verdict edit
open_in_depository m d room a i e = in_depository (open_verdict room a i) (λ f n. new_pair) m d a i 0 e

pub money_room : (x y : Room) (i : ℕ) → i ≡ 0 → x i ≡ both_room x y i
unfolding both_room
money_room x y i e = sym (cond-true (i == 0) (x i) (y i) (eq-eqb i 0 e))

pub security_room : (x y : Room) (i : ℕ) → (i ≢ 0) → y i ≡ both_room x y i
unfolding both_room
security_room x y i e = sym (cond-false (i == 0) (x i) (y i) (ne_eqb i 0 e))

-- one place less at the bank, or at the depository
less_money : (p q b d : Bool) (u v : ℕ) → p ≡ true → cond q (cond b (u - 1) u) v ≡ cond (cond p (q && b) (not q && d)) (cond q u v - 1) (cond q u v)
less_money true true true d u v e = refl
less_money true true false d u v e = refl
less_money true false b d u v e = refl
less_money false q b d u v e = absurd (false≢true e)

less_security : (p q b d : Bool) (u v : ℕ) → p ≡ false → cond q u (cond d (v - 1) v) ≡ cond (cond p (q && b) (not q && d)) (cond q u v - 1) (cond q u v)
less_security false true b d u v e = refl
less_security false false b true u v e = refl
less_security false false b false u v e = refl
less_security true q b d u v e = absurd (true≢false e)

pub room_in_bank : (r : Answer) (b d : Sharing) (x y : Room) (i : ℕ) → i ≡ 0 → both_room (room_after r b i x) y ≡ room_after r (both_share b d) i (both_room x y)
unfolding both_room both_share
room_in_bank (Ok t) b d x y i e = fun_ext (λ j. less_money (i == 0) (j == 0) (b i j) (d i j) (x j) (y j) (eq-eqb i 0 e))
room_in_bank (Err w) b d x y i e = refl

pub room_in_depository : (r : Answer) (b d : Sharing) (x y : Room) (i : ℕ) → (i ≢ 0) → both_room x (room_after r d i y) ≡ room_after r (both_share b d) i (both_room x y)
unfolding both_room both_share
room_in_depository (Ok t) b d x y i e = fun_ext (λ j. less_security (i == 0) (j == 0) (b i j) (d i j) (x j) (y j) (ne_eqb i 0 e))
room_in_depository (Err w) b d x y i e = refl

-- each item shares its own places
own_by : (p b d : Bool) → b ≡ true → d ≡ true → cond p (p && b) (not p && d) ≡ true
own_by true b d e h = e
own_by false b d e h = h

pub both_own : (b d : Sharing) (i : ℕ) → b i i ≡ true → d i i ≡ true → both_share b d i i ≡ true
unfolding both_share
both_own b d i e h = own_by (i == 0) (b i i) (d i i) e h
