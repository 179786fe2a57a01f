-- What a line tells of an order is small.
use Rattle.std.proofs.Common.{◌≡◌, ℕ, ◌≤◌, true, ◌&&◌, eqb, ℤ, arith}
use Rattle.std.proofs.lemmas.Bool.{and_parts, cond_both}
use Rattle.ledger.specs.Laws.{at}
use Rattle.tape.specs.declared.line.Line.{Line}
use Rattle.tape.specs.declared.line.Line.TheVariants.{Entry, Deal, Cancel, PaidIn, DrawnOut}
use Rattle.tape.specs.declared.line.OrderLine.{OrderLine}
use Rattle.tape.specs.Lines.{order_in_range, in_range}
use Rattle.tape.specs.Tapes.{Contents, Lawful}
use Rattle.tape.proofs.Ranged.{order_ranged, at_most, bounded}
use Rattle.laws.specs.Accounts.{of_line, enters, deals, cancels, entered, dealt, cancelled}
use Rattle.marking.specs.declared.account.OrderAccount.{OrderAccount}

line_small : (u n : ℕ) (o : OrderLine) → order_in_range o ≡ true → of_line o u n ≤ 1000000000000000
unfolding at
line_small u n o h =
    let q = at_most 1 999999999 o.quantity.number (order_ranged o h).quantity in
    let P : ℕ → Type 0 = λ x. x ≤ 1000000000000000 in
    cond_both (eqb o.unit u && eqb o.serial n) o.quantity.number 0 P (λ e. omega (arith, q)) (λ e. omega arith)

enters_small : (u n : ℕ) (l : Line) → in_range l ≡ true → enters u n l ≤ 1000000000000000
enters_small u n (Entry o) h = line_small u n o h
enters_small u n (Deal o d) h = omega arith
enters_small u n (Cancel o w) h = omega arith
enters_small u n (PaidIn p) h = omega arith
enters_small u n (DrawnOut p) h = omega arith

deals_small : (u n : ℕ) (l : Line) → in_range l ≡ true → deals u n l ≤ 1000000000000000
deals_small u n (Entry o) h = omega arith
deals_small u n (Deal o d) h = line_small u n o (and_parts _ _ h).0
deals_small u n (Cancel o w) h = omega arith
deals_small u n (PaidIn p) h = omega arith
deals_small u n (DrawnOut p) h = omega arith

cancels_small : (u n : ℕ) (l : Line) → in_range l ≡ true → cancels u n l ≤ 1000000000000000
cancels_small u n (Entry o) h = omega arith
cancels_small u n (Deal o d) h = omega arith
cancels_small u n (Cancel o w) h = line_small u n o h
cancels_small u n (PaidIn p) h = omega arith
cancels_small u n (DrawnOut p) h = omega arith

pub entered_small : (u n : ℕ) (c : Contents) → Lawful c → entered c.lines u n ≤ 4096000000000000000
entered_small u n = bounded (enters u n) (enters_small u n)

pub dealt_small : (u n : ℕ) (c : Contents) → Lawful c → dealt c.lines u n ≤ 4096000000000000000
dealt_small u n = bounded (deals u n) (deals_small u n)

pub cancelled_small : (u n : ℕ) (c : Contents) → Lawful c → cancelled c.lines u n ≤ 4096000000000000000
cancelled_small u n = bounded (cancels u n) (cancels_small u n)

pub same_account : (m : OrderAccount) (x y z : ℕ) (w : ℤ) → x ≡ m.quantity → y ≡ m.dealt → z ≡ m.cancelled → w ≡ m.live → record { quantity = x; dealt = y; cancelled = z; live = w } ≡ m
same_account m x y z w p q r s = rw (p, q, r, s)
