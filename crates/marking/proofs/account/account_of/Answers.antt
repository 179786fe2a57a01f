use Rattle.std.proofs.Common.{◌≡◌, ℕ, ◌+◌, ◌≤◌, List, pos, ◌-ℤ◌, sym, ap, ◌∙◌, arith, w64, to_z, of_z}
use Rattle.std.proofs.lemmas.Int.{ints}
use Rattle.tape.specs.declared.line.Line.{Line}
use Rattle.tape.proofs.Ranged.{one_more, no_more}
use Rattle.laws.specs.Accounts.{enters, deals, cancels, entered, dealt, cancelled}
use Rattle.marking.specs.Orders.{account}
use Rattle.marking.proofs.Small.{entered_small, dealt_small, cancelled_small, same_account}
use Rattle.marking.proofs.account.account_of.Goals as goal

pub overflow_add-quantity : goal.overflow_add-quantity
overflow_add-quantity g c =
    let u = c.args.name.unit in
    let n = c.args.name.serial in
    let h : c.loop-line.quantity + enters u n c.in-Some.line ≤ entered (g.T.Tape.contents c.args.tape.now).lines u n = one_more (enters u n) _ _ _ _ _ c.in-Some.ensures.steps c.loop-line.invariant.0 in
    let s = entered_small u n (g.T.Tape.contents c.args.tape.now) (g.met.T.Tape.lawful c.args.tape.now) in
    let e = c.quantity_for-quantity.ensures ∙ ap (enters u n) (sym c.in-Entry.is) in
    omega (arith, e, h, s)

pub overflow_add-dealt : goal.overflow_add-dealt
overflow_add-dealt g c =
    let u = c.args.name.unit in
    let n = c.args.name.serial in
    let h : c.loop-line.dealt + deals u n c.in-Some.line ≤ dealt (g.T.Tape.contents c.args.tape.now).lines u n = one_more (deals u n) _ _ _ _ _ c.in-Some.ensures.steps c.loop-line.invariant.1 in
    let s = dealt_small u n (g.T.Tape.contents c.args.tape.now) (g.met.T.Tape.lawful c.args.tape.now) in
    let e = c.quantity_for-dealt.ensures ∙ ap (deals u n) (sym c.in-Deal.is) in
    omega (arith, e, h, s)

pub overflow_add-cancelled : goal.overflow_add-cancelled
overflow_add-cancelled g c =
    let u = c.args.name.unit in
    let n = c.args.name.serial in
    let h : c.loop-line.cancelled + cancels u n c.in-Some.line ≤ cancelled (g.T.Tape.contents c.args.tape.now).lines u n = one_more (cancels u n) _ _ _ _ _ c.in-Some.ensures.steps c.loop-line.invariant.2 in
    let s = cancelled_small u n (g.T.Tape.contents c.args.tape.now) (g.met.T.Tape.lawful c.args.tape.now) in
    let e = c.quantity_for-cancelled.ensures ∙ ap (cancels u n) (sym c.in-Cancel.is) in
    omega (arith, e, h, s)

pub overflow_cast-live : goal.overflow_cast-live
overflow_cast-live g c =
    let u = c.args.name.unit in
    let n = c.args.name.serial in
    let s0 = entered_small u n (g.T.Tape.contents c.args.tape.now) (g.met.T.Tape.lawful c.args.tape.now) in
    omega (arith, ints, c.loop-line.invariant.0, s0)

pub overflow_cast-live-2 : goal.overflow_cast-live-2
overflow_cast-live-2 g c =
    let u = c.args.name.unit in
    let n = c.args.name.serial in
    let s1 = dealt_small u n (g.T.Tape.contents c.args.tape.now) (g.met.T.Tape.lawful c.args.tape.now) in
    omega (arith, ints, c.loop-line.invariant.1, s1)

pub overflow_sub-live : goal.overflow_sub-live
overflow_sub-live g c =
    let u = c.args.name.unit in
    let n = c.args.name.serial in
    let s0 = entered_small u n (g.T.Tape.contents c.args.tape.now) (g.met.T.Tape.lawful c.args.tape.now) in
    let s1 = dealt_small u n (g.T.Tape.contents c.args.tape.now) (g.met.T.Tape.lawful c.args.tape.now) in
    omega (arith, ints, c.loop-line.invariant.0, s0, c.loop-line.invariant.1, s1)

pub overflow_cast-live-3 : goal.overflow_cast-live-3
overflow_cast-live-3 g c =
    let u = c.args.name.unit in
    let n = c.args.name.serial in
    let s2 = cancelled_small u n (g.T.Tape.contents c.args.tape.now) (g.met.T.Tape.lawful c.args.tape.now) in
    omega (arith, ints, c.loop-line.invariant.2, s2)

pub overflow_sub-live-2 : goal.overflow_sub-live-2
overflow_sub-live-2 g c =
    let u = c.args.name.unit in
    let n = c.args.name.serial in
    let s0 = entered_small u n (g.T.Tape.contents c.args.tape.now) (g.met.T.Tape.lawful c.args.tape.now) in
    let s1 = dealt_small u n (g.T.Tape.contents c.args.tape.now) (g.met.T.Tape.lawful c.args.tape.now) in
    let s2 = cancelled_small u n (g.T.Tape.contents c.args.tape.now) (g.met.T.Tape.lawful c.args.tape.now) in
    omega (arith, ints, c.loop-line.invariant.0, s0, c.loop-line.invariant.1, s1, c.loop-line.invariant.2, s2)

pub returns : goal.returns
returns g c =
    let u = c.args.name.unit in
    let n = c.args.name.serial in
    let ls : List Line = (g.T.Tape.contents c.args.tape.now).lines in
    let law = g.met.T.Tape.lawful c.args.tape.now in
    let q = c.loop-line.quantity in
    let d = c.loop-line.dealt in
    let r = c.loop-line.cancelled in
    let x : q ≡ entered ls u n = no_more (enters u n) _ _ _ c.in-None.ensures.steps.0 c.loop-line.invariant.0 in
    let y : d ≡ dealt ls u n = no_more (deals u n) _ _ _ c.in-None.ensures.steps.0 c.loop-line.invariant.1 in
    let z : r ≡ cancelled ls u n = no_more (cancels u n) _ _ _ c.in-None.ensures.steps.0 c.loop-line.invariant.2 in
    let s = entered_small u n (g.T.Tape.contents c.args.tape.now) law in
    let t = dealt_small u n (g.T.Tape.contents c.args.tape.now) law in
    let v = cancelled_small u n (g.T.Tape.contents c.args.tape.now) law in
    let w : to_z w64 (of_z w64 (to_z w64 (of_z w64 (to_z w64 q -ℤ to_z w64 d)) -ℤ to_z w64 r)) ≡ (pos q -ℤ pos d) -ℤ pos r = omega (arith, ints, x, y, z, s, t, v) in
    same_account (account ls c.args.name) q d r _ x y z
    (w ∙ ap (λ (v : ℕ). (pos v -ℤ pos d) -ℤ pos r) x ∙ ap (λ (v : ℕ). (pos (entered ls u n) -ℤ pos v) -ℤ pos r) y ∙ ap (λ (v : ℕ). (pos (entered ls u n) -ℤ pos (dealt ls u n)) -ℤ pos v) z)
