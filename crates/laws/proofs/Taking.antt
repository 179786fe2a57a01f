-- A tape takes the lines of orders in range.
use Rattle.std.proofs.Common.{◌≡◌, ◌*◌, true, ltb, leb, List, [], ◌∷◌, length, sym, ap, ◌∙◌, append_assoc, append-nil, mul-le-mul_right, arith}
use Rattle.std.proofs.lemmas.List.{length_push}
use Rattle.std.proofs.lemmas.Bool.{and_parts, and_from, leb-true, le-leb, lt-ltb, cond-true}
use Rattle.tape.specs.declared.line.Line.{Line}
use Rattle.tape.specs.Lines.{in_range, all_in_range}
use Rattle.tape.specs.Tapes.{Contents, has_room, with_line, append_after}
use Rattle.tape.proofs.Ranged.{order_ranged, at_most}
use Rattle.rules.specs.Effects.{order_line, written}
use Rattle.laws.specs.Fitting.{PartInRange, LinesTaken}

pub part_in_range : PartInRange
part_in_range o q time h some le t =
    let r = order_ranged (order_line o o.quantity o.time) h in
    let most = at_most 1 999999999 o.quantity.number r.quantity in
    let limit = leb-true (o.quantity.number * o.price.number) 1000000000000000 r.amount in
    let m = mul-le-mul_right o.price.number le in
    and_from _ _ r.unit
    (and_from _ _ r.serial
    (and_from _ _ r.security
    (and_from _ _ r.account
    (and_from _ _ (and_from (leb 1 q.number) (leb q.number 999999999) (le-leb 1 q.number (omega (arith, some))) (le-leb q.number 999999999 (omega (arith, most, le))))
    (and_from _ _ r.price
    (and_from _ _ (le-leb (q.number * o.price.number) 1000000000000000 (omega (arith, limit, m)))
    (and_from _ _ r.agreement t)))))))

pub lines_taken : LinesTaken
lines_taken [] c g r = ap (λ (v : List Line). record { date = c.date; capacity = c.capacity; lines = v }) (sym (append-nil c.lines))
lines_taken (l ∷ ls) c g r =
    let p = and_parts (in_range l) (all_in_range ls) g in
    let room : ltb (length c.lines) c.capacity ≡ true = lt-ltb _ _ (omega (arith, r)) in
    let one : append_after l c ≡ with_line l c = cond-true (in_range l) _ _ p.0 ∙ cond-true (has_room c) _ _ room in
    let long = length_push c.lines l in
    ap (λ (v : Contents). written v ls) one
    ∙ lines_taken ls (with_line l c) p.1 (omega (arith, long, r))
    ∙ ap (λ (v : List Line). record { date = c.date; capacity = c.capacity; lines = v }) (append_assoc c.lines (l ∷ []) ls)
