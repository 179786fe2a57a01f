use Rattle.std.proofs.Common.{◌≡◌, ◌+◌, None, Err, sym, ap, ◌∙◌, arith, rules}
use Rattle.std.proofs.lemmas.Bool.{ltb-true, ltb-false}
use Rattle.std.proofs.lemmas.List.{take_rest}
use Rattle.sheet_text.specs.Figures.{figure}
use Rattle.sheet.specs.Faults.{no_figure}
use Rattle.sheet.specs.Gathered.{gathered}
use Rattle.sheet.proofs.Gathering.{no_digits, one_more}
use Rattle.sheet.proofs.Refusing.{value_of, error_of}
use Rattle.sheet.proofs.fields.read_figures.Goals as goal

pub returns-in_err-numbers : goal.returns-in_err-numbers
returns-in_err-numbers c =
    let none : (None ≡ c.figure.result) × (c.in_err-numbers.field-0.0 ≡ no_figure (c.loop-i.i + 2)) = error_of _ _ _ (sym c.ok_or.ensures.value ∙ c.in_err-numbers.was) in
    let e : c.from_residual.result ≡ Err c.in_err-numbers.field-0.0 = search rules in
    ap (gathered c.args.wanted) e ∙ ap Err none.1
    ∙ no_digits _ _ _ _ _ c.loop-i.invariant c.loop-i-test.true _ (search (rules, ltb-false)) (take_rest c.loop-i.rest.now 1)
    (none.0 ∙ c.figure.ensures ∙ ap figure c.cut.ensures.front)

pub loop-i-preserved : goal.loop-i-preserved
loop-i-preserved c =
    one_more _ _ _ _ _ c.loop-i.invariant c.loop-i-test.true _ _ _ c.requires (omega (arith, ltb-true, ltb-false)) (take_rest c.loop-i.rest.now 1)
    (value_of _ _ _ (sym c.ok_or.ensures.value ∙ c.in_ok-numbers.was) ∙ c.figure.ensures ∙ ap figure c.cut.ensures.front) c.cut.ensures.back
