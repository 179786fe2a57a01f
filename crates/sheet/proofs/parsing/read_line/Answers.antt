use Rattle.std.proofs.Common.{◌≡◌, ℕ, take, Some, None, Err, sym, ap, ◌∙◌, rules}
use Rattle.std.specs.Option.{option_map}
use Rattle.market.specs.declared.refusal.Refusal.{Refusal}
use Rattle.market.specs.declared.refusal.Refusal.TheVariants.{UnknownCode}
use Rattle.sheet.specs.Codes.{announced}
use Rattle.sheet.specs.Faults.{fault}
use Rattle.sheet.specs.Parsing.{closed, parsed}
use Rattle.sheet.specs.Told.{refused, says}
use Rattle.sheet.proofs.Closing.{no_code, whole}
use Rattle.sheet.proofs.Refusing.{value_of, error_of}
use Rattle.sheet.proofs.Rereading.{told_only}
use Rattle.sheet.proofs.Writing.{told_written}
use Rattle.sheet.proofs.parsing.read_line.Goals as goal

pub returns-in_err-form-clause-answer : goal.returns-in_err-form-clause-answer
returns-in_err-form-clause-answer c =
    let none : (None ≡ c.split_code.result) × (c.in_err-form.field-0.0 ≡ UnknownCode) = error_of _ _ _ (sym c.ok_or.ensures.value ∙ c.in_err-form.was) in
    let is : c.from_residual.result ≡ Err (fault c.in_err-form.field-0.0 0) = search rules in
    let told : refused (fault c.in_err-form.field-0.0 0) ≡ parsed c.args.line.now = ap (λ (w : Refusal). refused (fault w 0)) none.1 ∙ no_code c.args.line.now c.if-is_empty.ensures (ap (option_map (λ p. (p.0, p.1.now))) none.0 ∙ c.split_code.ensures) in
    ap says is ∙ told

pub returns-in_err-found : goal.returns-in_err-found
returns-in_err-found c =
    let form : Some (c.in_ok-form.form, c.in_ok-form.fields.now) ≡ announced c.args.line.now =
    ap (option_map (λ p. (p.0, p.1.now))) (value_of _ _ _ (sym c.ok_or.ensures.value ∙ c.in_ok-form.was)) ∙ c.split_code.ensures in
    let is : c.from_residual-in_err-found.result ≡ Err c.in_err-found.field-0.0 = search rules in
    let e = ap says is ∙ whole c.args.line.now _ c.in_ok-form.form _ c.if-is_empty.ensures form c.figures.ensures _ c.in_err-found.ensures in
    record { answer = e; written = told_written c.args.line.now _ e; only = told_only c.args.line.now _ e }

pub returns : goal.returns
returns c =
    let form : Some (c.in_ok-form.form, c.in_ok-form.fields.now) ≡ announced c.args.line.now =
    ap (option_map (λ p. (p.0, p.1.now))) (value_of _ _ _ (sym c.ok_or.ensures.value ∙ c.in_ok-form.was)) ∙ c.split_code.ensures in
    let e =
    c.close_line.ensures
    ∙ ap (λ (n : ℕ). closed c.in_ok-form.form c.in_ok-form.fields.now (take n c.in_ok-found.found.numbers) c.in_ok-found.found.rest.now) (sym c.figures.ensures)
    ∙ whole c.args.line.now _ c.in_ok-form.form _ c.if-is_empty.ensures form c.figures.ensures _ c.in_ok-found.ensures in
    record { answer = e; written = told_written c.args.line.now _ e; only = told_only c.args.line.now _ e }
