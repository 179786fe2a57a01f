use Rattle.std.proofs.lemmas.Iterator.{YieldsList-from_slice}
use Rattle.std.proofs.lemmas.Iterator.Search.{position_from_yields_List}
use Rattle.std.proofs.Common.{rules, tests, ◌≡◌, ◌==◌, length, ◌∙◌, ap, take, drop}
use Rattle.std.specs.List.{position}
use Rattle.std.specs.Option.{unwrap_or}
use Rattle.sheet_text.proofs.Cutting.{front, back, place}
use Rattle.sheet_text.proofs.cuts.cut.Goals as goal

pub returns : goal.returns
returns c =
    let found : c.position.result ≡ position (λ x. x == c.args.byte) c.args.text.now = position_from_yields_List _ _ _ c.position.result c.position.ensures.ran (YieldsList-from_slice c.args.text.now cc) (λ x b q k. search (rules, tests)) in
    let here = c.unwrap_or-end.ensures ∙ ap (λ p. unwrap_or p (length c.args.text.now)) found ∙ place c.args.byte c.args.text.now in
    record {
      front = c.split_at.ensures.front ∙ ap (λ n. take n c.args.text.now) here ∙ front c.args.byte c.args.text.now;
      back = c.split_at.ensures.back ∙ ap (λ n. drop n c.args.text.now) here ∙ back c.args.byte c.args.text.now;
    }
