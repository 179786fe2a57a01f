use Rattle.std.proofs.Common.{ℕ, List, sym, ap, ◌∙◌}
use Rattle.market.specs.declared.kinds.Side.TheVariants.{Buy, Sell}
use Rattle.tape.specs.declared.line.Line.{Line}
use Rattle.marking.specs.declared.deals.Asked.TheVariants.{Side}
use Rattle.marking.specs.Deals.{how_many, pair_of, line_paired}
use Rattle.marking.proofs.deals.is_paired.Goals as goal

pub returns-in-Deal : goal.returns-in-Deal
returns-in-Deal g c =
    let ls : List Line = (g.T.Tape.contents c.args.tape.now).lines in
    let o = c.in-Deal.o in
    let n = c.in-Deal.n in
    c.is_pair.ensures
    ∙ ap (λ (v : ℕ). pair_of v c.how_many-selling.result c.how_many-alike.result) c.how_many-buying.ensures
    ∙ ap (λ (v : ℕ). pair_of (how_many ls (Side Buy n)) v c.how_many-alike.result) c.how_many-selling.ensures
    ∙ ap (λ (v : ℕ). pair_of (how_many ls (Side Buy n)) (how_many ls (Side Sell n)) v) c.how_many-alike.ensures
    ∙ ap (line_paired ls) (sym c.in-Deal.is)
