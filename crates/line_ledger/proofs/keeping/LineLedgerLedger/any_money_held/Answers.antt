use Rattle.std.proofs.Common.{◌==◌, sym, ◌∙◌, rules, tests}
use Rattle.std.proofs.lemmas.Iterator.{YieldsList-from_slice}
use Rattle.std.proofs.lemmas.Iterator.Search.{any_from_yields_List}
use Rattle.line_ledger.proofs.Searching.{holds, money_any}
use Rattle.line_ledger.proofs.keeping.LineLedgerLedger.any_money_held.Goals as goal

pub returns : goal.returns
returns c =
    let s = c.args.self.now in
    any_from_yields_List (holds (λ i. i == 0)) _ _ c.any.result c.any.ensures.ran (YieldsList-from_slice s.rows.items cc) (λ x b q k. search (rules, tests))
    ∙ sym (money_any s.rows.items s.kept)
