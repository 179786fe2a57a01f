use Rattle.std.proofs.Common.{◌≡◌, ◌<◌, rules, tests}
use Rattle.std.proofs.lemmas.Iterator.{cases_from_any, YieldsList-from_slice}
use Rattle.line_ledger.proofs.Searching.{security_searched}
use Rattle.line_ledger.proofs.keeping.LineLedgerLedger.any_security_held.Goals as goal

pub returns : goal.returns
returns c =
    let s = c.args.self.now in
    security_searched s.rows.items c.any.result s.kept (cases_from_any _ _ _ (λ p. (0 < p.item) × (0 < p.held)) (λ p. 0 < p.item → p.held ≡ 0) c.any.ensures.ran (YieldsList-from_slice s.rows.items cc) (λ x q k. search (rules, tests)) (λ x q k. search (rules, tests)))
