use Rattle.std.proofs.Common.{◌≡◌, ◌≢◌, rules, tests}
use Rattle.std.proofs.lemmas.Iterator.{IsFirst-from_position, YieldsList-from_slice}
use Rattle.line_ledger.proofs.Searching.{placed}
use Rattle.line_ledger.proofs.line.LineLedger.place.Goals as goal

pub returns : goal.returns
returns c =
    let rows = c.args.self.now.rows.items in
    let a = c.args.account in
    let i = c.args.item in
    rw c.ok_or.ensures.value (placed rows a i c.position.result c.args.self.now.kept (IsFirst-from_position _ _ _ (λ p. (p.account ≡ a) × (p.item ≡ i)) (λ p. p.account ≡ a → p.item ≢ i) c.position.ensures.ran (YieldsList-from_slice rows cc) (λ x q k. search (rules, tests)) (λ x q k. search (rules, tests))))
