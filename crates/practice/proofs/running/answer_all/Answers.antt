use Rattle.std.proofs.Common.{ap, subst}
use Rattle.sheet.specs.declared.reader.Reader.{Reader}
use Rattle.sheet.specs.Handing.{left}
use Rattle.practice.specs.Working.{told}
use Rattle.practice.proofs.Turning.{Behind, turned, at_end}
use Rattle.practice.proofs.running.answer_all.Goals as goal

pub loop-numbered-preserved : goal.loop-numbered-preserved
loop-numbered-preserved g c =
    turned _ _ _ _ _ _ _ _ _ _ _ _
    (subst (Behind _ _ _ _ _ _) (ap told c.in-Some.ensures.steps) c.loop-numbered.invariant)
    c.answer_line.ensures.did c.answer_line.ensures.gathers c.in_ok-push.ensures.items

pub returns : goal.returns
returns g c =
    at_end _ _ _ _ _ _ _ _ (ap (λ (r : Reader). told (left r)) c.into_iter-numbered-iterator.ensures.into_iter_gives) (ap told c.in-None.ensures.steps.0) c.loop-numbered.invariant
