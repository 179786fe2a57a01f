use Rattle.std.proofs.Common.{refl}
use Rattle.rules.specs.Effects.{effect}
use Rattle.rules.proofs.worked.worked_runs_stand.Goals as goal

pub returns : goal.returns
unfolding effect
returns c =
    record {
      by_quantity = refl;
      by_amount = refl;
      too_small = refl;
      rest_stands = refl;
      five_thousand_stay = refl;
      part_taken = refl;
      most_taken = refl;
      more_taken = refl;
      four_thousand_cancelled = refl;
      six_thousand_cancelled = refl;
      rest_cancelled = refl;
      click_too_large = refl;
      amount_taken = refl;
      none_cancelled = refl;
      rest_by_amount = refl;
      no_such_quote = refl;
      waits = refl;
    }
