-- A pair opened with nothing, between any two calls, keeps all that a floor keeps; so does one that is refused.
use Rattle.std.proofs.Common.{ℕ, ◌∙◌, arith}
use Rattle.ledger.specs.Books.{Book}
use Rattle.ledger.proofs.Pairs.{opened_same, opened_lawful, stays_open}
use Rattle.rules.specs.State.{State}
use Rattle.rules.specs.Steps.{pair_opened}
use Rattle.whole_runs.proofs.Entries.{Stands}

pub pair_stands : (b : Book) (s : State) (room a i : ℕ) → Stands b s → Stands b (pair_opened s room a i)
pair_stands b s room a i st =
    let g = st.going in
    let d = g.sound in
    let same = opened_same s.book room a i d.lawful in
    let open' = stays_open s.book room a i d.lawful in
    record {
      going = record {
        sound = record {
          lawful = opened_lawful s.book room a i d.lawful;
          holds = λ c j. same.held c j ∙ d.holds c j;
          keeps = λ c j. let k = d.keeps c j in let f = same.free c j in let h = same.held c j in omega (arith, k, f, h);
          tells = d.tells;
          asks = d.asks;
          distinct = d.distinct;
          opens = λ k h. let p = d.opens k h in record { money = open' _ 0 p.money; security = open' _ _ p.security };
        };
        paired = record { alike = g.paired.alike; numbered = g.paired.numbered };
        first = record { entered = g.first.entered; behind = g.first.behind };
        fit = g.fit;
        loaded = g.loaded;
        placed = g.placed;
        few = g.few;
      };
      single = st.single;
      live_sized = st.live_sized;
      deals_sized = st.deals_sized;
      agreed = st.agreed;
    }
