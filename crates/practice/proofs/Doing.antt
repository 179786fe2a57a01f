-- A task that was done, from what the call promised.
use Rattle.std.proofs.Common.{◌≡◌, ℕ, sym, ap, ◌∙◌, subst}
use Rattle.ledger.specs.Books.{Room}
use Rattle.ledger.specs.Moves.{Answer as Moved}
use Rattle.ledger.specs.Opening.{Sharing, room_after}
use Rattle.rules.specs.State.{State}
use Rattle.rules.specs.Plain.{Act}
use Rattle.rules.specs.Replies.{Reply, left_by, accepted, Replied}
use Rattle.rules.specs.Steps.{call, pair, replied, moved, Desk, pair_reply, pair_opened}
use Rattle.answers.specs.Answers.{Answer}
use Rattle.practice.specs.Tasks.{Task, asks, reply_told, move_told}
use Rattle.practice.specs.Working.{Did}

same_desk : (s u : State) (x y : Room) → s ≡ u → x ≡ y → ◌≡◌ {A = Desk} (record { state = s; room = x }) (record { state = u; room = y })
same_desk s u x y e h =
    let at : State → Room → Desk = λ v w. record { state = v; room = w } in
    ap (λ (v : State). at v x) e ∙ ap (λ (w : Room). at u w) h

-- a call of the floor
pub did_call : (share : Sharing) (s u : State) (x y : Room) (a : Act) (k : Task) (r : Reply) (b : Answer) → k ≡ asks (call a) → Replied s a r → u ≡ left_by r s (accepted s a) → y ≡ x → b ≡ reply_told r → Did share (record { state = s; room = x }) k b (record { state = u; room = y })
did_call share s u x y a k r b e h l m t =
    subst (λ (v : Task). Did share (record { state = s; room = x }) v b (record { state = u; room = y })) (sym e)
    (record { outcome = replied r; happens = h; answer = t; left = same_desk u (left_by r s (accepted s a)) y x l m })

-- a pair opened
pub did_pair : (share : Sharing) (s u : State) (x y : Room) (a i : ℕ) (k : Task) (r : Moved) (b : Answer) → k ≡ asks (pair a i) → r ≡ pair_reply s (x i) a i → u ≡ pair_opened s (x i) a i → y ≡ room_after r share i x → b ≡ move_told r i → Did share (record { state = s; room = x }) k b (record { state = u; room = y })
did_pair share s u x y a i k r b e h l m t =
    subst (λ (v : Task). Did share (record { state = s; room = x }) v b (record { state = u; room = y })) (sym e)
    (record { outcome = moved r; happens = h; answer = t; left = same_desk u (pair_opened s (x i) a i) y (room_after r share i x) l m })
