-- Calls of the floor, and pairs opened between them, one after the other.
--   Step                  a call, or a pair of account and item to open
--   Outcome               what a step is answered: a call by the floor, an opening by the ledger
--   Desk                  a floor, and the room that its ledger has for pairs
--   with_book s m         the floor s with the book m
--   pair_reply s n a i    what the opening of the pair a i is answered, n being the room for its item
--   pair_opened s n a i   the floor that it leaves: only the book is another, and no figure of it
--   Happens d k o         the step k at the desk d is answered o
--   leaves share d k o    the desk that it then leaves; share says which items share places
--   Ran share d ks os e   the steps ks are answered os, one by one from the desk d on, and leave the desk e
use Rattle.std.specs.Prelude.{◌≡◌, ℕ, List, [], ◌∷◌}
use Rattle.ledger.specs.Books.{Book, Room}
use Rattle.ledger.specs.Moves.{Answer as Moved}
use Rattle.ledger.specs.Opening.{Sharing, open_answer, open_after, room_after}
use Rattle.rules.specs.State.{State}
use Rattle.rules.specs.Plain.{Act}
use Rattle.rules.specs.Replies.{Reply, left_by, accepted, Replied}

pub data Step : Type 0 where
  call : Act → Step
  pair : ℕ → ℕ → Step

pub data Outcome : Type 0 where
  replied : Reply → Outcome
  moved : Moved → Outcome

pub record Desk : Type 0 where
  pub state : State
  pub room : Room

abbrev pub with_book : State → Book → State
with_book s m = record { day_open = s.day_open; last_date = s.last_date; securities = s.securities; orders = s.orders; cancels = s.cancels; agreed = s.agreed; deals = s.deals; book = m; tape = s.tape }

abbrev pub pair_reply : State → ℕ → ℕ → ℕ → Moved
pair_reply s room a i = open_answer s.book room a i

abbrev pub pair_opened : State → ℕ → ℕ → ℕ → State
pair_opened s room a i = with_book s (open_after s.book room a i)

abbrev pub Happens : Desk → Step → Outcome → Type 0
Happens d (call a) (replied r) = Replied d.state a r
Happens d (call a) (moved r) = ⊥
Happens d (pair a i) (replied r) = ⊥
Happens d (pair a i) (moved r) = r ≡ pair_reply d.state (d.room i) a i

abbrev pub leaves : Sharing → Desk → Step → Outcome → Desk
leaves share d (call a) (replied r) = record { state = left_by r d.state (accepted d.state a); room = d.room }
leaves share d (call a) (moved r) = d
leaves share d (pair a i) (replied r) = d
leaves share d (pair a i) (moved r) = record { state = pair_opened d.state (d.room i) a i; room = room_after r share i d.room }

abbrev pub Ran : Sharing → Desk → List Step → List Outcome → Desk → Type 0
Ran share d [] [] e = e ≡ d
Ran share d [] (o ∷ os) e = ⊥
Ran share d (k ∷ ks) [] e = ⊥
Ran share d (k ∷ ks) (o ∷ os) e = Happens d k o × Ran share (leaves share d k o) ks os e
