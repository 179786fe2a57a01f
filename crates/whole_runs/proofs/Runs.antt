-- The law of whole runs, by an induction over the steps.
use Rattle.std.proofs.Common.{◌≡◌, ℕ, ◌≤◌, false, List, [], ◌∷◌, length, IfSome, Some, None, Ok, Err, Option, sym, refl, ap, ◌∙◌, subst, arith}
use Rattle.std.proofs.lemmas.Bool.{both_ways}
use Rattle.ledger.specs.Books.{Book, Lawful}
use Rattle.ledger.specs.Opening.{Sharing}
use Rattle.ledger.proofs.Pairs.{opened_lawful}
use Rattle.market.specs.declared.refusal.Refusal.TheVariants.{DayNotOpen}
use Rattle.rules.specs.State.{State}
use Rattle.rules.specs.Calls.{Answer, unless}
use Rattle.rules.specs.Replies.{counted, accepted, Replied}
use Rattle.rules.specs.Steps.{Step, call, pair, Outcome, replied, moved, Desk, pair_opened, leaves, Ran}
use Rattle.rules.specs.Plain.{Day, Act, opens, enters, cancels, pays_in, draws_out, closes, plain_after, plain_day}
use Rattle.laws.specs.Accepted.{day}
use Rattle.laws.proofs.Accepting.{passed}
use Rattle.laws.proofs.Stepping.{orders_whole}
use Rattle.laws.proofs.Firstly.{orders_first}
use Rattle.laws.proofs.Singly.{searches_single}
use Rattle.laws.proofs.Following.{numbers_law}
use Rattle.whole_runs.specs.Granting.{GrantedAct}
use Rattle.whole_runs.specs.Steps.{GrantedRun, acts_in, verdicts, begun_by, opening_book}
use Rattle.whole_runs.specs.Law.{Kept, LawfulRuns, plainly, new_desk}
use Rattle.whole_runs.proofs.Entries.{Stands, Did, entry_did}
use Rattle.whole_runs.proofs.Calls.{open_did, cancel_did, pay_in_did, draw_out_did, close_did}
use Rattle.whole_runs.proofs.Pairs.{pair_stands}

-- before the first day: no day is open
record Waits (s : State) : Type 0 where
  shut : s.day_open ≡ false
  lawful : Lawful s.book

abbrev Inv : Option Book → State → Type 0
Inv None s = Waits s
Inv (Some b) s = Stands b s

inv_lawful : (b : Option Book) (s : State) → Inv b s → Lawful s.book
inv_lawful None s i = i.lawful
inv_lawful (Some b) s i = i.going.sound.lawful

-- nothing but an opening is accepted where no day is open
not_open : (s : State) (rest : Answer) → s.day_open ≡ false → unless s.day_open DayNotOpen rest ≡ Ok tt → ⊥
not_open s rest e a = both_ways s.day_open e (passed s.day_open DayNotOpen rest a).test

-- an accepted call was answered so
ok_answer : (r : Answer) (n m : ℕ) → Ok n ≡ counted r m → r ≡ Ok tt
ok_answer (Ok tt) n m e = refl
ok_answer (Err x) n m e = absurd (let z : ◌≡◌ {A = ℕ} 0 1 = cc in omega arith)

record Called (s : State) (a : Act) (b : Option Book) : Type 0 where
  granted : GrantedAct s a
  plain : plainly (accepted s a) ≡ plain_after (plainly s) a
  inv : Inv (begun_by s a b) (accepted s a)

did_called : (s : State) (a : Act) (b : Book) → begun_by s a (Some b) ≡ Some b → Did b s a → Called s a (Some b)
did_called s a b e d = record { granted = d.granted; plain = d.plain; inv = subst (λ (o : Option Book). Inv o (accepted s a)) (sym e) d.stands }

called : (a : Act) (s : State) (b : Option Book) (n : ℕ) → Inv b s → Replied s a (Ok n) → Called s a b
called (opens d es) s b n i r =
    let did = open_did s d es 0 (ok_answer _ n 0 r.0) (inv_lawful b s i) in record { granted = did.granted; plain = did.plain; inv = did.stands }
called (enters e) s None n i r = absurd (not_open s _ i.shut (ok_answer _ n _ r))
called (enters e) s (Some b) n i r = did_called s (enters e) b refl (entry_did b s e (ok_answer _ n _ r) i)
called (cancels c) s None n i r = absurd (not_open s _ i.shut (ok_answer _ n _ r))
called (cancels c) s (Some b) n i r = did_called s (cancels c) b refl (cancel_did b s c (ok_answer _ n _ r) i)
called (pays_in p) s None n i r = absurd (not_open s _ i.shut (ok_answer _ n _ r))
called (pays_in p) s (Some b) n i r = did_called s (pays_in p) b refl (pay_in_did b s p (ok_answer _ n _ r) i)
called (draws_out p) s None n i r = absurd (not_open s _ i.shut (ok_answer _ n _ r))
called (draws_out p) s (Some b) n i r = did_called s (draws_out p) b refl (draw_out_did b s p (ok_answer _ n _ r) i)
called closes s None n i r = absurd (not_open s (Ok tt) i.shut (ok_answer _ n _ r))
called closes s (Some b) n i r = did_called s closes b refl (close_did b s i)

pair_inv : (b : Option Book) (s : State) (room a i : ℕ) → Inv b s → Inv b (pair_opened s room a i)
pair_inv None s room a i v = record { shut = v.shut; lawful = opened_lawful s.book room a i v.lawful }
pair_inv (Some b) s room a i v = pair_stands b s room a i v

record Went (share : Sharing) (d : Desk) (ks : List Step) (os : List Outcome) (b : Option Book) (e : Desk) : Type 0 where
  granted : GrantedRun share d ks os
  plain : plainly e.state ≡ plain_day (plainly d.state) (acts_in ks) (verdicts ks os)
  inv : Inv (opening_book share d b ks os) e.state

went : (ks : List Step) (os : List Outcome) (share : Sharing) (d : Desk) (b : Option Book) (e : Desk) → Inv b d.state → Ran share d ks os e → Went share d ks os b e
went [] [] share d b e i t =
    record { granted = tt; plain = ap (λ (x : Desk). plainly x.state) t; inv = subst (λ (x : Desk). Inv b x.state) (sym t) i }
went [] (o ∷ os) share d b e i t = absurd t
went (k ∷ ks) [] share d b e i t = absurd t
went (call a ∷ ks) (replied (Err x) ∷ os) share d b e i t =
    let q = went ks os share d b e i t.1 in record { granted = (tt, q.granted); plain = q.plain; inv = q.inv }
went (call a ∷ ks) (replied (Ok n) ∷ os) share d b e i t =
    let s : State = d.state in
    let k = called a s b n i t.0 in
    let q = went ks os share (leaves share d (call a) (replied (Ok n))) (begun_by s a b) e k.inv t.1 in
    record { granted = (k.granted, q.granted); plain = q.plain ∙ ap (λ (x : Day). plain_day x (acts_in ks) (verdicts ks os)) k.plain; inv = q.inv }
went (call a ∷ ks) (moved r ∷ os) share d b e i t = absurd t.0
went (pair a j ∷ ks) (replied r ∷ os) share d b e i t = absurd t.0
went (pair a j ∷ ks) (moved r ∷ os) share d b e i t =
    let q = went ks os share (leaves share d (pair a j) (moved r)) b e (pair_inv b d.state (d.room j) a j i) t.1 in
    record { granted = (tt, q.granted); plain = q.plain; inv = q.inv }

kept_of : (b : Book) (s : State) → Stands b s → Kept b s
kept_of b s st =
    let g = st.going in
    let d = g.sound in
    let p = g.placed in
    let few : length s.orders ≤ 512 = omega (arith, p) in
    record {
      holds = d.holds;
      balances = d.keeps;
      whole = orders_whole b (day s) d;
      first = orders_first (day s) d.distinct g.first;
      paired = g.paired;
      distinct = d.distinct;
      waiting = λ o. (searches_single s.orders o few st.single.numbered st.single.single).0;
      quoting = λ o. (searches_single s.orders o few st.single.numbered st.single.single).1;
      quotes = numbers_law s.orders few st.single.numbered;
      sized = st.deals_sized;
      agreed = st.agreed;
      places = p;
      lines = g.loaded;
    }

kept_since : (b : Option Book) (s : State) → Inv b s → IfSome b (λ m. Kept m s)
kept_since None s i = tt
kept_since (Some b) s i = kept_of b s i

pub lawful_runs : LawfulRuns
lawful_runs share m room t steps outcomes after law told =
    let new : Desk = new_desk m room t in
    let q = went steps outcomes share new None after (record { shut = refl; lawful = law }) told in
    record { told = told; granted = q.granted; plain = q.plain; kept = kept_since (opening_book share new None steps outcomes) after.state q.inv }
