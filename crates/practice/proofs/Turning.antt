-- A run, line by line.
use Rattle.std.proofs.Common.{◌≡◌, suc, List, [], ◌∷◌, ◌++◌, sym, refl, ap, ◌∙◌, subst}
use Rattle.std.proofs.lemmas.List.{append_assoc, append-nil}
use Rattle.ledger.specs.Opening.{Sharing}
use Rattle.rules.specs.declared.security.ListEntry.{ListEntry}
use Rattle.rules.specs.Steps.{Step, Outcome, Desk, Ran}
use Rattle.sheet.specs.Told.{Told}
use Rattle.answers.specs.Answers.{Answer}
use Rattle.practice.specs.Tasks.{Task, settled, asks, task, gathers, with_task, with_outcome, steps_of, answers_of}
use Rattle.practice.specs.Working.{Did, Worked}

-- one task more before the steps ks
more_steps : (share : Sharing) (d x e : Desk) (k : Task) (a : Answer) (ks : List Step) (os : List Outcome) (rest : List Outcome → List Answer) → Did share d k a x → Ran share x ks os e → (us : List Outcome) × (Ran share d (with_task k ks) us e × (a ∷ rest os ≡ with_outcome k us rest))
more_steps share d x e (settled b) a ks os rest h r =
    (os, (subst (λ (v : Desk). Ran share v ks os e) h.1 r, ap (λ (v : Answer). v ∷ rest os) h.0))
more_steps share d x e (asks k) a ks os rest h r =
    (h.outcome ∷ os, ((h.happens, subst (λ (v : Desk). Ran share v ks os e) h.left r), ap (λ (v : Answer). v ∷ rest os) h.answer))

pub line_more : (share : Sharing) (d x e : Desk) (g : List ListEntry) (t : Told) (ts : List Told) (a : Answer) (as' : List Answer) → Did share d (task g t) a x → Worked share x (gathers g t) ts as' e → Worked share d g (t ∷ ts) (a ∷ as') e
line_more share d x e g t ts a as' h w =
    let m = more_steps share d x e (task g t) a (steps_of (gathers g t) ts) w.outcomes (answers_of (gathers g t) ts) h w.ran in
    record { outcomes = m.0; ran = m.1.0; answers = ap (λ (v : List Answer). a ∷ v) w.answers ∙ m.1.1; each = ap suc w.each }

-- no line left
pub no_line : (share : Sharing) (d : Desk) (g : List ListEntry) → Worked share d g [] [] d
no_line share d g = record { outcomes = []; ran = refl; answers = refl; each = refl }

-- what is still to come after a line, in a loop over lines: bs are the answers before it, cs those behind it
abbrev pub Behind : Sharing → Desk → List Told → List Answer → Desk → List ListEntry → List Told → Type 0
Behind share start all bs d g ts = (as' : List Answer) (e : Desk) → Worked share d g ts as' e → Worked share start [] all (bs ++ as') e

pub at_start : (share : Sharing) (start : Desk) (all : List Told) → Behind share start all [] start [] all
at_start share start all as' e w = w

pub turned : (share : Sharing) (start d x : Desk) (all : List Told) (bs cs : List Answer) (g h : List ListEntry) (t : Told) (ts : List Told) (a : Answer) → Behind share start all bs d g (t ∷ ts) → Did share d (task g t) a x → h ≡ gathers g t → cs ≡ bs ++ (a ∷ []) → Behind share start all cs x h ts
turned share start d x all bs cs g h t ts a B D eg ec as' e w =
    subst (λ (v : List Answer). Worked share start [] all v e) (sym (ap (λ (v : List Answer). v ++ as') ec ∙ append_assoc bs (a ∷ []) as'))
    (B (a ∷ as') e (line_more share d x e g t ts a as' D (subst (λ (v : List ListEntry). Worked share x v ts as' e) eg w)))

pub at_end : (share : Sharing) (start d : Desk) (all whole ts : List Told) (bs : List Answer) (g : List ListEntry) → all ≡ whole → ts ≡ [] → Behind share start all bs d g ts → Worked share start [] whole bs d
at_end share start d all whole ts bs g w z B =
    subst (λ (v : List Told). Worked share start [] v bs d) w
    (subst (λ (v : List Answer). Worked share start [] all v d) (append-nil bs)
    (B [] d (subst (λ (v : List Told). Worked share d g v [] d) (sym z) (no_line share d g))))
