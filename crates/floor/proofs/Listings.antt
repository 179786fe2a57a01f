-- The securities of the day, entry by entry.
use Rattle.std.proofs.Common.{◌≡◌, ℕ, ◌+◌, ◌<◌, ◌≤◌, List, [], ◌∷◌, ◌++◌, length, get_or, take, sym, refl, ap, ◌∙◌}
use Rattle.std.proofs.lemmas.List.{take_more, take_all}
use Rattle.rules.specs.declared.security.ListEntry.{ListEntry}
use Rattle.rules.specs.declared.security.Security.{Security}
use Rattle.rules.specs.Listing.{listed, security}

listed_push : (es : List ListEntry) (e : ListEntry) → listed (es ++ (e ∷ [])) ≡ listed es ++ (security e ∷ [])
listed_push [] e = refl
listed_push (x ∷ es) e = ap (λ (ss : List Security). security x ∷ ss) (listed_push es e)

pub listed_more : (es : List ListEntry) (i : ℕ) (d : ListEntry) (s : Security) (ss us : List Security) → i < length es → s ≡ security (get_or es i d) →
    ss ≡ listed (take i es) → us ≡ ss ++ (s ∷ []) → us ≡ listed (take (i + 1) es)
listed_more es i d s ss us h e inv u =
    u
    ∙ ap (λ (z : List Security). z ++ (s ∷ [])) inv
    ∙ ap (λ (z : Security). listed (take i es) ++ (z ∷ [])) e
    ∙ sym (listed_push (take i es) (get_or es i d))
    ∙ ap listed (sym (take_more es i d h))

pub listed_all : (es : List ListEntry) (i : ℕ) (ss : List Security) → length es ≤ i → ss ≡ listed (take i es) → ss ≡ listed es
listed_all es i ss h inv = inv ∙ ap listed (take_all i es h)
