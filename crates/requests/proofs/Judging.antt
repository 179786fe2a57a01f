-- A list of securities, judged entry by entry.
use Rattle.std.proofs.Common.{◌≡◌, ℕ, ◌+◌, ◌-◌, ◌<◌, ◌≤◌, Bool, true, false, ◌&&◌, List, [], ◌∷◌, ◌++◌, length, get_or, take, drop, sym, ap, ◌∙◌, arith}
use Rattle.std.proofs.lemmas.List.{at_drop_more, at_drop_all, take_more}
use Rattle.std.proofs.lemmas.Bool.{le-ltb, lt-ltb, le-leb, lt-leb, and_right, and_left, and_from, not_from_false, cond-false, cond-true}
use Rattle.rules.specs.declared.security.ListEntry.{ListEntry}
use Rattle.rules.specs.Listing.{sound_entry, all_sound, good_list, Faulty}

abbrev blank : ListEntry
blank = record { code = 0; class = 0; low = 0; high = 0 }

-- the first i entries are sound, and the rest is to be judged
abbrev pub SoundSoFar : List ListEntry → ℕ → Type 0
SoundSoFar es i = all_sound (take i es) (drop i es) ≡ all_sound [] es

split : (es : List ListEntry) (i : ℕ) → i < length es → SoundSoFar es i →
    sound_entry (take i es) (get_or es i blank) && all_sound (take i es ++ (get_or es i blank ∷ [])) (drop (i + 1) es) ≡ all_sound [] es
split es i h inv = sym (at_drop_more (all_sound (take i es)) es i blank h) ∙ inv

whole : (es : List ListEntry) (i : ℕ) → sound_entry (take (i - 0) es) (get_or es i blank) ≡ sound_entry (take i es) (get_or es i blank)
whole es i = let z : i - 0 ≡ i = omega arith in ap (λ (n : ℕ). sound_entry (take n es) (get_or es i blank)) z

pub judged_more : (es : List ListEntry) (i : ℕ) → i < length es → true ≡ sound_entry (take (i - 0) es) (get_or es i blank) → SoundSoFar es i → SoundSoFar es (i + 1)
judged_more es i h s inv =
    let rest : List ListEntry → Bool = λ before. all_sound before (drop (i + 1) es) in
    ap rest (take_more es i blank h)
    ∙ ap (λ (b : Bool). b && rest (take i es ++ (get_or es i blank ∷ []))) (s ∙ whole es i)
    ∙ split es i h inv

pub judged_all : (es : List ListEntry) (i : ℕ) → length es ≤ i → length es ≤ 64 → SoundSoFar es i → true ≡ good_list es
judged_all es i h few inv =
    let all : true ≡ all_sound [] es = sym (at_drop_all (all_sound (take i es)) es i h) ∙ inv in
    sym (and_from _ _ (le-leb (length es) 64 few) (sym all))

pub too_long : (es : List ListEntry) → 64 < length es → (false ≡ good_list es) × Faulty es 64
too_long es h = (sym (and_left _ _ (lt-leb (length es) 64 h)), record { at_fault = cond-true _ _ _ (lt-ltb 64 (length es) h) })

pub found_faulty : (es : List ListEntry) (i : ℕ) → i < length es → length es ≤ 64 → false ≡ sound_entry (take (i - 0) es) (get_or es i blank) → SoundSoFar es i →
    (false ≡ good_list es) × Faulty es i
found_faulty es i h few s inv =
    let not_sound : sound_entry (take i es) (get_or es i blank) ≡ false = sym (s ∙ whole es i) in
    let none : all_sound [] es ≡ false = sym (split es i h inv) ∙ and_left _ _ not_sound in (
      sym (and_right _ _ none),
      record {
        at_fault =
            cond-false _ _ _ (le-ltb 64 (length es) few)
            ∙ and_from _ _ (lt-ltb i (length es) h) (not_from_false _ not_sound);
      },
    )
