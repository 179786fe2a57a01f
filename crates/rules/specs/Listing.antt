-- The list of securities of a day.
--   sound_entry before e   whether the entry e is without fault behind those before it
--   good_list es    whether the list is without fault: at most 64 entries, each sound
--   Faulty es k     entry k of the list es is at fault, or k is 64 and the list too long
--   listed es       the securities that a list without fault gives
--   find_listed ss c   the security of the code c, if it is listed
--   quoted s p      whether the price p may be asked for the security s
use Rattle.std.specs.Prelude.{◌≡◌, ℕ, Bool, true, false, cond, not, ◌&&◌, List, [], ◌∷◌, ◌++◌, length, take, Some, None, Option, ◌==◌, nat_le, nat_lt, slice_index_or}
use Rattle.std.specs.List.{find, list_any}
use Rattle.market.specs.declared.class.Class.{Class}
use Rattle.market.specs.declared.class.Class.TheVariants.{Bond}
use Rattle.market.specs.declared.price.Price.{Price}
use Rattle.market.specs.declared.ranges.Figure.TheVariants.{SecurityCode, Price as a_price}
use Rattle.market.specs.Ranges.{admits}
use Rattle.market.specs.Figures.{price}
use Rattle.market.specs.Classes.{class_of, takes_code, on_step}
use Rattle.rules.specs.declared.security.ListEntry.{ListEntry}
use Rattle.rules.specs.declared.security.Security.{Security}

abbrev pub most_securities : ℕ
most_securities = 64

abbrev pub has_code : ℕ → List ListEntry → Bool
has_code c es = list_any (λ e. e.code == c) es

-- the class is known, and the code one of its own
abbrev pub fits_class : Option Class → ℕ → Bool
fits_class None c = false
fits_class (Some k) c = takes_code k c

-- an entry is sound behind those before it
abbrev pub sound_entry : List ListEntry → ListEntry → Bool
sound_entry before e =
    admits SecurityCode e.code
    && (not (has_code e.code before)
    && (fits_class (class_of e.class) e.code
    && (admits a_price e.low
    && (admits a_price e.high
    && nat_le e.low e.high))))

abbrev pub all_sound : List ListEntry → List ListEntry → Bool
all_sound before [] = true
all_sound before (e ∷ es) = sound_entry before e && all_sound (before ++ (e ∷ [])) es

abbrev pub good_list : List ListEntry → Bool
good_list es = nat_le (length es) most_securities && all_sound [] es

-- entry k of the list is at fault; 64 stands for a list that is too long
pub record Faulty (es : List ListEntry) (k : ℕ) : Type 0 where
  pub at_fault : cond (nat_lt most_securities (length es)) (k == most_securities) (nat_lt k (length es) && not (sound_entry (take k es) (slice_index_or es k (record { code = 0; class = 0; low = 0; high = 0 })))) ≡ true

abbrev pub class_or_bond : Option Class → Class
class_or_bond None = Bond
class_or_bond (Some k) = k

abbrev pub security : ListEntry → Security
security e = record { code = e.code; class = class_or_bond (class_of e.class); low = price e.low; high = price e.high }

abbrev pub listed : List ListEntry → List Security
listed [] = []
listed (e ∷ es) = security e ∷ listed es

abbrev pub find_listed : List Security → ℕ → Option Security
find_listed ss c = find (λ s. s.code == c) ss

abbrev pub quoted : Security → Price → Bool
quoted s p = nat_le s.low.number p.number && (nat_le p.number s.high.number && on_step s.class p)
