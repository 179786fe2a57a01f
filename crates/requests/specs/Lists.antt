-- What is wrong with a list of securities.
--   told_entry e   the entry that the floor's refusal names: a faulty one, or 64 for a list that is too long
--   is_too_long e  whether it is the length
use Rattle.std.specs.Prelude.{ℕ, Bool, true, false}
use Rattle.requests.specs.declared.listing.FaultyList.{FaultyList}
use Rattle.requests.specs.declared.listing.FaultyList.TheVariants.{TooLong, Entry}

abbrev pub told_entry : FaultyList → ℕ
told_entry TooLong = 64
told_entry (Entry k) = k

abbrev pub is_too_long : FaultyList → Bool
is_too_long TooLong = true
is_too_long (Entry k) = false
