-- What an `ok_or` was made of that gave a value, or an error.
use Rattle.std.proofs.Common.{◌≡◌, Some, None, Ok, Err, Option, refl}
use Rattle.std.specs.Option.{ok_or}

pub value_of : {T E : Type 0} (o : Option T) (e : E) (x : T) → ok_or o e ≡ Ok x → Some x ≡ o
value_of None e x h = cc
value_of (Some y) e x h = cc

pub error_of : {T E : Type 0} (o : Option T) (e f : E) → ok_or o e ≡ Err f → (None ≡ o) × (f ≡ e)
error_of None e f h = (refl, cc)
error_of (Some y) e f h = cc
