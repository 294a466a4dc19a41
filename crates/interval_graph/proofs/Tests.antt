-- What a test says.
use Rattle.std.proofs.Common.{Bool, true, false, ◌||◌, IsTrue, IsFalse, refl}
use Rattle.std.proofs.lemmas.Bool.{both_ways}

pub or_left : {a : Bool} (b : Bool) → IsTrue a → IsTrue (a || b)
or_left b e = rw e refl

pub or_right : (a : Bool) {b : Bool} → IsTrue b → IsTrue (a || b)
or_right true e = refl
or_right false e = e

-- a test doesn't hold and fail
pub clash : {b : Bool} → IsTrue b → IsFalse b → ⊥
clash {b = b} x y = both_ways b y x
