-- Results, one after the other.
use Rattle.std.specs.Prelude.{Result, Ok, Err}

-- goes on with what was found, or ends with the error
abbrev pub and_then : {A B E : Type 0} → Result A E → (A → Result B E) → Result B E
and_then (Ok x) go = go x
and_then (Err e) go = Err e
