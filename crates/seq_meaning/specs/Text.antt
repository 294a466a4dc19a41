-- The items of a line, one after another.
use Rattle.std.specs.Prelude.{ℕ, Bool, List, ◌∷◌, if◌then◌else◌}

-- a text behind a blank, unless it is the first
abbrev pub separated : Bool → List ℕ → List ℕ
separated is_first text = if is_first then text else 32 ∷ text
