-- Texts behind commas.
use Rattle.std.specs.Prelude.{ℕ, List, ◌∷◌, flat_map}

-- each of some texts behind a comma
abbrev pub after_commas : List (List ℕ) → List ℕ
after_commas texts = flat_map (λ (t : List ℕ). 44 ∷ t) texts
