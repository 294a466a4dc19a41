-- Texts with commas between them.
use Rattle.std.proofs.Common.{◌≡◌, ℕ, List, [], ◌∷◌, ◌++◌, sym, ap, append-nil}
use Rattle.std.specs.List.{join_with_byte}
use Rattle.place_text.specs.Joined.{after_commas}

-- the first text, and each of the others behind a comma
pub join_first : (x : List ℕ) (xs : List (List ℕ)) → join_with_byte 44 (x ∷ xs) ≡ x ++ after_commas xs
join_first x [] = sym (append-nil x)
join_first x (y ∷ ys) = ap (λ (t : List ℕ). x ++ (44 ∷ t)) (join_first y ys)
