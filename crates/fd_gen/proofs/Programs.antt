-- The text of the program, and the whole text.
use Rattle.std.proofs.Common.{◌≡◌, ℕ, List, ◌++◌, ap₂, ◌∙◌}
use Rattle.std.specs.Prelude.{decimal}
use Rattle.fd_gen.specs.Draws.{draws_modulo}
use Rattle.fd_gen.specs.Mesh.{before_size, behind_size, mesh_program, mesh_text, neighbours, number_lines}

pub program_is : (size number : ℕ) (first numbered tail whole : List ℕ) → first ≡ before_size → number ≡ size
    → numbered ≡ first ++ decimal number → tail ≡ behind_size → whole ≡ numbered ++ tail → whole ≡ mesh_program size
unfolding mesh_program
program_is size number first numbered tail whole f m n t w =
    w ∙ ap₂ (λ a b. a ++ b) (n ∙ ap₂ (λ a b. a ++ decimal b) f m) t

-- the program, then the two lists
pub mesh_is : (size start : ℕ) (map permuted text mapped whole : List ℕ) → text ≡ mesh_program size
    → map ≡ draws_modulo 1000 start size → permuted ≡ neighbours size start
    → mapped ≡ text ++ number_lines map → whole ≡ mapped ++ number_lines permuted → whole ≡ mesh_text size start
unfolding mesh_text
mesh_is size start map permuted text mapped whole t m p a w =
    w ∙ ap₂ (λ a b. a ++ number_lines b) (a ∙ ap₂ (λ a b. a ++ number_lines b) t m) p
