-- The values of two forms.
use Rattle.std.proofs.Common.{◌≡◌, ℤ, List, ◌≤◌, [], ◌∷◌, Ok, refl, arith}
use Rattle.fd_base.specs.Numbers.{exact}
use Rattle.fd_prog.specs.Outcomes.{and_then}
use Rattle.fd_prog.specs.Forms.{LinearForm, LinearForms, NoForms, Part}
use Rattle.fd_prog.specs.FormValues.{form_value, part_values}
use Rattle.fd_prog.specs.Values.{Readings, pair_of}
use Rattle.fd_prog.specs.SoundForms.{forms_in}

-- two forms with these values have this pair
pub pair_of-forms : (r : Readings) (vs : List ℤ) (d e : LinearForm) (es : LinearForms) (x y : ℤ) → forms_in (Part d (Part e es)) ≤ 2 → and_then (form_value r vs d) exact ≡ Ok x → and_then (form_value r vs e) exact ≡ Ok y
    → and_then (part_values r vs (Part d (Part e es))) (λ xs. Ok (pair_of xs)) ≡ Ok (x ∷ (y ∷ []))
pair_of-forms r vs d e NoForms x y two first second = rw (first, second) refl
pair_of-forms r vs d e (Part f es) x y two first second = absurd (omega arith)
