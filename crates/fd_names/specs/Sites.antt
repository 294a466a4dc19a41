-- The numbers of the references of a program, in the order of its text.
use Rattle.std.specs.Prelude.{◌≡◌, ℕ, ◌+◌, List, [], ◌∷◌}
use Rattle.fd_prog.specs.Checked.{Reference}

-- the references have the numbers from `a` on, one after the other, up to below `b`
abbrev pub CountUp : ℕ → List Reference → ℕ → Type 0
CountUp a [] b = a ≡ b
CountUp a (r ∷ rs) b = (r.site ≡ a) × CountUp (a + 1) rs b
