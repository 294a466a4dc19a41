-- Elements that a rank reads without a message.
use Rattle.std.specs.Prelude.{◌≡◌, ℕ, ◌<◌, true, Option, None, ◌⊎◌}
use Rattle.fd_base.specs.Places.{Place, is_owner}
use Rattle.fd_base.specs.Shapes.{size_of}
use Rattle.fd_prog.specs.Homes.{distribution_at}
use Rattle.fd_prog.specs.Programs.{CheckedProgram}
use Rattle.fd_prog.specs.Stores.{shape_of}

-- an element that there is, of a replicated array or the rank's own by the places of the arrays
pub record IsLocalElement (p : CheckedProgram) (place : ℕ → Place) (rank array : ℕ) (site : Option ℕ) (n : ℕ) : Type 0 where
  pub inside : n < size_of (shape_of p array)
  pub found : (distribution_at p array ≡ None) ⊎ (is_owner (place array) n rank ≡ true)
