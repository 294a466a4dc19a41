-- What this crate keeps of how an array is distributed.
use Rattle.std.specs.Prelude.{ℕ, ◌^◌, ◌≤◌, unsigned_abs, List, Result, Ok}
use Rattle.fd_base.specs.declared.shapes.Along.{Along}
use Rattle.fd_base.specs.declared.shapes.Along.TheVariants.{Fixed, Dim}
use Rattle.fd_base.specs.declared.shapes.Shape.{Shape}
use Rattle.fd_base.specs.Places.{IsAligned}
use Rattle.fd_prog.specs.declared.form.FormRefusal.{FormRefusal}
use Rattle.fd_prog.specs.Outcomes.{and_then}
use Rattle.fd_prog.specs.Expressions.{Expressions}
use Rattle.fd_prog.specs.Forms.{LinearForm}
use Rattle.fd_prog.specs.FormOf.{forms_of_expressions}
use Rattle.fd_prog.specs.Homes as homes
use Rattle.fd_prog.specs.Mapped.{IsAttribute}
use Rattle.owner_part.specs.declared.distribution.Distribution.{Distribution}

abbrev pub view_of : Distribution → homes.Distribution
view_of d = record { decomp = d.decomp; along = d.along; low = d.low; extent = d.extent; dist = d.dist }

-- an array of this shape lies inside the dimension over which it is distributed so, and the attribute is sound
pub record LiesAlong (shape : Shape) (d : homes.Distribution) : Type 0 where
  pub aligned : IsAligned shape d.along d.extent
  pub attribute : IsAttribute d.dist

-- an alignment shifts by at most 2^33
abbrev pub IsNear : Along → Type 0
IsNear (Fixed position) = position ≤ 2 ^ 32
IsNear (Dim dim shift) = unsigned_abs shift ≤ 2 ^ 33

-- what an alignment adds to a form that keeps the limits fits 64 bits
pub record IsSmall (d : Distribution) : Type 0 where
  pub along : IsNear d.along
  pub low : unsigned_abs d.low ≤ 2 ^ 31

-- the form of the location of the element with these subscripts, or the limit that a subscript passes
abbrev pub form_of_location : homes.Distribution → List ℕ → Expressions → Result LinearForm FormRefusal
form_of_location d bound subs = and_then (forms_of_expressions bound subs) (λ fs. Ok (homes.location_of d fs).form)
