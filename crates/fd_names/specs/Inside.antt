-- Where an ALIGN puts an element: the subscripts of the decomposition, from those of the array.
use Rattle.std.specs.Prelude.{ℕ, ◌<◌, ◌≤◌, ℤ, pos, ◌+ℤ◌, ◌≤ℤ◌, ◌<ℤ◌, Option, None, Some}
use Rattle.fd_base.specs.declared.shapes.Shape.{Shape}
use Rattle.fd_base.specs.Shapes.{low_of, extent_of}
use Rattle.fd_prog.specs.Mapped.{IsBounded}
use Rattle.fd_names.specs.declared.alignments.Aim.{Aim}
use Rattle.fd_names.specs.Alignments.{offset_of}

-- a number is one of the subscripts of a dimension
pub record IsSubscript (shape : Shape) (dim : ℕ) (i : ℤ) : Type 0 where
  pub least : low_of shape dim ≤ℤ i
  pub most : i <ℤ (low_of shape dim +ℤ pos (extent_of shape dim))

-- the subscripts, by dimension, of an element
abbrev pub IsElement : Shape → (ℕ → ℤ) → Type 0
IsElement shape subs = (dim : ℕ) → dim < shape.dims → IsSubscript shape dim (subs dim)

-- a subscript of the array with an offset, or a constant
abbrev pub subscript_by : Option ℕ → ℤ → (ℕ → ℤ) → ℤ
subscript_by None offset subs = offset
subscript_by (Some dim) offset subs = subs dim +ℤ offset

-- the subscript of the decomposition in the dimension of a target, from those of the array
abbrev pub subscript_of : Aim → (ℕ → ℤ) → ℤ
subscript_of a subs = subscript_by a.dim (offset_of a) subs

-- each element of the array lies in a dimension of the decomposition
abbrev pub LiesWithin : Shape → Shape → ℕ → Aim → Type 0
LiesWithin shape onto t a = (subs : ℕ → ℤ) → IsElement shape subs → IsSubscript onto t (subscript_of a subs)

-- a target names a dimension of the array, or none
abbrev pub NamesDimension : Shape → Option ℕ → Type 0
NamesDimension shape None = Unit {0}
NamesDimension shape (Some dim) = dim < shape.dims

-- a target of an array with bounds within the limits onto a dimension with such bounds
pub record IsTarget (shape onto : Shape) (t : ℕ) (a : Aim) : Type 0 where
  pub dims : shape.dims ≤ 2
  pub first : IsBounded shape 0
  pub second : IsBounded shape 1
  pub room : IsBounded onto t
  pub dim : NamesDimension shape a.dim
