-- What the rules on mappings say of every program that is accepted.
use Rattle.std.specs.Prelude.{ℕ, ◌<◌, ◌≤◌, ◌^◌, unsigned_abs, All, Option, Some, None, slice_get}
use Rattle.fd_base.specs.declared.shapes.Dist.{Dist}
use Rattle.fd_base.specs.declared.shapes.Dist.TheVariants.{Block, Cyclic, BlockCyclic, Irregular, Later}
use Rattle.fd_base.specs.declared.shapes.Shape.{Shape}
use Rattle.fd_base.specs.Places.{IsAligned}
use Rattle.fd_base.specs.Shapes.{IsShape, low_of, extent_of}
use Rattle.fd_prog.specs.declared.program.Array.{Array}
use Rattle.fd_prog.specs.declared.program.Decomp.{Decomp}
use Rattle.fd_prog.specs.Programs.{CheckedProgram}

-- in a dimension the lower bound is at most 2^31 in size, and there are 1 to 262,144 subscripts
pub record IsBounded (shape : Shape) (dim : ℕ) : Type 0 where
  pub low : unsigned_abs (low_of shape dim) ≤ 2 ^ 31
  pub least : 1 ≤ extent_of shape dim
  pub most : extent_of shape dim ≤ 262144

-- a block has a size from 1 on
abbrev pub IsAttribute : Dist → Type 0
IsAttribute Block = Unit {0}
IsAttribute Cyclic = Unit {0}
IsAttribute (BlockCyclic size) = 0 < size
IsAttribute Irregular = Unit {0}
IsAttribute Later = Unit {0}

-- the attribute, where there is one, is sound
abbrev pub HasAttribute : Option Dist → Type 0
HasAttribute None = Unit {0}
HasAttribute (Some dist) = IsAttribute dist

-- a decomposition, however many positions it has in all; its distributed dimension is one of its own
pub record IsDecomp (d : Decomp) : Type 0 where
  pub dims : d.shape.dims ≤ 2
  pub dim : d.dim < d.shape.dims
  pub first : IsBounded d.shape 0
  pub second : IsBounded d.shape 1
  pub attribute : HasAttribute d.dist

-- the elements of an array lie inside the decomposition that was looked up
abbrev pub LiesInside : Array → Option Decomp → Type 0
LiesInside a None = ⊥
LiesInside a (Some d) = IsAligned a.shape a.along (extent_of d.shape d.dim)

-- the same of the decomposition that an array is aligned with, if there is one
abbrev pub IsInside : CheckedProgram → Array → Option ℕ → Type 0
IsInside p a None = Unit {0}
IsInside p a (Some number) = LiesInside a (slice_get p.decomps number)

pub record IsMappedArray (p : CheckedProgram) (a : Array) : Type 0 where
  pub shape : IsShape a.shape
  pub first : IsBounded a.shape 0
  pub second : IsBounded a.shape 1
  pub inside : IsInside p a a.decomp

pub record IsMapped (p : CheckedProgram) : Type 0 where
  pub arrays : All (IsMappedArray p) p.arrays
  pub decomps : All IsDecomp p.decomps
