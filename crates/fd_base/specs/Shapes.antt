-- Index domains of one or two dimensions, and their elements in column-major order.
use Rattle.std.specs.Prelude.{◌≡◌, ℕ, ◌+◌, ◌*◌, ◌^◌, ◌<◌, ◌≤◌, ℤ, pos, negsuc, ◌-ℤ◌, List, get_or, nat_lt, if◌then◌else◌, Option, Some, None, Result, Ok, Err}
use Rattle.fd_base.specs.declared.numbers.FaultKind.{FaultKind}
use Rattle.fd_base.specs.declared.numbers.FaultKind.TheVariants.{Bounds}
use Rattle.fd_base.specs.declared.shapes.Shape.{Shape}

-- the lower bound of a dimension, which is 0 or 1
abbrev pub low_of : Shape → ℕ → ℤ
low_of shape dim = get_or shape.low dim (pos 0)

-- the number of subscripts of a dimension, which is 0 or 1
abbrev pub extent_of : Shape → ℕ → ℕ
extent_of shape dim = get_or shape.extent dim 0

-- the number of elements
abbrev pub size_of : Shape → ℕ
size_of shape = extent_of shape 0 * extent_of shape 1

-- one or two dimensions, the second from 0 to 0 where there is one, and fewer than 2^32 elements
pub record IsShape (shape : Shape) : Type 0 where
  pub dims : (1 ≤ shape.dims) × (shape.dims ≤ 2)
  pub single : shape.dims ≡ 1 → (low_of shape 1 ≡ pos 0) × (extent_of shape 1 ≡ 1)
  pub small : size_of shape < 2 ^ 32

-- a number that is from 0 to below the bound
abbrev pub within : ℕ → ℤ → Option ℕ
within bound (pos n) = if nat_lt n bound then Some n else None
within bound (negsuc n) = None

-- how far a subscript is above the lower bound of its dimension, where it is inside the bounds
abbrev pub offset_of : Shape → ℕ → ℤ → Option ℕ
offset_of shape dim subscript = within (extent_of shape dim) (subscript -ℤ low_of shape dim)

-- the number of an element from the offsets of its subscripts, the first of which varies fastest
abbrev pub column_major : Shape → Option ℕ → Option ℕ → Result ℕ FaultKind
column_major shape (Some i) (Some j) = Ok (i + extent_of shape 0 * j)
column_major shape (Some i) None = Err Bounds
column_major shape None j = Err Bounds

-- the number of the element that two subscripts name, or Bounds where one is outside (ANSI X3.9-1978, table 1)
abbrev pub ordinal_of : Shape → List ℤ → Result ℕ FaultKind
ordinal_of shape subs =
    column_major shape (offset_of shape 0 (get_or subs 0 (pos 0))) (offset_of shape 1 (get_or subs 1 (pos 0)))
