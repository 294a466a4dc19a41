-- How far the alignments of a program shift.
use Rattle.std.proofs.Common.{◌≡◌, ℕ, zero, suc, ◌<◌, ◌≤◌, ℤ, pos, ◌+ℤ◌, ◌≤ℤ◌, ◌^◌, List, inl, inr, Option, Some, None, sym, ap, subst, arith}
use Rattle.std.specs.Prelude.{unsigned_abs, IfSome, option_map, slice_get, option_and_then, All}
use Rattle.std.proofs.lemmas.Int.{ints}
use Rattle.std.proofs.lemmas.Option.{slice_get_cases}
use Rattle.std.proofs.lemmas.List.Elements.{All-get_or}
use Rattle.fd_base.specs.declared.shapes.Shape.{Shape}
use Rattle.fd_base.specs.declared.shapes.Along.{Along}
use Rattle.fd_base.specs.declared.shapes.Along.TheVariants.{Fixed, Dim}
use Rattle.fd_base.specs.Places.{IsAligned}
use Rattle.fd_base.specs.Shapes.{IsShape, low_of, extent_of}
use Rattle.fd_base.specs.declared.shapes.Dist.{Dist}
use Rattle.fd_prog.specs.declared.program.Array.{Array}
use Rattle.fd_prog.specs.declared.program.Decomp.{Decomp}
use Rattle.fd_prog.specs.Programs.{CheckedProgram}
use Rattle.fd_prog.specs.Homes as homes
use Rattle.fd_prog.specs.Homes.{distribution_over, distribution_of}
use Rattle.fd_prog.specs.Mapped.{IsBounded, IsDecomp, IsMapped, IsMappedArray, IsInside, LiesInside}
use Rattle.owner_part.specs.declared.distribution.Distribution.{Distribution}
use Rattle.owner_part.specs.Distributions.{IsNear, IsSmall, view_of}

shift_small : (low shift : ℤ) (extent bound : ℕ) → unsigned_abs low ≤ 2 ^ 31 → pos 0 ≤ℤ (low +ℤ shift) → (low +ℤ shift +ℤ pos extent) ≤ℤ pos bound → bound ≤ 262144 → unsigned_abs shift ≤ 2 ^ 33
shift_small low shift extent bound l a b e = omega (arith, ints)

pub near : (shape : Shape) (along : Along) (bound : ℕ) → IsShape shape → IsBounded shape 0 → IsBounded shape 1 → IsAligned shape along bound → bound ≤ 262144 → IsNear along
near shape (Fixed position) bound s f g h e = omega arith
near shape (Dim zero shift) bound s f g h e = shift_small (low_of shape 0) shift (extent_of shape 0) bound f.low h.1 h.2 e
near shape (Dim (suc zero) shift) bound s f g h e = shift_small (low_of shape 1) shift (extent_of shape 1) bound g.low h.1 h.2 e
near shape (Dim (suc (suc dim)) shift) bound s f g h e = absurd (omega (arith, h.0, s.dims.1))

-- what holds of each element holds of the one that is found
pub found_in : {X : Type 0} (P : X → Type 0) (xs : List X) (i : ℕ) → All P xs → IfSome (slice_get xs i) P
found_in P xs i h =
    elim ((slice_get_cases xs i).1) [
      | inl w ↦ rw w.2 (subst P w.3 (All-get_or P xs i w.0 w.1 h))
      | inr n ↦ rw n.1 tt
    ]

low_small : (d : Decomp) → IsDecomp d → (dim : ℕ) → dim < 2 → unsigned_abs (low_of d.shape dim) ≤ 2 ^ 31
low_small d h zero l = h.first.low
low_small d h (suc zero) l = h.second.low
low_small d h (suc (suc dim)) l = absurd (omega (arith, l))

pub extent_small : (d : Decomp) → IsDecomp d → (dim : ℕ) → dim < 2 → extent_of d.shape dim ≤ 262144
extent_small d h zero l = h.first.most
extent_small d h (suc zero) l = h.second.most
extent_small d h (suc (suc dim)) l = absurd (omega (arith, l))

-- how an array that lies so along a decomposition is distributed, by the decomposition's attribute
abbrev pub made : ℕ → Along → Decomp → Dist → homes.Distribution
made number along d dist = record { decomp = number; along = along; low = low_of d.shape d.dim; extent = extent_of d.shape d.dim; dist = dist }

-- what lies along a decomposition of a program is small
small_over : (p : CheckedProgram) (a : Array) (number : ℕ) (d : Decomp) → IsMappedArray p a → IsDecomp d → LiesInside a (Some d) → (found : Option Dist) (v : Distribution) → option_map (made number a.along d) found ≡ Some (view_of v) → IsSmall v
small_over p a number d m h i None v e = absurd cc
small_over p a number d m h i (Some dist) v e =
    let k : d.dim < 2 = omega (arith, h.dim, h.dims) in
    let same : made number a.along d dist ≡ view_of v = cc in
    let l : a.along ≡ v.along = ap (λ (x : homes.Distribution). x.along) same in
    let w : low_of d.shape d.dim ≡ v.low = ap (λ (x : homes.Distribution). x.low) same in
    record {
      along = subst IsNear l (near a.shape a.along (extent_of d.shape d.dim) m.shape m.first m.second i (extent_small d h d.dim k));
      low = rw (← w) (low_small d h d.dim k);
    }

small_at : (p : CheckedProgram) (a : Array) (number : ℕ) → IsMappedArray p a → (found : Option Decomp) → IfSome found IsDecomp → LiesInside a found → (v : Distribution) → option_and_then (distribution_over number a.along) found ≡ Some (view_of v) → IsSmall v
small_at p a number m None h i v e = absurd i
small_at p a number m (Some d) h i v e = small_over p a number d m h i d.dist v e

small_of : (p : CheckedProgram) (a : Array) → IsMapped p → IsMappedArray p a → (number : Option ℕ) → IsInside p a number → (v : Distribution) → option_and_then (λ n. option_and_then (distribution_over n a.along) (slice_get p.decomps n)) number ≡ Some (view_of v) → IsSmall v
small_of p a q m None i v e = absurd cc
small_of p a q m (Some number) i v e = small_at p a number m (slice_get p.decomps number) (found_in IsDecomp p.decomps number q.decomps) i v e

-- how an array of a program is distributed is small
pub small_distribution : (p : CheckedProgram) (a : Array) → IsMapped p → IsMappedArray p a → (found : Option Distribution) → option_map view_of found ≡ distribution_of p a → IfSome found IsSmall
small_distribution p a q m None e = tt
small_distribution p a q m (Some v) e = small_of p a q m a.decomp m.inside v (sym e)
