-- The lines of owner tables, and what a map of an array needs.
use Rattle.std.proofs.Common.{◌≡◌, ℕ, ◌+◌, List, [], ◌∷◌, ◌++◌, Option, Some, None, flat_map, sym, ◌∙◌, ap, subst, arith}
use Rattle.std.specs.List.{range_with_len}
use Rattle.std.specs.Prelude.{IfSome, option_map, option_and_then, slice_get}
use Rattle.std.proofs.lemmas.List.{flat_map_more, map-id}
use Rattle.std.proofs.lemmas.List.FromFn.{map-range_with_len_more}
use Rattle.fd_base.specs.declared.shapes.Dist.{Dist}
use Rattle.fd_prog.specs.declared.program.Array.{Array}
use Rattle.fd_prog.specs.declared.program.Decomp.{Decomp}
use Rattle.fd_prog.specs.Programs.{CheckedProgram}
use Rattle.fd_prog.specs.Homes as homes
use Rattle.fd_prog.specs.Homes.{distribution_of, distribution_over}
use Rattle.fd_prog.specs.Mapped.{HasAttribute, IsDecomp, IsInside, IsMapped, IsMappedArray, LiesInside}
use Rattle.owner_part.specs.declared.distribution.Distribution.{Distribution}
use Rattle.owner_part.specs.Distributions.{LiesAlong, view_of}
use Rattle.owner_part.proofs.Shifts.{found_in, made}

range_more : (k : ℕ) → range_with_len 0 (k + 1) ≡ range_with_len 0 k ++ k ∷ []
range_more k =
    sym (map-id (range_with_len 0 (k + 1))) ∙ (map-range_with_len_more (λ (x : ℕ). x) 0 k k (omega arith)
    ∙ ap (λ (xs : List ℕ). xs ++ k ∷ []) (map-id (range_with_len 0 k)))

-- the element of this number has the next line
pub lines_more : (f : ℕ → List ℕ) (front : List ℕ) (k : ℕ) → (front ++ flat_map f (range_with_len 0 k)) ++ f k ≡ front ++ flat_map f (range_with_len 0 (k + 1))
lines_more f front k = flat_map_more f front (range_with_len 0 k) k ∙ ap (λ (xs : List ℕ). front ++ flat_map f xs) (sym (range_more k))

-- an array of a program lies along the dimension over which it is distributed
along : (p : CheckedProgram) (a : Array) → IsMapped p → IsMappedArray p a → IfSome (distribution_of p a) (LiesAlong a.shape)
along p a q m = by a.decomp m.inside
  where
    over : (number : ℕ) (d : Decomp) → LiesInside a (Some d) → (found : Option Dist) → HasAttribute found → IfSome (option_map (made number a.along d) found) (LiesAlong a.shape)
    over number d i None h = tt
    over number d i (Some dist) h = record { aligned = i; attribute = h }

    at : (number : ℕ) (found : Option Decomp) → IfSome found IsDecomp → LiesInside a found → IfSome (option_and_then (distribution_over number a.along) found) (LiesAlong a.shape)
    at number None h i = tt
    at number (Some d) h i = over number d i d.dist h.attribute

    by : (number : Option ℕ) → IsInside p a number → IfSome (option_and_then (λ n. option_and_then (distribution_over n a.along) (slice_get p.decomps n)) number) (LiesAlong a.shape)
    by None i = tt
    by (Some number) i = at number (slice_get p.decomps number) (found_in IsDecomp p.decomps number q.decomps) i

-- the same of what is found
pub lies_along : (p : CheckedProgram) (a : Array) → IsMapped p → IsMappedArray p a → (found : Option Distribution) → option_map view_of found ≡ distribution_of p a → IfSome found (λ v. LiesAlong a.shape (view_of v))
lies_along p a q m None e = tt
lies_along p a q m (Some v) e = subst (λ (o : Option homes.Distribution). IfSome o (LiesAlong a.shape)) (sym e) (along p a q m)
