-- The sizes of what an accepted program has.
use Rattle.std.proofs.Common.{◌≡◌, ℕ, zero, suc, ◌+◌, ◌<◌, ◌≤◌, ◌^◌, Bool, true, false, cond, not, List, [], ◌∷◌, refl, ap, ◌∙◌, subst, Option, None, Some, option_map, slice_get, length, arith}
use Rattle.std.specs.Prelude.{filter, sum_by}
use Rattle.std.specs.List.{All, AllByRecursion}
use Rattle.std.specs.Option.{option_and_then}
use Rattle.std.proofs.lemmas.List.Elements.{All-weaker, recursion_from_All}
use Rattle.std.proofs.lemmas.List.Sums.{sum_by-cons}
use Rattle.fd_base.specs.declared.shapes.Along.{Along}
use Rattle.fd_base.specs.declared.shapes.Dist.{Dist}
use Rattle.fd_base.specs.Shapes.{low_of, extent_of, size_of}
use Rattle.fd_prog.specs.declared.program.Array.{Array}
use Rattle.fd_prog.specs.declared.program.Decomp.{Decomp}
use Rattle.fd_prog.specs.Checked.{Reference, elements_of, is_replicated, statements_references}
use Rattle.fd_prog.specs.Homes.{Distribution, distribution_at, distribution_of, distribution_over}
use Rattle.fd_prog.specs.Mapped.{IsBounded, IsDecomp}
use Rattle.fd_prog.specs.Programs.{CheckedProgram}
use Rattle.program_laws.specs.Accepted.{IsAcceptedProgram}
use Rattle.program_laws.specs.Own.{IsSmallDimension}

at_place : {X : Type 0} (P : X → Type 0) (xs : List X) (k : ℕ) (x : X) → AllByRecursion P xs → slice_get xs k ≡ Some x → P x
at_place P [] k x h e = absurd cc
at_place P (y ∷ xs) zero x h e = let same : y ≡ x = cc in subst P same h.0
at_place P (y ∷ xs) (suc k) x h e = at_place P xs k x h.1 e

placed : {X : Type 0} (xs : List X) (k : ℕ) (x : X) → slice_get xs k ≡ Some x → k < length xs
placed [] k x e = absurd cc
placed (y ∷ xs) zero x e = omega arith
placed (y ∷ xs) (suc k) x e = let h = placed xs k x e in omega (arith, h)

-- ---- elements

passed : (test : Array → Bool) (a : Array) (xs : List Array) → test a ≡ true → elements_of test (a ∷ xs) ≡ size_of a.shape + elements_of test xs
passed test a xs e = ap (λ (b : Bool). sum_by (λ (x : Array). size_of x.shape) (cond b (a ∷ filter test xs) (filter test xs))) e ∙ sum_by-cons (λ (x : Array). size_of x.shape) a (filter test xs)

dropped : (test : Array → Bool) (a : Array) (xs : List Array) → test a ≡ false → elements_of test (a ∷ xs) ≡ elements_of test xs
dropped test a xs e = ap (λ (b : Bool). sum_by (λ (x : Array). size_of x.shape) (cond b (a ∷ filter test xs) (filter test xs))) e

more_of : (test : Array → Bool) (x : Array) (xs : List Array) (b : Bool) → test x ≡ b → elements_of test xs ≤ elements_of test (x ∷ xs)
more_of test x xs true e = let h = passed test x xs e in omega (arith, h)
more_of test x xs false e = let h = dropped test x xs e in omega (arith, h)

one_of : (test : Array → Bool) (x : Array) (xs : List Array) → test x ≡ true → size_of x.shape ≤ elements_of test (x ∷ xs)
one_of test x xs e = let h = passed test x xs e in omega (arith, h)

-- an array of one kind is no greater than all of that kind
among : (test : Array → Bool) (xs : List Array) (k : ℕ) (a : Array) → slice_get xs k ≡ Some a → test a ≡ true → size_of a.shape ≤ elements_of test xs
among test [] k a e t = absurd cc
among test (x ∷ xs) zero a e t =
    let same : x ≡ a = cc in
    subst (λ (y : Array). size_of y.shape ≤ elements_of test (x ∷ xs)) same (one_of test x xs (ap test same ∙ t))
among test (x ∷ xs) (suc k) a e t = let h = among test xs k a e t in let m = more_of test x xs (test x) refl in omega (arith, h, m)

array_small : (p : CheckedProgram) (k : ℕ) (a : Array) (b : Bool) → is_replicated p a ≡ b → IsAcceptedProgram p → slice_get p.arrays k ≡ Some a → size_of a.shape ≤ 262144
array_small p k a true r h e = let few = h.checked.replicated in let one = among (is_replicated p) p.arrays k a e r in omega (arith, few, one)
array_small p k a false r h e = let few = h.checked.distributed in let one = among (λ (x : Array). not (is_replicated p x)) p.arrays k a e (ap not r) in omega (arith, few, one)

pub arrays_small : (p : CheckedProgram) (k : ℕ) (a : Array) → IsAcceptedProgram p → slice_get p.arrays k ≡ Some a → (k < 128) × (size_of a.shape ≤ 262144)
arrays_small p k a h e = let few = h.checked.arrays in let here = placed p.arrays k a e in (omega (arith, few, here), array_small p k a (is_replicated p a) refl h e)

-- ---- positions

bounded_at : (d : Decomp) (dim : ℕ) → d.dim ≡ dim → IsDecomp d → IsBounded d.shape dim
bounded_at d zero e h = h.first
bounded_at d (suc zero) e h = h.second
bounded_at d (suc (suc n)) e h = let a = h.dims in let b = h.dim in absurd (omega (arith, a, b, e))

over : (p : CheckedProgram) (number : ℕ) (along : Along) (o : Option Decomp) (d : Distribution) → IsAcceptedProgram p → slice_get p.decomps number ≡ o → option_and_then (distribution_over number along) o ≡ Some d → IsSmallDimension d
over p number along None d h e is = absurd cc
over p number along (Some x) d h e is = by x.dist is
  where
    by : (o : Option Dist) → option_map (λ (dist : Dist). record { decomp = number; along = along; low = low_of x.shape x.dim; extent = extent_of x.shape x.dim; dist = dist }) o ≡ Some d → IsSmallDimension d
    by None q = absurd cc
    by (Some dist) q =
        let one : Distribution = record { decomp = number; along = along; low = low_of x.shape x.dim; extent = extent_of x.shape x.dim; dist = dist } in
        let same : one ≡ d = cc in
        let own = at_place IsDecomp p.decomps number x (recursion_from_All IsDecomp p.decomps h.mapped.decomps) e in
        let b = bounded_at x x.dim refl own in
        let few = h.checked.names in
        let here = placed p.decomps number x e in
        subst IsSmallDimension same (record { decomp = omega (arith, few, here); low = b.low; least = b.least; most = b.most })

of : (p : CheckedProgram) (a : Array) (o : Option ℕ) (d : Distribution) → IsAcceptedProgram p → option_and_then (λ number. option_and_then (distribution_over number a.along) (slice_get p.decomps number)) o ≡ Some d → IsSmallDimension d
of p a None d h e = absurd cc
of p a (Some number) d h e = over p number a.along (slice_get p.decomps number) d h refl e

at : (p : CheckedProgram) (o : Option Array) (d : Distribution) → IsAcceptedProgram p → option_and_then (distribution_of p) o ≡ Some d → IsSmallDimension d
at p None d h e = absurd cc
at p (Some a) d h e = of p a a.decomp d h e

pub dimension_small : (p : CheckedProgram) (k : ℕ) (d : Distribution) → IsAcceptedProgram p → distribution_at p k ≡ Some d → IsSmallDimension d
dimension_small p k d h e = at p (slice_get p.arrays k) d h e

-- ---- references

below : (n : ℕ) (r : Reference) → n < 2 ^ 32 → r.site < n → r.site < 2 ^ 32
below n r h k = omega (arith, h, k)

pub sites_small : (p : CheckedProgram) → IsAcceptedProgram p → All (λ (r : Reference). r.site < 2 ^ 32) (statements_references p.body)
sites_small p h = All-weaker (λ (r : Reference). r.site < p.sites) (λ (r : Reference). r.site < 2 ^ 32) (λ r k. below p.sites r h.limits.sites k) (statements_references p.body) h.checked.sites
