use Rattle.std.proofs.Common.{◌≡◌, ◌<◌, ◌+◌, ◌/◌, ◌%◌, ◌+ℤ◌, get_or, pos, FitsSigned, w64, sym, ap, ◌∙◌, arith, rules}
use Rattle.std.proofs.lemmas.Int.{ints}
use Rattle.std.proofs.lemmas.Nat.{mod_below, div_below}
use Rattle.std.proofs.Math.Nat.{div-one, mod-eq_of_lt}
use Rattle.fd_base.specs.declared.shapes.Along.TheVariants.{Fixed, Dim}
use Rattle.fd_base.specs.Shapes.{low_of, extent_of}
use Rattle.decomp_map.proofs.Elements.{length-owners_laid, rows_not_empty}
use Rattle.decomp_map.proofs.Regular.{laid_is_regular, owners_are_ranks, fixed_owner, dim_owner}
use Rattle.decomp_map.proofs.map.Map.regular.Goals as goal

pub returns-in-Fixed-clause-owners : goal.returns-in-Fixed-clause-owners
returns-in-Fixed-clause-owners c =
    let a = rw c.in-Fixed.is at c.requires.aligned in
    rw c.in-Fixed.is (laid_is_regular c.args.shape (Fixed c.in-Fixed.start) c.args.extent c.args.dist c.args.ranks _ _ _ _ (omega arith) (λ element h. fixed_owner c.args.dist c.args.extent c.args.ranks c.block_of-block.result c.in-Fixed.start element _ c.block_of-block.ensures.owners a))

pub returns-in-Fixed-clause-ranks : goal.returns-in-Fixed-clause-ranks
returns-in-Fixed-clause-ranks c = owners_are_ranks _ _ _ _

pub returns-in-Dim-eq0-default-clause-owners : goal.returns-in-Dim-eq0-default-clause-owners
returns-in-Dim-eq0-default-clause-owners c =
    let shape = c.args.shape in
    let shift = c.in-Dim-eq0-default.shift in
    let rows = extent_of shape 0 in
    let start = c.start_of.result in
    let d : c.in-Dim-eq0-default.dim ≡ 0 = sym c.in-Dim-eq0-default.dim-is ∙ c.in-Dim-eq0-default.dim-test in
    let i : c.args.along ≡ Dim 0 shift = c.in-Dim-eq0-default.is ∙ ap (λ k. Dim k shift) d in
    let a = rw i at c.requires.aligned in
    let f : FitsSigned w64 (get_or shape.low 0 (pos 0)) = search rules in
    let s : pos start ≡ low_of shape 0 +ℤ shift = omega (arith, ints, c.start_of.ensures) in
    rw i (laid_is_regular shape (Dim 0 shift) c.args.extent c.args.dist c.args.ranks _ _ _ _ (omega arith) (λ element h.
    let some : 0 < rows = (rows_not_empty (extent_of shape 1) rows 1 element (omega (arith, h))).1 in
    ap (λ m. (start + m % rows) / c.block_of-block.result % c.args.ranks) (div-one element) ∙ dim_owner c.args.dist c.args.extent c.args.ranks c.block_of-block.result start (element % rows) rows (low_of shape 0) shift c.block_of-block.ensures.owners s a.2 (mod_below element rows some)))

pub returns-in-Dim-eq0-default-clause-ranks : goal.returns-in-Dim-eq0-default-clause-ranks
returns-in-Dim-eq0-default-clause-ranks c = owners_are_ranks _ _ _ _

pub returns-in-Dim-clause-owners : goal.returns-in-Dim-clause-owners
returns-in-Dim-clause-owners c =
    let shape = c.args.shape in
    let shift = c.in-Dim.shift in
    let rows = extent_of shape 0 in
    let columns = extent_of shape 1 in
    let start = c.start_of-in-Dim.result in
    let b = rw c.in-Dim.is at c.requires.aligned in
    let n : c.in-Dim.dim ≡ 0 → ⊥ = λ z. c.in-Dim.dim-test.1 (c.in-Dim.dim-is ∙ z) in
    let d : c.in-Dim.dim ≡ 1 = omega (arith, b.0, c.requires.shape.dims, n) in
    let i : c.args.along ≡ Dim 1 shift = c.in-Dim.is ∙ ap (λ k. Dim k shift) d in
    let a = rw i at c.requires.aligned in
    let f : FitsSigned w64 (get_or shape.low 1 (pos 0)) = search rules in
    let s : pos start ≡ low_of shape 1 +ℤ shift = omega (arith, ints, c.start_of-in-Dim.ensures) in
    rw i (laid_is_regular shape (Dim 1 shift) c.args.extent c.args.dist c.args.ranks _ _ _ _ (omega arith) (λ element h.
    let some : 0 < rows = (rows_not_empty columns rows 1 element (omega (arith, h))).1 in
    let below : element / rows < columns = div_below element rows columns some (omega (arith, h)) in
    ap (λ m. (start + m) / c.block_of-block.result % c.args.ranks) (mod-eq_of_lt below) ∙ dim_owner c.args.dist c.args.extent c.args.ranks c.block_of-block.result start (element / rows) columns (low_of shape 1) shift c.block_of-block.ensures.owners s a.2 below))

pub returns-in-Dim-clause-ranks : goal.returns-in-Dim-clause-ranks
returns-in-Dim-clause-ranks c = owners_are_ranks _ _ _ _

pub returns-in-Fixed-clause-size : goal.returns-in-Fixed-clause-size
returns-in-Fixed-clause-size c = length-owners_laid _ _ _ _ ∙ omega arith

pub returns-in-Dim-eq0-default-clause-size : goal.returns-in-Dim-eq0-default-clause-size
returns-in-Dim-eq0-default-clause-size c = length-owners_laid _ _ _ _ ∙ omega arith

pub returns-in-Dim-clause-size : goal.returns-in-Dim-clause-size
returns-in-Dim-clause-size c = length-owners_laid _ _ _ _ ∙ omega arith
