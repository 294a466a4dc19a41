use Rattle.std.proofs.Common.{◌≡◌, ◌<ℤ◌, pos, ◌+ℤ◌, subst, arith, rules}
use Rattle.std.proofs.lemmas.Int.{ints}
use Rattle.fd_base.specs.declared.shapes.Along.TheVariants.{Dim}
use Rattle.fd_base.specs.Places.{IsAligned, position_of}
use Rattle.fd_prog.proofs.Mappings.{position-lt}
use Rattle.owner_part.proofs.ByMap.{below_extent}
use Rattle.owner_part.proofs.positions.position.Goals as goal

pub sum_of-requires-clause-high : goal.sum_of-requires-clause-high
sum_of-requires-clause-high c =
    let h : IsAligned c.args.shape.now (Dim c.in-Dim.dim c.in-Dim.shift) c.args.extent = subst (λ along. IsAligned c.args.shape.now along c.args.extent) c.in-Dim.is c.requires.aligned in
    let l : (c.subscript.result +ℤ c.in-Dim.shift) <ℤ pos c.args.extent = rw c.subscript.ensures (below_extent c.args.shape.now c.in-Dim.dim c.in-Dim.shift c.args.extent c.args.element c.requires.shape.dims.1 h c.requires.element) in
    omega (arith, ints, l)

pub returns-in-Dim-clause-value : goal.returns-in-Dim-clause-value
returns-in-Dim-clause-value c = search rules

pub returns-in-Dim-clause-below : goal.returns-in-Dim-clause-below
returns-in-Dim-clause-below c =
    let value : c.sum_of.result ≡ position_of c.args.shape.now c.args.along c.args.element = search rules in
    rw value (position-lt c.args.shape.now c.args.along c.args.extent c.args.element c.requires.shape.dims.1 c.requires.aligned c.requires.element)
