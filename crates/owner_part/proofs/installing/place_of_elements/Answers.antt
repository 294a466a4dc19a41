use Rattle.std.proofs.Common.{length, ◌∙◌, ap, arith}
use Rattle.std.proofs.lemmas.List.FromFn.{length-map-range_with_len}
use Rattle.std.specs.Prelude.{pos, slice_index_or}
use Rattle.fd_base.specs.Places as places
use Rattle.fd_base.specs.Places.{irregular_owners, position_of}
use Rattle.fd_base.specs.Shapes.{size_of}
use Rattle.owner_part.proofs.ByMap.{owners_of_elements}
use Rattle.owner_part.proofs.installing.place_of_elements.Goals as goal

pub build-requires-clause-size : goal.build-requires-clause-size
build-requires-clause-size c =
    let e = ap length c.in_ok-values.ensures ∙ length-map-range_with_len (λ element. slice_index_or c.args.values.now (position_of c.args.shape.now c.args.along element) (pos 0)) 0 (size_of c.args.shape.now) in
    omega (arith, e, c.requires.shape.small)

pub returns-clause-place : goal.returns-clause-place
returns-clause-place c = ap places.Split (c.in_ok-table.ensures.owners ∙ (ap (λ vs. irregular_owners vs c.args.ranks) c.deref.ensures.value ∙ ap (λ vs. irregular_owners vs c.args.ranks) c.in_ok-values.ensures ∙ owners_of_elements c.args.values.now c.args.ranks c.args.shape.now c.args.along))
