use Rattle.std.proofs.Common.{arith, to_z, of_z}
use Rattle.std.specs.Int.{w128}
use Rattle.std.proofs.lemmas.Int.{ints, to_z-of_z}
use Rattle.fd_base.proofs.TripCounts.{trip_count_from, is_zero-bits}
use Rattle.fd_base.proofs.numbers.trip_count.Goals as goal

pub returns : goal.returns
returns c =
    trip_count_from c.args.first c.args.last c.args.step (to_z w128 (of_z w128 c.span.result)) (to_z w128 (of_z w128 c.from.result)) (to_z w128 (of_z w128 c.whole_quotient-quotient.result)) c.try_from.result c.unwrap_or.result (is_zero-bits c.args.step c.if-step-eq0.false) (omega (arith, ints)) (omega (arith, ints)) (grind (arith, ints, to_z-of_z)) c.try_from.ensures c.unwrap_or.ensures
