use Rattle.std.proofs.Common.{◌<◌, ◌/◌, arith, refl}
use Rattle.std.proofs.lemmas.Nat.{mod_below}
use Rattle.decomp_map.specs.Counting.{count_below}
use Rattle.decomp_map.specs.Positions.{is_owned}
use Rattle.decomp_map.proofs.Counting.{lt_from_count}
use Rattle.decomp_map.proofs.Elements.{local_parts}
use Rattle.decomp_map.proofs.map.spot_at.Goals as goal

pub returns-clause-in_row : goal.returns-clause-in_row
returns-clause-in_row c =
    omega (arith, c.nth.ensures.number, c.owned-per_row.ensures, mod_below (c.args.local / c.args.inner) c.owned-per_row.result (omega arith))

pub returns-clause-index : goal.returns-clause-index
returns-clause-index c = lt_from_count (is_owned c.args.positions.now c.args.rank) c.nth.result c.args.width (returns-clause-in_row c)

pub overflow_cast-result : goal.overflow_cast-result
overflow_cast-result c =
    let below : count_below (is_owned c.args.positions.now c.args.rank) c.nth.result < count_below (is_owned c.args.positions.now c.args.rank) c.args.width = omega (arith, c.nth.ensures.number, c.owned-per_row.ensures, mod_below (c.args.local / c.args.inner) c.owned-per_row.result (omega arith)) in
    omega (arith, lt_from_count (is_owned c.args.positions.now c.args.rank) c.nth.result c.args.width below)

pub returns-clause-local : goal.returns-clause-local
returns-clause-local c =
    let number = c.args.local / c.args.inner in
    rw (← c.owned-per_row.ensures) (local_parts c.args.inner c.owned-per_row.result number c.args.local (count_below (is_owned c.args.positions.now c.args.rank) c.nth.result) (omega arith) refl c.nth.ensures.number)
