use Rattle.std.proofs.Common.{◌≡◌, arith, ◌∙◌}
use Rattle.fd_base.proofs.Places.{local-lt-count}
use Rattle.decomp_map.specs.Counting.{count_below}
use Rattle.decomp_map.specs.Positions.{is_owned}
use Rattle.decomp_map.proofs.Elements.{below_size, rows_not_empty, local_is, local_in-le}
use Rattle.decomp_map.proofs.map.Map.local_of.Goals as goal

pub spot_of-spot-requires : goal.spot_of-spot-requires
spot_of-spot-requires c =
    let m = c.self.inside in
    let h = rows_not_empty m.inner m.width m.outer c.args.element (below_size m.inner m.width m.outer m.positions c.args.self.now c.args.element c.self.view_is c.requires) in
    record { inner = h.0; width = h.1 }

pub returns-clause-value : goal.returns-clause-value
returns-clause-value c =
    let m = c.self.inside in
    let s = c.spot_of-spot in
    let per_row : c.from-per_row.result ≡ count_below (is_owned m.positions c.owner-rank.result) m.width = c.from-per_row.ensures ∙ c.owned.ensures in
    let in_row : c.from-in_row.result ≡ count_below (is_owned m.positions c.owner-rank.result) s.result.index = c.from-in_row.ensures ∙ c.owned-2.ensures in
    rw (c.from.ensures, per_row, in_row, c.from-2.ensures, c.from-3.ensures) (local_is m.inner m.width m.outer m.positions c.args.self.now c.args.element s.result.turn s.result.index s.result.rest c.owner-rank.result c.self.view_is s.ensures.whole s.ensures.index s.ensures.rest c.requires c.owner-rank.ensures.value)

pub overflow_mul-result : goal.overflow_mul-result
overflow_mul-result c =
    let m = c.self.inside in
    let s = c.spot_of-spot in
    let per_row : c.from-per_row.result ≡ count_below (is_owned m.positions c.owner-rank.result) m.width = c.from-per_row.ensures ∙ c.owned.ensures in
    let in_row : c.from-in_row.result ≡ count_below (is_owned m.positions c.owner-rank.result) s.result.index = c.from-in_row.ensures ∙ c.owned-2.ensures in
    let e = local_is m.inner m.width m.outer m.positions c.args.self.now c.args.element s.result.turn s.result.index s.result.rest c.owner-rank.result c.self.view_is s.ensures.whole s.ensures.index s.ensures.rest c.requires c.owner-rank.ensures.value in
    rw (c.from.ensures, per_row, in_row, c.from-2.ensures) (omega (arith, e, local_in-le c.args.self.now c.args.element))

pub overflow_add-result : goal.overflow_add-result
overflow_add-result c = omega (arith, returns-clause-value c, local_in-le c.args.self.now c.args.element)

pub overflow_cast-result : goal.overflow_cast-result
overflow_cast-result c = omega (arith, returns-clause-value c, local_in-le c.args.self.now c.args.element)

pub returns-clause-below : goal.returns-clause-below
returns-clause-below c =
    rw (returns-clause-value c) (local-lt-count c.args.self.now c.args.element c.requires)
