use Rattle.std.proofs.Common.{◌≡◌, arith, sym, ap, length, ◌∙◌}
use Rattle.decomp_map.specs.Counting.{count_below}
use Rattle.decomp_map.specs.Positions.{is_owned}
use Rattle.decomp_map.proofs.Elements.{count_is, count_past, count_in-le, length-owners_laid}
use Rattle.decomp_map.proofs.map.Map.count_of.Goals as goal

pub returns-then-rank-self : goal.returns-then-rank-self
returns-then-rank-self c =
    let m = c.self.inside in
    sym (count_past m.inner m.width m.outer m.positions c.args.self.now c.args.rank.0 c.self.view_is (omega arith))

pub returns : goal.returns
returns c =
    let m = c.self.inside in
    let per_row : c.from-per_row.result ≡ count_below (is_owned m.positions c.args.rank.0) m.width = c.from-per_row.ensures ∙ c.owned.ensures in
    rw (c.from.ensures, per_row, c.from-2.ensures) (count_is m.inner m.width m.outer m.positions c.args.self.now c.args.rank.0 c.self.view_is)

pub overflow_mul-result-2 : goal.overflow_mul-result-2
overflow_mul-result-2 c =
    let m = c.self.inside in
    omega (arith, returns c, count_in-le c.args.self.now c.args.rank.0, ap length c.self.view_is, length-owners_laid m.inner m.width m.outer m.positions)

pub overflow_cast-result : goal.overflow_cast-result
overflow_cast-result c =
    let m = c.self.inside in
    omega (arith, returns c, count_in-le c.args.self.now c.args.rank.0, ap length c.self.view_is, length-owners_laid m.inner m.width m.outer m.positions)
