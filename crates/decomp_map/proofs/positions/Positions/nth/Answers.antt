use Rattle.std.proofs.Common.{◌≡◌, ◌+◌, ◌-◌, ◌/◌, ◌%◌, arith, ap, ◌∙◌}
use Rattle.decomp_map.specs.Counting.{count_below}
use Rattle.decomp_map.specs.Positions.{is_dealt, position_of_number}
use Rattle.decomp_map.proofs.Counting.{count_below-add}
use Rattle.decomp_map.proofs.Dealing.{position_of_number-owner, position_of_number-count, position_of_number-start}
use Rattle.decomp_map.proofs.positions.Positions.nth.Goals as goal

pub overflow_sub-result : goal.overflow_sub-result
overflow_sub-result c =
    let s = c.args.self.now in
    omega (arith, c.position_of.ensures, position_of_number-start s.block s.ranks c.args.rank (c.dealt.result + c.from.result) s.start (omega (arith, s.dealt.0)) c.requires.rank (omega (arith, c.dealt.ensures.value)))

pub returns-clause-owner : goal.returns-clause-owner
returns-clause-owner c =
    let s = c.args.self.now in
    let e : s.start + (c.position_of.result - c.from-2.result) ≡ position_of_number s.block s.ranks c.args.rank (c.dealt.result + c.from.result) = omega (arith, overflow_sub-result c, c.position_of.ensures) in
    ap (λ m. m / s.block % s.ranks) e ∙ position_of_number-owner s.block s.ranks c.args.rank (c.dealt.result + c.from.result) (omega (arith, s.dealt.0)) c.requires.rank

pub returns-clause-number : goal.returns-clause-number
returns-clause-number c =
    let s = c.args.self.now in
    let e : s.start + (c.position_of.result - c.from-2.result) ≡ position_of_number s.block s.ranks c.args.rank (c.dealt.result + c.from.result) = omega (arith, overflow_sub-result c, c.position_of.ensures) in
    let whole : count_below (is_dealt s.block s.ranks c.args.rank) (s.start + (c.position_of.result - c.from-2.result)) ≡ c.dealt.result + c.from.result = ap (count_below (is_dealt s.block s.ranks c.args.rank)) e ∙ position_of_number-count s.block s.ranks c.args.rank (c.dealt.result + c.from.result) (omega (arith, s.dealt.0)) c.requires.rank in
    omega (arith, whole, c.dealt.ensures.value, count_below-add (is_dealt s.block s.ranks c.args.rank) s.start (c.position_of.result - c.from-2.result))
