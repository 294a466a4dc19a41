use Rattle.std.proofs.Common.{◌≡◌, ◌+◌, ◌-◌, arith, rules, ap₂, ◌∙◌}
use Rattle.decomp_map.specs.Counting.{count_below}
use Rattle.decomp_map.specs.Positions.{is_dealt, is_owned}
use Rattle.decomp_map.proofs.Counting.{count_below-mono, count_below-le}
use Rattle.decomp_map.proofs.Dealing.{dealt_between}
use Rattle.decomp_map.proofs.positions.Positions.owned.Goals as goal

pub overflow_sub-result : goal.overflow_sub-result
overflow_sub-result c =
    let p = c.args.self.now in
    omega (arith, c.dealt.ensures.value, c.dealt-2.ensures.value, count_below-mono (is_dealt p.block p.ranks c.args.rank) p.start (p.start + c.args.count) (omega arith))

pub overflow_cast-result : goal.overflow_cast-result
overflow_cast-result c =
    let p = c.args.self.now in
    let e : c.dealt.result - c.dealt-2.result ≡ count_below (is_owned p c.args.rank) c.args.count = ap₂ (λ a b. a - b) c.dealt.ensures.value c.dealt-2.ensures.value ∙ dealt_between (is_dealt p.block p.ranks c.args.rank) p.start c.args.count in
    search (rules, e, count_below-le (is_owned p c.args.rank) c.args.count)

pub returns : goal.returns
returns c =
    let p = c.args.self.now in
    ap₂ (λ a b. a - b) c.dealt.ensures.value c.dealt-2.ensures.value ∙ dealt_between (is_dealt p.block p.ranks c.args.rank) p.start c.args.count
