use Rattle.std.proofs.Common.{◌≡◌, ◌/◌, ◌%◌, ◌*◌, ◌+◌, inl, inr, arith, ap₂, ◌∙◌}
use Rattle.decomp_map.specs.Positions.{is_dealt}
use Rattle.decomp_map.proofs.Counting.{count_below-le}
use Rattle.decomp_map.proofs.Dealing.{dealt_is}
use Rattle.decomp_map.proofs.positions.Positions.dealt.Goals as goal
use Rattle.decomp_map.proofs.positions.Positions.dealt.Goals.{then-rank-in_turn, else-rank-in_turn+then-rank-in_turn-2, else-rank-in_turn+else-rank-in_turn-2}

pub returns-clause-value : goal.returns-clause-value
returns-clause-value c =
    let s = c.args.self.now in
    let turn : c.from-turn.result ≡ c.args.end / s.block / s.ranks = cc in
    let in_turn : c.args.end / s.block % c.from-2.result ≡ c.args.end / s.block % s.ranks = cc in
    ap₂ (λ a b. c.from-turn.result * a + b) c.from-3.ensures c.from-4.ensures ∙ dealt_is s.block s.ranks c.args.rank c.args.end c.from-turn.result (c.args.end / s.block % c.from-2.result) c.if-rank-in_turn.last (omega (arith, s.dealt.0)) c.requires turn in_turn (elim c.if-rank-in_turn.branch [
      | then-rank-in_turn w ↦ inl (omega arith, w.last-is)
      | else-rank-in_turn+then-rank-in_turn-2 w ↦ inr (inl (omega arith, w.last-is))
      | else-rank-in_turn+else-rank-in_turn-2 w ↦ inr (inr (omega arith, w.last-is))
    ])

pub returns-clause-small : goal.returns-clause-small
returns-clause-small c =
    let s = c.args.self.now in
    omega (arith, returns-clause-value c, count_below-le (is_dealt s.block s.ranks c.args.rank) c.args.end)
