use Rattle.std.proofs.Common.{◌++◌, ◌∷◌, [], sym, ap₂, ◌∙◌, arith}
use Rattle.std.proofs.lemmas.List.FromFn.{map-range_with_len_more}
use Rattle.trans_table.specs.Tables.{elements_of}
use Rattle.trans_table.proofs.deal.elements_by_rank.Goals as goal

pub loop-rank-preserved : goal.loop-rank-preserved
loop-rank-preserved c =
    let s = c.loop-rank in
    c.in_ok-push.ensures.items ∙ (ap₂ (λ a b. a ++ b ∷ []) s.invariant c.in_ok-elements_with.ensures ∙ sym (map-range_with_len_more (elements_of c.args.owners.now) 0 s.rank s.rank (omega arith)))
