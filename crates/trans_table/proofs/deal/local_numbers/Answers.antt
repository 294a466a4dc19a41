use Rattle.std.proofs.Common.{◌≡◌, ◌<◌, ◌+◌, ◌++◌, ◌∷◌, [], get_or, sym, ap, ◌∙◌, arith}
use Rattle.std.proofs.lemmas.List.{length-set}
use Rattle.trans_table.proofs.Locals.{count_small, counted, numbered}
use Rattle.trans_table.proofs.deal.local_numbers.Goals as goal

pub overflow_add-counts : goal.overflow_add-counts
overflow_add-counts c =
    let s = c.loop-owner in
    let o : c.from-in-loop-owner.result < 16 = rw c.from-in-loop-owner.ensures (c.requires.owners s.owner-index 0 c.loop-owner-test.true) in
    omega (arith, count_small c.args.owners.now s.counts s.owner-index c.from-in-loop-owner.result c.loop-owner-test.true c.requires.size o s.invariant.1)

pub loop-owner-preserved : goal.loop-owner-preserved
loop-owner-preserved c =
    let s = c.loop-owner in
    let e = c.from-in-loop-owner.ensures in
    let o : c.from-in-loop-owner.result < 16 = rw e (c.requires.owners s.owner-index 0 c.loop-owner-test.true) in
    let same : c.from.result ≡ c.from-in-loop-owner.result = c.from.ensures ∙ sym e in (
      c.in_ok-push.ensures.items ∙ (ap (λ i. s.locals.items ++ get_or s.counts i 0 ∷ []) same ∙ numbered c.args.owners.now s.counts s.locals.items s.owner-index c.from-in-loop-owner.result e o s.invariant.1 s.invariant.0),
      counted c.args.owners.now s.counts s.owner-index c.from-in-loop-owner.result c.loop-owner-test.true e s.invariant.2 o s.invariant.1,
      length-set s.counts c.from-in-loop-owner.result (get_or s.counts c.from-in-loop-owner.result 0 + 1) ∙ s.invariant.2,
    )
