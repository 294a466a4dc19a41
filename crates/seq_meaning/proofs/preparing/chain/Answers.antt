use Rattle.seq_meaning.proofs.Chained.{chained}
use Rattle.seq_meaning.proofs.preparing.chain.Goals as goal

pub loop-last-preserved : goal.loop-last-preserved
loop-last-preserved c = chained c.loop-last.items.items c.pop.new.self.items c.in-Some.last c.in_ok-new.field-0.value c.loop-last.list c.in_ok-new-2.field-0.value _ c.in-Some.ensures.items c.in_ok-new.ensures.ok c.in_ok-new-2.ensures.ok c.loop-last.invariant
