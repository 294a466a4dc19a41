use Rattle.std.proofs.Common.{arith, eq-eqb}
use Rattle.place_text.proofs.Parts.{place_is, place_none}
use Rattle.place_text.proofs.cutting.place_of.Goals as goal

pub returns-then-b-separator : goal.returns-then-b-separator
returns-then-b-separator c = place_is c.args.separator c.args.text.now c.loop-i.i (omega arith) c.loop-i.invariant (eq-eqb _ _ c.if-b-separator.true)

pub returns : goal.returns
returns c = place_none c.args.separator c.args.text.now (λ k h. c.loop-i.invariant k (omega arith))
