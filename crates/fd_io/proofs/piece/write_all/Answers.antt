use Rattle.std.proofs.Common.{arith, length-drop}
use Rattle.fd_io.proofs.Moves.{Appends-take_more}
use Rattle.fd_io.proofs.piece.write_all.Goals as goal

pub loop-at-preserved : goal.loop-at-preserved
loop-at-preserved g c = record {
  within = omega (arith, c.in_ok-at.ensures.bound, length-drop c.loop-at.at c.args.bytes.now);
  front = Appends-take_more _ _ _ _ _ _ c.loop-at.invariant.front c.in_ok-at.ensures.bytes;
  later = omega (arith, c.in_ok-at.ensures.cause.later);
  few = omega (arith, c.in_ok-at.ensures.call, c.in_ok-at.ensures.some);
}
