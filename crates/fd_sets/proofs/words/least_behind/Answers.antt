use Rattle.std.proofs.Common.{◌*◌, ◌+◌, arith}
use Rattle.fd_sets.proofs.Bits.{least_on, least_in_word, none_joined, none_in_word, none_on, none_past}
use Rattle.fd_sets.proofs.words.least_behind.Goals as goal

pub returns-then-word-ne0-clause-some : goal.returns-then-word-ne0-clause-some
returns-then-word-ne0-clause-some c =
    least_on c.args.words.now (64 * c.args.place) (64 * c.loop-i.i) _ (omega (arith, c.loop-i.auto.i)) c.loop-i.invariant (least_in_word c.args.words.now c.loop-i.i (c.type_inv.words c.loop-i.i).fits (omega arith)).1

pub loop-i-preserved : goal.loop-i-preserved
loop-i-preserved c =
    none_joined c.args.words.now (64 * c.args.place) (64 * c.loop-i.i) (64 * (c.loop-i.i + 1)) c.loop-i.invariant (none_in_word c.args.words.now c.loop-i.i (omega (arith, c.if-word-ne0.false)))

pub returns-clause-none : goal.returns-clause-none
returns-clause-none c =
    none_on c.args.words.now (64 * c.args.place) (64 * c.loop-i.i) c.loop-i.invariant (none_past c.args.words.now (64 * c.loop-i.i) (omega arith))
