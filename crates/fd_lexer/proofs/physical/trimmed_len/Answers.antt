use Rattle.std.proofs.Common.{refl, arith}
use Rattle.fd_lexer.proofs.Physicals.{trimmed_none, trimmed_more, trimmed_stop, trimmed_all}
use Rattle.fd_lexer.proofs.physical.trimmed_len.Goals as goal

pub loop-n-init : goal.loop-n-init
loop-n-init c = trimmed_none _ _ refl

pub loop-n-preserved : goal.loop-n-preserved
loop-n-preserved c = trimmed_more _ _ c.loop-n-test.true c.if-not-is_blank.ensures c.loop-n.invariant

pub returns-then-not-is_blank-clause-value : goal.returns-then-not-is_blank-clause-value
returns-then-not-is_blank-clause-value c = trimmed_stop _ _ c.loop-n-test.true c.if-not-is_blank.ensures c.loop-n.invariant

pub returns-clause-value : goal.returns-clause-value
returns-clause-value c = trimmed_all _ _ (omega (arith, c.loop-n-test.false)) c.loop-n.invariant
