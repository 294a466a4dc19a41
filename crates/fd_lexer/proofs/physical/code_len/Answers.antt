use Rattle.std.proofs.Common.{arith}
use Rattle.fd_lexer.proofs.Physicals.{code_len_is, comment_here}
use Rattle.fd_lexer.proofs.physical.code_len.Goals as goal

pub returns-then-quotes-ne1-clause-value : goal.returns-then-quotes-ne1-clause-value
returns-then-quotes-ne1-clause-value c =
    code_len_is c.args.line.now c.loop-i.i (omega (arith, c.loop-i-test.true)) c.loop-i.invariant.first
    (λ lt. comment_here c.args.line.now c.loop-i.i c.loop-i.quotes c.loop-i.invariant.quotes c.if-b-eq33.true c.if-quotes-ne1.true)

pub returns-clause-value : goal.returns-clause-value
returns-clause-value c =
    code_len_is c.args.line.now _ (omega arith) (λ k lt. c.loop-i.invariant.first k (omega (arith, lt, c.loop-i-test.false))) (λ lt. absurd (omega (arith, lt)))
