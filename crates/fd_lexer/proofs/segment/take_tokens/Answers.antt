use Rattle.std.proofs.Common.{sym}
use Rattle.fd_lexer.proofs.Lines.{blank_at, taken_at, took_some, fit_at, large_at}
use Rattle.fd_lexer.proofs.segment.take_tokens.Goals as goal

pub loop-first-preserved-then-is_blank : goal.loop-first-preserved-then-is_blank
loop-first-preserved-then-is_blank c = blank_at _ _ _ _ _ _ _ _ c.loop-first.invariant _ _ c.in-Some.ensures.cases.0 (sym c.if-is_blank.ensures)

pub loop-first-preserved : goal.loop-first-preserved
loop-first-preserved c = taken_at _ _ _ _ _ _ _ _ c.loop-first.invariant _ _ c.split_at.result.1.now _ c.in-Some-2.fits _ c.in-Some.ensures.cases.0 c.split_at.ensures.back (took_some _ _ _ _ _ _ _ _ c.in_ok-len.ensures c.in-Some-2.is)

pub returns-then-large : goal.returns-then-large
returns-then-large c = large_at _ _ _ _ _ _ _ _ c.loop-first.invariant c.in_default.ensures.cases c.if-large.true

pub returns-else-large : goal.returns-else-large
returns-else-large c = fit_at _ _ _ _ _ _ _ _ c.loop-first.invariant c.in_default.ensures.cases c.if-large.false
