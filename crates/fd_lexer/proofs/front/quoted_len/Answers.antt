use Rattle.std.proofs.Common.{◌+◌, refl}
use Rattle.fd_lexer.proofs.QuotedScan.{scan_byte, scan_quote, closed, never_closed, no_quote}
use Rattle.fd_lexer.proofs.front.quoted_len.Goals as goal

pub loop-at-preserved-then-bytes-at-ne39 : goal.loop-at-preserved-then-bytes-at-ne39
loop-at-preserved-then-bytes-at-ne39 c = scan_byte c.args.bytes.now c.loop-at.at c.loop-at-test.true c.loop-at.invariant c.if-bytes-at-ne39.true

pub loop-at-preserved : goal.loop-at-preserved
loop-at-preserved c =
    let f = c.if-quote_follows.ensures.0 refl in
    scan_quote c.args.bytes.now c.loop-at.at c.loop-at-test.true c.loop-at.invariant c.if-bytes-at-ne39.false f.0 f.1

pub returns-else-quote_follows-clause-found : goal.returns-else-quote_follows-clause-found
returns-else-quote_follows-clause-found c =
    closed c.args.bytes.now c.loop-at.at c.loop-at-test.true c.loop-at.invariant c.if-bytes-at-ne39.false
    (no_quote c.args.bytes.now (c.loop-at.at + 1) (λ lt e. let f = c.if-quote_follows.ensures.1 (lt, e) in absurd cc))

pub returns-clause-none : goal.returns-clause-none
returns-clause-none c = never_closed c.args.bytes.now c.loop-at.at c.loop-at-test.false c.loop-at.invariant
