use Rattle.std.proofs.Common.{arith, below_more, ◌<◌, length, ◌∙◌}
use Rattle.fd_lexer.proofs.Physicals.{good_here, quote_counted, other_counted}
use Rattle.fd_lexer.proofs.physical.has_bad_byte.Goals as goal
use Rattle.fd_lexer.proofs.physical.has_bad_byte.Goals.{then-b-eq39, else-b-eq39}

pub loop-i-preserved : goal.loop-i-preserved
loop-i-preserved c =
    let lt : c.loop-i.i < length c.args.line.now = omega (arith, c.loop-i-test.true, c.code_len-len.ensures.within) in
    let v = c.loop-i.invariant in
    record {
      quotes = elim c.if-b-eq39.branch [
        | then-b-eq39 w ↦ w.quotes-is ∙ quote_counted c.args.line.now c.loop-i.i c.loop-i.quotes lt w.if-b-eq39.true v.quotes
        | else-b-eq39 w ↦ w.quotes-is ∙ other_counted c.args.line.now c.loop-i.i c.loop-i.quotes lt w.if-b-eq39.false v.quotes
      ];
      few = elim c.if-b-eq39.branch [
        | then-b-eq39 w ↦ omega (arith, w.quotes-is, v.few)
        | else-b-eq39 w ↦ omega (arith, w.quotes-is, v.few)
      ];
      good = below_more _ _ v.good (good_here c.args.line.now c.loop-i.i c.loop-i.quotes v.quotes c.if-not-allowed_in.ensures);
    }
