use Rattle.fd_lexer.proofs.Physicals.{counts_no, counts_end}
use Rattle.fd_lexer.proofs.physical.counts.Goals as goal

pub returns-then-begins_comment : goal.returns-then-begins_comment
returns-then-begins_comment c = counts_no c.args.line.now c.if-begins_comment.ensures

pub returns : goal.returns
returns c = counts_end c.args.line.now _ c.if-begins_comment.ensures c.code_end.ensures.value
