use Rattle.fd_lexer.proofs.Physicals.{continued_empty, continued_no, continued_amp}
use Rattle.fd_lexer.proofs.physical.continued.Goals as goal

pub returns-then-end-eq0 : goal.returns-then-end-eq0
returns-then-end-eq0 c = continued_empty c.args.line.now _ c.code_end-end.ensures.value c.if-end-eq0.true

pub returns-then-line-end-ne38 : goal.returns-then-line-end-ne38
returns-then-line-end-ne38 c = continued_no c.args.line.now _ c.code_end-end.ensures.value c.if-end-eq0.false c.if-line-end-ne38.true

pub returns : goal.returns
returns c = continued_amp c.args.line.now _ _ c.code_end-end.ensures.value c.if-end-eq0.false c.if-line-end-ne38.false c.in_text.ensures
