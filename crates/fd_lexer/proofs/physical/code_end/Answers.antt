use Rattle.fd_lexer.proofs.Physicals.{code_end_is}
use Rattle.fd_lexer.proofs.physical.code_end.Goals as goal

pub returns-clause-value : goal.returns-clause-value
returns-clause-value c = code_end_is c.args.line.now c.split_at.result.0.now c.code_len-len.result c.code_len-len.ensures.value c.split_at.ensures.front c.code_len-len.ensures.within _ c.trimmed_len.ensures.value c.split_at.ensures.front_len
