use Rattle.fd_parser.proofs.OtherRules.{one_word_at}
use Rattle.fd_parser.proofs.line.one_word.Goals as goal

pub returns : goal.returns
returns c = one_word_at c.in-Some.ensures c.in_ok-ended.ensures
