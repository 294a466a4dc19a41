use Rattle.fd_parser.proofs.Rules.{plus_at, minus_at, no_sum_sign}
use Rattle.fd_parser.proofs.expression.sum_sign.Goals as goal

pub returns-in-Some : goal.returns-in-Some
returns-in-Some c = plus_at c.in-Some.ensures

pub returns-in-Some-after_sign : goal.returns-in-Some-after_sign
returns-in-Some-after_sign c = minus_at c.in-Some-after_sign.ensures

pub returns : goal.returns
returns c = λ op us s. no_sum_sign c.in_default.ensures c.in_default-after_sign.ensures s
