use Rattle.fd_parser.proofs.Rules.{star_at, slash_at, no_factor_sign}
use Rattle.fd_parser.proofs.expression.factor_sign.Goals as goal

pub returns-in-Some : goal.returns-in-Some
returns-in-Some c = star_at c.in-Some.ensures

pub returns-in-Some-after_sign : goal.returns-in-Some-after_sign
returns-in-Some-after_sign c = slash_at c.in-Some-after_sign.ensures

pub returns : goal.returns
returns c = λ op us s. no_factor_sign c.in_default.ensures c.in_default-after_sign.ensures s
