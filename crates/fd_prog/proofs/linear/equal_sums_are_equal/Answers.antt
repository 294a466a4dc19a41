use Rattle.fd_prog.proofs.FormSums.{form-ordered, scaled-coefficient, sum-coefficient, terms-equal}
use Rattle.fd_prog.proofs.linear.equal_sums_are_equal.Goals as goal

pub returns-clause-ordered : goal.returns-clause-ordered
returns-clause-ordered c = form-ordered

pub returns-clause-sums : goal.returns-clause-sums
returns-clause-sums c = sum-coefficient

pub returns-clause-multiples : goal.returns-clause-multiples
returns-clause-multiples c = scaled-coefficient

pub returns-clause-equal : goal.returns-clause-equal
returns-clause-equal c = terms-equal
