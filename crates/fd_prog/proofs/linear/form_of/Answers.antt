use Rattle.fd_prog.specs.Expressions.{expression_of}
use Rattle.fd_prog.proofs.FormSums.{ordered-found}
use Rattle.fd_prog.proofs.FormValues.{value-found}
use Rattle.fd_prog.proofs.linear.form_of.Goals as goal

pub returns-clause-ordered : goal.returns-clause-ordered
returns-clause-ordered c = ordered-found c.args.bound.now (expression_of c.args.e.now) c.limited_form.result c.limited_form.ensures.found

pub returns-clause-value : goal.returns-clause-value
returns-clause-value c = value-found c.args.bound.now (expression_of c.args.e.now) c.limited_form.result c.limited_form.ensures.found
