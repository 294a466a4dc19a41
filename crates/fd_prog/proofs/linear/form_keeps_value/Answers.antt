use Rattle.fd_prog.proofs.FormValues.{value-kept, values-kept}
use Rattle.fd_prog.proofs.linear.form_keeps_value.Goals as goal

pub returns-clause-value : goal.returns-clause-value
returns-clause-value c = value-kept

pub returns-clause-values : goal.returns-clause-values
returns-clause-values c = values-kept
