use Rattle.std.proofs.Common.{arith}
use Rattle.exec_code.specs.Machine.{first_configuration}
use Rattle.exec_code.proofs.Returning.{all_apart, all_low, all_few}
use Rattle.exec_code.proofs.laws.traces_are_short.Goals as goal

pub returns-clause-apart : goal.returns-clause-apart
returns-clause-apart c = λ j before last x. all_apart j (first_configuration j) last before x.walks x.over

pub returns-clause-low : goal.returns-clause-low
returns-clause-low c = λ j before last x. all_low j (first_configuration j) last before x.walks (omega arith)

pub returns-clause-few : goal.returns-clause-few
returns-clause-few c = λ j before last x. all_few j (first_configuration j) last before x.walks x.over (omega arith)
