use Rattle.exec_code.proofs.Numbered.{install-numbered}
use Rattle.exec_code.proofs.laws.installs_are_numbered.Goals as goal

pub returns : goal.returns
returns c = install-numbered
