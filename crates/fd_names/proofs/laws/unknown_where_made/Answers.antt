use Rattle.fd_names.proofs.Called.{unknown_called}
use Rattle.fd_names.proofs.Scoped.{unknown_where_made}
use Rattle.fd_names.proofs.laws.unknown_where_made.Goals as goal

pub returns-clause-alone : goal.returns-clause-alone
returns-clause-alone c = unknown_where_made

pub returns-clause-called : goal.returns-clause-called
returns-clause-called c = unknown_called
