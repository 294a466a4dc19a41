use Rattle.fd_names.specs.Checked.{base_of, seen_in_decls}
use Rattle.fd_names.proofs.Deep.{stmts_deep}
use Rattle.fd_names.proofs.laws.nesting_is_kept.Goals as goal

pub returns : goal.returns
returns c = λ t end_line at. stmts_deep (base_of t).table t.body (seen_in_decls t)
