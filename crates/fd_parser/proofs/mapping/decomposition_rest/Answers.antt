use Rattle.std.proofs.lemmas.Result.{err_from_is_err_and}
use Rattle.fd_parser.proofs.Lists.{list_nothing}
use Rattle.fd_parser.proofs.MappingRules.{listed_then}
use Rattle.fd_parser.proofs.mapping.decomposition_rest.Goals as goal

pub returns-in_err-list-clause-only : goal.returns-in_err-list-clause-only
returns-in_err-list-clause-only c = λ xs d.
    let p = err_from_is_err_and c.from_residual.result c.from_residual.ensures.1 in
    rw (p.1, p.2) (c.in_err-list.ensures.only xs _ d list_nothing)

pub returns-in_err-ended-clause-only : goal.returns-in_err-ended-clause-only
returns-in_err-ended-clause-only c = λ xs d. absurd (c.in_err-ended.ensures.1 (c.in_ok-list.ensures.only xs _ d list_nothing).1)

pub returns-clause-found : goal.returns-clause-found
returns-clause-found c = listed_then c.in_ok-list.ensures.found c.in_ok-ended.ensures

pub returns-clause-only : goal.returns-clause-only
returns-clause-only c = λ xs d. (c.in_ok-list.ensures.only xs _ d list_nothing).0
