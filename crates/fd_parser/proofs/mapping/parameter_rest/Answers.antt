use Rattle.std.proofs.lemmas.Result.{err_from_is_err_and}
use Rattle.fd_parser.proofs.Lists.{list_right}
use Rattle.fd_parser.proofs.MappingRules.{listed_then, closed, nothing_behind, definitions_at, parameter_parts_at}
use Rattle.fd_parser.proofs.mapping.parameter_rest.Goals as goal

pub returns-in_err-list-clause-only : goal.returns-in_err-list-clause-only
returns-in_err-list-clause-only c = λ xs d.
    let p = err_from_is_err_and c.from_residual-in_err-list.result c.from_residual-in_err-list.ensures.1 in
    rw (p.1, p.2) (c.in_err-list.ensures.only xs _ (parameter_parts_at c.in_ok-inside.ensures d) (list_right _))

pub returns-in_err-rest-clause-only : goal.returns-in_err-rest-clause-only
returns-in_err-rest-clause-only c = λ xs d. absurd (c.in_err-rest.ensures.1 _ (c.in_ok-list.ensures.only xs _ (parameter_parts_at c.in_ok-inside.ensures d) (list_right _)).1)

pub returns-in_err-ended-clause-only : goal.returns-in_err-ended-clause-only
returns-in_err-ended-clause-only c = λ xs d. absurd (c.in_err-ended.ensures.1 (nothing_behind c.in_ok-rest.ensures (c.in_ok-list.ensures.only xs _ (parameter_parts_at c.in_ok-inside.ensures d) (list_right _)).1))

pub returns-clause-found : goal.returns-clause-found
returns-clause-found c = definitions_at c.in_ok-inside.ensures (listed_then c.in_ok-list.ensures.found (closed c.in_ok-rest.ensures c.in_ok-ended.ensures))

pub returns-clause-only : goal.returns-clause-only
returns-clause-only c = λ xs d. (c.in_ok-list.ensures.only xs _ (parameter_parts_at c.in_ok-inside.ensures d) (list_right _)).0
