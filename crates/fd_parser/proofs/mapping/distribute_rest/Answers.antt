use Rattle.std.proofs.lemmas.Result.{err_from_is_err_and}
use Rattle.fd_parser.proofs.Lists.{list_right}
use Rattle.fd_parser.proofs.MappingRules.{nothing_behind, distributed_at, distribute_parts_at}
use Rattle.fd_parser.proofs.mapping.distribute_rest.Goals as goal

pub returns-in_err-list-clause-only : goal.returns-in_err-list-clause-only
returns-in_err-list-clause-only c = λ s xs d.
    let p = err_from_is_err_and c.from_residual-in_err-list.result c.from_residual-in_err-list.ensures.1 in
    let q = distribute_parts_at c.in-Some.ensures c.in_ok-inside.ensures d in
    rw (p.1, p.2) (c.in_err-list.ensures.only xs _ q.listed (list_right _))

pub returns-in_err-rest-clause-only : goal.returns-in_err-rest-clause-only
returns-in_err-rest-clause-only c = λ s xs d.
    let q = distribute_parts_at c.in-Some.ensures c.in_ok-inside.ensures d in
    absurd (c.in_err-rest.ensures.1 _ (c.in_ok-list.ensures.only xs _ q.listed (list_right _)).1)

pub returns-in_err-ended-clause-only : goal.returns-in_err-ended-clause-only
returns-in_err-ended-clause-only c = λ s xs d.
    let q = distribute_parts_at c.in-Some.ensures c.in_ok-inside.ensures d in
    absurd (c.in_err-ended.ensures.1 (nothing_behind c.in_ok-rest.ensures (c.in_ok-list.ensures.only xs _ q.listed (list_right _)).1))

pub returns-clause-found : goal.returns-clause-found
returns-clause-found c = rw c.in_ok-name.ensures (distributed_at c.in-Some.ensures c.in_ok-inside.ensures c.in_ok-list.ensures.found c.in_ok-rest.ensures c.in_ok-ended.ensures)

pub returns-clause-only : goal.returns-clause-only
returns-clause-only c = λ s xs d.
    let q = distribute_parts_at c.in-Some.ensures c.in_ok-inside.ensures d in
    (rw c.in_ok-name.ensures q.name, (c.in_ok-list.ensures.only xs _ q.listed (list_right _)).0)
