use Rattle.std.proofs.lemmas.Result.{err_from_is_err_and}
use Rattle.fd_parser.proofs.Lists.{list_nothing}
use Rattle.fd_parser.proofs.SimpleRules.{reads_at, read_parts_at}
use Rattle.fd_parser.proofs.simple.read_rest.Goals as goal

pub returns-in_err-list-clause-only : goal.returns-in_err-list-clause-only
returns-in_err-list-clause-only c = λ xs d.
    let p = err_from_is_err_and c.from_residual-in_err-list.result c.from_residual-in_err-list.ensures.1 in
    let q = read_parts_at c.in_ok-rest.ensures c.in_ok-rest-2.ensures d in
    rw (p.1, p.2) (c.in_err-list.ensures.only q.trees _ q.listed list_nothing)

pub returns-in_err-ended-clause-only : goal.returns-in_err-ended-clause-only
returns-in_err-ended-clause-only c = λ xs d.
    let q = read_parts_at c.in_ok-rest.ensures c.in_ok-rest-2.ensures d in
    absurd (c.in_err-ended.ensures.1 (c.in_ok-list.ensures.only q.trees _ q.listed list_nothing).1)

pub returns-clause-found : goal.returns-clause-found
returns-clause-found c = rw c.in_ok-reads.ensures (reads_at c.in_ok-rest.ensures c.in_ok-rest-2.ensures c.in_ok-list.ensures.found c.in_ok-ended.ensures)

pub returns-clause-only : goal.returns-clause-only
returns-clause-only c = λ xs d.
    let q = read_parts_at c.in_ok-rest.ensures c.in_ok-rest-2.ensures d in
    let e = c.in_ok-list.ensures.only q.trees _ q.listed list_nothing in
    rw (c.in_ok-reads.ensures, e.0) q.is
