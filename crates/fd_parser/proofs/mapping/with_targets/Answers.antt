use Rattle.std.proofs.lemmas.Result.{err_from_is_err_and}
use Rattle.fd_parser.proofs.MappingRules.{with_targets_at, targets_parts_at}
use Rattle.fd_parser.proofs.mapping.with_targets.Goals as goal

pub returns-in_err-targets-clause-only : goal.returns-in_err-targets-clause-only
returns-in_err-targets-clause-only c = λ s xs d.
    let p = err_from_is_err_and c.from_residual-in_err-targets.result c.from_residual-in_err-targets.ensures.1 in
    let q = targets_parts_at c.in_ok-rest.ensures c.in-Some.ensures c.in_ok-inside.ensures d in
    rw (p.1, p.2) (c.in_err-targets.ensures.only xs _ q.targets)

pub returns-in_err-ended-clause-only : goal.returns-in_err-ended-clause-only
returns-in_err-ended-clause-only c = λ s xs d.
    let q = targets_parts_at c.in_ok-rest.ensures c.in-Some.ensures c.in_ok-inside.ensures d in
    absurd (c.in_err-ended.ensures.1 (c.in_ok-targets.ensures.only xs _ q.targets).1)

pub returns-clause-found : goal.returns-clause-found
returns-clause-found c = rw c.in_ok-name.ensures (with_targets_at c.in_ok-rest.ensures c.in-Some.ensures c.in_ok-inside.ensures c.in_ok-targets.ensures.found c.in_ok-ended.ensures)

pub returns-clause-only : goal.returns-clause-only
returns-clause-only c = λ s xs d.
    let q = targets_parts_at c.in_ok-rest.ensures c.in-Some.ensures c.in_ok-inside.ensures d in
    (rw c.in_ok-name.ensures q.name, (c.in_ok-targets.ensures.only xs _ q.targets).0)
