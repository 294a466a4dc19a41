use Rattle.std.proofs.Common.{refl}
use Rattle.std.proofs.lemmas.Result.{err_from_is_err_and}
use Rattle.fd_parser.proofs.FormRules.{then_at, then_parts_at}
use Rattle.fd_parser.proofs.form.then_rest.Goals as goal

pub returns-in_err-condition-clause-only : goal.returns-in_err-condition-clause-only
returns-in_err-condition-clause-only c = λ x d.
    let p = err_from_is_err_and c.from_residual-in_err-condition.result c.from_residual-in_err-condition.ensures.1 in
    rw (p.1, p.2) (c.in_err-condition.ensures.only x _ (then_parts_at c.in_ok-inside.ensures d))

pub returns-then-is_then-clause-found : goal.returns-then-is_then-clause-found
returns-then-is_then-clause-found c = then_at c.in_ok-inside.ensures c.in_ok-condition.ensures.found (c.if-is_then.ensures.0 refl)

pub returns-then-is_then-clause-only : goal.returns-then-is_then-clause-only
returns-then-is_then-clause-only c = λ x d. (c.in_ok-condition.ensures.only x _ (then_parts_at c.in_ok-inside.ensures d)).0

pub returns-clause-only : goal.returns-clause-only
returns-clause-only c = λ x d. let e = (c.in_ok-condition.ensures.only x _ (then_parts_at c.in_ok-inside.ensures d)).1 in let f = c.if-is_then.ensures.1 e in absurd cc
