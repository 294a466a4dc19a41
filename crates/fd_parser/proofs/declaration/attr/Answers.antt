use Rattle.std.proofs.lemmas.Result.{err_from_is_err_and}
use Rattle.fd_parser.proofs.DeclarationRules.{whole_dim_at, block_at, cyclic_at, block_cyclic_at, map_at, block_cyclic_parts_at}
use Rattle.fd_parser.proofs.declaration.attr.Goals as goal

pub returns-in-Some-clause-found : goal.returns-in-Some-clause-found
returns-in-Some-clause-found c = whole_dim_at c.in-Some.ensures

pub returns-in-Some-after_word-clause-found : goal.returns-in-Some-after_word-clause-found
returns-in-Some-after_word-clause-found c = block_at c.in-Some-after_word.ensures

pub returns-in-Some-after_word-2-clause-found : goal.returns-in-Some-after_word-2-clause-found
returns-in-Some-after_word-2-clause-found c = cyclic_at c.in-Some-after_word-2.ensures

pub returns-in_err-size-in-Some-after_sign-clause-only : goal.returns-in_err-size-in-Some-after_sign-clause-only
returns-in_err-size-in-Some-after_sign-clause-only c = λ x r d h.
    let p = err_from_is_err_and c.from_residual.result c.from_residual.ensures.1 in
    let q = block_cyclic_parts_at c.in-Some-first_name.ensures c.in-Some-after_sign.ensures d h in
    rw (p.1, p.2) (c.in_err-size-in-Some-after_sign.ensures.only q.size r q.name q.expr)

pub returns-in_ok-size-in-Some-after_sign-clause-found : goal.returns-in_ok-size-in-Some-after_sign-clause-found
returns-in_ok-size-in-Some-after_sign-clause-found c = block_cyclic_at c.in-Some-first_name.ensures c.in-Some-after_sign.ensures c.in_ok-size-in-Some-after_sign.ensures.found.0 c.in_ok-size-in-Some-after_sign.ensures.found.1

pub returns-in_ok-size-in-Some-after_sign-clause-only : goal.returns-in_ok-size-in-Some-after_sign-clause-only
returns-in_ok-size-in-Some-after_sign-clause-only c = λ x r d h.
    let q = block_cyclic_parts_at c.in-Some-first_name.ensures c.in-Some-after_sign.ensures d h in
    let e = c.in_ok-size-in-Some-after_sign.ensures.only q.size r q.name q.expr in
    (rw e.0 q.is, e.1)

pub returns-in_ok-upper-in-None-clause-found : goal.returns-in_ok-upper-in-None-clause-found
returns-in_ok-upper-in-None-clause-found c = rw c.in_ok-upper-in-None.ensures (map_at c.in-Some-first_name.ensures c.in_default-after_word.ensures c.in_default-after_word-2.ensures)
