use Rattle.std.proofs.lemmas.Result.{err_from_is_err_and}
use Rattle.fd_parser.proofs.LeftToRight.{ends_right}
use Rattle.fd_parser.proofs.Rules.{same_rest}
use Rattle.fd_parser.proofs.declaration.block_size.Goals as goal

pub returns-in_err-size-clause-only : goal.returns-in_err-size-clause-only
returns-in_err-size-clause-only c = λ x r e d.
    let p = err_from_is_err_and c.from_residual.result c.from_residual.ensures.1 in
    rw (p.1, p.2) (c.in_err-size.ensures.only x _ d (ends_right r))

pub returns-in_err-rest-clause-only : goal.returns-in_err-rest-clause-only
returns-in_err-rest-clause-only c = λ x r e d. absurd (c.in_err-rest.ensures.1 r (c.in_ok-size.ensures.only x _ d (ends_right r)).1)

pub returns-clause-only : goal.returns-clause-only
returns-clause-only c = λ x r e d. let f = c.in_ok-size.ensures.only x _ d (ends_right r) in (f.0, same_rest c.in_ok-rest.ensures f.1)
