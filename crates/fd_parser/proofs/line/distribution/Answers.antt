use Rattle.std.proofs.Common.{ap, map}
use Rattle.std.proofs.lemmas.Result.{err_from_is_err_and}
use Rattle.fd_ast.specs.Tree.{attr_tree}
use Rattle.fd_parser.specs.Forms.{without_map, with_map}
use Rattle.fd_parser.proofs.OtherRules.{distribution_head, map_known}
use Rattle.fd_parser.proofs.line.distribution.Goals as goal

pub returns-in_err-name-clause-only : goal.returns-in_err-name-clause-only
returns-in_err-name-clause-only c = λ f d.
    let p = err_from_is_err_and c.from_residual.result c.from_residual.ensures.1 in
    let q = distribution_head d in
    rw (p.1, p.2) (c.in_err-name.ensures.only q.name q.attrs q.rest)

pub returns-then-has_map-clause-found : goal.returns-then-has_map-clause-found
returns-then-has_map-clause-found c = rw (c.in_ok-stmts.ensures, c.from_vec.ensures) (with_map c.in_ok-name.ensures.found (map_known (ap (λ v. map attr_tree v) c.deref.ensures.value) c.if-has_map.ensures))

pub returns-clause-found : goal.returns-clause-found
returns-clause-found c = rw (c.in_ok-decls.ensures, c.from_vec-2.ensures) (without_map c.in_ok-name.ensures.found (map_known (ap (λ v. map attr_tree v) c.deref.ensures.value) c.if-has_map.ensures))
