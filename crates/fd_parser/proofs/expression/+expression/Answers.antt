use mir.Val.{SFits}
use mir.Syntax.{w64}
use Rattle.std.proofs.Common.{arith, rules}
use Rattle.std.proofs.lemmas.Result.{err_from_is_err_and}
use Rattle.std.proofs.lemmas.List.{map_push}
use Rattle.std.proofs.lemmas.Int.{to_z-of_z}
use Rattle.fd_ast.specs.Tree.{NoExprs, expr_tree}
use Rattle.fd_parser.specs.Expressions.{first, sum, bare, one, product}
use Rattle.fd_parser.proofs.LeftToRight.{term_parts, factors_end, factor_parts, no_factors, expr_parts, terms_end, sum_parts, no_terms, ends_right}
use Rattle.fd_parser.proofs.Rules.{args_parts, rest_ends, args_begun, args_more, arg_parts_at, no_arg_at, no_rest, over_parts_at, sum_shorter, factor_shorter, cons_shorter, number_at, name_at, call_at, group_at, positive_at, negative_at, positive_parts_at, negative_parts_at, call_parts_at, name_parts_at, group_parts_at, same_rest}
use Rattle.fd_parser.proofs.expression.+expression.Goals as goal

pub expr-returns-in_err-sum-clause-only : goal.expr-returns-in_err-sum-clause-only
expr-returns-in_err-sum-clause-only t c = λ x r d h.
    let p = err_from_is_err_and c.from_residual.result c.from_residual.ensures.1 in
    let q = expr_parts d in
    rw (p.1, p.2) (c.in_err-sum.ensures.only q.tree q.rest q.head (terms_end q.more h))

pub expr-loop-op-init : goal.expr-loop-op-init
expr-loop-op-init t c = record {
  found = first c.in_ok-sum.ensures.found;
  only = λ x r d h. let q = expr_parts d in let e = c.in_ok-sum.ensures.only q.tree q.rest q.head (terms_end q.more h) in rw (e.0, e.1) q.more;
  shorter = c.in_ok-sum.ensures.shorter;
}

pub expr-returns-in_err-next-clause-only : goal.expr-returns-in_err-next-clause-only
expr-returns-in_err-next-clause-only t c = λ x r d h.
    let p = err_from_is_err_and c.from_residual-in_err-next.result c.from_residual-in_err-next.ensures.1 in
    let q = sum_parts c.in-Some.ensures h (c.loop-op.invariant.only x r d h) in
    rw (p.1, p.2) (c.in_err-next.ensures.only q.tree q.rest q.head (terms_end q.more h))

pub expr-loop-op-preserved : goal.expr-loop-op-preserved
expr-loop-op-preserved t c = rw (c.in_ok-new.ensures.ok, c.in_ok-new-2.ensures.ok) (record {
  found = sum c.loop-op.invariant.found c.in-Some.ensures c.in_ok-next.ensures.found;
  only = λ x r d h.
      let q = sum_parts c.in-Some.ensures h (c.loop-op.invariant.only x r d h) in
      let e = c.in_ok-next.ensures.only q.tree q.rest q.head (terms_end q.more h) in
      rw (e.0, e.1) q.more;
  shorter = omega (arith, c.loop-op.invariant.shorter, c.in_ok-next.ensures.shorter, sum_shorter c.in-Some.ensures);
})

pub expr-returns-clause-only : goal.expr-returns-clause-only
expr-returns-clause-only t c = λ x r d h. no_terms c.in_default.ensures (c.loop-op.invariant.only x r d h)

pub term-returns-in_err-product-clause-only : goal.term-returns-in_err-product-clause-only
term-returns-in_err-product-clause-only t c = λ x r d h.
    let p = err_from_is_err_and c.from_residual.result c.from_residual.ensures.1 in
    let q = term_parts d in
    rw (p.1, p.2) (c.in_err-product.ensures.only q.tree q.rest q.head (factors_end q.more h))

pub term-loop-op-init : goal.term-loop-op-init
term-loop-op-init t c = record {
  found = one c.in_ok-product.ensures.found;
  only = λ x r d h. let q = term_parts d in let e = c.in_ok-product.ensures.only q.tree q.rest q.head (factors_end q.more h) in rw (e.0, e.1) q.more;
  shorter = c.in_ok-product.ensures.shorter;
}

pub term-returns-in_err-next-clause-only : goal.term-returns-in_err-next-clause-only
term-returns-in_err-next-clause-only t c = λ x r d h.
    let p = err_from_is_err_and c.from_residual-in_err-next.result c.from_residual-in_err-next.ensures.1 in
    let q = factor_parts c.in-Some.ensures h (c.loop-op.invariant.only x r d h) in
    rw (p.1, p.2) (c.in_err-next.ensures.only q.tree q.rest q.head (factors_end q.more h))

pub term-loop-op-preserved : goal.term-loop-op-preserved
term-loop-op-preserved t c = rw (c.in_ok-new.ensures.ok, c.in_ok-new-2.ensures.ok) (record {
  found = product c.loop-op.invariant.found c.in-Some.ensures c.in_ok-next.ensures.found;
  only = λ x r d h.
      let q = factor_parts c.in-Some.ensures h (c.loop-op.invariant.only x r d h) in
      let e = c.in_ok-next.ensures.only q.tree q.rest q.head (factors_end q.more h) in
      rw (e.0, e.1) q.more;
  shorter = omega (arith, c.loop-op.invariant.shorter, c.in_ok-next.ensures.shorter, factor_shorter c.in-Some.ensures);
})

pub term-returns-clause-only : goal.term-returns-clause-only
term-returns-clause-only t c = λ x r d h. no_factors c.in_default.ensures (c.loop-op.invariant.only x r d h)

pub arguments-returns-in_err-first-clause-only : goal.arguments-returns-in_err-first-clause-only
arguments-returns-in_err-first-clause-only t c = λ xs r d.
    let p = err_from_is_err_and c.from_residual.result c.from_residual.ensures.1 in
    let q = args_parts d in
    rw (p.1, p.2) (c.in_err-first.ensures.only q.tree q.rest q.head (rest_ends q.more))

pub arguments-loop-behind-init : goal.arguments-loop-behind-init
arguments-loop-behind-init t c = record {
  seen = rw (c.in_ok-push.ensures.items, c.new-list.ensures.items) (args_begun c.in_ok-first.ensures.found c.in_ok-first.ensures.only);
  shorter = c.in_ok-first.ensures.shorter;
}

pub arguments-returns-in_err-next-clause-only : goal.arguments-returns-in_err-next-clause-only
arguments-returns-in_err-next-clause-only t c = λ xs r d.
    let p = err_from_is_err_and c.from_residual-in_err-next.result c.from_residual-in_err-next.ensures.1 in
    let q = arg_parts_at c.in-Some.ensures (c.loop-behind.invariant.seen.only xs r d).2 in
    rw (p.1, p.2) (c.in_err-next.ensures.only q.tree q.rest q.head (rest_ends q.more))

pub arguments-loop-behind-preserved : goal.arguments-loop-behind-preserved
arguments-loop-behind-preserved t c = record {
  seen = rw (c.in_ok-push-2.ensures.items, map_push expr_tree c.loop-behind.list.items c.in_ok-next.next) (args_more c.loop-behind.invariant.seen c.in-Some.ensures c.in_ok-next.ensures.found c.in_ok-next.ensures.only);
  shorter = omega (arith, c.loop-behind.invariant.shorter, c.in_ok-next.ensures.shorter, cons_shorter c.in-Some.ensures);
}

pub arguments-returns-in_err-rest-clause-only : goal.arguments-returns-in_err-rest-clause-only
arguments-returns-in_err-rest-clause-only t c = λ xs r d. absurd (no_rest c.in_default.ensures c.in_err-rest.ensures.1 (c.loop-behind.invariant.seen.only xs r d).2)

pub arguments-returns-clause-found : goal.arguments-returns-clause-found
arguments-returns-clause-found t c = rw c.in_ok-list.ensures (c.loop-behind.invariant.seen.found NoExprs _ (no_arg_at c.in_ok-rest.ensures))

pub arguments-returns-clause-only : goal.arguments-returns-clause-only
arguments-returns-clause-only t c = λ xs r d.
    let q = c.loop-behind.invariant.seen.only xs r d in
    let e = over_parts_at c.in_ok-rest.ensures q.2 in
    (rw (c.in_ok-list.ensures, e.0) q.1, e.1)

pub signed-returns-in_err-inner-clause-only : goal.signed-returns-in_err-inner-clause-only
signed-returns-in_err-inner-clause-only t c = λ x r d h.
    let p = err_from_is_err_and c.from_residual.result c.from_residual.ensures.1 in
    let q = negative_parts_at c.in-Some.ensures d in
    rw (p.1, p.2) (c.in_err-inner.ensures.only q.tree r q.term h)

pub signed-returns-in-Some-clause-found : goal.signed-returns-in-Some-clause-found
signed-returns-in-Some-clause-found t c = rw c.in_ok-new.ensures.ok (negative_at c.in-Some.ensures c.in_ok-inner.ensures.found)

pub signed-returns-in-Some-clause-only : goal.signed-returns-in-Some-clause-only
signed-returns-in-Some-clause-only t c = λ x r d h.
    let q = negative_parts_at c.in-Some.ensures d in
    let e = c.in_ok-inner.ensures.only q.tree r q.term h in
    (rw (c.in_ok-new.ensures.ok, e.0) q.negated, e.1)

pub signed-returns-in_err-inner-2-clause-only : goal.signed-returns-in_err-inner-2-clause-only
signed-returns-in_err-inner-2-clause-only t c = λ x r d h.
    let p = err_from_is_err_and c.from_residual-in_err-inner-2.result c.from_residual-in_err-inner-2.ensures.1 in
    rw (p.1, p.2) (c.in_err-inner-2.ensures.only x r (positive_parts_at c.in-Some-after_sign.ensures d) h)

pub signed-returns-in-Some-after_sign-clause-found : goal.signed-returns-in-Some-after_sign-clause-found
signed-returns-in-Some-after_sign-clause-found t c = positive_at c.in-Some-after_sign.ensures c.in_ok-inner-2.ensures.found

pub signed-returns-in-Some-after_sign-clause-only : goal.signed-returns-in-Some-after_sign-clause-only
signed-returns-in-Some-after_sign-clause-only t c = λ x r d h. c.in_ok-inner-2.ensures.only x r (positive_parts_at c.in-Some-after_sign.ensures d) h

pub signed-returns-clause-found : goal.signed-returns-clause-found
signed-returns-clause-found t c = bare c.in_ok-inner-3.ensures.found

pub primary-returns-in-Some-clause-found : goal.primary-returns-in-Some-clause-found
primary-returns-in-Some-clause-found t c = let f : SFits w64 c.in-Some.number = search rules in rw (to_z-of_z w64 c.in-Some.number f) (number_at c.in-Some.ensures)

pub primary-returns-in_err-list-in-Some-after_sign-clause-only : goal.primary-returns-in_err-list-in-Some-after_sign-clause-only
primary-returns-in_err-list-in-Some-after_sign-clause-only t c = λ x r d h.
    let p = err_from_is_err_and c.from_residual-in_err-list-in-Some-after_sign.result c.from_residual-in_err-list-in-Some-after_sign.ensures.1 in
    let q = call_parts_at c.in-Some-first_name.ensures c.in-Some-after_sign.ensures d h in
    rw (p.1, p.2) (c.in_err-list-in-Some-after_sign.ensures.only q.trees r q.list)

pub primary-returns-in_ok-list-in-Some-after_sign-clause-found : goal.primary-returns-in_ok-list-in-Some-after_sign-clause-found
primary-returns-in_ok-list-in-Some-after_sign-clause-found t c = rw c.in_ok-name.ensures (call_at c.in-Some-first_name.ensures c.in-Some-after_sign.ensures c.in_ok-list-in-Some-after_sign.ensures.found)

pub primary-returns-in_ok-list-in-Some-after_sign-clause-only : goal.primary-returns-in_ok-list-in-Some-after_sign-clause-only
primary-returns-in_ok-list-in-Some-after_sign-clause-only t c = λ x r d h.
    let q = call_parts_at c.in-Some-first_name.ensures c.in-Some-after_sign.ensures d h in
    let e = c.in_ok-list-in-Some-after_sign.ensures.only q.trees r q.list in
    (rw (c.in_ok-name.ensures, e.0) q.applied, e.1)

pub primary-returns-in-None-clause-found : goal.primary-returns-in-None-clause-found
primary-returns-in-None-clause-found t c = rw c.in_ok-name.ensures (name_at c.in-Some-first_name.ensures)

pub primary-returns-in-None-clause-only : goal.primary-returns-in-None-clause-only
primary-returns-in-None-clause-only t c = λ x r d h. let e = name_parts_at c.in-Some-first_name.ensures c.in-None.ensures d in (rw c.in_ok-name.ensures e.0, e.1)

pub primary-returns-in_err-inner-clause-only : goal.primary-returns-in_err-inner-clause-only
primary-returns-in_err-inner-clause-only t c = λ x r d h.
    let p = err_from_is_err_and c.from_residual-in_err-inner.result c.from_residual-in_err-inner.ensures.1 in
    let q = group_parts_at c.in_ok-inside.ensures d in
    rw (p.1, p.2) (c.in_err-inner.ensures.only x _ q (ends_right r))

pub primary-returns-in_err-rest-clause-only : goal.primary-returns-in_err-rest-clause-only
primary-returns-in_err-rest-clause-only t c = λ x r d h.
    let q = group_parts_at c.in_ok-inside.ensures d in
    absurd (c.in_err-rest.ensures.1 r (c.in_ok-inner.ensures.only x _ q (ends_right r)).1)

pub primary-returns-clause-found : goal.primary-returns-clause-found
primary-returns-clause-found t c = group_at c.in_ok-inside.ensures c.in_ok-inner.ensures.found c.in_ok-rest.ensures

pub primary-returns-clause-only : goal.primary-returns-clause-only
primary-returns-clause-only t c = λ x r d h.
    let q = group_parts_at c.in_ok-inside.ensures d in
    let e = c.in_ok-inner.ensures.only x _ q (ends_right r) in
    (e.0, same_rest c.in_ok-rest.ensures e.1)
