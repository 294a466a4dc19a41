use Rattle.std.proofs.Common.{◌∷◌, arith}
use Rattle.std.proofs.lemmas.Result.{err_from_is_err_and}
use Rattle.fd_lexer.specs.declared.token.SignKind.TheVariants.{ParRight}
use Rattle.fd_lexer.specs.View.{Sign}
use Rattle.fd_parser.specs.Conditions.{one_conj, one_neg, plain, compared}
use Rattle.fd_parser.proofs.Rules.{same_rest, cons_shorter}
use Rattle.fd_parser.proofs.Conditions as more
use Rattle.fd_parser.proofs.condition.+condition.Goals as goal

pub cond-returns-in_err-whole-clause-only : goal.cond-returns-in_err-whole-clause-only
cond-returns-in_err-whole-clause-only t c = λ x r d h.
    let p = err_from_is_err_and c.from_residual.result c.from_residual.ensures.1 in
    let q = more.cond_parts d in
    rw (p.1, p.2) (c.in_err-whole.ensures.only q.tree q.rest q.head (more.conjs_end q.more h))

pub cond-loop-right-init : goal.cond-loop-right-init
cond-loop-right-init t c = record {
  found = one_conj c.in_ok-whole.ensures.found;
  only = λ x r d h. let q = more.cond_parts d in let e = c.in_ok-whole.ensures.only q.tree q.rest q.head (more.conjs_end q.more h) in rw (e.0, e.1) q.more;
  shorter = c.in_ok-whole.ensures.shorter;
}

pub cond-returns-in_err-side-clause-only : goal.cond-returns-in_err-side-clause-only
cond-returns-in_err-side-clause-only t c = λ x r d h.
    let p = err_from_is_err_and c.from_residual-in_err-side.result c.from_residual-in_err-side.ensures.1 in
    let q = more.or_parts_at c.in-Some.ensures h (c.loop-right.invariant.only x r d h) in
    rw (p.1, p.2) (c.in_err-side.ensures.only q.tree q.rest q.head (more.conjs_end q.more h))

pub cond-loop-right-preserved : goal.cond-loop-right-preserved
cond-loop-right-preserved t c = rw (c.in_ok-new.ensures.ok, c.in_ok-new-2.ensures.ok) (record {
  found = more.either_at c.loop-right.invariant.found c.in-Some.ensures c.in_ok-side.ensures.found;
  only = λ x r d h.
      let q = more.or_parts_at c.in-Some.ensures h (c.loop-right.invariant.only x r d h) in
      let e = c.in_ok-side.ensures.only q.tree q.rest q.head (more.conjs_end q.more h) in
      rw (e.0, e.1) q.more;
  shorter = omega (arith, c.loop-right.invariant.shorter, c.in_ok-side.ensures.shorter, cons_shorter c.in-Some.ensures);
})

pub cond-returns-clause-only : goal.cond-returns-clause-only
cond-returns-clause-only t c = λ x r d h. more.no_conjs c.in_default.ensures (c.loop-right.invariant.only x r d h)

pub conj-returns-in_err-whole-clause-only : goal.conj-returns-in_err-whole-clause-only
conj-returns-in_err-whole-clause-only t c = λ x r d h.
    let p = err_from_is_err_and c.from_residual.result c.from_residual.ensures.1 in
    let q = more.conj_parts d in
    rw (p.1, p.2) (c.in_err-whole.ensures.only q.tree q.rest q.head (more.negs_end q.more h))

pub conj-loop-right-init : goal.conj-loop-right-init
conj-loop-right-init t c = record {
  found = one_neg c.in_ok-whole.ensures.found;
  only = λ x r d h. let q = more.conj_parts d in let e = c.in_ok-whole.ensures.only q.tree q.rest q.head (more.negs_end q.more h) in rw (e.0, e.1) q.more;
  shorter = c.in_ok-whole.ensures.shorter;
}

pub conj-returns-in_err-side-clause-only : goal.conj-returns-in_err-side-clause-only
conj-returns-in_err-side-clause-only t c = λ x r d h.
    let p = err_from_is_err_and c.from_residual-in_err-side.result c.from_residual-in_err-side.ensures.1 in
    let q = more.neg_parts_at c.in-Some.ensures h (c.loop-right.invariant.only x r d h) in
    rw (p.1, p.2) (c.in_err-side.ensures.only q.tree q.rest q.head (more.negs_end q.more h))

pub conj-loop-right-preserved : goal.conj-loop-right-preserved
conj-loop-right-preserved t c = rw (c.in_ok-new.ensures.ok, c.in_ok-new-2.ensures.ok) (record {
  found = more.both_at c.loop-right.invariant.found c.in-Some.ensures c.in_ok-side.ensures.found;
  only = λ x r d h.
      let q = more.neg_parts_at c.in-Some.ensures h (c.loop-right.invariant.only x r d h) in
      let e = c.in_ok-side.ensures.only q.tree q.rest q.head (more.negs_end q.more h) in
      rw (e.0, e.1) q.more;
  shorter = omega (arith, c.loop-right.invariant.shorter, c.in_ok-side.ensures.shorter, cons_shorter c.in-Some.ensures);
})

pub conj-returns-clause-only : goal.conj-returns-clause-only
conj-returns-clause-only t c = λ x r d h. more.no_negs c.in_default.ensures (c.loop-right.invariant.only x r d h)

pub neg-returns-in_err-inner-in-Some-clause-only : goal.neg-returns-in_err-inner-in-Some-clause-only
neg-returns-in_err-inner-in-Some-clause-only t c = λ x r d h.
    let p = err_from_is_err_and c.from_residual.result c.from_residual.ensures.1 in
    let q = more.not_parts_at c.in-Some.ensures d in
    rw (p.1, p.2) (c.in_err-inner-in-Some.ensures.only q.tree r q.atom h)

pub neg-returns-in_ok-new-in-Some-clause-found : goal.neg-returns-in_ok-new-in-Some-clause-found
neg-returns-in_ok-new-in-Some-clause-found t c = rw c.in_ok-new-in-Some.ensures.ok (more.inverted_at c.in-Some.ensures c.in_ok-inner-in-Some.ensures.found)

pub neg-returns-in_ok-new-in-Some-clause-only : goal.neg-returns-in_ok-new-in-Some-clause-only
neg-returns-in_ok-new-in-Some-clause-only t c = λ x r d h.
    let q = more.not_parts_at c.in-Some.ensures d in
    let e = c.in_ok-inner-in-Some.ensures.only q.tree r q.atom h in
    (rw (c.in_ok-new-in-Some.ensures.ok, e.0) q.is, e.1)

pub neg-returns-in_ok-inner-in-None-clause-found : goal.neg-returns-in_ok-inner-in-None-clause-found
neg-returns-in_ok-inner-in-None-clause-found t c = plain c.in_ok-inner-in-None.ensures.found

pub atom-returns-in-Some-clause-found : goal.atom-returns-in-Some-clause-found
atom-returns-in-Some-clause-found t c = more.holds_at c.in-Some.ensures

pub atom-returns-in-Some-clause-only : goal.atom-returns-in-Some-clause-only
atom-returns-in-Some-clause-only t c = λ x r d h. more.true_parts_at c.in-Some.ensures d

pub atom-returns-in-Some-after_dot-clause-found : goal.atom-returns-in-Some-after_dot-clause-found
atom-returns-in-Some-after_dot-clause-found t c = more.fails_at c.in-Some-after_dot.ensures

pub atom-returns-in-Some-after_dot-clause-only : goal.atom-returns-in-Some-after_dot-clause-only
atom-returns-in-Some-after_dot-clause-only t c = λ x r d h. more.false_parts_at c.in-Some-after_dot.ensures d

pub atom-returns-in_ok-tree-in-None-clause-found : goal.atom-returns-in_ok-tree-in-None-clause-found
atom-returns-in_ok-tree-in-None-clause-found t c = compared c.in_ok-tree-in-None.ensures.found

pub in_parentheses-returns-in-Ok-clause-found : goal.in_parentheses-returns-in-Ok-clause-found
in_parentheses-returns-in-Ok-clause-found t c = more.nested_at c.requires c.in-Ok.ensures.found

pub in_parentheses-returns-in-Ok-clause-only : goal.in_parentheses-returns-in-Ok-clause-only
in_parentheses-returns-in-Ok-clause-only t c = λ x r d h. c.in-Ok.ensures.only x r (more.nested_parts_at c.requires c.in-Ok.ensures.found d)

pub in_parentheses-returns-in_ok-tree-in-Err-Syntax-clause-found : goal.in_parentheses-returns-in_ok-tree-in-Err-Syntax-clause-found
in_parentheses-returns-in_ok-tree-in-Err-Syntax-clause-found t c = compared c.in_ok-tree-in-Err-Syntax.ensures.found

pub nested-returns-in_err-inner-clause-only : goal.nested-returns-in_err-inner-clause-only
nested-returns-in_err-inner-clause-only t c = λ x r d.
    let p = err_from_is_err_and c.from_residual.result c.from_residual.ensures.1 in
    rw (p.1, p.2) (c.in_err-inner.ensures.only x (Sign ParRight ∷ r) d (more.cond_right r))

pub nested-returns-in_err-rest-clause-only : goal.nested-returns-in_err-rest-clause-only
nested-returns-in_err-rest-clause-only t c = λ x r d. absurd (c.in_err-rest.ensures.1 r (c.in_ok-inner.ensures.only x (Sign ParRight ∷ r) d (more.cond_right r)).1)

pub nested-returns-clause-only : goal.nested-returns-clause-only
nested-returns-clause-only t c = λ x r d. let e = c.in_ok-inner.ensures.only x (Sign ParRight ∷ r) d (more.cond_right r) in (e.0, same_rest c.in_ok-rest.ensures e.1)

pub comparison_first-returns-in-Ok-clause-found : goal.comparison_first-returns-in-Ok-clause-found
comparison_first-returns-in-Ok-clause-found t c = compared c.in-Ok.ensures.found

pub comparison_first-returns-in-Ok-clause-only : goal.comparison_first-returns-in-Ok-clause-only
comparison_first-returns-in-Ok-clause-only t c = λ x r d h. c.in-Ok.ensures.only x r (more.compared_parts_at c.requires c.in-Ok.ensures.found d) h

pub comparison_first-returns-in_ok-inner-in-Err-Syntax-clause-found : goal.comparison_first-returns-in_ok-inner-in-Err-Syntax-clause-found
comparison_first-returns-in_ok-inner-in-Err-Syntax-clause-found t c = more.nested_at c.requires c.in_ok-inner-in-Err-Syntax.ensures.found
