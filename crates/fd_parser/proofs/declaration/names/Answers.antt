use Rattle.std.proofs.Common.{arith}
use Rattle.std.proofs.lemmas.Result.{err_from_is_err_and}
use Rattle.fd_parser.proofs.Rules.{cons_shorter}
use Rattle.fd_parser.proofs.Lists.{list_parts, rest_ends, list_begun, list_more, list_over, thing_parts_at}
use Rattle.fd_parser.proofs.declaration.names.Goals as goal

pub returns-in_err-first-clause-only : goal.returns-in_err-first-clause-only
returns-in_err-first-clause-only c = λ xs r d h.
    let p = err_from_is_err_and c.from_residual.result c.from_residual.ensures.1 in
    let q = list_parts d in
    rw (p.1, p.2) (c.in_err-first.ensures.only q.first q.rest q.head ((rest_ends q.more h)))

pub loop-behind-init : goal.loop-behind-init
loop-behind-init c = record {
  seen = rw (c.in_ok-push.ensures.items, c.new-list.ensures.items) (list_begun c.in_ok-first.ensures.found (λ x r d h. c.in_ok-first.ensures.only x r d (h)));
  shorter = c.in_ok-first.ensures.shorter;
}

pub returns-in_err-next-clause-only : goal.returns-in_err-next-clause-only
returns-in_err-next-clause-only c = λ xs r d h.
    let p = err_from_is_err_and c.from_residual-in_err-next.result c.from_residual-in_err-next.ensures.1 in
    let q = thing_parts_at c.in-Some.ensures (c.loop-behind.invariant.seen.only xs r d h).2 h in
    rw (p.1, p.2) (c.in_err-next.ensures.only q.first q.rest q.head ((rest_ends q.more h)))

pub loop-behind-preserved : goal.loop-behind-preserved
loop-behind-preserved c = record {
  seen = rw (c.in_ok-push-2.ensures.items) (list_more c.loop-behind.invariant.seen c.in-Some.ensures c.in_ok-next.ensures.found (λ x r d h. c.in_ok-next.ensures.only x r d (h)));
  shorter = omega (arith, c.loop-behind.invariant.shorter, c.in_ok-next.ensures.shorter, cons_shorter c.in-Some.ensures);
}

pub returns-clause-found : goal.returns-clause-found
returns-clause-found c = c.loop-behind.invariant.seen.found

pub returns-clause-only : goal.returns-clause-only
returns-clause-only c = λ xs r d h. list_over c.loop-behind.invariant.seen c.in_default.ensures d h
