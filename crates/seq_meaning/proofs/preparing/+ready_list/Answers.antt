use Rattle.std.proofs.Common.{arith, ap, sym, ◌∙◌}
use Rattle.fd_prog.specs.Statements.{Then, statement_of, statements_of}
use Rattle.seq_meaning.proofs.Chained.{hefts, readied}
use Rattle.seq_meaning.proofs.preparing.+ready_list.Goals as goal

pub ready_list-loop-rest-preserved : goal.ready_list-loop-rest-preserved
ready_list-loop-rest-preserved t c = record {
  smaller = omega (arith, c.loop-rest.invariant.smaller, ap (λ y. hefts (statements_of y)) c.in-More.is, ap (λ y. hefts (statements_of y)) c.deref-rest.ensures);
  made = readied c.loop-rest.made.items c.push.new.self.items c.in_ok-one.one (statement_of c.deref.result.now) _ (statements_of c.deref-rest.result.now) _ c.in_ok-push.ensures.items c.in_ok-one.ensures
      (ap statements_of c.in-More.is ∙ (ap (λ y. Then (statement_of y) (statements_of c.in-More.more.value)) (sym c.deref.ensures) ∙ ap (λ y. Then (statement_of c.deref.result.now) (statements_of y)) (sym c.deref-rest.ensures)))
      c.loop-rest.invariant.made;
}
