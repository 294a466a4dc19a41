use Rattle.std.proofs.Common.{ap, sym, ◌∙◌, arith}
use Rattle.fd_prog.specs.Statements.{Then, statement_of, statements_of}
use Rattle.fd_prog.proofs.Sizes.{weight_among}
use Rattle.fd_names.proofs.WalkedOn.{walked_on}
use Rattle.fd_names.proofs.book.Book.+index_statements.Goals as goal

pub index_stmts-loop-left-preserved : goal.index_stmts-loop-left-preserved
index_stmts-loop-left-preserved t c = record {
  smaller = omega (arith, c.loop-left.invariant.smaller, ap (λ y. weight_among (statements_of y)) c.in-More.is, ap (λ y. weight_among (statements_of y)) c.deref-left.ensures);
  worst = walked_on _ _ (statements_of c.deref-left.result.now) (statement_of c.deref.result.now) _ _ _ c.loop-left.invariant.worst
      (ap statements_of c.in-More.is ∙ (ap (λ y. Then (statement_of y) (statements_of c.in-More.rest.value)) (sym c.deref.ensures) ∙ ap (λ y. Then (statement_of c.deref.result.now) (statements_of y)) (sym c.deref-left.ensures)))
      (ap (λ b. b.worst) c.in_ok-index_stmt.ensures);
  seen = ap (λ b. b.seen) c.in_ok-index_stmt.ensures ∙ c.loop-left.invariant.seen;
  around = ap (λ b. b.around) c.in_ok-index_stmt.ensures ∙ c.loop-left.invariant.around;
}
