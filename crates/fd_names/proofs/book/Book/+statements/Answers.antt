use Rattle.std.proofs.Common.{map, ap, sym, ◌∙◌, arith}
use Rattle.fd_names.proofs.Weights.{weights}
use Rattle.std.proofs.lemmas.List.{map-append}
use Rattle.fd_ast.specs.Tree.{Stmt, stmt_tree, stmt_trees}
use Rattle.fd_prog.specs.Statements.{statement_of}
use Rattle.fd_names.proofs.Chained.{done_one}
use Rattle.fd_names.proofs.book.Book.+statements.Goals as goal

pub stmts-loop-left-preserved : goal.stmts-loop-left-preserved
stmts-loop-left-preserved t c = record {
  smaller = omega (arith, c.loop-left.invariant.smaller, ap (λ y. weights (stmt_trees y)) c.in-More.is, ap (λ y. weights (stmt_trees y)) c.deref-left.ensures);
  walked = done_one _ _ _ _ _ _ (stmt_trees c.deref-left.result.now) (stmt_tree c.deref.result.now) _ _ _ _ _ (statement_of c.in_ok-stmt.stmt) _ c.loop-left.invariant.walked
      (ap stmt_trees c.in-More.is ∙ (ap (λ y. Stmt (stmt_tree y) (stmt_trees c.in-More.rest.value)) (sym c.deref.ensures) ∙ ap (λ y. Stmt (stmt_tree c.deref.result.now) (stmt_trees y)) (sym c.deref-left.ensures)))
      c.in_ok-stmt.ensures.seen (rw c.loop-left.invariant.around at c.in_ok-stmt.ensures.worst) c.in_ok-stmt.ensures.meant (ap (map statement_of) c.in_ok-push.ensures.items ∙ map-append statement_of _ _);
  around = c.in_ok-stmt.ensures.around ∙ c.loop-left.invariant.around;
}
