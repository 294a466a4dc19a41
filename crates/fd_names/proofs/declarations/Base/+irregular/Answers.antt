use Rattle.std.proofs.Common.{ap, sym, ◌∙◌, arith}
use Rattle.fd_ast.specs.Tree.{Stmt, stmt_tree, stmt_trees}
use Rattle.fd_names.proofs.Remapped.{remapped_one}
use Rattle.fd_names.proofs.Weights.{weights}
use Rattle.fd_names.proofs.declarations.Base.+irregular.Goals as goal

pub remap_all-loop-left-preserved : goal.remap_all-loop-left-preserved
remap_all-loop-left-preserved t c = record {
  smaller = omega (arith, c.loop-left.invariant.smaller, ap (λ y. weights (stmt_trees y)) c.in-More.is, ap (λ y. weights (stmt_trees y)) c.deref-left.ensures);
  made = remapped_one _ _ (stmt_trees c.deref-left.result.now) (stmt_tree c.deref.result.now) _ _ _ c.loop-left.invariant.made
      (ap stmt_trees c.in-More.is ∙ (ap (λ y. Stmt (stmt_tree y) (stmt_trees c.in-More.rest.value)) (sym c.deref.ensures) ∙ ap (λ y. Stmt (stmt_tree c.deref.result.now) (stmt_trees y)) (sym c.deref-left.ensures)))
      c.in_ok-remap.ensures;
}
