use Rattle.std.proofs.Common.{◌≡◌, List, [], ◌∷◌, ◌++◌, sym, ◌∙◌, map}
use Rattle.std.proofs.lemmas.List.{map_push}
use Rattle.fd_ast.specs.declared.expression.TExpr.{TExpr}
use Rattle.fd_ast.specs.Tree.{ExprTrees, Expr, expr_tree, expr_trees}
use Rattle.fd_parser.specs.Expressions.{joined_exprs}
use Rattle.fd_parser.proofs.Rules.{joined_exprs-push}
use Rattle.fd_parser.proofs.expression.list_of.Goals as goal

-- the last expression goes over to the list behind it
joined_last : (v w : List TExpr) (x : TExpr) (xs : ExprTrees) → v ≡ w ++ x ∷ [] → joined_exprs (map expr_tree w) (Expr (expr_tree x) xs) ≡ joined_exprs (map expr_tree v) xs
joined_last v w x xs e = rw (e, map_push expr_tree w x) (sym (joined_exprs-push (map expr_tree w) (expr_tree x) xs))

pub loop-last-preserved : goal.loop-last-preserved
loop-last-preserved c = rw (c.in_ok-new.ensures.ok, c.in_ok-new-2.ensures.ok) (joined_last c.loop-last.exprs.items c.pop.new.self.items c.in-Some.last (expr_trees c.loop-last.list) c.in-Some.ensures.items ∙ c.loop-last.invariant)
