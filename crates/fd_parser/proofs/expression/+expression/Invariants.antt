use Rattle.std.proofs.Common.{◌<◌, length, ◌+◌, ◌*◌, List, map}
use Rattle.fd_lexer.specs.View.{Tok}
use Rattle.fd_ast.specs.Tree.{ExprTree, expr_tree}
use Rattle.fd_parser.specs.Lexemes.{toks}
use Rattle.fd_parser.specs.Expressions.{IsExpr, IsTerm, EndsExpr, EndsTerm}
use Rattle.fd_parser.proofs.LeftToRight.{MoreTerms, MoreFactors}
use Rattle.fd_parser.proofs.Rules.{ArgsSeen}
use Rattle.fd_parser.proofs.expression.+expression.Given as goal

-- Each call is on fewer tokens, or on the same and further down the grammar.
abbrev pub decreases-arguments : goal.decreases-arguments
decreases-arguments l = 5 * length (toks l.tokens.now) + 4

abbrev pub decreases-expr : goal.decreases-expr
decreases-expr l = 5 * length (toks l.tokens.now) + 3

abbrev pub decreases-signed : goal.decreases-signed
decreases-signed l = 5 * length (toks l.tokens.now) + 2

abbrev pub decreases-term : goal.decreases-term
decreases-term l = 5 * length (toks l.tokens.now) + 1

abbrev pub decreases-primary : goal.decreases-primary
decreases-primary l = 5 * length (toks l.tokens.now)

abbrev pub invariant-expr-loop-op : goal.invariant-expr-loop-op
invariant-expr-loop-op l = record {
  found : IsExpr (toks l.tokens) (expr_tree l.sum) (toks l.rest);
  only : (x : ExprTree) (r : List Tok) → IsExpr (toks l.tokens) x r → EndsExpr r → MoreTerms (expr_tree l.sum) (toks l.rest) x r;
  shorter : length (toks l.rest) < length (toks l.tokens);
}

abbrev pub decreases-expr-loop-op : goal.decreases-expr-loop-op
decreases-expr-loop-op l = length (toks l.rest)

abbrev pub invariant-term-loop-op : goal.invariant-term-loop-op
invariant-term-loop-op l = record {
  found : IsTerm (toks l.tokens) (expr_tree l.product) (toks l.rest);
  only : (x : ExprTree) (r : List Tok) → IsTerm (toks l.tokens) x r → EndsTerm r → MoreFactors (expr_tree l.product) (toks l.rest) x r;
  shorter : length (toks l.rest) < length (toks l.tokens);
}

abbrev pub decreases-term-loop-op : goal.decreases-term-loop-op
decreases-term-loop-op l = length (toks l.rest)

abbrev pub invariant-arguments-loop-behind : goal.invariant-arguments-loop-behind
invariant-arguments-loop-behind l = record {
  seen : ArgsSeen (toks l.tokens) (map expr_tree l.list.items) (toks l.rest);
  shorter : length (toks l.rest) < length (toks l.tokens);
}

abbrev pub decreases-arguments-loop-behind : goal.decreases-arguments-loop-behind
decreases-arguments-loop-behind l = length (toks l.rest)
