use Rattle.std.proofs.Common.{◌<◌, length, ◌+◌, ◌*◌, List}
use Rattle.fd_lexer.specs.View.{Tok}
use Rattle.fd_ast.specs.Tree.{CondTree, cond_tree}
use Rattle.fd_parser.specs.Lexemes.{toks}
use Rattle.fd_parser.specs.Conditions.{IsCond, IsConj, EndsCond, EndsConj}
use Rattle.fd_parser.proofs.Conditions.{MoreConjs, MoreNegs}
use Rattle.fd_parser.proofs.condition.+condition.Given as goal

abbrev pub decreases-nested : goal.decreases-nested
decreases-nested l = 7 * length (toks l.tokens.now) + 5

abbrev pub decreases-cond : goal.decreases-cond
decreases-cond l = 7 * length (toks l.tokens.now) + 4

abbrev pub decreases-conj : goal.decreases-conj
decreases-conj l = 7 * length (toks l.tokens.now) + 3

abbrev pub decreases-neg : goal.decreases-neg
decreases-neg l = 7 * length (toks l.tokens.now) + 2

abbrev pub decreases-atom : goal.decreases-atom
decreases-atom l = 7 * length (toks l.tokens.now) + 1

abbrev pub decreases-in_parentheses : goal.decreases-in_parentheses
decreases-in_parentheses l = 7 * length (toks l.tokens.now)

abbrev pub invariant-cond-loop-right : goal.invariant-cond-loop-right
invariant-cond-loop-right l = record {
  found : IsCond (toks l.tokens) (cond_tree l.whole) (toks l.rest);
  only : (x : CondTree) (r : List Tok) → IsCond (toks l.tokens) x r → EndsCond r → MoreConjs (cond_tree l.whole) (toks l.rest) x r;
  shorter : length (toks l.rest) < length (toks l.tokens);
}

abbrev pub decreases-cond-loop-right : goal.decreases-cond-loop-right
decreases-cond-loop-right l = length (toks l.rest)

abbrev pub invariant-conj-loop-right : goal.invariant-conj-loop-right
invariant-conj-loop-right l = record {
  found : IsConj (toks l.tokens) (cond_tree l.whole) (toks l.rest);
  only : (x : CondTree) (r : List Tok) → IsConj (toks l.tokens) x r → EndsConj r → MoreNegs (cond_tree l.whole) (toks l.rest) x r;
  shorter : length (toks l.rest) < length (toks l.tokens);
}

abbrev pub decreases-conj-loop-right : goal.decreases-conj-loop-right
decreases-conj-loop-right l = length (toks l.rest)

abbrev pub decreases-comparison_first : goal.decreases-comparison_first
decreases-comparison_first l = 7 * length (toks l.tokens.now)
