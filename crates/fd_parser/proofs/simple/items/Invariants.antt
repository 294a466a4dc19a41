use Rattle.std.proofs.Common.{◌<◌, length, map}
use Rattle.fd_ast.specs.Tree.{item_tree}
use Rattle.fd_parser.specs.Lexemes.{toks}
use Rattle.fd_parser.specs.Simple.{IsItem}
use Rattle.fd_parser.proofs.Lists.{ListSeen}
use Rattle.fd_parser.proofs.simple.items.Given as goal

abbrev pub invariant-loop-behind : goal.invariant-loop-behind
invariant-loop-behind l = record {
  seen : ListSeen IsItem (toks l.tokens) (map item_tree l.list.items) (toks l.rest);
  shorter : length (toks l.rest) < length (toks l.tokens);
}

abbrev pub decreases-loop-behind : goal.decreases-loop-behind
decreases-loop-behind l = length (toks l.rest)
