use Rattle.std.proofs.Common.{◌≡◌, drop, map}
use Rattle.fd_ast.specs.Tree.{attr_tree}
use Rattle.fd_parser.specs.Declarations.{has_map}
use Rattle.fd_parser.proofs.line.has_map.Given as goal

abbrev pub invariant-loop-attr : goal.invariant-loop-attr
invariant-loop-attr l = has_map (map attr_tree (drop l.attr-index l.attrs)) ≡ has_map (map attr_tree l.attrs)
