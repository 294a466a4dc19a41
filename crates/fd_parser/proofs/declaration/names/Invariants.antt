use Rattle.std.proofs.Common.{◌<◌, length}
use Rattle.fd_parser.specs.Lexemes.{toks}
use Rattle.fd_parser.specs.Declarations.{IsName}
use Rattle.fd_parser.proofs.Lists.{ListSeen}
use Rattle.fd_parser.proofs.declaration.names.Given as goal

abbrev pub invariant-loop-behind : goal.invariant-loop-behind
invariant-loop-behind l = record {
  seen : ListSeen IsName (toks l.tokens) l.list.items (toks l.rest);
  shorter : length (toks l.rest) < length (toks l.tokens);
}

abbrev pub decreases-loop-behind : goal.decreases-loop-behind
decreases-loop-behind l = length (toks l.rest)
