use Rattle.std.proofs.Common.{◌≡◌, ◌++◌, drop}
use Rattle.fd_lexer.specs.View.{unquoted, unquoted_from}
use Rattle.fd_parser.proofs.lexeme.unquoted.Given as goal

abbrev pub invariant-loop-b : goal.invariant-loop-b
invariant-loop-b l = l.text.items ++ unquoted_from l.half (drop l.b-index l.words) ≡ unquoted l.words
