use Rattle.std.proofs.Common.{◌≤◌, ◌-◌, length, drop}
use Rattle.fd_lexer.specs.View.{lines_of, token_lines}
use Rattle.fd_parser.specs.Sections.{here_of}
use Rattle.fd_parser.proofs.Reached.{Reached}
use Rattle.fd_parser.proofs.parsing.parse.Given as goal

abbrev pub invariant-loop-source : goal.invariant-loop-source
invariant-loop-source l = record {
  reached : Reached (token_lines l.lexed) (here_of l.source) (lines_of l.text (drop l.at l.tokens));
  within : l.at ≤ length l.tokens;
}

abbrev pub decreases-loop-source : goal.decreases-loop-source
decreases-loop-source l = length l.tokens - l.at
