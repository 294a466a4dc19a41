use Rattle.std.proofs.Common.{◌≡◌, ◌≤◌, ◌-◌, length, drop}
use Rattle.fd_lexer.specs.View.{lines_of, before_lines}
use Rattle.fd_parser.specs.Lexemes.{toks}
use Rattle.fd_parser.proofs.parsing.line_at.Given as goal

abbrev pub invariant-loop-at : goal.invariant-loop-at
invariant-loop-at l = record {
  lines : lines_of l.text (drop l.from l.tokens) ≡ before_lines (toks l.lexemes.items) (lines_of l.text (drop l.at l.tokens));
  behind : l.from ≤ l.at;
  within : l.at ≤ length l.tokens;
}

abbrev pub decreases-loop-at : goal.decreases-loop-at
decreases-loop-at l = length l.tokens - l.at
