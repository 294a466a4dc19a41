use Rattle.std.proofs.Common.{◌≡◌, ◌≤◌, ◌+◌, ◌-◌, length, drop}
use Rattle.fd_parser.specs.Lexemes.{toks}
use Rattle.fd_parser.specs.Scans.{behind_group}
use Rattle.fd_parser.proofs.scan.group_len.Given as goal

abbrev pub invariant-loop-at : goal.invariant-loop-at
invariant-loop-at l = record {
  rest : behind_group (l.«open» + 1) (toks (drop l.at l.tokens)) ≡ behind_group 1 (toks l.tokens);
  room : l.«open» ≤ l.at;
  within : l.at ≤ length l.tokens;
}

abbrev pub decreases-loop-at : goal.decreases-loop-at
decreases-loop-at l = length l.tokens - l.at
