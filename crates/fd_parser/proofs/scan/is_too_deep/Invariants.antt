use Rattle.std.proofs.Common.{◌≡◌, ◌≤◌, ◌+◌, drop}
use Rattle.fd_parser.specs.Lexemes.{toks}
use Rattle.fd_parser.specs.Scans.{is_deep_behind, is_too_deep}
use Rattle.fd_parser.proofs.scan.is_too_deep.Given as goal

abbrev pub invariant-loop-token : goal.invariant-loop-token
invariant-loop-token l = record {
  rest : is_deep_behind l.one_group l.level (toks (drop l.token-index l.tokens)) ≡ is_too_deep (toks l.tokens);
  own : l.level.own ≤ 2;
  shallow : l.level.«open» ≤ l.level.own + 32;
}
