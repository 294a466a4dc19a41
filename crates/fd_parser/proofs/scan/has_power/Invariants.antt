use Rattle.std.proofs.Common.{◌≡◌, drop}
use Rattle.fd_parser.specs.Lexemes.{toks}
use Rattle.fd_parser.specs.Scans.{has_power}
use Rattle.fd_parser.proofs.scan.has_power.Given as goal

abbrev pub invariant-loop-token : goal.invariant-loop-token
invariant-loop-token l = has_power (toks (drop l.token-index l.tokens)) ≡ has_power (toks l.tokens)
