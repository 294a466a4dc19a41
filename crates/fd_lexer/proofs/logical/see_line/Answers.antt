use Rattle.std.proofs.Common.{List, ℕ, refl, subst}
use Rattle.fd_lexer.specs.Tokens.{IsTokens}
use Rattle.fd_lexer.specs.Segment.{IsTaken}
use Rattle.fd_lexer.proofs.logical.see_line.Goals as goal

pub returns : goal.returns
returns c = record {
  bad = c.has_bad_byte-bad.result;
  bad_is = c.has_bad_byte-bad.ensures;
  bytes = refl;
  size = refl;
  part = c.in_ok-part.part;
  part_is = subst (λ (bs : List ℕ). IsTaken (IsTokens c.args.number c.args.line.start bs) c.args.tokens.now.items c.take_tokens.new.tokens.items c.in_ok-part.part) c.content.ensures.value c.in_ok-part.ensures;
  taken = c.worse.ensures;
}
