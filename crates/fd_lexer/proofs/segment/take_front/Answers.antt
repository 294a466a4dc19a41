use Rattle.std.proofs.Common.{◌≡◌, rules}
use Rattle.fd_lexer.specs.declared.token.TokenKind.TheVariants as kinds
use Rattle.fd_lexer.proofs.Fronts.{long_name}
use Rattle.fd_lexer.proofs.segment.take_front.Goals as goal

pub returns-then-found-gt31 : goal.returns-then-found-gt31
returns-then-found-gt31 c =
    let e : c.in-Some-kind.kind ≡ kinds.Name = search rules in
    long_name c.args.bytes.now _ _ _ c.in-Some.ensures c.in-Some-kind.is e c.if-found-gt31.true
