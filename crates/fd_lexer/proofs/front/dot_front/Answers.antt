use Rattle.std.proofs.Common.{refl}
use Rattle.std.specs.List.{prefix_len}
use Rattle.fd_lexer.specs.Bytes.{is_letter}
use Rattle.fd_lexer.specs.declared.token.TokenKind.TheVariants as kinds
use Rattle.fd_lexer.specs.Words.{word}
use Rattle.fd_lexer.proofs.Fronts.{dot_first, no_dot}
use Rattle.fd_lexer.proofs.front.dot_front.Goals as goal

pub returns-in-Some : goal.returns-in-Some
returns-in-Some c =
    let f = c.in-Some.ensures.found in
    (kinds.Dot c.in-Some.word, word (rw (c.in-Some.n-is, c.in-Some.word-is) (dot_first c.args.rest.now _ _ f.0 f.1)), (refl, λ h. h))

pub returns-in-None : goal.returns-in-None
returns-in-None c = λ n k. no_dot c.args.rest.now (prefix_len is_letter c.args.rest.now) refl c.in-None.ensures.none n k
