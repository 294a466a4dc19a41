use Rattle.std.proofs.Common.{refl}
use Rattle.fd_lexer.specs.declared.token.TokenKind.TheVariants as kinds
use Rattle.fd_lexer.specs.Words.{text}
use Rattle.fd_lexer.proofs.Fronts.{no_quoted}
use Rattle.fd_lexer.proofs.front.text_front.Goals as goal

pub returns-in-Some : goal.returns-in-Some
returns-in-Some c = (kinds.Words, text c.in-Some.ensures.within c.in-Some.ensures.found, (refl, λ h. h))

pub returns-in-None : goal.returns-in-None
returns-in-None c = λ n k. no_quoted c.in-None.ensures.none
