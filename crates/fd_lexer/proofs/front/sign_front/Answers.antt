use Rattle.std.proofs.Common.{refl}
use Rattle.fd_lexer.specs.declared.token.TokenKind.TheVariants as kinds
use Rattle.fd_lexer.specs.Words.{word}
use Rattle.fd_lexer.proofs.Fronts.{two_first, one_first, no_sign}
use Rattle.fd_lexer.proofs.front.sign_front.Goals as goal

pub returns-in-Some : goal.returns-in-Some
returns-in-Some c =
    let t = c.in-Some.ensures in
    (kinds.Sign c.in-Some.sign, rw t.2 (word (two_first c.args.first t.0 t.1 c.in-Some.sign c.requires t.3)), (refl, λ h. h))

pub returns-in-Some-one_sign : goal.returns-in-Some-one_sign
returns-in-Some-one_sign c = (kinds.Sign c.in-Some-one_sign.sign, word (one_first c.args.first c.args.rest.now c.in-Some-one_sign.sign c.requires c.in-None.ensures c.in-Some-one_sign.ensures), (refl, λ h. h))

pub returns-in-None-one_sign : goal.returns-in-None-one_sign
returns-in-None-one_sign c = λ n k. no_sign c.requires c.in-None.ensures c.in-None-one_sign.ensures
