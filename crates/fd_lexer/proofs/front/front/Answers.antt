use Rattle.std.proofs.Common.{refl, sym}
use Rattle.fd_lexer.specs.declared.token.TokenKind.TheVariants as kinds
use Rattle.fd_lexer.proofs.Fronts.{letter_front, digit_front}
use Rattle.fd_lexer.proofs.front.front.Goals as goal

pub returns-then-is_letter : goal.returns-then-is_letter
returns-then-is_letter c = (kinds.Name, letter_front _ _ _ _ c.in_ok-first.ensures.cases.0 (sym c.if-is_letter.ensures) c.name_len.ensures.value, (refl, λ h. h))

pub returns-then-is_digit : goal.returns-then-is_digit
returns-then-is_digit c = (_, digit_front _ _ _ _ _ c.in_ok-first.ensures.cases.0 (sym c.if-is_digit.ensures) c.digits_len-len.ensures.value c.split_at.ensures.front, c.number_kind-kind.ensures)
