-- The numbers of refusals.
use Rattle.std.specs.Prelude.{ℕ}
use Rattle.fd_lexer.specs.declared.cause.Cause.{Cause}
use Rattle.fd_lexer.specs.declared.cause.Cause.TheVariants.{BadByte, LineTooLong, BadToken, NumberTooLarge}

abbrev pub number : Cause → ℕ
number BadByte = 1
number LineTooLong = 2
number BadToken = 3
number NumberTooLarge = 4
