-- The tokens of a line as the code has them: each with the text that it stands for.
use Rattle.std.specs.Prelude.{List, map}
use Rattle.fd_lexer.specs.View.{Tok, Name, Num, Words, Dot, Sign, uppers, unquoted}
use Rattle.fd_parser.specs.declared.lexeme.Lexeme.{Lexeme}
use Rattle.fd_parser.specs.declared.lexeme.Lexeme.TheVariants as lexemes

-- what a token says
abbrev pub tok_of : Lexeme → Tok
tok_of (lexemes.Name s) = Name (uppers s.now)
tok_of (lexemes.Num z) = Num z
tok_of (lexemes.Words s) = Words (unquoted s.now)
tok_of (lexemes.Dot w) = Dot w
tok_of (lexemes.Sign s) = Sign s

abbrev pub toks : List Lexeme → List Tok
toks ts = map tok_of ts
