-- What is written where a token stands.
use Rattle.std.specs.Prelude.{◌≡◌, ℕ, List, [], ◌∷◌, ◌++◌, slice_range}
use Rattle.fd_lexer.specs.declared.token.Token.{Token}
use Rattle.fd_lexer.specs.declared.token.TokenKind.{TokenKind}
use Rattle.fd_lexer.specs.declared.token.TokenKind.TheVariants as kinds
use Rattle.fd_lexer.specs.Words.{IsWord, doubled}

-- bytes that spell a token of a kind: a quoted text between its quotes, with each quote in it twice; nothing at the end of a line; else a word
abbrev pub IsSpelled : List ℕ → TokenKind → Type 0
IsSpelled w kinds.Name = IsWord w kinds.Name
IsSpelled w (kinds.Num z) = IsWord w (kinds.Num z)
IsSpelled w kinds.Words = (content : List ℕ) × (w ≡ 39 ∷ (doubled content ++ 39 ∷ []))
IsSpelled w (kinds.Dot d) = IsWord w (kinds.Dot d)
IsSpelled w (kinds.Sign s) = IsWord w (kinds.Sign s)
IsSpelled w kinds.LineEnd = w ≡ []

-- the bytes of its span spell the token
abbrev pub IsWritten : List ℕ → Token → Type 0
IsWritten text t = IsSpelled (slice_range text t.start t.end) t.kind
