-- What the lexer makes of the bytes of a line.
use Rattle.std.specs.Prelude.{◌≡◌, ℕ, Bool, true, false, List, [], ◌∷◌, ◌++◌, Option, MatchOption}
use Rattle.fd_base.specs.declared.numbering.Line.{Line}
use Rattle.fd_lexer.specs.declared.token.Token.{Token}
use Rattle.fd_lexer.specs.declared.token.TokenKind.{TokenKind}
use Rattle.fd_lexer.specs.declared.lexeme.Taken.{Taken}
use Rattle.fd_lexer.specs.declared.lexeme.Taken.TheVariants.{All, Large, Bad}
use Rattle.fd_lexer.specs.Words.{IsFront}
use Rattle.fd_lexer.specs.Tokens.{IsShort, token_at, IsLargeKind, HasLarge}

-- the token at the front was added, unless it is a number past its limit
pub record TookFront (line : Line) (at : ℕ) (bytes : List ℕ) (old new : List Token) (len : ℕ) (fits : Bool) : Type 0 where
  pub kind : TokenKind
  pub is : IsFront bytes len kind
  pub short : IsShort kind len
  pub added : fits ≡ true → (new ≡ old ++ token_at line at len kind ∷ []) × (IsLargeKind kind → ⊥)
  pub large : fits ≡ false → IsLargeKind kind

-- no token stands at the front, or only one that is too long
abbrev pub NoFront : List ℕ → Type 0
NoFront bytes = (n : ℕ) (k : TokenKind) → IsFront bytes n k → IsShort k n → ⊥

abbrev pub TookOrNot : Line → ℕ → List ℕ → List Token → List Token → Option (ℕ × Bool) → Type 0
TookOrNot line at bytes old new r = MatchOption r (NoFront bytes) (λ p. TookFront line at bytes old new p.0 p.1)

-- what became of the tokens that meet P: they were added to the old ones, or a number among them is past its limit, or
-- there are none
abbrev pub IsTaken : (List Token → Type 0) → List Token → List Token → Taken → Type 0
IsTaken P old new All = (ts : List Token) × P ts × (new ≡ old ++ ts) × (HasLarge ts → ⊥)
IsTaken P old new Large = (ts : List Token) × P ts × HasLarge ts
IsTaken P old new Bad = (ts : List Token) → P ts → ⊥

-- the worse of two, where Bad is worse than Large
abbrev pub worse : Taken → Taken → Taken
worse Bad w = Bad
worse All w = w
worse Large Bad = Bad
worse Large All = Large
worse Large Large = Large
