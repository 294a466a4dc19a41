-- The tokens that the bytes of a line form.
use Rattle.std.specs.Prelude.{ℕ, pos, negsuc, ◌+◌, ◌≤◌, ◌^◌, List, [], ◌∷◌, drop, IsTrue, ◌⊎◌}
use Rattle.fd_base.specs.declared.numbering.Line.{Line}
use Rattle.fd_lexer.specs.declared.token.Token.{Token}
use Rattle.fd_lexer.specs.declared.token.TokenKind.{TokenKind}
use Rattle.fd_lexer.specs.declared.token.TokenKind.TheVariants as kinds
use Rattle.fd_lexer.specs.Bytes.{is_blank}
use Rattle.fd_lexer.specs.Words.{IsFront}

-- a name has at most 31 bytes
abbrev pub IsShort : TokenKind → ℕ → Type 0
IsShort kinds.Name n = n ≤ 31
IsShort kinds.Words n = Unit {0}
IsShort (kinds.Num z) n = Unit {0}
IsShort (kinds.Dot d) n = Unit {0}
IsShort (kinds.Sign s) n = Unit {0}
IsShort kinds.LineEnd n = Unit {0}

abbrev pub token_at : Line → ℕ → ℕ → TokenKind → Token
token_at line start len k = record { line = line; start = start; end = start + len; kind = k }

-- the bytes from this offset on form these tokens of the line; blanks stand between tokens
pub data IsTokens : Line → ℕ → List ℕ → List Token → Type 0 where
  over : {line : Line} {at : ℕ} → IsTokens line at [] []
  blank : {line : Line} {at : ℕ} (b : ℕ) {bs : List ℕ} {ts : List Token} → IsTrue (is_blank b) → IsTokens line (at + 1) bs ts → IsTokens line at (b ∷ bs) ts
  token : {line : Line} {at : ℕ} {bs : List ℕ} (n : ℕ) (k : TokenKind) {ts : List Token} → IsFront bs n k → IsShort k n → IsTokens line (at + n) (drop n bs) ts → IsTokens line at bs (token_at line at n k ∷ ts)

-- a number past its limit
abbrev pub IsLargeKind : TokenKind → Type 0
IsLargeKind (kinds.Num (pos n)) = 2 ^ 63 ≤ n
IsLargeKind (kinds.Num (negsuc n)) = ⊥
IsLargeKind kinds.Name = ⊥
IsLargeKind kinds.Words = ⊥
IsLargeKind (kinds.Dot d) = ⊥
IsLargeKind (kinds.Sign s) = ⊥
IsLargeKind kinds.LineEnd = ⊥

abbrev pub HasLarge : List Token → Type 0
HasLarge [] = ⊥
HasLarge (t ∷ ts) = IsLargeKind t.kind ⊎ HasLarge ts
