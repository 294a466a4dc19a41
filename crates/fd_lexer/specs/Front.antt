-- What the lexer finds at the front of bytes.
use Rattle.std.specs.Prelude.{if◌then◌else◌, ◌==◌, ◌≡◌, ℕ, ◌<◌, List, [], ◌∷◌, length, take, slice_index, Option, Some, None, MatchOption}
use Rattle.fd_base.specs.Digits.{is_digit}
use Rattle.fd_lexer.specs.declared.token.TokenKind.{TokenKind}
use Rattle.fd_lexer.specs.declared.token.SignKind.{SignKind}
use Rattle.fd_lexer.specs.declared.token.DotWord.{DotWord}
use Rattle.fd_lexer.specs.Bytes.{is_blank, is_letter}
use Rattle.fd_lexer.specs.View.{uppers}
use Rattle.fd_lexer.specs.Words.{sign_text, dot_name, IsFront}
use Rattle.fd_lexer.specs.Tokens.{IsLargeKind}
use Rattle.fd_lexer.specs.declared.lexeme.FrontToken.{FrontToken}

-- what a first byte begins: letters 0, digits 1, the dot 2, the quote 4, blanks 5, other bytes 3
abbrev pub class : ℕ → ℕ
class b =
    if is_blank b then 5 else
    (if is_letter b then 0 else
    (if is_digit b then 1 else
    (if b == 46 then 2 else
    (if b == 39 then 4 else 3))))

-- the sign that is spelled so, or none
abbrev pub TellsSign : List ℕ → Option SignKind → Type 0
TellsSign w r = MatchOption r ((s : SignKind) → w ≡ sign_text s → ⊥) (λ s. w ≡ sign_text s)

-- the dot word that has these letters, or none
abbrev pub TellsDot : List ℕ → Option DotWord → Type 0
TellsDot letters r = MatchOption r ((d : DotWord) → uppers letters ≡ dot_name d → ⊥) (λ d. uppers letters ≡ dot_name d)

-- no sign of two bytes stands here
abbrev pub NoTwo : ℕ → List ℕ → Type 0
NoTwo b [] = Unit {0}
NoTwo b (c ∷ bs) = (s : SignKind) → b ∷ (c ∷ []) ≡ sign_text s → ⊥

-- the sign of two bytes that stands here, or none
abbrev pub TellsTwo : ℕ → List ℕ → Option SignKind → Type 0
TellsTwo b bs r = MatchOption r (NoTwo b bs) (λ s. (c : ℕ) × (cs : List ℕ) × (bs ≡ c ∷ cs) × (b ∷ (c ∷ []) ≡ sign_text s))

-- behind a dot stand the n letters of this dot word and a dot
pub record HasDot (rest : List ℕ) (n : ℕ) (d : DotWord) : Type 0 where
  pub within : n < length rest
  pub dot : slice_index rest n ≡ 46
  pub name : uppers (take n rest) ≡ dot_name d

-- the kind that is told, which is none where a number is past its limit
abbrev pub Tells : Option TokenKind → TokenKind → Type 0
Tells None k = IsLargeKind k
Tells (Some j) k = (j ≡ k) × (IsLargeKind k → ⊥)

-- the token at the front, unless there is none
abbrev pub TellsFront : List ℕ → Option FrontToken → Type 0
TellsFront bs r = MatchOption r ((n : ℕ) (k : TokenKind) → IsFront bs n k → ⊥) (λ x. (k : TokenKind) × IsFront bs x.len k × Tells x.kind k)
