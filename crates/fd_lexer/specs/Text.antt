-- The reading of a text, and its first refusal.
use Rattle.std.specs.Prelude.{◌≡◌, ℕ, ◌+◌, ◌≤◌, Bool, true, false, List, [], ◌∷◌, ◌++◌, length, count_by, codes}
use Rattle.std.specs.List.{AllByRecursion}
use Rattle.fd_base.specs.declared.numbering.Line.{Line}
use Rattle.fd_lexer.specs.declared.token.Token.{Token}
use Rattle.fd_lexer.specs.declared.token.TokenKind.TheVariants as kinds
use Rattle.fd_lexer.specs.declared.token.Lexed.{Lexed}
use Rattle.fd_lexer.specs.declared.token.LexRefusal.{LexRefusal}
use Rattle.fd_lexer.specs.declared.token.LexRefusal.TheVariants.{At, Memory}
use Rattle.fd_lexer.specs.declared.cause.Cause.{Cause}
use Rattle.fd_lexer.specs.Cause.{number}
use Rattle.fd_lexer.specs.View.{Name, tok_at}
use Rattle.fd_lexer.specs.Physical.{Physical, is_feed}
use Rattle.fd_lexer.specs.Logical.{logical_lines, number_of, end_of, next_of, HasTokens, IsFine, IsLeast}

-- the token's span lies in the text
abbrev pub LiesIn : List ℕ → Token → Type 0
LiesIn text t = (t.start ≤ t.end) × (t.end ≤ length text)

-- the name END, in either case
abbrev pub IsEndName : List ℕ → Token → Type 0
IsEndName text t = tok_at text t.start t.end t.kind ≡ Name (codes "END") ∷ []

-- that name and nothing else
abbrev pub IsEnd : List ℕ → List Token → Type 0
IsEnd text [] = ⊥
IsEnd text (t ∷ []) = IsEndName text t
IsEnd text (t ∷ (u ∷ ts)) = ⊥

-- the logical line is the END line
abbrev pub IsEndLine : List ℕ → List Physical → Type 0
IsEndLine text l = (ts : List Token) × HasTokens l ts × IsEnd text ts

-- a line with nothing wrong that doesn't end the source
pub record IsPlainLine (text : List ℕ) (l : List Physical) : Type 0 where
  pub fine : IsFine l
  pub goes_on : IsEndLine text l → ⊥

-- what closes the tokens of a logical line
abbrev pub line_end : List Physical → Token
line_end l = record { line = number_of l; start = end_of l; end = end_of l; kind = kinds.LineEnd }

-- the tokens of logical lines, one line after the other
abbrev pub LinesHave : List (List Physical) → List Token → Type 0
LinesHave [] ts = ts ≡ []
LinesHave (l ∷ ls) ts = (us : List Token) × (vs : List Token) × (ts ≡ us ++ (line_end l ∷ vs)) × HasTokens l us × LinesHave ls vs

-- a text with an END line: the lines before it are fine and have these tokens
pub record IsEnded (text : List ℕ) (ts : List Token) (end_line : Line) (rest : ℕ) : Type 0 where
  pub before : List (List Physical)
  pub last : List Physical
  pub behind : List (List Physical)
  pub lines : logical_lines text ≡ before ++ last ∷ behind
  pub plain : AllByRecursion (IsPlainLine text) before
  pub ends : IsEndLine text last
  pub fine : IsFine last
  pub tokens : LinesHave before ts
  pub line_is : end_line ≡ number_of last
  pub rest_is : rest ≡ next_of last

-- a text without an END line
pub record IsOpen (text : List ℕ) (ts : List Token) (end_line : Line) (rest : ℕ) : Type 0 where
  pub plain : AllByRecursion (IsPlainLine text) (logical_lines text)
  pub tokens : LinesHave (logical_lines text) ts
  pub line_is : end_line ≡ record { 0 = count_by is_feed text + 1 }
  pub rest_is : rest ≡ length text

abbrev pub HasReading : List ℕ → Bool → List Token → Line → ℕ → Type 0
HasReading text true ts end_line rest = IsEnded text ts end_line rest
HasReading text false ts end_line rest = IsOpen text ts end_line rest

-- the reading of a text that is not refused
pub record IsReading (text : List ℕ) (x : Lexed) : Type 0 where
  pub text_is : x.text ≡ text
  pub reading : HasReading text x.ended x.tokens x.end_line x.rest

-- the line is the first with something wrong up to the END line, and this is the first of it
pub record IsFirstRefusal (text : List ℕ) (line : Line) (n : ℕ) : Type 0 where
  pub before : List (List Physical)
  pub refused : List Physical
  pub behind : List (List Physical)
  pub lines : logical_lines text ≡ before ++ refused ∷ behind
  pub plain : AllByRecursion (IsPlainLine text) before
  pub cause : Cause
  pub least : IsLeast cause refused
  pub line_is : line ≡ number_of refused
  pub number_is : n ≡ number cause

abbrev pub IsRefusal : List ℕ → LexRefusal → Type 0
IsRefusal text (At line n) = IsFirstRefusal text line n
IsRefusal text Memory = Unit {0}

-- this refusal, or want of memory
abbrev pub IsRefusedAt : Line → ℕ → LexRefusal → Type 0
IsRefusedAt line n (At k m) = (k ≡ line) × (m ≡ n)
IsRefusedAt line n Memory = Unit {0}

abbrev pub IsMemory : LexRefusal → Type 0
IsMemory (At k m) = ⊥
IsMemory Memory = Unit {0}
