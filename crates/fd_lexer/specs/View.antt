-- What a lexed text says: the tokens of its logical lines.
use Rattle.std.specs.Prelude.{◌≡◌, ℕ, ℤ, pos, ◌+◌, ◌-◌, ◌<◌, ◌≤◌, ◌^◌, Bool, true, false, ◌&&◌, ◌==◌, not, nat_le, List, [], ◌∷◌, ◌++◌, length, map, slice_range, if◌then◌else◌, All}
use Rattle.fd_base.specs.declared.numbering.Line.{Line}
use Rattle.fd_lexer.specs.declared.token.Token.{Token}
use Rattle.fd_lexer.specs.declared.token.TokenKind.{TokenKind}
use Rattle.fd_lexer.specs.declared.token.TokenKind.TheVariants as kinds
use Rattle.fd_lexer.specs.declared.token.DotWord.{DotWord}
use Rattle.fd_lexer.specs.declared.token.SignKind.{SignKind}
use Rattle.fd_lexer.specs.declared.token.Lexed.{Lexed}

-- a token by what it says
pub data Tok : Type 0 where
  Name : List ℕ → Tok
  Num : ℤ → Tok
  Words : List ℕ → Tok
  Dot : DotWord → Tok
  Sign : SignKind → Tok

-- a logical line by its number and its tokens
pub record TokenLine : Type 0 where
  pub number : Line
  pub toks : List Tok

-- a letter in upper case; another byte as it is
abbrev pub upper_of : ℕ → ℕ
upper_of b = if nat_le 97 b && nat_le b 122 then b - 32 else b

abbrev pub uppers : List ℕ → List ℕ
uppers bs = map upper_of bs

-- what a list begins with, unless that is left out
abbrev pub kept_before : Bool → ℕ → List ℕ → List ℕ
kept_before left_out b bs = if left_out then bs else b ∷ bs

-- the bytes without the first of each two quotes; `half` says that such a first quote was the byte before
abbrev pub unquoted_from : Bool → List ℕ → List ℕ
unquoted_from half [] = []
unquoted_from half (b ∷ bs) = kept_before ((b == 39) && not half) b (unquoted_from ((b == 39) && not half) bs)

-- what the bytes between the quotes of a text stand for: two quotes stand for one
abbrev pub unquoted : List ℕ → List ℕ
unquoted bs = unquoted_from false bs

-- a token of this kind that stands from `start` to `end` of the text; a line's end says nothing
abbrev pub tok_at : List ℕ → ℕ → ℕ → TokenKind → List Tok
tok_at text start end kinds.Name = Name (uppers (slice_range text start end)) ∷ []
tok_at text start end (kinds.Num z) = Num z ∷ []
tok_at text start end kinds.Words = Words (unquoted (slice_range text (start + 1) (end - 1))) ∷ []
tok_at text start end (kinds.Dot w) = Dot w ∷ []
tok_at text start end (kinds.Sign s) = Sign s ∷ []
tok_at text start end kinds.LineEnd = []

abbrev pub is_line_end : TokenKind → Bool
is_line_end kinds.LineEnd = true
is_line_end kinds.Name = false
is_line_end (kinds.Num z) = false
is_line_end kinds.Words = false
is_line_end (kinds.Dot w) = false
is_line_end (kinds.Sign s) = false

-- tokens that stand at the front of the first line
abbrev pub before_lines : List Tok → List TokenLine → List TokenLine
before_lines toks [] = []
before_lines toks (l ∷ ls) = record { number = l.number; toks = toks ++ l.toks } ∷ ls

-- lines, with a token before them: a LineEnd closes a line of its own, another token stands in the first line
abbrev pub with_token : List ℕ → Token → List TokenLine → List TokenLine
with_token text t ls =
    if is_line_end t.kind then record { number = t.line; toks = [] } ∷ ls
    else before_lines (tok_at text t.start t.end t.kind) ls

-- the lines that tokens form, each closed by a LineEnd, which has the line's number
abbrev pub lines_of : List ℕ → List Token → List TokenLine
lines_of text [] = []
lines_of text (t ∷ ts) = with_token text t (lines_of text ts)

-- the logical lines before the END line
abbrev pub token_lines : Lexed → List TokenLine
token_lines l = lines_of l.text l.tokens

-- what a span of so many bytes is, by its kind
abbrev pub IsSpanOf : TokenKind → ℕ → Type 0
IsSpanOf kinds.Name n = (1 ≤ n) × (n ≤ 31)
IsSpanOf (kinds.Num z) n = (1 ≤ n) × ((v : ℕ) × (z ≡ pos v) × (v < 2 ^ 63))
IsSpanOf kinds.Words n = 2 ≤ n
IsSpanOf (kinds.Dot w) n = 1 ≤ n
IsSpanOf (kinds.Sign s) n = 1 ≤ n
IsSpanOf kinds.LineEnd n = n ≡ 0

-- the token's span lies in the text and is one of its kind
pub record IsToken (text : List ℕ) (t : Token) : Type 0 where
  pub forward : t.start ≤ t.end
  pub within : t.end ≤ length text
  pub span : IsSpanOf t.kind (t.end - t.start)

-- each token ends where the next begins, or before; `from` is where the last one ended
abbrev pub IsInOrder : ℕ → List Token → Type 0
IsInOrder from [] = Unit {0}
IsInOrder from (t ∷ ts) = (from ≤ t.start) × IsInOrder t.end ts

-- each token has the number of its line, which is that of the LineEnd behind it
abbrev pub AreClosed : List Token → Type 0
AreClosed [] = Unit {0}
AreClosed (t ∷ []) = is_line_end t.kind ≡ true
AreClosed (t ∷ (u ∷ ts)) = (is_line_end t.kind ≡ false → t.line ≡ u.line) × AreClosed (u ∷ ts)

-- what every lexed text is
pub record IsWellFormed (l : Lexed) : Type 0 where
  pub room : length l.text < 2 ^ 32 - 1
  pub tokens : All (λ t. IsToken l.text t) l.tokens
  pub in_order : IsInOrder 0 l.tokens
  pub closed : AreClosed l.tokens
