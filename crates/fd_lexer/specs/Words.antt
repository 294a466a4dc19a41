-- The words of the language, by what they are.
use Rattle.std.specs.Prelude.{◌≡◌, ◌≢◌, ℕ, pos, ◌+◌, ◌≤◌, List, [], ◌∷◌, ◌++◌, length, take, drop, codes, IsTrue, if◌then◌else◌, ◌==◌}
use Rattle.std.specs.List.{AllByRecursion}
use Rattle.fd_base.specs.Digits.{is_digit, decimal_value}
use Rattle.fd_lexer.specs.declared.token.TokenKind.{TokenKind}
use Rattle.fd_lexer.specs.declared.token.TokenKind.TheVariants as kinds
use Rattle.fd_lexer.specs.declared.token.DotWord.{DotWord}
use Rattle.fd_lexer.specs.declared.token.DotWord.TheVariants as dots
use Rattle.fd_lexer.specs.declared.token.SignKind.{SignKind}
use Rattle.fd_lexer.specs.declared.token.SignKind.TheVariants as signs
use Rattle.fd_lexer.specs.Bytes.{is_letter, is_name_byte}
use Rattle.fd_lexer.specs.View.{uppers}

-- a letter, then letters, digits and _
abbrev pub IsName : List ℕ → Type 0
IsName [] = ⊥
IsName (b ∷ bs) = IsTrue (is_letter b) × AllByRecursion (λ c. IsTrue (is_name_byte c)) bs

-- digits
abbrev pub IsNumber : List ℕ → Type 0
IsNumber [] = ⊥
IsNumber (b ∷ bs) = IsTrue (is_digit b) × AllByRecursion (λ c. IsTrue (is_digit c)) bs

-- the letters between the dots
abbrev pub dot_name : DotWord → List ℕ
dot_name dots.Eq = codes "EQ"
dot_name dots.Ne = codes "NE"
dot_name dots.Lt = codes "LT"
dot_name dots.Le = codes "LE"
dot_name dots.Gt = codes "GT"
dot_name dots.Ge = codes "GE"
dot_name dots.And = codes "AND"
dot_name dots.Or = codes "OR"
dot_name dots.Not = codes "NOT"
dot_name dots.IsTrue = codes "TRUE"
dot_name dots.IsFalse = codes "FALSE"

-- a dot, the letters in either case, a dot
abbrev pub IsDotWord : List ℕ → DotWord → Type 0
IsDotWord w d = (letters : List ℕ) × (w ≡ 46 ∷ (letters ++ 46 ∷ [])) × (uppers letters ≡ dot_name d)

abbrev pub sign_text : SignKind → List ℕ
sign_text signs.ParLeft = codes "("
sign_text signs.ParRight = codes ")"
sign_text signs.Comma = codes ","
sign_text signs.Colon = codes ":"
sign_text signs.Equal = codes "="
sign_text signs.Plus = codes "+"
sign_text signs.Minus = codes "-"
sign_text signs.Star = codes "*"
sign_text signs.Slash = codes "/"
sign_text signs.StarStar = codes "**"
sign_text signs.EqEq = codes "=="
sign_text signs.SlashEq = codes "/="
sign_text signs.Less = codes "<"
sign_text signs.LessEq = codes "<="
sign_text signs.Greater = codes ">"
sign_text signs.GreaterEq = codes ">="

-- these bytes are a word of this kind; a quoted text is no word
abbrev pub IsWord : List ℕ → TokenKind → Type 0
IsWord w kinds.Name = IsName w
IsWord w (kinds.Num z) = IsNumber w × (z ≡ pos (decimal_value w))
IsWord w kinds.Words = ⊥
IsWord w (kinds.Dot d) = IsDotWord w d
IsWord w (kinds.Sign s) = w ≡ sign_text s
IsWord w kinds.LineEnd = ⊥

-- the first n bytes are a word of this kind, and no more of them are a word
pub record IsFirstWord (bs : List ℕ) (n : ℕ) (k : TokenKind) : Type 0 where
  pub within : n ≤ length bs
  pub word : IsWord (take n bs) k
  pub longest : (m : ℕ) (j : TokenKind) → m ≤ length bs → IsWord (take m bs) j → m ≤ n

-- no quote comes next
abbrev pub NoQuote : List ℕ → Type 0
NoQuote bs = (cs : List ℕ) → bs ≡ 39 ∷ cs → ⊥

-- a text whose opening quote stands before these bytes ends before `rest`: two quotes stand for one and end no text
pub data IsQuoted : List ℕ → List ℕ → Type 0 where
  close : {rest : List ℕ} → NoQuote rest → IsQuoted (39 ∷ rest) rest
  quote : {bs rest : List ℕ} → IsQuoted bs rest → IsQuoted (39 ∷ (39 ∷ bs)) rest
  byte : {b : ℕ} {bs rest : List ℕ} → b ≢ 39 → IsQuoted bs rest → IsQuoted (b ∷ bs) rest

-- how bytes are written in a quoted text: each quote twice
abbrev pub doubled : List ℕ → List ℕ
doubled [] = []
doubled (b ∷ bs) = (if b == 39 then 39 ∷ (39 ∷ []) else b ∷ []) ++ doubled bs

-- the first n bytes are a token of this kind: the longest word, or a quoted text
pub data IsFront : List ℕ → ℕ → TokenKind → Type 0 where
  word : {bs : List ℕ} {n : ℕ} {k : TokenKind} → IsFirstWord bs n k → IsFront bs n k
  text : {bs : List ℕ} {n : ℕ} → n ≤ length bs → IsQuoted bs (drop n bs) → IsFront (39 ∷ bs) (n + 1) kinds.Words
