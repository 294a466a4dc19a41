-- The names among the tokens of a text are plain.
use Rattle.std.proofs.Common.{◌≡◌, ℕ, ◌-◌, ◌≤◌, Bool, true, false, ◌&&◌, nat_le, List, [], ◌∷◌, ◌++◌, map, refl, sym, subst, arith}
use Rattle.std.specs.Prelude.{if◌then◌else◌, slice_range}
use Rattle.std.specs.List.{AllByRecursion}
use Rattle.std.proofs.lemmas.Bool.{and_parts}
use Rattle.std.proofs.lemmas.Bool.Decides.{nat_tests}
use Rattle.std.proofs.lemmas.List.Elements.{All-from_recursion, recursion_from_All}
use Rattle.fd_lexer.specs.declared.token.Lexed.{Lexed}
use Rattle.fd_lexer.specs.declared.token.Token.{Token}
use Rattle.fd_lexer.specs.declared.token.TokenKind.{TokenKind}
use Rattle.fd_lexer.specs.declared.token.TokenKind.TheVariants as kinds
use Rattle.fd_lexer.specs.Bytes.{is_letter, is_name_byte}
use Rattle.fd_lexer.specs.Spelled.{IsSpelled, IsWritten}
use Rattle.fd_lexer.specs.Text.{IsReading}
use Rattle.fd_lexer.specs.View.{Tok, Name, Num, Words, Dot, Sign, TokenLine, before_lines, is_line_end, lines_of, tok_at, token_lines, upper_of, uppers, with_token}
use Rattle.fd_lexer.specs.Words.{IsName}
use Rattle.fd_lexer.proofs.Slices.{tokens_written}
use Rattle.program_laws.specs.Named.{IsPlain}

-- ---- bytes

abbrev IsPrinted : ℕ → Type 0
IsPrinted b = (33 ≤ b) × (b ≤ 126)

least : (b : ℕ) → is_name_byte b ≡ true → 48 ≤ b
least b h = grind (arith, nat_tests)

most : (b : ℕ) → is_name_byte b ≡ true → b ≤ 122
most b h = grind (arith, nat_tests)

at_most : (a b : ℕ) → nat_le a b ≡ true → a ≤ b
at_most a b h = grind (arith, nat_tests)

upper_by : (b : ℕ) (low : Bool) → (nat_le 97 b && nat_le b 122) ≡ low → 48 ≤ b → b ≤ 122 → IsPrinted (if low then b - 32 else b)
upper_by b true e l m = let n : 97 ≤ b = at_most 97 b (and_parts (nat_le 97 b) (nat_le b 122) e).0 in (omega (arith, n), omega (arith, m))
upper_by b false e l m = (omega (arith, l), omega (arith, m))

upper_printed : (b : ℕ) → is_name_byte b ≡ true → IsPrinted (upper_of b)
upper_printed b h = upper_by b (nat_le 97 b && nat_le b 122) refl (least b h) (most b h)

letter_named : (b : ℕ) → is_letter b ≡ true → is_name_byte b ≡ true
letter_named b h = rw h refl

rest_printed : (bs : List ℕ) → AllByRecursion (λ c. is_name_byte c ≡ true) bs → AllByRecursion IsPrinted (uppers bs)
rest_printed [] h = tt
rest_printed (b ∷ bs) h = (upper_printed b h.0, rest_printed bs h.1)

name_plain : (w : List ℕ) → IsName w → IsPlain (uppers w)
name_plain [] h = absurd h
name_plain (b ∷ bs) h = All-from_recursion IsPrinted (uppers (b ∷ bs)) (upper_printed b (letter_named b h.0), rest_printed bs h.1)

-- ---- tokens

abbrev pub IsPlainTok : Tok → Type 0
IsPlainTok (Name n) = IsPlain n
IsPlainTok (Num z) = Unit {0}
IsPlainTok (Words text) = Unit {0}
IsPlainTok (Dot w) = Unit {0}
IsPlainTok (Sign s) = Unit {0}

abbrev pub ArePlainToks : List Tok → Type 0
ArePlainToks [] = Unit {0}
ArePlainToks (t ∷ ts) = IsPlainTok t × ArePlainToks ts

abbrev pub ArePlainLines : List TokenLine → Type 0
ArePlainLines [] = Unit {0}
ArePlainLines (l ∷ ls) = ArePlainToks l.toks × ArePlainLines ls

join : (ts us : List Tok) → ArePlainToks ts → ArePlainToks us → ArePlainToks (ts ++ us)
join [] us h k = k
join (t ∷ ts) us h k = (h.0, join ts us h.1 k)

tok_plain : (text : List ℕ) (start end : ℕ) (k : TokenKind) → IsSpelled (slice_range text start end) k → ArePlainToks (tok_at text start end k)
tok_plain text start end kinds.Name h = (name_plain (slice_range text start end) h, tt)
tok_plain text start end (kinds.Num z) h = (tt, tt)
tok_plain text start end kinds.Words h = (tt, tt)
tok_plain text start end (kinds.Dot w) h = (tt, tt)
tok_plain text start end (kinds.Sign s) h = (tt, tt)
tok_plain text start end kinds.LineEnd h = tt

before_plain : (toks : List Tok) (ls : List TokenLine) → ArePlainToks toks → ArePlainLines ls → ArePlainLines (before_lines toks ls)
before_plain toks [] h k = tt
before_plain toks (l ∷ ls) h k = (join toks l.toks h k.0, k.1)

with_by : (text : List ℕ) (t : Token) (ls : List TokenLine) (closes : Bool) → IsWritten text t → ArePlainLines ls → ArePlainLines (if closes then record { number = t.line; toks = [] } ∷ ls else before_lines (tok_at text t.start t.end t.kind) ls)
with_by text t ls true h k = (tt, k)
with_by text t ls false h k = before_plain (tok_at text t.start t.end t.kind) ls (tok_plain text t.start t.end t.kind h) k

lines_plain : (text : List ℕ) (ts : List Token) → AllByRecursion (IsWritten text) ts → ArePlainLines (lines_of text ts)
lines_plain text [] h = tt
lines_plain text (t ∷ ts) h = with_by text t (lines_of text ts) (is_line_end t.kind) h.0 (lines_plain text ts h.1)

pub reading_plain : (text : List ℕ) (x : Lexed) → IsReading text x → ArePlainLines (token_lines x)
reading_plain text x r = subst (λ (w : List ℕ). ArePlainLines (lines_of w x.tokens)) (sym r.text_is) (lines_plain text x.tokens (recursion_from_All (IsWritten text) x.tokens (tokens_written text x r)))
