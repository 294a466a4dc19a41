-- Bytes are a source exactly where their reading has the tree, so in one way.
use Rattle.std.proofs.Common.{◌≡◌, ℕ, Bool, true, false, List, refl, sym, ap, subst, ◌∙◌}
use Rattle.fd_base.specs.declared.numbering.Line.{Line}
use Rattle.fd_lexer.specs.declared.token.Token.{Token}
use Rattle.fd_lexer.specs.declared.token.Lexed.{Lexed}
use Rattle.fd_lexer.specs.View.{TokenLine, lines_of, token_lines}
use Rattle.fd_lexer.specs.Text.{IsEnded, HasReading, IsReading}
use Rattle.fd_lexer.proofs.Outcomes.{reading_one}
use Rattle.fd_lexer.proofs.Said.{lines_said, said_tokens}
use Rattle.fd_ast.specs.Tree.{ProgramTree}
use Rattle.fd_parser.specs.Text.{IsText}
use Rattle.fd_parser.specs.Source.{IsSource}
use Rattle.fd_parser.proofs.Parsed.{one_text}

-- ---- a reading with a tree is that of a source

ended_reading : (bytes : List ℕ) (ended : Bool) (ts : List Token) (k : Line) (rest : ℕ) → ended ≡ true → HasReading bytes ended ts k rest → IsEnded bytes ts k rest
ended_reading bytes true ts k rest e h = h
ended_reading bytes false ts k rest e h = absurd cc

source_of : (bytes : List ℕ) (ts : List Token) (k : Line) (rest : ℕ) (t : ProgramTree) → IsEnded bytes ts k rest → IsText (lines_of bytes ts) t → IsSource bytes t k rest
source_of bytes ts k rest t h x = record {
  before = h.before;
  last = h.last;
  behind = h.behind;
  lines = h.lines;
  plain = h.plain;
  ends = h.ends;
  fine = h.fine;
  tokens = lines_of bytes ts;
  said = lines_said bytes h.before ts h.tokens;
  text = x;
  line_is = h.line_is;
  rest_is = h.rest_is;
}

pub read_source : (bytes : List ℕ) (x : Lexed) (t : ProgramTree) → IsReading bytes x → x.ended ≡ true → IsText (token_lines x) t → IsSource bytes t x.end_line x.rest
read_source bytes x t r e k = source_of bytes x.tokens x.end_line x.rest t (ended_reading bytes x.ended x.tokens x.end_line x.rest e r.reading) (subst (λ (text : List ℕ). IsText (lines_of text x.tokens) t) r.text_is k)

-- ---- and back

pub record HasTree (bytes : List ℕ) (t : ProgramTree) (k : Line) (rest : ℕ) : Type 0 where
  pub lexed : Lexed
  pub reading : IsReading bytes lexed
  pub ended : lexed.ended ≡ true
  pub text : IsText (token_lines lexed) t
  pub line_is : lexed.end_line ≡ k
  pub rest_is : lexed.rest ≡ rest

pub source_read : (bytes : List ℕ) (t : ProgramTree) (k : Line) (rest : ℕ) → IsSource bytes t k rest → HasTree bytes t k rest
source_read bytes t k rest s =
    let p = said_tokens bytes s.before s.tokens s.said in
    record {
      lexed = record { text = bytes; tokens = p.0; ended = true; end_line = k; rest = rest };
      reading = record {
        text_is = refl;
        reading = record { before = s.before; last = s.last; behind = s.behind; lines = s.lines; plain = s.plain; ends = s.ends; fine = s.fine; tokens = p.1; line_is = s.line_is; rest_is = s.rest_is };
      };
      ended = refl;
      text = subst (λ (ls : List TokenLine). IsText ls t) (sym p.2) s.text;
      line_is = refl;
      rest_is = refl;
    }

-- ---- in one way

tree_at : (bytes : List ℕ) (x y : Lexed) (t u : ProgramTree) → x ≡ y → IsText (token_lines x) t → IsText (token_lines y) u → t ≡ u
tree_at bytes x y t u e a b = one_text (token_lines y) t u (subst (λ (l : Lexed). IsText (token_lines l) t) e a) b

pub one_source : (bytes : List ℕ) (t u : ProgramTree) (k l : Line) (m n : ℕ) → IsSource bytes t k m → IsSource bytes u l n → (t ≡ u) × (k ≡ l) × (m ≡ n)
one_source bytes t u k l m n a b =
    let p = source_read bytes t k m a in
    let q = source_read bytes u l n b in
    let e = reading_one bytes p.lexed q.lexed p.reading q.reading in
    (tree_at bytes p.lexed q.lexed t u e p.text q.text, sym p.line_is ∙ (ap (λ (x : Lexed). x.end_line) e ∙ q.line_is), sym p.rest_is ∙ (ap (λ (x : Lexed). x.rest) e ∙ q.rest_is))

-- a tree of the bytes is the tree of their reading
pub source_text : (bytes : List ℕ) (x : Lexed) (t : ProgramTree) (k : Line) (rest : ℕ) → IsReading bytes x → IsSource bytes t k rest → IsText (token_lines x) t × (x.ended ≡ true) × (x.end_line ≡ k) × (x.rest ≡ rest)
source_text bytes x t k rest r s =
    let p = source_read bytes t k rest s in
    let e = reading_one bytes p.lexed x p.reading r in
    (subst (λ (l : Lexed). IsText (token_lines l) t) e p.text, ap (λ (l : Lexed). l.ended) (sym e) ∙ p.ended, ap (λ (l : Lexed). l.end_line) (sym e) ∙ p.line_is, ap (λ (l : Lexed). l.rest) (sym e) ∙ p.rest_is)
