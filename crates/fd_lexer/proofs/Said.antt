-- The lines that the tokens of logical lines form are what these lines say.
use Rattle.std.proofs.Common.{◌≡◌, ℕ, true, false, List, [], ◌∷◌, ◌++◌, refl, sym, ap, subst, ◌∙◌}
use Rattle.std.specs.List.{AllByRecursion}
use Rattle.fd_base.specs.declared.numbering.Line.{Line}
use Rattle.fd_lexer.specs.declared.token.Token.{Token}
use Rattle.fd_lexer.specs.View.{Tok, TokenLine, tok_at, is_line_end, before_lines, with_token, lines_of}
use Rattle.fd_lexer.specs.Physical.{Physical}
use Rattle.fd_lexer.specs.Logical.{number_of, HasTokens}
use Rattle.fd_lexer.specs.Text.{line_end, LinesHave}
use Rattle.fd_lexer.specs.Said.{said, Says, AreSaid, nothing_said, one_said}
use Rattle.fd_lexer.proofs.Joined.{one_list}
use Rattle.fd_lexer.proofs.Spans.{IsOf, are_of}

abbrev line : Line → List Tok → TokenLine
line l ts = record { number = l; toks = ts }

-- a token that closes no line stands in the first line
token_before : (text : List ℕ) (t : Token) (ls : List TokenLine) → is_line_end t.kind ≡ false → with_token text t ls ≡ before_lines (tok_at text t.start t.end t.kind) ls
token_before text t ls e = rw e refl

line_of : (text : List ℕ) (l : Line) (e : Token) (us vs : List Token) → AllByRecursion (IsOf l) us → is_line_end e.kind ≡ true → lines_of text (us ++ e ∷ vs) ≡ line e.line (said text us) ∷ lines_of text vs
line_of text l e [] vs h k = rw k refl
line_of text l e (t ∷ us) vs h k =
    token_before text t (lines_of text (us ++ e ∷ vs)) h.0.1
    ∙ ap (before_lines (tok_at text t.start t.end t.kind)) (line_of text l e us vs h.1 k)

says_line : (text : List ℕ) (l : List Physical) (us : List Token) → HasTokens l us → Says text l (line (number_of l) (said text us))
says_line text l us h = record { tokens = us; have = h; number_is = refl; toks_are = refl }

pub lines_said : (text : List ℕ) (ls : List (List Physical)) (ts : List Token) → LinesHave ls ts → AreSaid text ls (lines_of text ts)
lines_said text [] ts h = subst (λ (us : List Token). AreSaid text [] (lines_of text us)) (sym h) nothing_said
lines_said text (l ∷ ls) ts h =
    let e : lines_of text ts ≡ line (number_of l) (said text h.0) ∷ lines_of text h.1 = ap (lines_of text) h.2 ∙ line_of text (number_of l) (line_end l) h.0 h.1 (are_of (number_of l) l h.0 h.3) refl in
    subst (λ (ks : List TokenLine). AreSaid text (l ∷ ls) ks) (sym e) (one_said (says_line text l h.0 h.3) (lines_said text ls h.1 h.4))

-- ---- they say it in one way

line_is : (t u : TokenLine) → t.number ≡ u.number → t.toks ≡ u.toks → t ≡ u
line_is t u e f = same t.number u.number t.toks u.toks e f where
  same : (k l : Line) (ts us : List Tok) → k ≡ l → ts ≡ us → line k ts ≡ line l us
  same k l ts us e f = rw (e, f) refl

says_one : (text : List ℕ) (l : List Physical) (t u : TokenLine) → Says text l t → Says text l u → t ≡ u
says_one text l t u a b = line_is t u (a.number_is ∙ sym b.number_is) (a.toks_are ∙ (ap (said text) (one_list (number_of l) l a.tokens b.tokens a.have b.have) ∙ sym b.toks_are))

cons_same : (t u : TokenLine) (ts us : List TokenLine) → t ≡ u → ts ≡ us → t ∷ ts ≡ u ∷ us
cons_same t u ts us e f = rw (e, f) refl

pub said_once : {text : List ℕ} {ls : List (List Physical)} {ks ms : List TokenLine} → AreSaid text ls ks → AreSaid text ls ms → ks ≡ ms
said_once nothing_said nothing_said = refl
said_once {text = text} (one_said {l = l} {t = t} {ts = ts} a h) (one_said {t = u} {ts = us} b g) = cons_same t u ts us (says_one text l t u a b) (said_once h g)

-- ---- tokens that say it

record HaveTokens (ls : List (List Physical)) : Type 0 where
  tokens : List Token
  have : LinesHave ls tokens

tokens_of : {text : List ℕ} {ls : List (List Physical)} {ks : List TokenLine} → AreSaid text ls ks → HaveTokens ls
tokens_of nothing_said = record { tokens = []; have = refl }
tokens_of (one_said {l = l} a h) = let r = tokens_of h in record { tokens = a.tokens ++ line_end l ∷ r.tokens; have = (a.tokens, r.tokens, refl, a.have, r.have) }

pub said_tokens : (text : List ℕ) (ls : List (List Physical)) (ks : List TokenLine) → AreSaid text ls ks → (ts : List Token) × LinesHave ls ts × (lines_of text ts ≡ ks)
said_tokens text ls ks h = let r = tokens_of h in (r.tokens, r.have, said_once (lines_said text ls r.tokens r.have) h)
