-- A text has one reading or one first refusal.
use Rattle.std.proofs.Common.{◌≡◌, ℕ, Bool, true, false, List, [], ◌∷◌, ◌++◌, refl, sym, ap, subst, ◌∙◌}
use Rattle.std.specs.List.{AllByRecursion}
use Rattle.fd_base.specs.declared.numbering.Line.{Line}
use Rattle.fd_lexer.specs.declared.token.Token.{Token}
use Rattle.fd_lexer.specs.declared.token.Lexed.{Lexed}
use Rattle.fd_lexer.specs.declared.cause.Cause.{Cause}
use Rattle.fd_lexer.specs.declared.cause.Cause.TheVariants.{BadByte, LineTooLong, BadToken, NumberTooLarge}
use Rattle.fd_lexer.specs.Cause.{number}
use Rattle.fd_lexer.specs.Physical.{Physical}
use Rattle.fd_lexer.specs.Logical.{logical_lines, number_of, next_of, IsLeast, Names}
use Rattle.fd_lexer.specs.Text.{IsPlainLine, LinesHave, IsEnded, HasReading, IsReading, IsFirstRefusal}
use Rattle.fd_lexer.proofs.Joined.{one_list}

-- ---- the first line that isn't plain

all_at : (P : List Physical → Type 0) (before : List (List Physical)) (l : List Physical) (behind : List (List Physical)) → AllByRecursion P (before ++ l ∷ behind) → P l
all_at P [] l behind h = h.0
all_at P (k ∷ before) l behind h = all_at P before l behind h.1

record SameFirst (before after : List (List Physical)) (k l : List Physical) : Type 0 where
  before_is : before ≡ after
  line_is : k ≡ l

tails : (k l : List Physical) (ks ls : List (List Physical)) → k ∷ ks ≡ l ∷ ls → ks ≡ ls
tails k l ks ls e = cc

heads : (k l : List Physical) (ks ls : List (List Physical)) → k ∷ ks ≡ l ∷ ls → k ≡ l
heads k l ks ls e = cc

first_one : (P : List Physical → Type 0) (before after : List (List Physical)) (k l : List Physical) (ks ls : List (List Physical)) → before ++ k ∷ ks ≡ after ++ l ∷ ls →
    AllByRecursion P before → AllByRecursion P after → (P k → ⊥) → (P l → ⊥) → SameFirst before after k l
first_one P [] [] k l ks ls e f g m n = record { before_is = refl; line_is = heads k l ks ls e }
first_one P [] (b ∷ after) k l ks ls e f g m n = absurd (m (subst P (sym (heads k b ks (after ++ l ∷ ls) e)) g.0))
first_one P (a ∷ before) [] k l ks ls e f g m n = absurd (n (subst P (heads a l (before ++ k ∷ ks) ls e) f.0))
first_one P (a ∷ before) (b ∷ after) k l ks ls e f g m n =
    let r = first_one P before after k l ks ls (tails a b (before ++ k ∷ ks) (after ++ l ∷ ls) e) f.1 g.1 m n in
    let h = heads a b (before ++ k ∷ ks) (after ++ l ∷ ls) e in
    record { before_is = rw (h, r.before_is) refl; line_is = r.line_is }

-- a cause is one of what is wrong
least_names : (c : Cause) (l : List Physical) → IsLeast c l → Names c l
least_names BadByte l h = h
least_names LineTooLong l h = h.1
least_names BadToken l h = h.2
least_names NumberTooLarge l h = h.3

least_one : (c d : Cause) (l : List Physical) → IsLeast c l → IsLeast d l → c ≡ d
least_one BadByte BadByte l g h = refl
least_one LineTooLong LineTooLong l g h = refl
least_one BadToken BadToken l g h = refl
least_one NumberTooLarge NumberTooLarge l g h = refl
least_one BadByte LineTooLong l g h = absurd (h.0 g)
least_one BadByte BadToken l g h = absurd (h.0 g)
least_one BadByte NumberTooLarge l g h = absurd (h.0 g)
least_one LineTooLong BadByte l g h = absurd (g.0 h)
least_one LineTooLong BadToken l g h = absurd (h.1 g.1)
least_one LineTooLong NumberTooLarge l g h = absurd (h.1 g.1)
least_one BadToken BadByte l g h = absurd (g.0 h)
least_one BadToken LineTooLong l g h = absurd (g.1 h.1)
least_one BadToken NumberTooLarge l g h = absurd (h.2 g.2)
least_one NumberTooLarge BadByte l g h = absurd (g.0 h)
least_one NumberTooLarge LineTooLong l g h = absurd (g.1 h.1)
least_one NumberTooLarge BadToken l g h = absurd (g.2 h.2)

-- the tokens of lines are one list
lines_one : (ls : List (List Physical)) (ts us : List Token) → LinesHave ls ts → LinesHave ls us → ts ≡ us
lines_one [] ts us t u = t ∙ sym u
lines_one (l ∷ ls) ts us t u =
    let f = one_list (number_of l) l t.0 u.0 t.3 u.3 in
    let r = lines_one ls t.1 u.1 t.4 u.4 in
    t.2 ∙ (rw (f, r) (sym u.2))

-- ---- refusals

refused_not : (text : List ℕ) (line : Line) (n : ℕ) (r : IsFirstRefusal text line n) → IsPlainLine text r.refused → ⊥
refused_not text line n r p = p.fine r.cause (least_names r.cause r.refused r.least)

pub refusal_one : (text : List ℕ) (k l : Line) (m n : ℕ) → IsFirstRefusal text k m → IsFirstRefusal text l n → (k ≡ l) × (m ≡ n)
refusal_one text k l m n r s =
    let e = first_one (IsPlainLine text) r.before s.before r.refused s.refused r.behind s.behind (sym r.lines ∙ s.lines) r.plain s.plain (refused_not text k m r) (refused_not text l n s) in
    let c : r.cause ≡ s.cause = least_one r.cause s.cause s.refused (subst (IsLeast r.cause) e.line_is r.least) s.least in
    (r.line_is ∙ (ap number_of e.line_is ∙ sym s.line_is), r.number_is ∙ (ap number c ∙ sym s.number_is))

-- ---- readings

ended_not : (text : List ℕ) (ts : List Token) (line : Line) (rest : ℕ) (r : IsEnded text ts line rest) → IsPlainLine text r.last → ⊥
ended_not text ts line rest r p = p.goes_on r.ends

record SameReading (a b : Bool) (ts us : List Token) (k l : Line) (m n : ℕ) : Type 0 where
  ended_is : a ≡ b
  tokens_is : ts ≡ us
  line_is : k ≡ l
  rest_is : m ≡ n

reading_same : (text : List ℕ) (a b : Bool) (ts us : List Token) (k l : Line) (m n : ℕ) → HasReading text a ts k m → HasReading text b us l n → SameReading a b ts us k l m n
reading_same text true true ts us k l m n r s =
    let e = first_one (IsPlainLine text) r.before s.before r.last s.last r.behind s.behind (sym r.lines ∙ s.lines) r.plain s.plain (ended_not text ts k m r) (ended_not text us l n s) in
    record {
      ended_is = refl;
      tokens_is = lines_one s.before ts us (subst (λ (ls : List (List Physical)). LinesHave ls ts) e.before_is r.tokens) s.tokens;
      line_is = r.line_is ∙ (ap number_of e.line_is ∙ sym s.line_is);
      rest_is = r.rest_is ∙ (ap next_of e.line_is ∙ sym s.rest_is);
    }
reading_same text true false ts us k l m n r s = absurd (ended_not text ts k m r (all_at (IsPlainLine text) r.before r.last r.behind (subst (AllByRecursion (IsPlainLine text)) r.lines s.plain)))
reading_same text false true ts us k l m n r s = absurd (ended_not text us l n s (all_at (IsPlainLine text) s.before s.last s.behind (subst (AllByRecursion (IsPlainLine text)) s.lines r.plain)))
reading_same text false false ts us k l m n r s = record {
  ended_is = refl;
  tokens_is = lines_one (logical_lines text) ts us r.tokens s.tokens;
  line_is = r.line_is ∙ sym s.line_is;
  rest_is = r.rest_is ∙ sym s.rest_is;
}

lexed_same : (text other : List ℕ) (a b : Bool) (ts us : List Token) (k l : Line) (m n : ℕ) → text ≡ other → SameReading a b ts us k l m n →
    ◌≡◌ {A = Lexed} (record { text = text; tokens = ts; ended = a; end_line = k; rest = m }) (record { text = other; tokens = us; ended = b; end_line = l; rest = n })
lexed_same text other a b ts us k l m n e s = rw (e, s.ended_is, s.tokens_is, s.line_is, s.rest_is) refl

pub reading_one : (text : List ℕ) (x y : Lexed) → IsReading text x → IsReading text y → x ≡ y
reading_one text x y r s = lexed_same x.text y.text x.ended y.ended x.tokens y.tokens x.end_line y.end_line x.rest y.rest (r.text_is ∙ sym s.text_is) (reading_same text x.ended y.ended x.tokens y.tokens x.end_line y.end_line x.rest y.rest r.reading s.reading)

-- an END line that is fine isn't refused
ended_refused : (text : List ℕ) (ts : List Token) (k l : Line) (m n : ℕ) → IsEnded text ts k m → IsFirstRefusal text l n → ⊥
ended_refused text ts k l m n r s =
    let e = first_one (IsPlainLine text) r.before s.before r.last s.refused r.behind s.behind (sym r.lines ∙ s.lines) r.plain s.plain (ended_not text ts k m r) (refused_not text l n s) in
    r.fine s.cause (subst (Names s.cause) (sym e.line_is) (least_names s.cause s.refused s.least))

has_refused : (text : List ℕ) (a : Bool) (ts : List Token) (k l : Line) (m n : ℕ) → HasReading text a ts k m → IsFirstRefusal text l n → ⊥
has_refused text true ts k l m n r s = ended_refused text ts k l m n r s
has_refused text false ts k l m n r s = refused_not text l n s (all_at (IsPlainLine text) s.before s.refused s.behind (subst (AllByRecursion (IsPlainLine text)) s.lines r.plain))

pub reading_refused : (text : List ℕ) (x : Lexed) (l : Line) (n : ℕ) → IsReading text x → IsFirstRefusal text l n → ⊥
reading_refused text x l n r s = has_refused text x.ended x.tokens x.end_line l x.rest n r.reading s
