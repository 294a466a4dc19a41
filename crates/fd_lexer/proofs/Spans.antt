-- Where tokens stand.
use Rattle.std.proofs.Common.{◌≡◌, ℕ, ℤ, pos, zero, suc, ◌+◌, ◌-◌, ◌^◌, ◌<◌, ◌≤◌, true, false, List, [], ◌∷◌, ◌++◌, length, take, drop, refl, sym, ap, subst, ◌∙◌, inl, inr, arith}
use Rattle.std.specs.List.{AllByRecursion}
use Rattle.std.specs.Prelude.{if◌then◌else◌, slice_index_or}
use Rattle.std.proofs.lemmas.List.{length-take, length-drop}
use Rattle.std.proofs.lemmas.List.Elements.{All-from_recursion}
use Rattle.std.proofs.lemmas.Bool.{cases_lt}
use Rattle.fd_base.specs.declared.numbering.Line.{Line}
use Rattle.fd_base.specs.Digits.{decimal_value}
use Rattle.fd_lexer.specs.declared.token.Token.{Token}
use Rattle.fd_lexer.specs.declared.token.TokenKind.{TokenKind}
use Rattle.fd_lexer.specs.declared.token.TokenKind.TheVariants as kinds
use Rattle.fd_lexer.specs.View.{is_line_end, IsSpanOf, IsToken, IsInOrder, AreClosed}
use Rattle.fd_lexer.specs.Words.{IsFirstWord, IsQuoted, close, quote, byte, IsFront, word, text}
use Rattle.fd_lexer.specs.Tokens.{IsTokens, over, blank, token, IsShort, IsLargeKind, HasLarge}
use Rattle.fd_lexer.specs.Physical.{Physical, continued, code_end, content}
use Rattle.fd_lexer.specs.Logical.{end_of, AreTokens}
use Rattle.fd_lexer.specs.Text.{LiesIn}
use Rattle.fd_lexer.specs.Faults.{IsChain}
use Rattle.fd_lexer.proofs.Fronts.{front_fits}
use Rattle.fd_lexer.proofs.Lines.{HasLarge-front, HasLarge-back}

-- ---- the span of one token

quoted_shorter : {bs rest : List ℕ} → IsQuoted bs rest → length rest < length bs
quoted_shorter (close h) = omega arith
quoted_shorter (quote d) = omega (arith, quoted_shorter d)
quoted_shorter (byte m d) = omega (arith, quoted_shorter d)

quoted_some : (bs : List ℕ) (n : ℕ) → IsQuoted bs (drop n bs) → 0 < n
quoted_some bs zero q = absurd (omega (arith, quoted_shorter q))
quoted_some bs (suc n) q = omega arith

small_number : (z : ℤ) (v : ℕ) → z ≡ pos v → (IsLargeKind (kinds.Num z) → ⊥) → v < 2 ^ 63
small_number z v e n = elim (cases_lt v (2 ^ 63)) [
  | inl lt ↦ lt
  | inr le ↦ absurd (n (subst (λ (y : ℤ). IsLargeKind (kinds.Num y)) (sym e) le))
]

word_span : (bs : List ℕ) (n : ℕ) (k : TokenKind) → IsFirstWord bs n k → 0 < n → IsShort k n → (IsLargeKind k → ⊥) → IsSpanOf k n
word_span bs n kinds.Name h some s l = (omega (arith, some), s)
word_span bs n (kinds.Num z) h some s l = (omega (arith, some), (decimal_value (take n bs), h.word.1, small_number z (decimal_value (take n bs)) h.word.1 l))
word_span bs n kinds.Words h some s l = absurd h.word
word_span bs n (kinds.Dot d) h some s l = omega (arith, some)
word_span bs n (kinds.Sign t) h some s l = omega (arith, some)
word_span bs n kinds.LineEnd h some s l = absurd h.word

span_of : {bs : List ℕ} {n : ℕ} {k : TokenKind} → IsFront bs n k → IsShort k n → (IsLargeKind k → ⊥) → IsSpanOf k n
span_of {bs = bs} {n = n} {k = k} (word h) s l = word_span bs n k h (front_fits (word h)).some s l
span_of (text {bs = bs} {n = n} i q) s l = omega (arith, quoted_some bs n q)

not_end_word : (bs : List ℕ) (n : ℕ) (k : TokenKind) → IsFirstWord bs n k → is_line_end k ≡ false
not_end_word bs n kinds.Name h = refl
not_end_word bs n (kinds.Num z) h = refl
not_end_word bs n kinds.Words h = refl
not_end_word bs n (kinds.Dot d) h = refl
not_end_word bs n (kinds.Sign s) h = refl
not_end_word bs n kinds.LineEnd h = absurd h.word

not_end : {bs : List ℕ} {n : ℕ} {k : TokenKind} → IsFront bs n k → is_line_end k ≡ false
not_end {bs = bs} {n = n} {k = k} (word h) = not_end_word bs n k h
not_end (text i q) = refl

-- ---- spans in order

-- the spans lie in order between the two offsets, each one of its kind
abbrev pub AreSpans : ℕ → List Token → ℕ → Type 0
AreSpans from [] to = from ≤ to
AreSpans from (t ∷ ts) to = (from ≤ t.start) × (t.start ≤ t.end) × IsSpanOf t.kind (t.end - t.start) × AreSpans t.end ts to

spans_from : (a b : ℕ) (ts : List Token) (to : ℕ) → a ≤ b → AreSpans b ts to → AreSpans a ts to
spans_from a b [] to le h = omega (arith, le, h)
spans_from a b (t ∷ ts) to le h = (omega (arith, le, h.0), h.1, h.2, h.3)

pub spans_to : (from : ℕ) (ts : List Token) (a b : ℕ) → a ≤ b → AreSpans from ts a → AreSpans from ts b
spans_to from [] a b le h = omega (arith, le, h)
spans_to from (t ∷ ts) a b le h = (h.0, h.1, h.2, spans_to t.end ts a b le h.3)

pub spans_append : (a b c : ℕ) (ts us : List Token) → AreSpans a ts b → AreSpans b us c → AreSpans a (ts ++ us) c
spans_append a b c [] us h g = spans_from a b us c h g
spans_append a b c (t ∷ ts) us h g = (h.0, h.1, h.2, spans_append t.end b c ts us h.3 g)

spans_within : (from : ℕ) (ts : List Token) (to : ℕ) → AreSpans from ts to → from ≤ to
spans_within from [] to h = h
spans_within from (t ∷ ts) to h = omega (arith, h.0, h.1, spans_within t.end ts to h.3)

token_spans : {line : Line} {at : ℕ} {bs : List ℕ} {ts : List Token} → IsTokens line at bs ts → (HasLarge ts → ⊥) → AreSpans at ts (at + length bs)
token_spans over l = omega arith
token_spans {at = at} (blank b {bs = bs} {ts = ts} i d) l =
    spans_from at (at + 1) ts (at + length (b ∷ bs)) (omega arith) (spans_to (at + 1) ts (at + 1 + length bs) (at + length (b ∷ bs)) (omega arith) (token_spans d l))
token_spans {at = at} {bs = bs} (token n k {ts = ts} f s d) l =
    let len : at + n - at ≡ n = omega arith in
    (omega arith, omega arith, rw len (span_of f s (λ h. l (inl h))), spans_to (at + n) ts (at + n + length (drop n bs)) (at + length bs) (omega (arith, length-drop n bs, (front_fits f).within)) (token_spans d (λ h. l (inr h))))

content_within : (bs : List ℕ) → length (content bs) ≤ length bs
unfolding content
content_within bs = omega (arith, length-take (if continued bs then code_end bs - 1 else code_end bs) bs)

front_spans : (p : Physical) (line : Line) (from : ℕ) (us : List Token) → from ≤ p.start → IsTokens line p.start (content p.bytes) us → (HasLarge us → ⊥) → AreSpans from us (p.start + length p.bytes)
front_spans p line from us le d l = spans_from from p.start us (p.start + length p.bytes) le (spans_to p.start us (p.start + length (content p.bytes)) (p.start + length p.bytes) (omega (arith, content_within p.bytes)) (token_spans d l))

-- the tokens of a logical line lie before its end
pub line_spans : (line : Line) (ps : List Physical) (from to : ℕ) (ts : List Token) → AreTokens line ps ts → IsChain from ps to → from ≤ end_of ps → (HasLarge ts → ⊥) → AreSpans from ts (end_of ps)
line_spans line [] from to ts t c le l = subst (λ (us : List Token). AreSpans from us 0) (sym t) le
line_spans line (p ∷ []) from to ts t c le l =
    let e : ts ≡ t.0 ++ [] = t.2 ∙ ap (λ (vs : List Token). t.0 ++ vs) t.4 in
    subst (λ (us : List Token). AreSpans from us (p.start + length p.bytes)) (sym e)
    (spans_append from (p.start + length p.bytes) (p.start + length p.bytes) t.0 [] (front_spans p line from t.0 c.0 t.3 (λ h. l (subst HasLarge (sym t.2) (HasLarge-front t.0 t.1 h)))) (omega arith))
line_spans line (p ∷ (q ∷ ps)) from to ts t c le l =
    subst (λ (us : List Token). AreSpans from us (end_of (q ∷ ps))) (sym t.2)
    (spans_append from p.next (end_of (q ∷ ps)) t.0 t.1
    (spans_to from t.0 (p.start + length p.bytes) p.next c.1 (front_spans p line from t.0 c.0 t.3 (λ h. l (subst HasLarge (sym t.2) (HasLarge-front t.0 t.1 h)))))
    (line_spans line (q ∷ ps) p.next to t.1 t.4 c.2 (chain_end p.next q ps to c.2) (λ h. l (subst HasLarge (sym t.2) (HasLarge-back t.0 t.1 h)))))
  where
    chain_end : (from : ℕ) (q : Physical) (ps : List Physical) (to : ℕ) → IsChain from (q ∷ ps) to → from ≤ end_of (q ∷ ps)
    chain_end from q [] to c = omega (arith, c.0)
    chain_end from q (r ∷ ps) to c = omega (arith, c.0, c.1, chain_end q.next r ps to c.2)

-- ---- the number of the line

-- a token of the line that doesn't close it
abbrev pub IsOf : Line → Token → Type 0
IsOf line t = (t.line ≡ line) × (is_line_end t.kind ≡ false)

token_lines_are : {line : Line} {at : ℕ} {bs : List ℕ} {ts : List Token} → IsTokens line at bs ts → AllByRecursion (IsOf line) ts
token_lines_are over = tt
token_lines_are (blank b i d) = token_lines_are d
token_lines_are (token n k f s d) = ((refl, not_end f), token_lines_are d)

of_append : (line : Line) (ts us : List Token) → AllByRecursion (IsOf line) ts → AllByRecursion (IsOf line) us → AllByRecursion (IsOf line) (ts ++ us)
of_append line [] us h g = g
of_append line (t ∷ ts) us h g = (h.0, of_append line ts us h.1 g)

pub are_of : (line : Line) (ps : List Physical) (ts : List Token) → AreTokens line ps ts → AllByRecursion (IsOf line) ts
are_of line [] ts t = subst (AllByRecursion (IsOf line)) (sym t) tt
are_of line (p ∷ ps) ts t = subst (AllByRecursion (IsOf line)) (sym t.2) (of_append line t.0 t.1 (token_lines_are t.3) (are_of line ps t.1 t.4))

pub closed_line : (line : Line) (ts : List Token) (e : Token) → AllByRecursion (IsOf line) ts → e.line ≡ line → is_line_end e.kind ≡ true → AreClosed (ts ++ e ∷ [])
closed_line line [] e h l k = k
closed_line line (t ∷ []) e h l k = ((λ n. h.0.0 ∙ sym l), k)
closed_line line (t ∷ (u ∷ ts)) e h l k = ((λ n. h.0.0 ∙ sym h.1.0.0), closed_line line (u ∷ ts) e h.1 l k)

pub closed_append : (ts us : List Token) → AreClosed ts → AreClosed us → AreClosed (ts ++ us)
closed_append [] us h g = g
closed_append (t ∷ []) [] h g = h
closed_append (t ∷ []) (u ∷ us) h g = ((λ n. let e : true ≡ false = sym h ∙ n in absurd cc), g)
closed_append (t ∷ (v ∷ ts)) us h g = (h.0, closed_append (v ∷ ts) us h.1 g)

-- ---- the tokens of a text

spans_tokens : (source : List ℕ) (from : ℕ) (ts : List Token) (to : ℕ) → to ≤ length source → AreSpans from ts to → AllByRecursion (IsToken source) ts
spans_tokens source from [] to le h = tt
spans_tokens source from (t ∷ ts) to le h = (record { forward = h.1; within = omega (arith, le, spans_within t.end ts to h.3); span = h.2 }, spans_tokens source t.end ts to le h.3)

pub are_tokens : (source : List ℕ) (from : ℕ) (ts : List Token) (to : ℕ) → to ≤ length source → AreSpans from ts to → (k : ℕ) (d : Token) → k < length ts → IsToken source (slice_index_or ts k d)
are_tokens source from ts to le h = All-from_recursion (IsToken source) ts (spans_tokens source from ts to le h)

pub spans_lie : (source : List ℕ) (from : ℕ) (ts : List Token) (to : ℕ) → to ≤ length source → AreSpans from ts to → AllByRecursion (LiesIn source) ts
spans_lie source from [] to le h = tt
spans_lie source from (t ∷ ts) to le h = ((h.1, omega (arith, le, spans_within t.end ts to h.3)), spans_lie source t.end ts to le h.3)

pub spans_order : (from : ℕ) (ts : List Token) (to : ℕ) → AreSpans from ts to → IsInOrder from ts
spans_order from [] to h = tt
spans_order from (t ∷ ts) to h = (h.0, spans_order t.end ts to h.3)
