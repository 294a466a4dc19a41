-- The bytes of a token's span spell it.
use Rattle.std.proofs.Common.{◌≡◌, ℕ, suc, ◌+◌, ◌-◌, ◌≤◌, Bool, true, false, List, [], ◌∷◌, ◌++◌, length, take, drop, refl, sym, ap, subst, ◌∙◌, arith}
use Rattle.std.specs.Prelude.{filter, slice_index, slice_range, slice_index_or, ◌==◌, if◌then◌else◌, ◌<◌}
use Rattle.std.specs.List.{AllByRecursion, slice_split, join_with_byte, onto_first}
use Rattle.std.proofs.lemmas.List.{take-append-le, drop-append-le, drop-drop, take-append-drop, append_assoc, append-nil, append_cancel_right}
use Rattle.std.proofs.lemmas.List.Elements.{All-from_recursion}
use Rattle.std.proofs.Math.Seq.{drop-append_seam}
use Rattle.std.proofs.lemmas.List.Splits.{join_with_byte-slice_split}
use Rattle.fd_base.specs.declared.numbering.Line.{Line}
use Rattle.fd_lexer.specs.declared.token.Token.{Token}
use Rattle.fd_lexer.specs.declared.token.TokenKind.{TokenKind}
use Rattle.fd_lexer.specs.declared.token.TokenKind.TheVariants as kinds
use Rattle.fd_lexer.specs.declared.token.Lexed.{Lexed}
use Rattle.fd_lexer.specs.Words.{IsFirstWord, IsQuoted, IsFront, word, text, doubled}
use Rattle.fd_lexer.specs.Tokens.{IsTokens, over, blank, token}
use Rattle.fd_lexer.specs.Physical.{Physical, is_feed, continued, code_end, content, counts, without_return, lines_from, counted_from}
use Rattle.fd_lexer.specs.Logical.{line_before, groups, logical_lines, AreTokens, number_of}
use Rattle.fd_lexer.specs.Text.{line_end, LinesHave, HasReading, IsReading}
use Rattle.fd_lexer.specs.Spelled.{IsSpelled, IsWritten}
use Rattle.fd_lexer.proofs.Contents.{content_of}
use Rattle.fd_lexer.proofs.Fronts.{front_fits}

-- ---- where bytes stand

-- these bytes stand in a text at an offset
abbrev StandsAt : List ℕ → ℕ → List ℕ → Type 0
StandsAt source at w = (rest : List ℕ) × (drop at source ≡ w ++ rest)

-- so do the first of them
stands_take : (source : List ℕ) (at : ℕ) (w : List ℕ) (n : ℕ) → StandsAt source at w → StandsAt source at (take n w)
stands_take source at w n s = (drop n w ++ s.0, s.1 ∙ (ap (λ xs. xs ++ s.0) (sym (take-append-drop n w)) ∙ append_assoc (take n w) (drop n w) s.0))

-- and the others, further on
stands_drop : (source : List ℕ) (at : ℕ) (w : List ℕ) (n : ℕ) → n ≤ length w → StandsAt source at w → StandsAt source (at + n) (drop n w)
stands_drop source at w n le s = (s.0, sym (drop-drop n at source) ∙ (ap (drop n) s.1 ∙ drop-append-le n w s.0 le))

-- the slice of that many bytes
stands_slice : (source : List ℕ) (at : ℕ) (w : List ℕ) (n : ℕ) → n ≤ length w → StandsAt source at w → slice_range source at (at + n) ≡ take n w
stands_slice source at w n le s =
    let len : at + n - at ≡ n = omega arith in
    rw len (ap (take n) s.1 ∙ take-append-le n w s.0 le)

-- ---- tokens

spelled_word : (w : List ℕ) (bs : List ℕ) (n : ℕ) (k : TokenKind) → IsFirstWord bs n k → w ≡ take n bs → IsSpelled w k
spelled_word w bs n kinds.Name h e = subst (λ xs. IsSpelled xs kinds.Name) (sym e) h.word
spelled_word w bs n (kinds.Num z) h e = subst (λ xs. IsSpelled xs (kinds.Num z)) (sym e) h.word
spelled_word w bs n kinds.Words h e = absurd h.word
spelled_word w bs n (kinds.Dot d) h e = subst (λ xs. IsSpelled xs (kinds.Dot d)) (sym e) h.word
spelled_word w bs n (kinds.Sign t) h e = subst (λ xs. IsSpelled xs (kinds.Sign t)) (sym e) h.word
spelled_word w bs n kinds.LineEnd h e = absurd h.word

-- a quoted text
spelled_text : (bs : List ℕ) (n : ℕ) → IsQuoted bs (drop n bs) → (content : List ℕ) × (39 ∷ take n bs ≡ 39 ∷ (doubled content ++ 39 ∷ []))
spelled_text bs n q =
    let c = content_of q in
    let whole : take n bs ++ drop n bs ≡ (doubled c.0 ++ 39 ∷ []) ++ drop n bs = take-append-drop n bs ∙ (c.1 ∙ sym (append_assoc (doubled c.0) (39 ∷ []) (drop n bs))) in
    (c.0, ap (λ (xs : List ℕ). 39 ∷ xs) (append_cancel_right (take n bs) (doubled c.0 ++ 39 ∷ []) (drop n bs) whole))

spelled_front : {bs : List ℕ} {n : ℕ} {k : TokenKind} (w : List ℕ) → IsFront bs n k → w ≡ take n bs → IsSpelled w k
spelled_front {bs = bs} {n = n} {k = k} w (word h) e = spelled_word w bs n k h e
spelled_front w (text {bs = bs} {n = n} i q) e =
    let c = spelled_text bs n q in
    let one : n + 1 ≡ suc n = omega arith in
    (c.0, e ∙ (ap (λ m. take m (39 ∷ bs)) one ∙ c.1))

-- the tokens of bytes that stand in a text
written_tokens : (source : List ℕ) {line : Line} {at : ℕ} {bs : List ℕ} {ts : List Token} → StandsAt source at bs → IsTokens line at bs ts → AllByRecursion (IsWritten source) ts
written_tokens source s over = tt
written_tokens source {at = at} s (blank b {bs = bs} i d) = written_tokens source (stands_drop source at (b ∷ bs) 1 (omega arith) s) d
written_tokens source {at = at} {bs = bs} s (token n k f short d) =
    let within = (front_fits f).within in
    (spelled_front (slice_range source at (at + n)) f (stands_slice source at bs n within s), written_tokens source (stands_drop source at bs n within s) d)

-- ---- lines

-- the bytes of a line stand where it begins
abbrev IsPlaced : List ℕ → Physical → Type 0
IsPlaced source p = StandsAt source p.start p.bytes

-- the same of all of them
abbrev ArePlaced : List ℕ → List Physical → Type 0
ArePlaced source ps = AllByRecursion (IsPlaced source) ps

without_placed : (source : List ℕ) (at : ℕ) (bs : List ℕ) → StandsAt source at bs → StandsAt source at (without_return bs)
without_placed source at bs s = by (slice_index bs (length bs - 1) == 13) s
  where
    by : (b : Bool) → StandsAt source at bs → StandsAt source at (if b then take (length bs - 1) bs else bs)
    by true s = stands_take source at bs (length bs - 1) s
    by false s = s

-- lines that stand between line feeds
lines_placed : (source : List ℕ) (number start : ℕ) (parts : List (List ℕ)) → drop start source ≡ join_with_byte 10 parts → ArePlaced source (lines_from number start parts)
lines_placed source number start [] e = tt
lines_placed source number start (bs ∷ []) e = (([], e ∙ sym (append-nil bs)), tt)
lines_placed source number start (bs ∷ (cs ∷ more)) e =
    let here : StandsAt source start bs = (10 ∷ join_with_byte 10 (cs ∷ more), e) in
    let behind : drop (start + length bs + 1) source ≡ join_with_byte 10 (cs ∷ more) =
    sym (drop-drop 1 (start + length bs) source) ∙ (ap (drop 1) (sym (drop-drop (length bs) start source) ∙ (ap (drop (length bs)) e ∙ drop-append_seam bs (10 ∷ join_with_byte 10 (cs ∷ more))))) in
    (without_placed source start bs here, lines_placed source (number + 1) (start + length bs + 1) (cs ∷ more) behind)

-- those that count
filter_placed : (source : List ℕ) (test : Physical → Bool) (ps : List Physical) → ArePlaced source ps → ArePlaced source (filter test ps)
filter_placed source test [] h = tt
filter_placed source test (p ∷ ps) h = by (test p) (filter_placed source test ps h.1)
  where
    by : (b : Bool) → ArePlaced source (filter test ps) → ArePlaced source (if b then p ∷ filter test ps else filter test ps)
    by true rest = (h.0, rest)
    by false rest = rest

counted_placed : (source : List ℕ) → ArePlaced source (counted_from 1 0 source)
unfolding counted_from
counted_placed source = filter_placed source (λ p. counts p.bytes) (lines_from 1 0 (slice_split is_feed source)) (lines_placed source 1 0 (slice_split is_feed source) (sym (join_with_byte-slice_split 10 source)))

-- in logical lines
onto_placed : (source : List ℕ) (p : Physical) (ls : List (List Physical)) → IsPlaced source p → AllByRecursion (ArePlaced source) ls → AllByRecursion (ArePlaced source) (onto_first p ls)
onto_placed source p [] h k = ((h, tt), tt)
onto_placed source p (l ∷ ls) h k = ((h, k.0), k.1)

groups_placed : (source : List ℕ) (ps : List Physical) → ArePlaced source ps → AllByRecursion (ArePlaced source) (groups ps)
groups_placed source [] h = tt
groups_placed source (p ∷ ps) h = by (continued p.bytes) (groups_placed source ps h.1)
  where
    by : (b : Bool) → AllByRecursion (ArePlaced source) (groups ps) → AllByRecursion (ArePlaced source) (line_before b p (groups ps))
    by true rest = onto_placed source p (groups ps) h.0 rest
    by false rest = ((h.0, tt), rest)

content_placed : (source : List ℕ) (p : Physical) → IsPlaced source p → StandsAt source p.start (content p.bytes)
unfolding content
content_placed source p h = stands_take source p.start p.bytes (if continued p.bytes then code_end p.bytes - 1 else code_end p.bytes) h

-- ---- the tokens of lines

all_append : (source : List ℕ) (ts us : List Token) → AllByRecursion (IsWritten source) ts → AllByRecursion (IsWritten source) us → AllByRecursion (IsWritten source) (ts ++ us)
all_append source [] us h k = k
all_append source (t ∷ ts) us h k = (h.0, all_append source ts us h.1 k)

line_written : (source : List ℕ) (line : Line) (ps : List Physical) (ts : List Token) → ArePlaced source ps → AreTokens line ps ts → AllByRecursion (IsWritten source) ts
line_written source line [] ts h t = subst (AllByRecursion (IsWritten source)) (sym t) tt
line_written source line (p ∷ ps) ts h t =
    subst (AllByRecursion (IsWritten source)) (sym t.2) (all_append source t.0 t.1 (written_tokens source (content_placed source p h.0) t.3) (line_written source line ps t.1 h.1 t.4))

end_written : (source : List ℕ) (l : List Physical) → IsWritten source (line_end l)
end_written source l = nothing (drop (line_end l).start source) (line_end l).start
  where
    nothing : (xs : List ℕ) (n : ℕ) → take (n - n) xs ≡ []
    nothing xs n = let none : n - n ≡ 0 = omega arith in rw none refl

lines_written : (source : List ℕ) (ls : List (List Physical)) (ts : List Token) → AllByRecursion (ArePlaced source) ls → LinesHave ls ts → AllByRecursion (IsWritten source) ts
lines_written source [] ts h t = subst (AllByRecursion (IsWritten source)) (sym t) tt
lines_written source (l ∷ ls) ts h t =
    subst (AllByRecursion (IsWritten source)) (sym t.2)
    (all_append source t.0 (line_end l ∷ t.1) (line_written source (number_of l) l t.0 h.0 t.3) (end_written source l, lines_written source ls t.1 h.1 t.4))

front_placed : (source : List ℕ) (ls more : List (List Physical)) → AllByRecursion (ArePlaced source) (ls ++ more) → AllByRecursion (ArePlaced source) ls
front_placed source [] more h = tt
front_placed source (l ∷ ls) more h = (h.0, front_placed source ls more h.1)

-- every token of a reading
reading_written : (source : List ℕ) (ended : Bool) (ts : List Token) (line : Line) (rest : ℕ) → HasReading source ended ts line rest → AllByRecursion (IsWritten source) ts
reading_written source true ts line rest r =
    let all : AllByRecursion (ArePlaced source) (r.before ++ r.last ∷ r.behind) = subst (AllByRecursion (ArePlaced source)) r.lines (groups_placed source (counted_from 1 0 source) (counted_placed source)) in
    lines_written source r.before ts (front_placed source r.before (r.last ∷ r.behind) all) r.tokens
reading_written source false ts line rest r = lines_written source (logical_lines source) ts (groups_placed source (counted_from 1 0 source) (counted_placed source)) r.tokens

pub tokens_written : (source : List ℕ) (x : Lexed) → IsReading source x → (k : ℕ) (d : Token) → k < length x.tokens → IsWritten source (slice_index_or x.tokens k d)
tokens_written source x r = All-from_recursion (IsWritten source) x.tokens (reading_written source x.ended x.tokens x.end_line x.rest r.reading)
