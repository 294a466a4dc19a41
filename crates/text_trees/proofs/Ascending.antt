-- The numbers of the logical lines of a text ascend.
use Rattle.std.proofs.Common.{◌≡◌, ℕ, ◌+◌, ◌≤◌, Bool, true, false, List, [], ◌∷◌, ◌++◌, length, sym, subst, arith}
use Rattle.std.specs.Prelude.{filter, if◌then◌else◌}
use Rattle.std.specs.List.{slice_split}
use Rattle.fd_base.specs.declared.numbering.Line.{Line}
use Rattle.fd_lexer.specs.declared.token.Lexed.{Lexed}
use Rattle.fd_lexer.specs.View.{TokenLine, lines_of, token_lines}
use Rattle.fd_lexer.specs.Physical.{Physical, continued, counted_from, counts, is_feed, lines_from}
use Rattle.fd_lexer.specs.Logical.{groups, line_before, logical_lines, number_of}
use Rattle.fd_lexer.specs.Text.{HasReading, IsEnded, IsReading}
use Rattle.fd_lexer.specs.Said.{AreSaid, nothing_said, one_said}
use Rattle.fd_lexer.proofs.Said.{lines_said}

-- from this number on the numbers of these ascend
abbrev pub Ascend : {X : Type 0} → (X → ℕ) → ℕ → List X → Type 0
Ascend f n [] = Unit {0}
Ascend f n (x ∷ xs) = (n ≤ f x) × Ascend f (f x) xs

pub lower : {X : Type 0} (f : X → ℕ) (xs : List X) (m n : ℕ) → m ≤ n → Ascend f n xs → Ascend f m xs
lower f [] m n le h = tt
lower f (x ∷ xs) m n le h = (omega (arith, le, h.0), h.1)

front : {X : Type 0} (f : X → ℕ) (xs ys : List X) (n : ℕ) → Ascend f n (xs ++ ys) → Ascend f n xs
front f [] ys n h = tt
front f (x ∷ xs) ys n h = (h.0, front f xs ys (f x) h.1)

-- ---- physical lines

abbrev physical_number : Physical → ℕ
physical_number p = p.number

lines_ascend : (n s : ℕ) (parts : List (List ℕ)) → Ascend physical_number n (lines_from n s parts)
lines_ascend n s [] = tt
lines_ascend n s (bs ∷ []) = (omega arith, tt)
lines_ascend n s (bs ∷ (cs ∷ more)) =
    let rest = lines_from (n + 1) (s + length bs + 1) (cs ∷ more) in
    (omega arith, lower physical_number rest n (n + 1) (omega arith) (lines_ascend (n + 1) (s + length bs + 1) (cs ∷ more)))

filtered : (test : Physical → Bool) (n : ℕ) (ps : List Physical) → Ascend physical_number n ps → Ascend physical_number n (filter test ps)
filtered test n [] h = tt
filtered test n (p ∷ ps) h = by (test p) (filtered test p.number ps h.1)
  where
    by : (b : Bool) → Ascend physical_number p.number (filter test ps) → Ascend physical_number n (if b then p ∷ filter test ps else filter test ps)
    by true k = (h.0, k)
    by false k = lower physical_number (filter test ps) n p.number h.0 k

-- ---- logical lines

abbrev logical_number : List Physical → ℕ
logical_number l = (number_of l).0

before_ascends : (goes_on : Bool) (p : Physical) (n : ℕ) (ls : List (List Physical)) → n ≤ p.number → Ascend logical_number p.number ls → Ascend logical_number n (line_before goes_on p ls)
before_ascends true p n [] le h = (le, tt)
before_ascends true p n (l ∷ ls) le h = (le, lower logical_number ls p.number (logical_number l) h.0 h.1)
before_ascends false p n ls le h = (le, h)

groups_ascend : (n : ℕ) (ps : List Physical) → Ascend physical_number n ps → Ascend logical_number n (groups ps)
groups_ascend n [] h = tt
groups_ascend n (p ∷ ps) h = before_ascends (continued p.bytes) p n (groups ps) h.0 (groups_ascend p.number ps h.1)

logical_ascend : (text : List ℕ) → Ascend logical_number 1 (logical_lines text)
unfolding counted_from
logical_ascend text =
    let lines = lines_from 1 0 (slice_split is_feed text) in
    let test : Physical → Bool = λ p. counts p.bytes in
    groups_ascend 1 (filter test lines) (filtered test 1 lines (lines_ascend 1 0 (slice_split is_feed text)))

-- ---- lines of tokens

abbrev pub token_number : TokenLine → ℕ
token_number t = t.number.0

said_ascend : {text : List ℕ} {ls : List (List Physical)} {ts : List TokenLine} → AreSaid text ls ts → (n : ℕ) → Ascend logical_number n ls → Ascend token_number n ts
said_ascend nothing_said n h = tt
said_ascend (one_said {l = l} {t = t} {ts = ts} a k) n h =
    let own : n ≤ t.number.0 = subst (λ (m : Line). n ≤ m.0) (sym a.number_is) h.0 in
    let rest : Ascend token_number t.number.0 ts = subst (λ (m : Line). Ascend token_number m.0 ts) (sym a.number_is) (said_ascend k (logical_number l) h.1) in
    (own, rest)

pub reading_ascends : (text : List ℕ) (x : Lexed) → IsReading text x → x.ended ≡ true → Ascend token_number 1 (token_lines x)
reading_ascends text x r ended =
    let i : IsEnded text x.tokens x.end_line x.rest = subst (λ (b : Bool). HasReading text b x.tokens x.end_line x.rest) ended r.reading in
    let all = subst (λ (ls : List (List Physical)). Ascend logical_number 1 ls) i.lines (logical_ascend text) in
    let lines = front logical_number i.before (i.last ∷ i.behind) 1 all in
    subst (λ (w : List ℕ). Ascend token_number 1 (lines_of w x.tokens)) (sym r.text_is) (said_ascend (lines_said text i.before x.tokens i.tokens) 1 lines)
