-- Bytes have at most one meaning.
use Rattle.std.proofs.Common.{◌≡◌, ◌<◌, ◌≤◌, ℕ, List, [], ◌∷◌, true, Bool, length, drop, Option, Some, None, refl, sym, ◌∙◌, ap, subst, arith}
use Rattle.fd_base.specs.declared.numbering.Line.{Line}
use Rattle.fd_base.specs.declared.limit.Limit.{Limit}
use Rattle.fd_ast.specs.Tree.{ProgramTree}
use Rattle.fd_prog.specs.Programs.{CheckedProgram}
use Rattle.fd_lexer.specs.declared.token.Lexed.{Lexed}
use Rattle.fd_lexer.specs.View.{token_lines}
use Rattle.fd_lexer.specs.Text.{IsReading, IsFirstRefusal}
use Rattle.fd_lexer.proofs.Outcomes.{reading_one, refusal_one, reading_refused}
use Rattle.fd_parser.specs.declared.refusal.ParseRefusal.TheVariants as parsing
use Rattle.fd_parser.specs.Text.{IsText, AreFine, IsRefusal}
use Rattle.fd_parser.proofs.Parsed as sources
use Rattle.fd_parser.proofs.Refusals as grammar
use Rattle.fd_names.specs.declared.refusal.NameRefusal.TheVariants as naming
use Rattle.fd_names.specs.declared.refusal.NameRefusal.{NameRefusal}
use Rattle.fd_names.specs.declared.refusal.Refusal.{Refusal}
use Rattle.fd_names.specs.Checked.{meaning_of, refusals_of}
use Rattle.fd_names.specs.First.{AnswersFirst, answer_for}
use Rattle.fd_names.proofs.FirstLaws.{one_first}
use Rattle.section_num.specs.Numbers.{line_past_limit}
use Rattle.fdc_main.specs.Meaning.{Meaning, TooLong, Refused, PastLimit, Accepted, HasTree, IsChecked, IsProgram, IsRefused, by_tokens, by_grammar, by_names, IsPastLimit, in_tree, in_items, DeckMeans}

-- ---- the first refusal of the names

same_answer : (rs : List Refusal) (a b : NameRefusal) (r s : Refusal) → r ≡ s → answer_for r.line r.cause ≡ a → answer_for s.line s.cause ≡ b → a ≡ b
same_answer rs a b r s e p q = sym p ∙ ap (λ (r : Refusal). answer_for r.line r.cause) e ∙ q

name_one : (rs : List Refusal) (k l : Line) (m n : ℕ) → AnswersFirst rs (naming.At k m) → AnswersFirst rs (naming.At l n) → (k ≡ l) × (m ≡ n)
name_one rs k l m n (r, first, is) (s, also, it) =
    let e : naming.At k m ≡ naming.At l n = same_answer rs (naming.At k m) (naming.At l n) r s (one_first rs r s first also) is it in
    ((cc), (cc))

name_limit : (rs : List Refusal) (k l : Line) (a b : Limit) → AnswersFirst rs (naming.TooMany k a) → AnswersFirst rs (naming.TooMany l b) → (k ≡ l) × (a ≡ b)
name_limit rs k l a b (r, first, is) (s, also, it) =
    let e : naming.TooMany k a ≡ naming.TooMany l b = same_answer rs (naming.TooMany k a) (naming.TooMany l b) r s (one_first rs r s first also) is it in
    ((cc), (cc))

name_apart : (rs : List Refusal) (k l : Line) (m : ℕ) (b : Limit) → AnswersFirst rs (naming.At k m) → AnswersFirst rs (naming.TooMany l b) → ⊥
name_apart rs k l m b (r, first, is) (s, also, it) =
    let e : naming.At k m ≡ naming.TooMany l b = same_answer rs (naming.At k m) (naming.TooMany l b) r s (one_first rs r s first also) is it in
    cc

no_name : (rs : List Refusal) (k : Line) (m : ℕ) → rs ≡ [] → AnswersFirst rs (naming.At k m) → ⊥
no_name [] k m e (r, first, is) = absurd first.among
no_name (s ∷ rs) k m e p = absurd (cc e)

no_limit : (rs : List Refusal) (k : Line) (a : Limit) → rs ≡ [] → AnswersFirst rs (naming.TooMany k a) → ⊥
no_limit [] k a e (r, first, is) = absurd first.among
no_limit (s ∷ rs) k a e p = absurd (cc e)

-- ---- the tree

same_tree : (bytes : List ℕ) (x y : Lexed) (s t : ProgramTree) → HasTree bytes x s → HasTree bytes y t → (x ≡ y) × (s ≡ t)
same_tree bytes x y s t hs ht =
    let same : x ≡ y = reading_one bytes x y hs.reading ht.reading in
    (same, sources.one_text (token_lines y) s t (subst (λ (l : Lexed). IsText (token_lines l) s) same hs.text) ht.text)

-- what has a tree isn't refused by the grammar
stands : (bytes : List ℕ) (x y : Lexed) (t : ProgramTree) (k : Line) (m : ℕ) → IsReading bytes x → HasTree bytes y t → IsRefusal (token_lines x) x.ended x.end_line (parsing.At k m) → ⊥
stands bytes x y t k m read has p =
    let same : x ≡ y = reading_one bytes x y read has.reading in
    let r : IsRefusal (token_lines y) y.ended y.end_line (parsing.At k m) = subst (λ (z : Lexed). IsRefusal (token_lines z) z.ended z.end_line (parsing.At k m)) same p in
    grammar.fine_text_stands (token_lines y) y.end_line k m t has.text has.fine (subst (λ (b : Bool). IsRefusal (token_lines y) b y.end_line (parsing.At k m)) has.ended r)

-- ---- refusals

refused_one : (bytes : List ℕ) (k l : Line) (m n : ℕ) → IsRefused bytes k m → IsRefused bytes l n → (k ≡ l) × (m ≡ n)
refused_one bytes k l m n (by_tokens p) (by_tokens q) = refusal_one bytes k l m n p q
refused_one bytes k l m n (by_tokens p) (by_grammar y read q) = absurd (reading_refused bytes y k m read p)
refused_one bytes k l m n (by_tokens p) (by_names y t has q) = absurd (reading_refused bytes y k m has.reading p)
refused_one bytes k l m n (by_grammar x read p) (by_tokens q) = absurd (reading_refused bytes x l n read q)
refused_one bytes k l m n (by_grammar x read p) (by_grammar y also q) =
    let same : x ≡ y = reading_one bytes x y read also in
    grammar.one_refusal (token_lines y) y.ended y.end_line k l m n (subst (λ (z : Lexed). IsRefusal (token_lines z) z.ended z.end_line (parsing.At k m)) same p) q
refused_one bytes k l m n (by_grammar x read p) (by_names y t has q) = absurd (stands bytes x y t k m read has p)
refused_one bytes k l m n (by_names x t has p) (by_tokens q) = absurd (reading_refused bytes x l n has.reading q)
refused_one bytes k l m n (by_names x t has p) (by_grammar y read q) = absurd (stands bytes y x t l n read has q)
refused_one bytes k l m n (by_names x s has p) (by_names y t also q) =
    name_one (refusals_of t) k l m n (subst (λ (z : ProgramTree). AnswersFirst (refusals_of z) (naming.At k m)) (same_tree bytes x y s t has also).1 p) q

-- ---- what is accepted

checked_apart : (bytes : List ℕ) (k : Line) (m : ℕ) (p : CheckedProgram) → IsRefused bytes k m → IsChecked bytes p → ⊥
checked_apart bytes k m p (by_tokens r) q = reading_refused bytes q.lexed k m q.has.reading r
checked_apart bytes k m p (by_grammar x read r) q = stands bytes x q.lexed q.tree k m read q.has r
checked_apart bytes k m p (by_names x t has r) q =
    no_name (refusals_of q.tree) k m q.accepted (subst (λ (z : ProgramTree). AnswersFirst (refusals_of z) (naming.At k m)) (same_tree bytes x q.lexed t q.tree has q.has).1 r)

-- no count of a tree that is accepted passes its limit
checked_within : (bytes : List ℕ) (k : Line) (a : Limit) (p : CheckedProgram) (x : Lexed) (t : ProgramTree) → HasTree bytes x t → AnswersFirst (refusals_of t) (naming.TooMany k a) → IsChecked bytes p → ⊥
checked_within bytes k a p x t has r q =
    no_limit (refusals_of q.tree) k a q.accepted (subst (λ (z : ProgramTree). AnswersFirst (refusals_of z) (naming.TooMany k a)) (same_tree bytes x q.lexed t q.tree has q.has).1 r)

one_checked : (bytes : List ℕ) (p q : CheckedProgram) → IsChecked bytes p → IsChecked bytes q → p ≡ q
one_checked bytes p q h i =
    let same = same_tree bytes h.lexed i.lexed h.tree i.tree h.has i.has in
    let lexed : h.lexed ≡ i.lexed = same.0 in
    let tree : h.tree ≡ i.tree = same.1 in
    h.meaning ∙ ap (λ (x : Lexed). meaning_of h.tree x.end_line x.rest) lexed ∙ ap (λ (t : ProgramTree). meaning_of t i.lexed.end_line i.lexed.rest) tree ∙ sym i.meaning

accepted_apart : (bytes : List ℕ) (k : Line) (m : ℕ) (p : CheckedProgram) → IsRefused bytes k m → IsProgram bytes p → ⊥
accepted_apart bytes k m p r q = checked_apart bytes k m p r q.checked

one_program : (bytes : List ℕ) (p q : CheckedProgram) → IsProgram bytes p → IsProgram bytes q → p ≡ q
one_program bytes p q h i = one_checked bytes p q h.checked i.checked

-- ---- counts past their limits

-- a count past its limit is no other refusal
limit_apart : (bytes : List ℕ) (k l : Line) (m : ℕ) (b : Limit) → IsRefused bytes k m → IsPastLimit bytes l b → ⊥
limit_apart bytes k l m b (by_tokens p) (in_tree y t has q) = reading_refused bytes y k m has.reading p
limit_apart bytes k l m b (by_grammar x read p) (in_tree y t has q) = stands bytes x y t k m read has p
limit_apart bytes k l m b (by_names x s had p) (in_tree y t has q) =
    name_apart (refusals_of t) k l m b (subst (λ (z : ProgramTree). AnswersFirst (refusals_of z) (naming.At k m)) (same_tree bytes x y s t had has).1 p) q
limit_apart bytes k l m b p (in_items program is line items) = checked_apart bytes k m program p is

same_line : (p q : CheckedProgram) (k l : Line) → p ≡ q → line_past_limit p ≡ Some k → line_past_limit q ≡ Some l → k ≡ l
same_line p q k l e f g =
    let h : Some k ≡ Some l = sym f ∙ ap line_past_limit e ∙ g in
    cc

limit_one : (bytes : List ℕ) (k l : Line) (a b : Limit) → IsPastLimit bytes k a → IsPastLimit bytes l b → (k ≡ l) × (a ≡ b)
limit_one bytes k l a b (in_tree x s had p) (in_tree y t has q) =
    name_limit (refusals_of t) k l a b (subst (λ (z : ProgramTree). AnswersFirst (refusals_of z) (naming.TooMany k a)) (same_tree bytes x y s t had has).1 p) q
limit_one bytes k l a b (in_tree x s had p) (in_items program is line items) = absurd (checked_within bytes k a program x s had p is)
limit_one bytes k l a b (in_items program is line items) (in_tree y t has q) = absurd (checked_within bytes l b program y t has q is)
limit_one bytes k l a b (in_items p is line items) (in_items q it also too) = (same_line p q k l (one_checked bytes p q is it) line also, items ∙ sym too)

accepted_within : (bytes : List ℕ) (k : Line) (a : Limit) (p : CheckedProgram) → IsPastLimit bytes k a → IsProgram bytes p → ⊥
accepted_within bytes k a p (in_tree x t has r) q = checked_within bytes k a p x t has r q.checked
accepted_within bytes k a p (in_items program is line items) q =
    let e : Some k ≡ None = sym line ∙ ap line_past_limit (one_checked bytes program p is q.checked) ∙ q.few in
    cc

-- ---- the meaning

same_refused : (k l : Line) (m n : ℕ) → (k ≡ l) × (m ≡ n) → Refused k m ≡ Refused l n
same_refused k l m n (e, f) = cc

same_limit : (k l : Line) (a b : Limit) → (k ≡ l) × (a ≡ b) → PastLimit k a ≡ PastLimit l b
same_limit k l a b (e, f) = cc

same_accepted : (bytes : List ℕ) (p q : CheckedProgram) (r s : List ℕ) → p ≡ q → r ≡ drop p.rest bytes → s ≡ drop q.rest bytes → Accepted p r ≡ Accepted q s
same_accepted bytes p q r s e f g =
    let rest : r ≡ s = f ∙ ap (λ (x : CheckedProgram). drop x.rest bytes) e ∙ sym g in
    cc

pub one_meaning : (bytes : List ℕ) (m n : Meaning) → DeckMeans bytes m → DeckMeans bytes n → m ≡ n
one_meaning bytes TooLong TooLong p q = refl
one_meaning bytes TooLong (Refused l n) p (short, q) = absurd (omega arith)
one_meaning bytes TooLong (PastLimit l b) p (short, q) = absurd (omega arith)
one_meaning bytes TooLong (Accepted x r) p (short, q, e) = absurd (omega arith)
one_meaning bytes (Refused k m) TooLong (short, p) q = absurd (omega arith)
one_meaning bytes (Refused k m) (Refused l n) (short, p) (also, q) = same_refused k l m n (refused_one bytes k l m n p q)
one_meaning bytes (Refused k m) (PastLimit l b) (short, p) (also, q) = absurd (limit_apart bytes k l m b p q)
one_meaning bytes (Refused k m) (Accepted x r) (short, p) (also, q, e) = absurd (accepted_apart bytes k m x p q)
one_meaning bytes (PastLimit k a) TooLong (short, p) q = absurd (omega arith)
one_meaning bytes (PastLimit k a) (Refused l n) (short, p) (also, q) = absurd (limit_apart bytes l k n a q p)
one_meaning bytes (PastLimit k a) (PastLimit l b) (short, p) (also, q) = same_limit k l a b (limit_one bytes k l a b p q)
one_meaning bytes (PastLimit k a) (Accepted x r) (short, p) (also, q, e) = absurd (accepted_within bytes k a x p q)
one_meaning bytes (Accepted x r) TooLong (short, p, d) q = absurd (omega arith)
one_meaning bytes (Accepted x r) (Refused l n) (short, p, d) (also, q) = absurd (accepted_apart bytes l n x q p)
one_meaning bytes (Accepted x r) (PastLimit l b) (short, p, d) (also, q) = absurd (accepted_within bytes l b x q p)
one_meaning bytes (Accepted x r) (Accepted y s) (short, p, d) (also, q, e) = same_accepted bytes x y r s (one_program bytes x y p q) d e
