-- Lines have at most one refusal, and none where they are fine and a source.
use Rattle.std.proofs.Common.{◌≡◌, ℕ, List, [], ◌∷◌, ◌++◌, refl, sym, ◌∙◌, ap, subst}
use Rattle.std.specs.Prelude.{Bool, true, false}
use Rattle.fd_base.specs.declared.numbering.Line.{Line}
use Rattle.fd_lexer.specs.View.{TokenLine}
use Rattle.fd_ast.specs.Tree.{ProgramTree}
use Rattle.fd_parser.specs.declared.refusal.ParseRefusal.TheVariants as refusals
use Rattle.fd_parser.specs.Text.{IsText, IsFine, AreFine, none_fine, one_fine, Names, parentheses, nested, left_out, syntax, IsRefusal, at_line, at_end, no_end}

-- ---- two places in one list

pub data TwoPlaces (before after : List TokenLine) (t u : TokenLine) : Type 0 where
  same_place : before ≡ after → t ≡ u → TwoPlaces before after t u
  earlier : (more : List TokenLine) → after ≡ before ++ t ∷ more → TwoPlaces before after t u
  later : (more : List TokenLine) → before ≡ after ++ u ∷ more → TwoPlaces before after t u

tails : (k l : TokenLine) (ks ls : List TokenLine) → k ∷ ks ≡ l ∷ ls → ks ≡ ls
tails k l ks ls e = cc

heads : (k l : TokenLine) (ks ls : List TokenLine) → k ∷ ks ≡ l ∷ ls → k ≡ l
heads k l ks ls e = cc

cons_same : (k l : TokenLine) (ks ls : List TokenLine) → k ≡ l → ks ≡ ls → k ∷ ks ≡ l ∷ ls
cons_same k l ks ls e f = rw (e, f) refl

one_more_place : (a b : TokenLine) (before after : List TokenLine) (t u : TokenLine) → a ≡ b → TwoPlaces before after t u → TwoPlaces (a ∷ before) (b ∷ after) t u
one_more_place a b before after t u e (same_place f g) = same_place (cons_same a b before after e f) g
one_more_place a b before after t u e (earlier more f) = earlier more (cons_same b a after (before ++ t ∷ more) (sym e) f)
one_more_place a b before after t u e (later more f) = later more (cons_same a b before (after ++ u ∷ more) e f)

pub two_places : (before after : List TokenLine) (t u : TokenLine) (ts us : List TokenLine) → before ++ t ∷ ts ≡ after ++ u ∷ us → TwoPlaces before after t u
two_places [] [] t u ts us e = same_place refl (heads t u ts us e)
two_places [] (b ∷ after) t u ts us e = earlier after (cons_same b t after after (sym (heads t b ts (after ++ u ∷ us) e)) refl)
two_places (a ∷ before) [] t u ts us e = later before (cons_same a u before before (heads a u (before ++ t ∷ ts) us e) refl)
two_places (a ∷ before) (b ∷ after) t u ts us e = one_more_place a b before after t u (heads a b (before ++ t ∷ ts) (after ++ u ∷ us) e) (two_places before after t u ts us (tails a b (before ++ t ∷ ts) (after ++ u ∷ us) e))

-- ---- each of fine lines is fine behind those before it

no_split : (before behind : List TokenLine) (t : TokenLine) → [] ≡ before ++ t ∷ behind → ⊥
no_split [] behind t e = absurd cc
no_split (a ∷ before) behind t e = absurd cc

fine_last : (ls before behind : List TokenLine) (t u : TokenLine) → ((b c : List TokenLine) (v : TokenLine) → ls ≡ b ++ v ∷ c → IsFine b v) → IsFine ls t → TwoPlaces ls before t u → ls ++ t ∷ [] ≡ before ++ u ∷ behind → IsFine before u
fine_last ls before behind t u all f (same_place e g) s = subst (λ (b : List TokenLine). IsFine b u) e (subst (λ (v : TokenLine). IsFine ls v) g f)
fine_last ls before behind t u all f (later more e) s = all before more u e
fine_last ls before behind t u all f (earlier more e) s = absurd (no_split more behind u (nothing_behind ls more behind t u (s ∙ ap (λ (b : List TokenLine). b ++ u ∷ behind) e))) where
  nothing_behind : (ls more behind : List TokenLine) (t u : TokenLine) → ls ++ t ∷ [] ≡ (ls ++ t ∷ more) ++ u ∷ behind → [] ≡ more ++ u ∷ behind
  nothing_behind [] more behind t u e = tails t t [] (more ++ u ∷ behind) e
  nothing_behind (l ∷ ls) more behind t u e = nothing_behind ls more behind t u (tails l l (ls ++ t ∷ []) ((ls ++ t ∷ more) ++ u ∷ behind) e)

pub fine_at : {ls : List TokenLine} → AreFine ls → (before behind : List TokenLine) (t : TokenLine) → ls ≡ before ++ t ∷ behind → IsFine before t
fine_at none_fine before behind t e = absurd (no_split before behind t e)
fine_at (one_fine {ls = ls} {t = u} g f) before behind t e = fine_last ls before behind u t (fine_at g) f (two_places ls before u t [] behind e) e

-- ---- the number of a line

no_number : {ls : List TokenLine} {t : TokenLine} {n : ℕ} → IsFine ls t → Names ls t n → ⊥
no_number f (parentheses d) = let e : true ≡ false = sym d ∙ f.shallow in absurd cc
no_number f (nested a b v d) = f.flat d
no_number f (left_out a b) = let e : true ≡ false = sym b ∙ f.in_language in absurd cc
no_number f (syntax a b v) = v f.begins

differ : (b : Bool) → b ≡ true → b ≡ false → ⊥
differ b e f = let d : true ≡ false = sym e ∙ f in absurd cc

one_number : {ls : List TokenLine} {t : TokenLine} {m n : ℕ} → Names ls t m → Names ls t n → m ≡ n
one_number (parentheses d) (parentheses e) = refl
one_number (parentheses d) (nested a b v e) = refl
one_number (parentheses d) (left_out a b) = absurd (differ _ d a)
one_number (parentheses d) (syntax a b v) = absurd (differ _ d a)
one_number (nested a b v d) (parentheses e) = refl
one_number (nested a b v d) (nested e f w g) = refl
one_number (nested a b v d) (left_out e f) = absurd (differ _ f b)
one_number (nested a b v d) (syntax e f w) = absurd (w v)
one_number (left_out a b) (parentheses d) = absurd (differ _ d a)
one_number (left_out a b) (nested c d v e) = absurd (differ _ b d)
one_number (left_out a b) (left_out c d) = refl
one_number (left_out a b) (syntax c d v) = absurd (differ _ b d)
one_number (syntax a b v) (parentheses d) = absurd (differ _ d a)
one_number (syntax a b v) (nested c d w e) = absurd (v w)
one_number (syntax a b v) (left_out c d) = absurd (differ _ d b)
one_number (syntax a b v) (syntax c d w) = refl

-- ---- one refusal

record FirstLine (ls : List TokenLine) (l : Line) (n : ℕ) : Type 0 where
  before : List TokenLine
  behind : List TokenLine
  line : TokenLine
  split : ls ≡ before ++ line ∷ behind
  fine : AreFine before
  names : Names before line n
  number : line.number ≡ l

same_line : (ls : List TokenLine) (k l : Line) (m n : ℕ) (a : FirstLine ls k m) (b : FirstLine ls l n) → TwoPlaces a.before b.before a.line b.line → (k ≡ l) × (m ≡ n)
same_line ls k l m n a b (same_place e f) =
    let c : Names b.before b.line m = subst (λ (u : TokenLine). Names b.before u m) f (subst (λ (bs : List TokenLine). Names bs a.line m) e a.names) in
    (sym a.number ∙ (ap (λ (u : TokenLine). u.number) f ∙ b.number), one_number c b.names)
same_line ls k l m n a b (earlier more e) = absurd (no_number (fine_at b.fine a.before more a.line e) a.names)
same_line ls k l m n a b (later more e) = absurd (no_number (fine_at a.fine b.before more b.line e) b.names)

first_line_one : (ls : List TokenLine) (k l : Line) (m n : ℕ) → FirstLine ls k m → FirstLine ls l n → (k ≡ l) × (m ≡ n)
first_line_one ls k l m n a b = same_line ls k l m n a b (two_places a.before b.before a.line b.line a.behind b.behind (sym a.split ∙ b.split))

no_first_line : (ls : List TokenLine) (l : Line) (n : ℕ) → AreFine ls → FirstLine ls l n → ⊥
no_first_line ls l n f a = no_number (fine_at f a.before a.behind a.line a.split) a.names

-- what a refusal with a line is
data Refused (ls : List TokenLine) (ended : Bool) (end_line : Line) (l : Line) (n : ℕ) : Type 0 where
  by_line : FirstLine ls l n → Refused ls ended end_line l n
  by_end : AreFine ls → ended ≡ true → ((x : ProgramTree) → IsText ls x → ⊥) → l ≡ end_line → n ≡ 5 → Refused ls ended end_line l n
  by_no_end : AreFine ls → ended ≡ false → l ≡ end_line → n ≡ 17 → Refused ls ended end_line l n

refused_of : {ls : List TokenLine} {ended : Bool} {end_line l : Line} {n : ℕ} → IsRefusal ls ended end_line (refusals.At l n) → Refused ls ended end_line l n
refused_of (at_line before behind t split f names) = by_line (record { before = before; behind = behind; line = t; split = split; fine = f; names = names; number = refl })
refused_of (at_end f y n) = by_end f y n refl refl
refused_of (no_end f y) = by_no_end f y refl refl

one_of : (ls : List TokenLine) (ended : Bool) (end_line k l : Line) (m n : ℕ) → Refused ls ended end_line k m → Refused ls ended end_line l n → (k ≡ l) × (m ≡ n)
one_of ls ended end_line k l m n (by_line a) (by_line b) = first_line_one ls k l m n a b
one_of ls ended end_line k l m n (by_line a) (by_end f y t e g) = absurd (no_first_line ls k m f a)
one_of ls ended end_line k l m n (by_line a) (by_no_end f y e g) = absurd (no_first_line ls k m f a)
one_of ls ended end_line k l m n (by_end f y t e g) (by_line b) = absurd (no_first_line ls l n f b)
one_of ls ended end_line k l m n (by_end f y t e g) (by_end f2 y2 t2 e2 g2) = (e ∙ sym e2, g ∙ sym g2)
one_of ls ended end_line k l m n (by_end f y t e g) (by_no_end f2 y2 e2 g2) = absurd (differ ended y y2)
one_of ls ended end_line k l m n (by_no_end f y e g) (by_line b) = absurd (no_first_line ls l n f b)
one_of ls ended end_line k l m n (by_no_end f y e g) (by_end f2 y2 t2 e2 g2) = absurd (differ ended y2 y)
one_of ls ended end_line k l m n (by_no_end f y e g) (by_no_end f2 y2 e2 g2) = (e ∙ sym e2, g ∙ sym g2)

pub one_refusal : (ls : List TokenLine) (ended : Bool) (end_line k l : Line) (m n : ℕ) → IsRefusal ls ended end_line (refusals.At k m) → IsRefusal ls ended end_line (refusals.At l n) → (k ≡ l) × (m ≡ n)
one_refusal ls ended end_line k l m n a b = one_of ls ended end_line k l m n (refused_of a) (refused_of b)

no_refused : (ls : List TokenLine) (end_line l : Line) (n : ℕ) (x : ProgramTree) → IsText ls x → AreFine ls → Refused ls true end_line l n → ⊥
no_refused ls end_line l n x t f (by_line a) = no_first_line ls l n f a
no_refused ls end_line l n x t f (by_end g y none e h) = none x t
no_refused ls end_line l n x t f (by_no_end g y e h) = differ true refl y

pub fine_text_stands : (ls : List TokenLine) (end_line l : Line) (n : ℕ) (x : ProgramTree) → IsText ls x → AreFine ls → IsRefusal ls true end_line (refusals.At l n) → ⊥
fine_text_stands ls end_line l n x t f r = no_refused ls end_line l n x t f (refused_of r)
