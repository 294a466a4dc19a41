-- A first byte tells the kind of a token, and a word has one kind.
use Rattle.std.proofs.Common.{◌≡◌, ◌≢◌, ℕ, true, false, List, [], ◌∷◌, ◌++◌, take, drop, sum, refl, sym, ap, ◌∙◌, arith}
use Rattle.std.specs.Prelude.{if◌then◌else◌, ◌==◌}
use Rattle.std.proofs.lemmas.Bool.Decides.{nat_tests}
use Rattle.std.proofs.lemmas.List.{take-append-drop, append_cancel_right}
use Rattle.fd_base.specs.Digits.{is_digit}
use Rattle.fd_lexer.specs.declared.token.TokenKind.{TokenKind}
use Rattle.fd_lexer.specs.declared.token.TokenKind.TheVariants as kinds
use Rattle.fd_lexer.specs.declared.token.DotWord.{DotWord}
use Rattle.fd_lexer.specs.declared.token.DotWord.TheVariants as dots
use Rattle.fd_lexer.specs.declared.token.SignKind.{SignKind}
use Rattle.fd_lexer.specs.declared.token.SignKind.TheVariants as signs
use Rattle.fd_lexer.specs.Bytes.{is_blank, is_letter}
use Rattle.fd_lexer.specs.Front.{class}
use Rattle.fd_lexer.specs.Words.{IsWord, IsDotWord, sign_text, dot_name, IsFront, word, text}

abbrev pub kind_class : TokenKind → ℕ
kind_class kinds.Name = 0
kind_class (kinds.Num z) = 1
kind_class (kinds.Dot d) = 2
kind_class (kinds.Sign s) = 3
kind_class kinds.Words = 4
kind_class kinds.LineEnd = 6

pub letter_class : (b : ℕ) → is_letter b ≡ true → class b ≡ 0
letter_class b e = let n : is_blank b ≡ false = grind (arith, nat_tests) in rw (n, e) refl

pub digit_class : (b : ℕ) → is_digit b ≡ true → class b ≡ 1
digit_class b e =
    let n : is_blank b ≡ false = grind (arith, nat_tests) in
    let m : is_letter b ≡ false = grind (arith, nat_tests) in
    rw (n, m, e) refl

pub blank_class : (b : ℕ) → is_blank b ≡ true → class b ≡ 5
blank_class b e = rw e refl

pub other_class : (b : ℕ) → is_blank b ≡ false → is_letter b ≡ false → is_digit b ≡ false → b ≢ 46 → b ≢ 39 → class b ≡ 3
other_class b h l d n m =
    let p : (b == 46) ≡ false = grind (arith, nat_tests) in
    let q : (b == 39) ≡ false = grind (arith, nat_tests) in
    rw (h, l, d, p, q) refl

-- the bytes begin with one of this class
pub record Begins (bs : List ℕ) (c : ℕ) : Type 0 where
  pub byte : ℕ
  pub more : List ℕ
  pub is : bs ≡ byte ∷ more
  pub class_is : class byte ≡ c

begins : (b : ℕ) (bs : List ℕ) (c : ℕ) → class b ≡ c → Begins (b ∷ bs) c
begins b bs c e = record { byte = b; more = bs; is = refl; class_is = e }

sign_begins : (s : SignKind) → Begins (sign_text s) 3
sign_begins signs.ParLeft = begins 40 [] 3 refl
sign_begins signs.ParRight = begins 41 [] 3 refl
sign_begins signs.Comma = begins 44 [] 3 refl
sign_begins signs.Colon = begins 58 [] 3 refl
sign_begins signs.Equal = begins 61 [] 3 refl
sign_begins signs.Plus = begins 43 [] 3 refl
sign_begins signs.Minus = begins 45 [] 3 refl
sign_begins signs.Star = begins 42 [] 3 refl
sign_begins signs.Slash = begins 47 [] 3 refl
sign_begins signs.StarStar = begins 42 (42 ∷ []) 3 refl
sign_begins signs.EqEq = begins 61 (61 ∷ []) 3 refl
sign_begins signs.SlashEq = begins 47 (61 ∷ []) 3 refl
sign_begins signs.Less = begins 60 [] 3 refl
sign_begins signs.LessEq = begins 60 (61 ∷ []) 3 refl
sign_begins signs.Greater = begins 62 [] 3 refl
sign_begins signs.GreaterEq = begins 62 (61 ∷ []) 3 refl

pub word_begins : (w : List ℕ) (k : TokenKind) → IsWord w k → Begins w (kind_class k)
word_begins [] kinds.Name h = absurd h
word_begins (b ∷ bs) kinds.Name h = begins b bs 0 (letter_class b h.0)
word_begins [] (kinds.Num z) h = absurd h.0
word_begins (b ∷ bs) (kinds.Num z) h = begins b bs 1 (digit_class b h.0.0)
word_begins w (kinds.Dot d) h = record { byte = 46; more = h.0 ++ 46 ∷ []; is = h.1; class_is = refl }
word_begins w (kinds.Sign s) h = let g = sign_begins s in record { byte = g.byte; more = g.more; is = h ∙ g.is; class_is = g.class_is }
word_begins w kinds.Words h = absurd h
word_begins w kinds.LineEnd h = absurd h

-- what the front begins with, the bytes begin with
pub begins_front : (n : ℕ) (bs : List ℕ) (c : ℕ) → Begins (take n bs) c → Begins bs c
begins_front n bs c g = record {
  byte = g.byte;
  more = g.more ++ drop n bs;
  is = sym (take-append-drop n bs) ∙ ap (λ (w : List ℕ). w ++ drop n bs) g.is;
  class_is = g.class_is;
}

pub front_begins : {bs : List ℕ} {n : ℕ} {k : TokenKind} → IsFront bs n k → Begins bs (kind_class k)
front_begins {bs = bs} {n = n} {k = k} (word h) = begins_front n bs (kind_class k) (word_begins (take n bs) k h.word)
front_begins (text {bs = bs} h q) = begins 39 bs 4 refl

pub same_class : (bs : List ℕ) (c d : ℕ) → Begins bs c → Begins bs d → c ≡ d
same_class bs c d g h =
    let e : g.byte ∷ g.more ≡ h.byte ∷ h.more = sym g.is ∙ h.is in
    let f : g.byte ≡ h.byte = cc in
    sym g.class_is ∙ (ap class f ∙ h.class_is)

pub class_at : (b : ℕ) (bs : List ℕ) (c : ℕ) → Begins (b ∷ bs) c → class b ≡ c
class_at b bs c g = same_class (b ∷ bs) (class b) c (begins b bs (class b) refl) g

-- ---- a word has one kind

-- the words are told apart by the sums of their bytes
dot_from : ℕ → DotWord
dot_from n =
    if n == 150 then dots.Eq else
    (if n == 147 then dots.Ne else
    (if n == 160 then dots.Lt else
    (if n == 145 then dots.Le else
    (if n == 155 then dots.Gt else
    (if n == 140 then dots.Ge else
    (if n == 211 then dots.And else
    (if n == 161 then dots.Or else
    (if n == 241 then dots.Not else
    (if n == 320 then dots.IsTrue else dots.IsFalse)))))))))

dot_back : (d : DotWord) → dot_from (sum (dot_name d)) ≡ d
unfolding dot_from
dot_back dots.Eq = refl
dot_back dots.Ne = refl
dot_back dots.Lt = refl
dot_back dots.Le = refl
dot_back dots.Gt = refl
dot_back dots.Ge = refl
dot_back dots.And = refl
dot_back dots.Or = refl
dot_back dots.Not = refl
dot_back dots.IsTrue = refl
dot_back dots.IsFalse = refl

pub one_dot : (d e : DotWord) → dot_name d ≡ dot_name e → d ≡ e
one_dot d e h = sym (dot_back d) ∙ (ap (λ (w : List ℕ). dot_from (sum w)) h ∙ dot_back e)

sign_from : ℕ → SignKind
sign_from n =
    if n == 40 then signs.ParLeft else
    (if n == 41 then signs.ParRight else
    (if n == 44 then signs.Comma else
    (if n == 58 then signs.Colon else
    (if n == 61 then signs.Equal else
    (if n == 43 then signs.Plus else
    (if n == 45 then signs.Minus else
    (if n == 42 then signs.Star else
    (if n == 47 then signs.Slash else
    (if n == 84 then signs.StarStar else
    (if n == 122 then signs.EqEq else
    (if n == 108 then signs.SlashEq else
    (if n == 60 then signs.Less else
    (if n == 121 then signs.LessEq else
    (if n == 62 then signs.Greater else signs.GreaterEq))))))))))))))

sign_back : (s : SignKind) → sign_from (sum (sign_text s)) ≡ s
unfolding sign_from
sign_back signs.ParLeft = refl
sign_back signs.ParRight = refl
sign_back signs.Comma = refl
sign_back signs.Colon = refl
sign_back signs.Equal = refl
sign_back signs.Plus = refl
sign_back signs.Minus = refl
sign_back signs.Star = refl
sign_back signs.Slash = refl
sign_back signs.StarStar = refl
sign_back signs.EqEq = refl
sign_back signs.SlashEq = refl
sign_back signs.Less = refl
sign_back signs.LessEq = refl
sign_back signs.Greater = refl
sign_back signs.GreaterEq = refl

pub one_sign : (s t : SignKind) → sign_text s ≡ sign_text t → s ≡ t
one_sign s t h = sym (sign_back s) ∙ (ap (λ (w : List ℕ). sign_from (sum w)) h ∙ sign_back t)

same_letters : (ls ms : List ℕ) → 46 ∷ (ls ++ 46 ∷ []) ≡ 46 ∷ (ms ++ 46 ∷ []) → ls ≡ ms
same_letters ls ms e =
    let f : ls ++ 46 ∷ [] ≡ ms ++ 46 ∷ [] = ap (λ (w : List ℕ). drop 1 w) e in
    append_cancel_right ls ms (46 ∷ []) f

dot_one : (w : List ℕ) (d e : DotWord) → IsDotWord w d → IsDotWord w e → d ≡ e
dot_one w d e g h =
    let s : g.0 ≡ h.0 = same_letters g.0 h.0 (sym g.1 ∙ h.1) in
    one_dot d e (sym g.2 ∙ (rw s h.2))

no_kind : (m n : ℕ) → m ≡ n → m ≢ n → ⊥
no_kind m n e h = h e

kind_one : (w : List ℕ) (k j : TokenKind) → kind_class k ≡ kind_class j → IsWord w k → IsWord w j → k ≡ j
kind_one w kinds.Name kinds.Name e g h = refl
kind_one w (kinds.Num y) (kinds.Num z) e g h = ap kinds.Num (g.1 ∙ sym h.1)
kind_one w (kinds.Dot c) (kinds.Dot d) e g h = ap kinds.Dot (dot_one w c d g h)
kind_one w (kinds.Sign s) (kinds.Sign t) e g h = ap kinds.Sign (one_sign s t (sym g ∙ h))
kind_one w kinds.Words j e g h = absurd g
kind_one w kinds.LineEnd j e g h = absurd g
kind_one w k j e g h = absurd cc

pub one_kind : (w : List ℕ) (k j : TokenKind) → IsWord w k → IsWord w j → k ≡ j
one_kind w k j g h = kind_one w k j (same_class w (kind_class k) (kind_class j) (word_begins w k g) (word_begins w j h)) g h

pub no_words_word : (w : List ℕ) (k : TokenKind) → IsWord w k → kind_class k ≡ 4 → ⊥
no_words_word w kinds.Words h e = h
no_words_word w kinds.LineEnd h e = h
no_words_word w k h e = absurd cc
