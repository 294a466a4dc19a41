-- The token at the front of bytes is one, and which it is.
use Rattle.std.proofs.Common.{◌≡◌, ℕ, pos, zero, suc, ◌+◌, ◌<◌, ◌≤◌, Bool, true, false, List, [], ◌∷◌, ◌++◌, length, take, drop, get_or, refl, sym, ap, subst, ◌∙◌, append_assoc, inl, inr, ◌⊎◌, arith, Option, Some}
use Rattle.std.specs.Prelude.{IsTrue, ◌&&◌, nat_le}
use Rattle.std.specs.List.{AllByRecursion, prefix_len, take_while}
use Rattle.std.proofs.lemmas.Bool.Decides.{nat_tests}
use Rattle.std.proofs.lemmas.List.{take-append-drop, length-take, length-drop, length-append, take_at, get_or_at, get_or-take}
use Rattle.std.proofs.lemmas.List.Elements.{All-from_recursion}
use Rattle.std.proofs.lemmas.List.Sums.{take_while-cons, prefix_len_stops}
use Rattle.std.proofs.lemmas.Bool.{cases_lt}
use Rattle.fd_base.specs.Digits.{is_digit, decimal_value}
use Rattle.fd_lexer.specs.declared.token.TokenKind.{TokenKind}
use Rattle.fd_lexer.specs.declared.token.TokenKind.TheVariants as kinds
use Rattle.fd_lexer.specs.declared.token.DotWord.{DotWord}
use Rattle.fd_lexer.specs.declared.token.DotWord.TheVariants as dots
use Rattle.fd_lexer.specs.declared.token.SignKind.{SignKind}
use Rattle.fd_lexer.specs.declared.token.SignKind.TheVariants as signs
use Rattle.fd_lexer.specs.Bytes.{is_blank, is_letter, is_name_byte}
use Rattle.fd_lexer.specs.View.{upper_of, uppers}
use Rattle.fd_lexer.specs.Words.{IsName, IsNumber, IsWord, IsDotWord, sign_text, dot_name, IsFirstWord, IsQuoted, IsFront, word, text}
use Rattle.fd_lexer.specs.Tokens.{IsShort}
use Rattle.fd_lexer.specs.Segment.{NoFront}
use Rattle.fd_lexer.specs.Front.{class, NoTwo, HasDot, Tells}
use Rattle.fd_lexer.proofs.Quotes.{one_end}
use Rattle.fd_lexer.proofs.Classes.{kind_class, letter_class, digit_class, blank_class, word_begins, begins_front, front_begins, class_at, one_kind, no_words_word}

-- ---- one token is at the front

-- the same length and kind
pub record AreSame (m n : ℕ) (j k : TokenKind) : Type 0 where
  pub len : m ≡ n
  pub kind : j ≡ k

same_words : (bs : List ℕ) (m n : ℕ) (j k : TokenKind) → m ≡ n → IsWord (take m bs) j → IsWord (take n bs) k → AreSame m n j k
same_words bs m n j k e g h = record { len = e; kind = one_kind (take n bs) j k (subst (λ (i : ℕ). IsWord (take i bs) j) e g) h }

no_word_text : (bs : List ℕ) (n : ℕ) (k : TokenKind) → IsFirstWord (39 ∷ bs) n k → ⊥
no_word_text bs n k h = no_words_word (take n (39 ∷ bs)) k h.word (sym (class_at 39 bs (kind_class k) (begins_front n (39 ∷ bs) (kind_class k) (word_begins (take n (39 ∷ bs)) k h.word))))

same_text : (bs : List ℕ) (m n : ℕ) → m ≤ length bs → n ≤ length bs → drop m bs ≡ drop n bs → m ≡ n
same_text bs m n g h e = omega (arith, g, h, ap length e, length-drop m bs, length-drop n bs)

pub one_front : {bs : List ℕ} {m n : ℕ} {j k : TokenKind} → IsFront bs m j → IsFront bs n k → AreSame m n j k
one_front {bs = bs} {m = m} {n = n} {j = j} {k = k} (word g) (word h) = same_words bs m n j k (omega (arith, g.longest n k h.within h.word, h.longest m j g.within g.word)) g.word h.word
one_front {m = m} {j = j} (word g) (text {bs = bs} l q) = absurd (no_word_text bs m j g)
one_front {n = n} {k = k} (text {bs = bs} l q) (word h) = absurd (no_word_text bs n k h)
one_front (text {bs = bs} {n = m} l q) (text {n = n} i r) = record { len = ap (λ (x : ℕ). x + 1) (same_text bs m n l i (one_end r q)); kind = refl }

blank_kind : (k : TokenKind) → 5 ≡ kind_class k → ⊥
blank_kind kinds.Name e = absurd cc
blank_kind (kinds.Num z) e = absurd cc
blank_kind (kinds.Dot d) e = absurd cc
blank_kind (kinds.Sign s) e = absurd cc
blank_kind kinds.Words e = absurd cc
blank_kind kinds.LineEnd e = absurd cc

pub blank_no_front : {b : ℕ} {bs : List ℕ} {n : ℕ} {k : TokenKind} → is_blank b ≡ true → IsFront (b ∷ bs) n k → ⊥
blank_no_front {b = b} {bs = bs} {n = n} {k = k} e f = blank_kind k (sym (blank_class b e) ∙ class_at b bs (kind_class k) (front_begins f))

pub nothing_no_front : {n : ℕ} {k : TokenKind} → IsFront [] n k → ⊥
nothing_no_front f = let g = front_begins f in let e = g.is in absurd cc

-- a token has a byte at least, and they are there
pub record FitsIn (n : ℕ) (bs : List ℕ) : Type 0 where
  pub some : 0 < n
  pub within : n ≤ length bs

no_empty : (bs : List ℕ) (n : ℕ) (k : TokenKind) → IsWord (take n bs) k → 0 < n
no_empty bs zero k h = let e = (word_begins [] k h).is in absurd cc
no_empty bs (suc n) k h = omega arith

pub front_fits : {bs : List ℕ} {n : ℕ} {k : TokenKind} → IsFront bs n k → FitsIn n bs
front_fits {bs = bs} {n = n} {k = k} (word h) = record { some = no_empty bs n k h.word; within = h.within }
front_fits (text l q) = record { some = omega arith; within = omega (arith, l) }

-- ---- a front of bytes that pass a test

while_cons_yes : (p : ℕ → Bool) (x : ℕ) (xs : List ℕ) → p x ≡ true → take_while p (x ∷ xs) ≡ x ∷ take_while p xs
while_cons_yes p x xs e = rw (take_while-cons p x xs, e) refl

while_cons_no : (p : ℕ → Bool) (x : ℕ) (xs : List ℕ) → p x ≡ false → take_while p (x ∷ xs) ≡ []
while_cons_no p x xs e = rw (take_while-cons p x xs, e) refl

pub cases_of : (b : Bool) → (b ≡ true) ⊎ (b ≡ false)
cases_of true = inl refl
cases_of false = inr refl

while_all : (p : ℕ → Bool) (xs : List ℕ) → AllByRecursion (λ c. IsTrue (p c)) (take_while p xs)
while_all p [] = tt
while_all p (x ∷ xs) = elim (cases_of (p x)) [
  | inl e ↦ rw (while_cons_yes p x xs e) (e, while_all p xs)
  | inr e ↦ rw (while_cons_no p x xs e) tt
]

prefix_within : (p : ℕ → Bool) (xs : List ℕ) → prefix_len p xs ≤ length xs
prefix_within p [] = omega arith
prefix_within p (x ∷ xs) = elim (cases_of (p x)) [
  | inl e ↦ rw e (omega (arith, prefix_within p xs))
  | inr e ↦ rw e (omega arith)
]

-- no longer front passes
prefix_longest : (p : ℕ → Bool) (xs : List ℕ) (m : ℕ) → m ≤ length xs → AllByRecursion (λ c. IsTrue (p c)) (take m xs) → m ≤ prefix_len p xs
prefix_longest p xs m le h = elim (cases_lt (prefix_len p xs) m) [
  | inl lt ↦
      let stops = prefix_len_stops p xs 0 (omega (arith, lt, le)) in
      let passes = All-from_recursion (λ c. IsTrue (p c)) (take m xs) h (prefix_len p xs) 0 (omega (arith, length-take m xs, lt, le)) in
      let same = get_or-take m xs (prefix_len p xs) 0 lt in
      let e : true ≡ false = sym passes ∙ (ap p same ∙ stops) in
      absurd cc
  | inr ge ↦ ge
]

prefix_at : (p : ℕ → Bool) (xs : List ℕ) (y : ℕ) (ys : List ℕ) → AllByRecursion (λ c. IsTrue (p c)) xs → p y ≡ false → prefix_len p (xs ++ y ∷ ys) ≡ length xs
prefix_at p [] y ys h e = rw e refl
prefix_at p (x ∷ xs) y ys h e = rw h.0 (omega (arith, prefix_at p xs y ys h.1 e))

-- ---- names and numbers

only_name : (w : List ℕ) (k : TokenKind) → 0 ≡ kind_class k → IsWord w k → IsName w
only_name w kinds.Name e h = h
only_name w (kinds.Num z) e h = absurd cc
only_name w (kinds.Dot d) e h = absurd cc
only_name w (kinds.Sign s) e h = absurd cc
only_name w kinds.Words e h = absurd h
only_name w kinds.LineEnd e h = absurd h

only_number : (w : List ℕ) (k : TokenKind) → 1 ≡ kind_class k → IsWord w k → IsNumber w
only_number w (kinds.Num z) e h = h.0
only_number w kinds.Name e h = absurd cc
only_number w (kinds.Dot d) e h = absurd cc
only_number w (kinds.Sign s) e h = absurd cc
only_number w kinds.Words e h = absurd h
only_number w kinds.LineEnd e h = absurd h

letter_name : (b : ℕ) → is_letter b ≡ true → is_name_byte b ≡ true
letter_name b e = rw e refl

name_bytes : (w : List ℕ) → IsName w → AllByRecursion (λ c. IsTrue (is_name_byte c)) w
name_bytes [] h = absurd h
name_bytes (b ∷ bs) h = (letter_name b h.0, h.1)

number_bytes : (w : List ℕ) → IsNumber w → AllByRecursion (λ c. IsTrue (is_digit c)) w
number_bytes [] h = absurd h
number_bytes (b ∷ bs) h = h

word_class : (b : ℕ) (bs : List ℕ) (m : ℕ) (j : TokenKind) → IsWord (take m (b ∷ bs)) j → class b ≡ kind_class j
word_class b bs m j h = class_at b bs (kind_class j) (begins_front m (b ∷ bs) (kind_class j) (word_begins (take m (b ∷ bs)) j h))

pub name_first : (b : ℕ) (bs : List ℕ) → is_letter b ≡ true → IsFirstWord (b ∷ bs) (prefix_len is_name_byte (b ∷ bs)) kinds.Name
name_first b bs l =
    let w : IsName (b ∷ take_while is_name_byte bs) = (l, while_all is_name_byte bs) in
    record {
      within = prefix_within is_name_byte (b ∷ bs);
      word = rw (while_cons_yes is_name_byte b bs (letter_name b l)) w;
      longest = λ m j le h. prefix_longest is_name_byte (b ∷ bs) m le (name_bytes (take m (b ∷ bs)) (only_name (take m (b ∷ bs)) j (sym (letter_class b l) ∙ word_class b bs m j h) h));
    }

pub number_first : (b : ℕ) (bs : List ℕ) → is_digit b ≡ true → IsFirstWord (b ∷ bs) (prefix_len is_digit (b ∷ bs)) (kinds.Num (pos (decimal_value (take (prefix_len is_digit (b ∷ bs)) (b ∷ bs)))))
number_first b bs d =
    let w : IsNumber (b ∷ take_while is_digit bs) = (d, while_all is_digit bs) in
    record {
      within = prefix_within is_digit (b ∷ bs);
      word = (rw (while_cons_yes is_digit b bs d) w, refl);
      longest = λ m j le h. prefix_longest is_digit (b ∷ bs) m le (number_bytes (take m (b ∷ bs)) (only_number (take m (b ∷ bs)) j (sym (digit_class b d) ∙ word_class b bs m j h) h));
    }

-- ---- dot words

abbrev is_capital : ℕ → Bool
is_capital b = nat_le 65 b && nat_le b 90

abbrev are_capitals : List ℕ → Bool
are_capitals [] = true
are_capitals (b ∷ bs) = is_capital b && are_capitals bs

dot_capitals : (d : DotWord) → are_capitals (dot_name d) ≡ true
dot_capitals dots.Eq = refl
dot_capitals dots.Ne = refl
dot_capitals dots.Lt = refl
dot_capitals dots.Le = refl
dot_capitals dots.Gt = refl
dot_capitals dots.Ge = refl
dot_capitals dots.And = refl
dot_capitals dots.Or = refl
dot_capitals dots.Not = refl
dot_capitals dots.IsTrue = refl
dot_capitals dots.IsFalse = refl

capital_letter : (b : ℕ) → is_capital (upper_of b) ≡ true → is_letter b ≡ true
capital_letter b e = grind (arith, nat_tests)

both_true : (a b : Bool) → a && b ≡ true → (a ≡ true) × (b ≡ true)
both_true true true e = (refl, refl)
both_true true false e = absurd cc
both_true false b e = absurd cc

capital_letters : (ls : List ℕ) → are_capitals (uppers ls) ≡ true → AllByRecursion (λ c. IsTrue (is_letter c)) ls
capital_letters [] e = tt
capital_letters (b ∷ bs) e = let p = both_true (is_capital (upper_of b)) (are_capitals (uppers bs)) e in (capital_letter b p.0, capital_letters bs p.1)

only_dot : (w : List ℕ) (k : TokenKind) → 2 ≡ kind_class k → IsWord w k → (d : DotWord) × IsDotWord w d
only_dot w (kinds.Dot d) e h = (d, h)
only_dot w kinds.Name e h = absurd cc
only_dot w (kinds.Num z) e h = absurd cc
only_dot w (kinds.Sign s) e h = absurd cc
only_dot w kinds.Words e h = absurd h
only_dot w kinds.LineEnd e h = absurd h

-- a dot word at the front ends behind the letters
record DotAt (rest : List ℕ) (m : ℕ) (d : DotWord) : Type 0 where
  has : HasDot rest (prefix_len is_letter rest) d
  len : m ≡ prefix_len is_letter rest + 2

tail_is : (xs ys : List ℕ) → 46 ∷ xs ≡ 46 ∷ ys → xs ≡ ys
tail_is xs ys e = ap (λ (w : List ℕ). drop 1 w) e

dot_rest : (ls tail : List ℕ) (d : DotWord) → uppers ls ≡ dot_name d → HasDot (ls ++ 46 ∷ tail) (length ls) d
dot_rest ls tail d e = record {
  within = omega (arith, length-append ls (46 ∷ tail));
  dot = get_or_at ls 46 tail 0 (length ls) refl;
  name = rw (take_at ls (46 ∷ tail) (length ls) refl) e;
}

dot_letters : (ls tail : List ℕ) (d : DotWord) → uppers ls ≡ dot_name d → prefix_len is_letter (ls ++ 46 ∷ tail) ≡ length ls
dot_letters ls tail d e = prefix_at is_letter ls 46 tail (capital_letters ls (ap are_capitals e ∙ dot_capitals d)) refl

dot_at : (rest : List ℕ) (m : ℕ) (d : DotWord) → m ≤ length rest + 1 → IsDotWord (take m (46 ∷ rest)) d → DotAt rest m d
dot_at rest m d le h =
    let tail = drop m (46 ∷ rest) in
    let whole : 46 ∷ rest ≡ 46 ∷ ((h.0 ++ 46 ∷ []) ++ tail) = sym (take-append-drop m (46 ∷ rest)) ∙ ap (λ (w : List ℕ). w ++ tail) h.1 in
    let r : rest ≡ h.0 ++ 46 ∷ tail = tail_is rest ((h.0 ++ 46 ∷ []) ++ tail) whole ∙ append_assoc h.0 (46 ∷ []) tail in
    let n : prefix_len is_letter rest ≡ length h.0 = rw r (dot_letters h.0 tail d h.2) in
    record {
      has = rw n (subst (λ (w : List ℕ). HasDot w (length h.0) d) (sym r) (dot_rest h.0 tail d h.2));
      len = omega (arith, n, length-take m (46 ∷ rest), ap length h.1, length-append h.0 (46 ∷ []), le);
    }

word_dot : (rest : List ℕ) (m : ℕ) (j : TokenKind) → m ≤ length rest + 1 → IsWord (take m (46 ∷ rest)) j → (d : DotWord) × DotAt rest m d
word_dot rest m j le h =
    let q = only_dot (take m (46 ∷ rest)) j (word_class 46 rest m j h) h in
    (q.0, dot_at rest m q.0 le q.1)

take_two : (rest : List ℕ) (n : ℕ) → n < length rest → get_or rest n 0 ≡ 46 → take (n + 2) (46 ∷ rest) ≡ 46 ∷ (take n rest ++ 46 ∷ [])
take_two rest n lt e =
    let k : n + 2 ≡ suc (suc n) = omega arith in
    let m : take (suc n) rest ≡ take n rest ++ get_or rest n 0 ∷ [] = take_suc rest n 0 lt in
    rw k (ap (λ (w : List ℕ). 46 ∷ w) (m ∙ ap (λ (b : ℕ). take n rest ++ b ∷ []) e))
  where
    take_suc : (xs : List ℕ) (i d : ℕ) → i < length xs → take (suc i) xs ≡ take i xs ++ get_or xs i d ∷ []
    take_suc [] i d h = absurd (omega (arith, h))
    take_suc (x ∷ xs) zero d h = refl
    take_suc (x ∷ xs) (suc i) d h = ap (λ (w : List ℕ). x ∷ w) (take_suc xs i d (omega (arith, h)))

pub dot_first : (rest : List ℕ) (n : ℕ) (d : DotWord) → n ≡ prefix_len is_letter rest → HasDot rest n d → IsFirstWord (46 ∷ rest) (n + 2) (kinds.Dot d)
dot_first rest n d e h = record {
  within = omega (arith, h.within);
  word = (take n rest, take_two rest n h.within h.dot, h.name);
  longest = λ m j le w. omega (arith, e, (word_dot rest m j (omega (arith, le)) w).1.len);
}

pub no_dot : (rest : List ℕ) (n : ℕ) → n ≡ prefix_len is_letter rest → ((d : DotWord) → HasDot rest n d → ⊥) → (m : ℕ) (j : TokenKind) → IsFront (46 ∷ rest) m j → ⊥
no_dot rest n e none m j (word h) = let q = word_dot rest m j (omega (arith, h.within)) h.word in none q.0 (rw e q.1.has)

-- ---- signs

only_sign : (w : List ℕ) (k : TokenKind) → 3 ≡ kind_class k → IsWord w k → (s : SignKind) × (w ≡ sign_text s)
only_sign w (kinds.Sign s) e h = (s, h)
only_sign w kinds.Name e h = absurd cc
only_sign w (kinds.Num z) e h = absurd cc
only_sign w (kinds.Dot d) e h = absurd cc
only_sign w kinds.Words e h = absurd h
only_sign w kinds.LineEnd e h = absurd h

sign_len : (s : SignKind) → length (sign_text s) ≤ 2
sign_len signs.ParLeft = omega arith
sign_len signs.ParRight = omega arith
sign_len signs.Comma = omega arith
sign_len signs.Colon = omega arith
sign_len signs.Equal = omega arith
sign_len signs.Plus = omega arith
sign_len signs.Minus = omega arith
sign_len signs.Star = omega arith
sign_len signs.Slash = omega arith
sign_len signs.StarStar = omega arith
sign_len signs.EqEq = omega arith
sign_len signs.SlashEq = omega arith
sign_len signs.Less = omega arith
sign_len signs.LessEq = omega arith
sign_len signs.Greater = omega arith
sign_len signs.GreaterEq = omega arith

word_sign : (b : ℕ) (bs : List ℕ) (m : ℕ) (j : TokenKind) → class b ≡ 3 → IsWord (take m (b ∷ bs)) j → (s : SignKind) × (take m (b ∷ bs) ≡ sign_text s)
word_sign b bs m j e h = only_sign (take m (b ∷ bs)) j (sym e ∙ word_class b bs m j h) h

sign_short : (b : ℕ) (bs : List ℕ) (m : ℕ) (s : SignKind) → m ≤ length (b ∷ bs) → take m (b ∷ bs) ≡ sign_text s → m ≤ 2
sign_short b bs m s le e = omega (arith, le, length-take m (b ∷ bs), ap length e, sign_len s)

pub two_first : (b c : ℕ) (bs : List ℕ) (s : SignKind) → class b ≡ 3 → b ∷ (c ∷ []) ≡ sign_text s → IsFirstWord (b ∷ (c ∷ bs)) 2 (kinds.Sign s)
two_first b c bs s k e = record {
  within = omega arith;
  word = e;
  longest = λ m j le h. let q = word_sign b (c ∷ bs) m j k h in sign_short b (c ∷ bs) m q.0 le q.1;
}

-- where no sign has two bytes, a sign has one
sign_one : (b : ℕ) (bs : List ℕ) (m : ℕ) (s : SignKind) → NoTwo b bs → m ≤ length (b ∷ bs) → take m (b ∷ bs) ≡ sign_text s → m ≤ 1
sign_one b bs zero s n le e = omega arith
sign_one b bs (suc zero) s n le e = omega arith
sign_one b [] (suc (suc m)) s n le e = absurd (omega (arith, le))
sign_one b (c ∷ bs) (suc (suc zero)) s n le e = absurd (n s e)
sign_one b (c ∷ bs) (suc (suc (suc m))) s n le e = absurd (omega (arith, sign_short b (c ∷ bs) (suc (suc (suc m))) s le e))

pub one_first : (b : ℕ) (bs : List ℕ) (s : SignKind) → class b ≡ 3 → NoTwo b bs → b ∷ [] ≡ sign_text s → IsFirstWord (b ∷ bs) 1 (kinds.Sign s)
one_first b bs s k n e = record {
  within = omega arith;
  word = e;
  longest = λ m j le h. let q = word_sign b bs m j k h in sign_one b bs m q.0 n le q.1;
}

sign_text_some : (b : ℕ) (bs : List ℕ) (m : ℕ) (s : SignKind) → NoTwo b bs → ((t : SignKind) → b ∷ [] ≡ sign_text t → ⊥) → m ≤ length (b ∷ bs) → 0 < m → take m (b ∷ bs) ≡ sign_text s → ⊥
sign_text_some b bs zero s n one le lt e = omega (arith, lt)
sign_text_some b bs (suc zero) s n one le lt e = one s e
sign_text_some b bs (suc (suc m)) s n one le lt e = absurd (omega (arith, sign_one b bs (suc (suc m)) s n le e))

no_sign_text : (b : ℕ) (bs : List ℕ) (k : ℕ) → class b ≡ 3 → b ≡ 39 → ⊥
no_sign_text b bs k e f = let g : class 39 ≡ 3 = subst (λ (x : ℕ). class x ≡ 3) f e in absurd cc

pub no_sign : {b : ℕ} {bs : List ℕ} {m : ℕ} {j : TokenKind} → class b ≡ 3 → NoTwo b bs → ((t : SignKind) → b ∷ [] ≡ sign_text t → ⊥) → IsFront (b ∷ bs) m j → ⊥
no_sign {b = b} {bs = bs} {m = m} {j = j} k n one (word h) = let q = word_sign b bs m j k h.word in sign_text_some b bs m q.0 n one h.within (no_empty (b ∷ bs) m j h.word) q.1
no_sign k n one (text l q) = absurd cc

-- ---- quoted texts

pub no_quoted : {bs : List ℕ} {m : ℕ} {j : TokenKind} → ((rest : List ℕ) → IsQuoted bs rest → ⊥) → IsFront (39 ∷ bs) m j → ⊥
no_quoted {bs = bs} {m = m} {j = j} none (word h) = no_word_text bs m j h
no_quoted none (text {bs = bs} {n = n} l q) = none (drop n bs) q

-- ---- the same, where the bytes are known by an equation

pub letter_front : (bs : List ℕ) (b : ℕ) (rest : List ℕ) (n : ℕ) → bs ≡ b ∷ rest → is_letter b ≡ true → n ≡ prefix_len is_name_byte bs → IsFront bs n kinds.Name
letter_front bs b rest n e l h = rw (h, e) (word (name_first b rest l))

pub digit_front : (bs : List ℕ) (b : ℕ) (rest : List ℕ) (n : ℕ) (digits : List ℕ) → bs ≡ b ∷ rest → is_digit b ≡ true → n ≡ prefix_len is_digit bs → digits ≡ take n bs → IsFront bs n (kinds.Num (pos (decimal_value digits)))
digit_front bs b rest n digits e d h t = rw (t, h, e) (word (number_first b rest d))

long_one : (bs : List ℕ) (len n : ℕ) (k : TokenKind) → AreSame n len k kinds.Name → 31 < len → IsShort k n → ⊥
long_one bs len n k g lt s = let t : IsShort kinds.Name n = subst (λ (j : TokenKind). IsShort j n) g.kind s in omega (arith, lt, t, g.len)

long_at : (bs : List ℕ) (len : ℕ) (k : TokenKind) → IsFront bs len k → k ≡ kinds.Name → 31 < len → NoFront bs
long_at bs len k f e lt n j g s = long_one bs len n j (one_front g (subst (λ (i : TokenKind). IsFront bs len i) e f)) lt s

-- a name that is too long is the only token at the front
pub long_name : (bs : List ℕ) (len : ℕ) (o : Option TokenKind) (kind : TokenKind) → ((k : TokenKind) × IsFront bs len k × Tells o k) → o ≡ Some kind → kind ≡ kinds.Name → 31 < len → NoFront bs
long_name bs len o kind t e h lt =
    let u : Tells (Some kind) t.0 = subst (λ (x : Option TokenKind). Tells x t.0) e t.2 in
    long_at bs len t.0 t.1 (sym u.0 ∙ h) lt
