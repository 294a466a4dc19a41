-- Items and the bits of words.
use Rattle.std.proofs.Common.{◌≡◌, ℕ, zero, suc, ◌+◌, ◌-◌, ◌*◌, ◌/◌, ◌%◌, ◌^◌, ◌<◌, ◌≤◌, min, max, true, false, not, ◌||◌, ◌&&◌, eqb, List, length, get_or, set, replicate, refl, sym, ap, ap₂, ◌∙◌, inl, inr, true≢false, arith, w64}
use Rattle.std.specs.Prelude.{bit_and, bit_or}
use Rattle.std.specs.Int.{bit_at, bit_not, trailing_zeros}
use Rattle.std.proofs.lemmas.Bool.{cases_eq, cases_lt, eq-eqb, ne_eqb}
use Rattle.std.proofs.lemmas.List.{get_or-replicate, length-replicate, get_or_past, get_or-set_same, get_or-set_other}
use Rattle.std.proofs.lemmas.Nat.{shr-shr, shr_le}
use Rattle.std.proofs.lemmas.Nat.Bits.{bit_at-lt, bit_at-zero, shr_and_one, bit_at_and, bit_at_or, bit_at_not, bit_at_above, bit_at_set_same, bit_at_set_other, bit_at-trailing_zeros}
use Rattle.fd_sets.specs.Sets.{in_words, IsLeastIn, AreNoneFrom}

-- ---- one bit

max_bits : (a b : ℕ) → a < 2 → b < 2 → eqb (max a b) 1 ≡ (eqb a 1 || eqb b 1)
max_bits zero zero p q = refl
max_bits zero (suc zero) p q = refl
max_bits zero (suc (suc b)) p q = absurd (omega arith)
max_bits (suc zero) zero p q = refl
max_bits (suc zero) (suc zero) p q = refl
max_bits (suc zero) (suc (suc b)) p q = absurd (omega arith)
max_bits (suc (suc a)) b p q = absurd (omega arith)

min_bits : (a b : ℕ) → a < 2 → b < 2 → eqb (min a b) 1 ≡ (eqb a 1 && eqb b 1)
min_bits zero zero p q = refl
min_bits zero (suc zero) p q = refl
min_bits zero (suc (suc b)) p q = absurd (omega arith)
min_bits (suc zero) zero p q = refl
min_bits (suc zero) (suc zero) p q = refl
min_bits (suc zero) (suc (suc b)) p q = absurd (omega arith)
min_bits (suc (suc a)) b p q = absurd (omega arith)

other_bit : (a : ℕ) → a < 2 → eqb (1 - a) 1 ≡ not (eqb a 1)
other_bit zero p = refl
other_bit (suc zero) p = refl
other_bit (suc (suc a)) p = absurd (omega arith)

or_bit : (a b i : ℕ) → eqb (bit_at (bit_or a b) i) 1 ≡ (eqb (bit_at a i) 1 || eqb (bit_at b i) 1)
or_bit a b i = ap (λ x. eqb x 1) (bit_at_or a b i) ∙ max_bits (bit_at a i) (bit_at b i) (bit_at-lt a i) (bit_at-lt b i)

and_bit : (a b i : ℕ) → eqb (bit_at (bit_and a b) i) 1 ≡ (eqb (bit_at a i) 1 && eqb (bit_at b i) 1)
and_bit a b i = ap (λ x. eqb x 1) (bit_at_and a b i) ∙ min_bits (bit_at a i) (bit_at b i) (bit_at-lt a i) (bit_at-lt b i)

not_bit : (a i : ℕ) → a < 2 ^ 64 → i < 64 → eqb (bit_at (bit_not w64 a) i) 1 ≡ not (eqb (bit_at a i) 1)
not_bit a i h l = ap (λ x. eqb x 1) (bit_at_not w64 a i h l) ∙ other_bit (bit_at a i) (bit_at-lt a i)

-- ---- words that are made word by word

-- new words are made of the old and of others, each of the words at the same place
abbrev pub AreMade : (ℕ → ℕ → ℕ) → List ℕ → List ℕ → List ℕ → Type 0
AreMade f new old others = (length new ≡ length old) × (length others ≡ length old) × ((k : ℕ) → k < length old → get_or new k 0 ≡ f (get_or old k 0) (get_or others k 0))

made_at : (f : ℕ → ℕ → ℕ) → f 0 0 ≡ 0 → (new old others : List ℕ) → AreMade f new old others → (k : ℕ) → get_or new k 0 ≡ f (get_or old k 0) (get_or others k 0)
made_at f e new old others m k =
    elim (cases_lt k (length old)) [
      | inl l ↦ m.2 k l
      | inr l ↦ get_or_past new k 0 (omega (arith, m.0)) ∙ (sym e ∙ sym (ap₂ f (get_or_past old k 0 (omega arith)) (get_or_past others k 0 (omega (arith, m.1)))))
    ]

pub in_or : (new old others : List ℕ) → AreMade (λ a b. bit_or a b) new old others → (q : ℕ) → in_words new q ≡ (in_words old q || in_words others q)
unfolding in_words
in_or new old others m q = ap (λ w. eqb (bit_at w (q % 64)) 1) (made_at (λ a b. bit_or a b) refl new old others m (q / 64)) ∙ or_bit (get_or old (q / 64) 0) (get_or others (q / 64) 0) (q % 64)

pub in_and : (new old others : List ℕ) → AreMade (λ a b. bit_and a b) new old others → (q : ℕ) → in_words new q ≡ (in_words old q && in_words others q)
unfolding in_words
in_and new old others m q = ap (λ w. eqb (bit_at w (q % 64)) 1) (made_at (λ a b. bit_and a b) refl new old others m (q / 64)) ∙ and_bit (get_or old (q / 64) 0) (get_or others (q / 64) 0) (q % 64)

pub in_and_not : (new old others : List ℕ) → ((k : ℕ) → get_or others k 0 < 2 ^ 64) → AreMade (λ a b. bit_and a (bit_not w64 b)) new old others → (q : ℕ) → in_words new q ≡ (in_words old q && not (in_words others q))
unfolding in_words
in_and_not new old others small m q =
    ap (λ w. eqb (bit_at w (q % 64)) 1) (made_at (λ a b. bit_and a (bit_not w64 b)) refl new old others m (q / 64))
    ∙ (and_bit (get_or old (q / 64) 0) (bit_not w64 (get_or others (q / 64) 0)) (q % 64)
    ∙ ap (λ b. eqb (bit_at (get_or old (q / 64) 0) (q % 64)) 1 && b) (not_bit (get_or others (q / 64) 0) (q % 64) (small (q / 64)) (omega arith)))

-- ---- one item

-- an item past the words is in none
pub in_past : (words : List ℕ) (q : ℕ) → length words ≤ q / 64 → in_words words q ≡ false
unfolding in_words
in_past words q h = ap (λ w. eqb (bit_at w (q % 64)) 1) (get_or_past words (q / 64) 0 h) ∙ ap (λ x. eqb x 1) (bit_at-zero (q % 64))

-- the test of an item's bit
pub in_at : (words : List ℕ) (item place : ℕ) → place ≡ item / 64 → eqb (bit_and (get_or words place 0 / 2 ^ (item % 64)) 1) 1 ≡ in_words words item
unfolding in_words
in_at words item place e = rw e (ap (λ x. eqb x 1) (shr_and_one (get_or words (item / 64) 0) (item % 64)))

-- words of no bits
pub in_none : (n q : ℕ) → in_words (replicate n 0) q ≡ false
unfolding in_words
in_none n q =
    elim (cases_lt (q / 64) n) [
      | inl l ↦ ap (λ w. eqb (bit_at w (q % 64)) 1) (get_or-replicate n (q / 64) 0 0 l) ∙ ap (λ x. eqb x 1) (bit_at-zero (q % 64))
      | inr l ↦ in_past (replicate n 0) q (omega (arith, length-replicate {A = ℕ} n 0))
    ]

-- an item that is put in
pub in_put : (words : List ℕ) (item place q : ℕ) → place ≡ item / 64 → item / 64 < length words → in_words (set words place (bit_or (get_or words place 0) (1 * 2 ^ (item % 64) % 2 ^ 64))) q ≡ (eqb item q || in_words words q)
unfolding in_words
in_put words item place q p h =
    let w : ℕ = bit_or (get_or words (item / 64) 0) (1 * 2 ^ (item % 64) % 2 ^ 64) in
    rw p (elim (cases_eq (q / 64) (item / 64)) [
      | inl e ↦ rw (e, get_or-set_same words (item / 64) w 0 h) (elim (cases_eq item q) [
        | inl k ↦ rw (k, eq-eqb q q refl) (ap (λ x. eqb x 1) (bit_at_set_same w64 (get_or words (q / 64) 0) (q % 64) (omega arith)))
        | inr k ↦ rw (ne_eqb item q k) (ap (λ x. eqb x 1) (bit_at_set_other w64 (get_or words (item / 64) 0) (item % 64) (omega arith) (q % 64) (λ m. k (omega arith))))
      ])
      | inr e ↦ rw (get_or-set_other words (item / 64) (q / 64) w 0 e, ne_eqb item q (λ k. e (omega arith))) refl
    ])

-- ---- the least item

no_bit : (words : List ℕ) (q w : ℕ) → get_or words (q / 64) 0 ≡ w → bit_at w (q % 64) ≡ 0 → in_words words q ≡ false
unfolding in_words
no_bit words q w e h = ap (λ x. eqb (bit_at x (q % 64)) 1) e ∙ ap (λ x. eqb x 1) h

has_bit : (words : List ℕ) (q place bit : ℕ) → q ≡ 64 * place + bit → bit < 64 → bit_at (get_or words place 0) bit ≡ 1 → in_words words q ≡ true
unfolding in_words
has_bit words q place bit e l h =
    let d : q / 64 ≡ place = omega arith in
    let r : q % 64 ≡ bit = omega arith in
    rw (d, r, h) refl

-- the bits of a number that is moved down
moved : (n j k b : ℕ) → j + k ≡ b → bit_at (n / 2 ^ j) k ≡ bit_at n b
moved n j k b e = ap (λ x. x % 2) (shr-shr n j k) ∙ ap (λ x. bit_at n x) e

-- no item stands from one on and before another
abbrev pub AreNoneBetween : List ℕ → ℕ → ℕ → Type 0
AreNoneBetween words from end = (q : ℕ) → from ≤ q → q < end → in_words words q ≡ false

-- a word of no bits has no item
pub none_in_word : (words : List ℕ) (place : ℕ) → get_or words place 0 ≡ 0 → AreNoneBetween words (64 * place) (64 * (place + 1))
none_in_word words place e q l h = let d : q / 64 ≡ place = omega arith in no_bit words q 0 (ap (λ k. get_or words k 0) d ∙ e) (bit_at-zero (q % 64))

pub none_in_rest : (words : List ℕ) (item place : ℕ) → place ≡ item / 64 → get_or words place 0 / 2 ^ (item % 64) ≡ 0 → AreNoneBetween words item (64 * (place + 1))
none_in_rest words item place p e q l h =
    let d : q / 64 ≡ place = omega arith in
    let k : ℕ = q % 64 - item % 64 in
    let b : item % 64 + k ≡ q % 64 = omega arith in
    no_bit words q (get_or words place 0) (ap (λ m. get_or words m 0) d) (sym (moved (get_or words place 0) (item % 64) k (q % 64) b) ∙ (ap (λ x. bit_at x k) e ∙ bit_at-zero k))

pub none_past : (words : List ℕ) (from : ℕ) → 64 * length words ≤ from → AreNoneFrom words from
none_past words from h q l = in_past words q (omega arith)

-- two stretches in which no item stands
pub none_joined : (words : List ℕ) (from next end : ℕ) → AreNoneBetween words from next → AreNoneBetween words next end → AreNoneBetween words from end
none_joined words from next end a b q l h =
    elim (cases_lt q next) [
      | inl m ↦ a q l m
      | inr m ↦ b q m h
    ]

pub none_on : (words : List ℕ) (from next : ℕ) → AreNoneBetween words from next → AreNoneFrom words next → AreNoneFrom words from
none_on words from next a b q l =
    elim (cases_lt q next) [
      | inl m ↦ a q l m
      | inr m ↦ b q m
    ]

pub least_on : (words : List ℕ) (from next item : ℕ) → from ≤ next → AreNoneBetween words from next → IsLeastIn words next item → IsLeastIn words from item
least_on words from next item l a b = (
  omega (arith, b.0),
  b.1,
  λ q m h. elim (cases_lt q next) [
    | inl k ↦ absurd (true≢false (sym h ∙ a q m k))
    | inr k ↦ b.2 q k h
  ],
)

-- the lowest bit of the rest of a word is the least item from an item on
pub least_in_rest : (words : List ℕ) (item place : ℕ) → place ≡ item / 64 → get_or words place 0 < 2 ^ 64 → 0 < get_or words place 0 / 2 ^ (item % 64)
    → let low = trailing_zeros w64 (get_or words place 0 / 2 ^ (item % 64)) in
    (item % 64 + low < 64) × IsLeastIn words item (item + low)
least_in_rest words item place p small some =
    let word : ℕ = get_or words place 0 in
    let rest : ℕ = word / 2 ^ (item % 64) in
    let low : ℕ = trailing_zeros w64 rest in
    let t = bit_at-trailing_zeros w64 rest some (omega (arith, shr_le word (item % 64))) in
    let bit : bit_at word (item % 64 + low) ≡ 1 = sym (moved word (item % 64) low (item % 64 + low) refl) ∙ t.1 in
    let inside : item % 64 + low < 64 = elim (cases_lt (item % 64 + low) 64) [
      | inl l ↦ l
      | inr l ↦ absurd (let none : bit_at word (item % 64 + low) ≡ 0 = bit_at_above word 64 (item % 64 + low) small l in omega arith)
    ] in (
      inside,
      (
        omega arith,
        has_bit words (item + low) place (item % 64 + low) (omega arith) inside bit,
        λ q l h. elim (cases_lt q (item + low)) [
          | inl m ↦ absurd (
              let d : q / 64 ≡ place = omega arith in
              let k : ℕ = q % 64 - item % 64 in
              let b : item % 64 + k ≡ q % 64 = omega arith in
              let none : bit_at rest k ≡ 0 = t.2 k (omega arith) in
              true≢false (sym h ∙ no_bit words q word (ap (λ m. get_or words m 0) d) (sym (moved word (item % 64) k (q % 64) b) ∙ none)))
          | inr m ↦ m
        ],
      ),
    )

-- the lowest bit of a word is the least item from the first of that word on
pub least_in_word : (words : List ℕ) (place : ℕ) → get_or words place 0 < 2 ^ 64 → 0 < get_or words place 0
    → let low = trailing_zeros w64 (get_or words place 0) in
    (low < 64) × IsLeastIn words (64 * place) (64 * place + low)
least_in_word words place small some =
    let word : ℕ = get_or words place 0 in
    let low : ℕ = trailing_zeros w64 word in
    let t = bit_at-trailing_zeros w64 word some small in (
      t.0,
      (
        omega arith,
        has_bit words (64 * place + low) place low refl t.0 t.1,
        λ q l h. elim (cases_lt q (64 * place + low)) [
          | inl m ↦ absurd (
              let d : q / 64 ≡ place = omega (arith, t.0) in
              let none : bit_at word (q % 64) ≡ 0 = t.2 (q % 64) (omega arith) in
              true≢false (sym h ∙ no_bit words q word (ap (λ m. get_or words m 0) d) none))
          | inr m ↦ m
        ],
      ),
    )
