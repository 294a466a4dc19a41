-- The numbers of a loop's variable, one after the other.
use Rattle.std.proofs.Common.{◌≡◌, ℕ, zero, suc, ◌+◌, ◌<◌, ◌≤◌, ℤ, pos, ◌+ℤ◌, ◌*ℤ◌, true, cond, List, [], ◌∷◌, ◌++◌, map, flat_map, length, refl, ap, ◌∙◌, arith, length-append}
use Rattle.std.specs.List.{range_with_len, take_while}
use Rattle.std.proofs.Math.IntN.{suc_ℤ-*ℤ, zero-*ℤ}
use Rattle.std.proofs.lemmas.Grind.{flat_map-append}
use Rattle.std.proofs.lemmas.Int.{ints}
use Rattle.std.proofs.lemmas.List.FromFn.{map-range_with_len_more}
use Rattle.std.proofs.lemmas.List.Sums.{take_while-cons}
use Rattle.fd_base.specs.Numbers.{fits_i64}
use Rattle.fd_prog.specs.Items.{LinearLoop}
use Rattle.fd_prog.specs.Needs.{iterations_inside}
use Rattle.fd_prog.specs.Values.{Readings}

-- the number of the variable in an iteration
abbrev pub number_of : ℤ → ℤ → ℕ → ℤ
number_of first by k = first +ℤ pos k *ℤ by

pub number-first : (first by : ℤ) → number_of first by 0 ≡ first
number-first first by = at (pos 0 *ℤ by) (zero-*ℤ by)
  where
    at : (z : ℤ) → z ≡ pos 0 → first +ℤ z ≡ first
    at z e = omega (arith, ints)

pub number-next : (first by : ℤ) (k : ℕ) → number_of first by k +ℤ by ≡ number_of first by (suc k)
number-next first by k = at (pos k *ℤ by) (pos (suc k) *ℤ by) (suc_ℤ-*ℤ (pos k) by)
  where
    at : (y z : ℤ) → z ≡ y +ℤ by → first +ℤ y +ℤ by ≡ first +ℤ z
    at y z e = omega (arith, ints)

-- so many of them from one on
abbrev pub numbers_between : ℤ → ℤ → ℕ → ℕ → List ℤ
numbers_between first by a n = map (number_of first by) (range_with_len a n)

-- where all fit, none is left out
pub numbers-all : (first by : ℤ) (a n : ℕ) → ((i : ℕ) → a ≤ i → i < a + n → fits_i64 (number_of first by i) ≡ true) → take_while fits_i64 (numbers_between first by a n) ≡ numbers_between first by a n
numbers-all first by a zero h = refl
numbers-all first by a (suc n) h =
    take_while-cons fits_i64 (number_of first by a) (numbers_between first by (a + 1) n)
    ∙ ap (λ b. cond b (number_of first by a ∷ take_while fits_i64 (numbers_between first by (a + 1) n)) []) (h a (omega arith) (omega arith))
    ∙ ap (λ xs. number_of first by a ∷ xs) (numbers-all first by (a + 1) n (λ i l k. h i (omega (arith, l)) (omega (arith, k))))

-- where those up to one fit, the list has that one behind those before it
pub numbers-split : (first by : ℤ) (a n k : ℕ) → k < n → ((i : ℕ) → a ≤ i → i ≤ a + k → fits_i64 (number_of first by i) ≡ true)
    → (rest : List ℤ) × (take_while fits_i64 (numbers_between first by a n) ≡ numbers_between first by a k ++ (number_of first by (a + k) ∷ rest))
numbers-split first by a zero k l h = absurd (omega (arith, l))
numbers-split first by a (suc n) zero l h = (
  take_while fits_i64 (numbers_between first by (a + 1) n),
  take_while-cons fits_i64 (number_of first by a) (numbers_between first by (a + 1) n)
      ∙ ap (λ b. cond b (number_of first by a ∷ take_while fits_i64 (numbers_between first by (a + 1) n)) []) (h a (omega arith) (omega arith))
      ∙ ap (λ i. number_of first by i ∷ take_while fits_i64 (numbers_between first by (a + 1) n)) (same a),
)
  where
    same : (a : ℕ) → a ≡ a + 0
    same a = omega arith
numbers-split first by a (suc n) (suc k) l h =
    let x = numbers-split first by (a + 1) n k (omega (arith, l)) (λ i m j. h i (omega (arith, m)) (omega (arith, j))) in (
      x.0,
      take_while-cons fits_i64 (number_of first by a) (numbers_between first by (a + 1) n)
          ∙ ap (λ b. cond b (number_of first by a ∷ take_while fits_i64 (numbers_between first by (a + 1) n)) []) (h a (omega arith) (omega arith))
          ∙ ap (λ xs. number_of first by a ∷ xs) x.1
          ∙ ap (λ i. number_of first by a ∷ (numbers_between first by (a + 1) k ++ (number_of first by i ∷ x.0))) (same a k),
    )
  where
    same : (a k : ℕ) → a + 1 + k ≡ a + suc k
    same a k = omega arith

-- ---- iterations

-- what one number of a loop's variable begins: its own iteration, and those of the loops inside
abbrev pub begun_by : Readings → List LinearLoop → List ℤ → ℤ → List (List ℤ)
begun_by r ms vs v = (vs ++ v ∷ []) ∷ iterations_inside r ms (vs ++ v ∷ [])

-- how many iterations the first numbers begin
abbrev pub begun_before : Readings → List LinearLoop → List ℤ → ℤ → ℤ → ℕ → ℕ
begun_before r ms vs first by k = length (flat_map (begun_by r ms vs) (numbers_between first by 0 k))

pub begun-next : (r : Readings) (ms : List LinearLoop) (vs : List ℤ) (first by : ℤ) (k : ℕ)
    → begun_before r ms vs first by (suc k) ≡ begun_before r ms vs first by k + suc (length (iterations_inside r ms (vs ++ number_of first by k ∷ [])))
begun-next r ms vs first by k =
    ap (λ n. begun_before r ms vs first by n) (more k)
    ∙ ap (λ xs. length (flat_map (begun_by r ms vs) xs)) (map-range_with_len_more (number_of first by) 0 k k (omega arith))
    ∙ ap length (flat_map-append (begun_by r ms vs) (numbers_between first by 0 k) (number_of first by k ∷ []))
    ∙ length-append (flat_map (begun_by r ms vs) (numbers_between first by 0 k)) (flat_map (begun_by r ms vs) (number_of first by k ∷ []))
    ∙ ap (λ n. begun_before r ms vs first by k + n) (length-append (begun_by r ms vs (number_of first by k)) [] ∙ none (length (begun_by r ms vs (number_of first by k))))
  where
    more : (k : ℕ) → suc k ≡ k + 1
    more k = omega arith

    none : (n : ℕ) → n + 0 ≡ n
    none n = omega arith
