-- A rank's part and the whole store.
use Rattle.std.proofs.Common.{◌≡◌, ◌≢◌, ℕ, zero, suc, ◌<◌, ◌==◌, ℤ, pos, Bool, true, false, List, [], length, set, slice_set, slice_index_or, Contains, map, Option, Some, None, unwrap_or, refl, sym, ◌∙◌, ap, subst, ◌⊎◌, inl, inr, arith, length-set}
use Rattle.std.proofs.lemmas.Bool.{eqb-true, eq-eqb}
use Rattle.std.proofs.lemmas.List.{get_or-set_same, get_or-set_other}
use Rattle.fd_base.specs.Places.{Place, Whole, Unset, Split, is_owner}
use Rattle.fd_prog.specs.Programs.{CheckedProgram}
use Rattle.fd_prog.specs.Values.{value_of, values_of, truth_of}
use Rattle.fd_prog.specs.Expressions.{Expression, Expressions}
use Rattle.fd_prog.specs.Conditions.{Condition}
use Rattle.fd_prog.specs.Stores.{Store, Cell, ScalarCell, ElementCell, put, readings_of}
use Rattle.rank_part.specs.Seen.{AreAlike, IsSame, AllRead, EachReads, ConditionReads}
use Rattle.rank_part.specs.Parts.{Part, Received, row, number_in, number_among, own_number, is_own, came_number, other_number, part_readings, CameByItem, CameFor, HasReceived, IsAtHand, IsPartOf, IsPartOfRow, HasCell, put_by, put_part}
use Rattle.rank_part.proofs.Rows.{number-came, own-reads, other-reads, put_row}
use Rattle.rank_part.proofs.Same.{value_same, values_same, truth_same, reads-map, each-map, condition-map}

-- what came for a reference is what the store has
came-reads : (sites : List ℕ) (a : Part) (s : Store) (array : ℕ) (site : Option ℕ) (n : ℕ) → CameFor sites a s array site n → other_number sites a site n ≡ number_in s array n
came-reads sites a s array None n h = absurd h
came-reads sites a s array (Some site) n h = by (slice_index_or sites site 0) h
  where
    by : (x : ℕ) → CameByItem a s array x n → came_number a x n ≡ number_in s array n
    by zero h = absurd h
    by (suc x) h =
        let b : Received = a.received (suc x) in
        ap (λ ys. number_among b.elements ys n) h.1 ∙ number-came (number_in s array) b.elements n h.0

-- a rank reads of an element that it has at hand what the store has
pub at_hand-reads : (p : CheckedProgram) (sites : List ℕ) (a : Part) (s : Store) → IsPartOf a s → (array : ℕ) (site : Option ℕ) (n : ℕ) → IsAtHand sites a s array site n
    → IsSame (readings_of p s) (part_readings p sites a) array site n
at_hand-reads p sites a s h array site n k = by (is_own (a.place array) n a.rank) refl k.found
  where
    by : (b : Bool) → is_own (a.place array) n a.rank ≡ b → (is_own (a.place array) n a.rank ≡ true) ⊎ CameFor sites a s array site n
        → unwrap_or (own_number (a.place array) a.rank (row a.locals array) n) (other_number sites a site n) ≡ number_in s array n
    by true e f = own-reads (a.place array) a.rank (row a.locals array) (row s.arrays array) n (other_number sites a site n) (h.rows array k.array_inside) k.element_inside e
    by false e (inl f) = absurd (cc (e, f))
    by false e (inr f) = other-reads (a.place array) a.rank (row a.locals array) n (other_number sites a site n) e ∙ came-reads sites a s array site n f

-- what a rank owns or needs is at hand once what it needs has come
pub needed-at_hand : (sites : List ℕ) (a : Part) (s : Store) (array site x n : ℕ) (es : List ℕ) → array < length s.arrays → n < length (row s.arrays array) → slice_index_or sites site 0 ≡ suc x → HasReceived (a.received (suc x)) array es s
    → (is_owner (a.place array) n a.rank ≡ true) ⊎ Contains es n → IsAtHand sites a s array (Some site) n
needed-at_hand sites a s array site x n es inside small item came found = record { array_inside = inside; element_inside = small; found = by found }
  where
    own : (place : Place) → is_owner place n a.rank ≡ true → is_own place n a.rank ≡ true
    own Whole e = refl
    own Unset e = e
    own (Split owners) e = e

    by : (is_owner (a.place array) n a.rank ≡ true) ⊎ Contains es n → (is_own (a.place array) n a.rank ≡ true) ⊎ CameFor sites a s array (Some site) n
    by (inl e) = inl (own (a.place array) e)
    by (inr k) = inr (subst (λ i. CameByItem a s array i n) (sym item) (subst (λ xs. Contains xs n) (sym came.elements_are) k, came.numbers_are ∙ ap (map (number_in s array)) (sym came.elements_are)))

pub alike : (p : CheckedProgram) (sites : List ℕ) (a : Part) (s : Store) → IsPartOf a s → AreAlike (readings_of p s) (part_readings p sites a)
alike p sites a s h = record { scalars = λ k. ap (λ xs. slice_index_or xs k (pos 0)) h.scalars; shapes = λ array. refl }

-- valuing by own cells is valuing in the whole store
pub value_by_part : (p : CheckedProgram) (sites : List ℕ) (a : Part) (s : Store) (e : Expression) → IsPartOf a s → AllRead (readings_of p s) (IsAtHand sites a s) e
    → value_of (part_readings p sites a) e ≡ value_of (readings_of p s) e
value_by_part p sites a s e h k =
    value_same (readings_of p s) (part_readings p sites a) (alike p sites a s h) e (reads-map (readings_of p s) (IsAtHand sites a s) (IsSame (readings_of p s) (part_readings p sites a)) (at_hand-reads p sites a s h) e k)

pub values_by_part : (p : CheckedProgram) (sites : List ℕ) (a : Part) (s : Store) (es : Expressions) → IsPartOf a s → EachReads (readings_of p s) (IsAtHand sites a s) es
    → values_of (part_readings p sites a) es ≡ values_of (readings_of p s) es
values_by_part p sites a s es h k =
    values_same (readings_of p s) (part_readings p sites a) (alike p sites a s h) es (each-map (readings_of p s) (IsAtHand sites a s) (IsSame (readings_of p s) (part_readings p sites a)) (at_hand-reads p sites a s h) es k)

pub truth_by_part : (p : CheckedProgram) (sites : List ℕ) (a : Part) (s : Store) (c : Condition) → IsPartOf a s → ConditionReads (readings_of p s) (IsAtHand sites a s) c
    → truth_of (part_readings p sites a) c ≡ truth_of (readings_of p s) c
truth_by_part p sites a s c h k =
    truth_same (readings_of p s) (part_readings p sites a) (alike p sites a s h) c (condition-map (readings_of p s) (IsAtHand sites a s) (IsSame (readings_of p s) (part_readings p sites a)) (at_hand-reads p sites a s h) c k)

-- ---- a number put

row-same : (rows : List (List ℤ)) (array : ℕ) (xs : List ℤ) → array < length rows → row (set rows array xs) array ≡ xs
row-same rows array xs h = get_or-set_same rows array xs [] h

-- a rank's part follows the store where all put a number into a cell
pub put-part : (cell : Cell) (x : ℤ) (a : Part) (s : Store) → IsPartOf a s → HasCell cell s → IsPartOf (put_part cell x a) (put cell x s)
put-part (ScalarCell k) x a s h c = record { scalars = ap (λ xs. slice_set xs k x) h.scalars; arrays = h.arrays; rows = h.rows }
put-part (ElementCell array n) x a s h c = record {
  scalars = h.scalars;
  arrays = length-set a.locals array (put_by (a.place array) a.rank n x (row a.locals array)) ∙ h.arrays ∙ sym (length-set s.arrays array (slice_set (row s.arrays array) n x));
  rows = λ other k. by other (omega (arith, length-set s.arrays array (slice_set (row s.arrays array) n x))) (other == array) refl;
}
  where
    by : (other : ℕ) → other < length s.arrays → (b : Bool) → (other == array) ≡ b
        → IsPartOfRow (a.place other) a.rank (row (set a.locals array (put_by (a.place array) a.rank n x (row a.locals array))) other) (row (set s.arrays array (slice_set (row s.arrays array) n x)) other)
    by other k true e =
        let own : row (set a.locals array (put_by (a.place array) a.rank n x (row a.locals array))) array ≡ put_by (a.place array) a.rank n x (row a.locals array) = row-same a.locals array (put_by (a.place array) a.rank n x (row a.locals array)) (omega (arith, c.0, h.arrays)) in
        let whole : row (set s.arrays array (slice_set (row s.arrays array) n x)) array ≡ slice_set (row s.arrays array) n x = row-same s.arrays array (slice_set (row s.arrays array) n x) c.0 in
        let put : IsPartOfRow (a.place array) a.rank (put_by (a.place array) a.rank n x (row a.locals array)) (slice_set (row s.arrays array) n x) = put_row (a.place array) a.rank (row a.locals array) (row s.arrays array) n x (h.rows array c.0) c.1 in
        let at : IsPartOfRow (a.place array) a.rank (row (set a.locals array (put_by (a.place array) a.rank n x (row a.locals array))) array) (row (set s.arrays array (slice_set (row s.arrays array) n x)) array) =
        subst (λ (xs : List ℤ). IsPartOfRow (a.place array) a.rank xs (row (set s.arrays array (slice_set (row s.arrays array) n x)) array)) (sym own)
        (subst (λ (ys : List ℤ). IsPartOfRow (a.place array) a.rank (put_by (a.place array) a.rank n x (row a.locals array)) ys) (sym whole) put) in
        subst (λ (i : ℕ). IsPartOfRow (a.place i) a.rank (row (set a.locals array (put_by (a.place array) a.rank n x (row a.locals array))) i) (row (set s.arrays array (slice_set (row s.arrays array) n x)) i)) (sym (eqb-true other array e)) at
    by other k false e =
        let differs : other ≢ array = λ (i : other ≡ array). absurd (cc (eq-eqb other array i, e)) in
        subst (λ (xs : List ℤ). IsPartOfRow (a.place other) a.rank xs (row (set s.arrays array (slice_set (row s.arrays array) n x)) other)) (sym (get_or-set_other a.locals array other (put_by (a.place array) a.rank n x (row a.locals array)) [] differs))
        (subst (λ (ys : List ℤ). IsPartOfRow (a.place other) a.rank (row a.locals other) ys) (sym (get_or-set_other s.arrays array other (slice_set (row s.arrays array) n x) [] differs)) (h.rows other k))
