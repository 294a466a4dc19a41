-- The elements of each rank, and their local numbers.
use Rattle.std.proofs.Common.{◌≡◌, ℕ, zero, suc, ◌+◌, ◌<◌, ◌≤◌, ◌==◌, cond, eqb, leb, false, List, [], ◌∷◌, ◌++◌, length, get_or, take, refl, sym, ap, ◌∙◌, inl, inr, add-one, arith}
use Rattle.std.specs.Prelude.{All, count_by}
use Rattle.std.proofs.lemmas.Bool.{cases_Bool, cases_eq, eqb-true, eq-eqb, leb-false, leb-true, ne_eqb}
use Rattle.std.proofs.lemmas.List.{append-nil, get_or_append_left, length-append}
use Rattle.std.proofs.Math.Seq.{get_or-append_seam, take-length}
use Rattle.std.proofs.lemmas.List.FromFn.{get_or-map-range_with_len, length-map-range_with_len}
use Rattle.std.proofs.lemmas.List.Sums.{count_by-le-length, count_by_more_no, count_by_more_yes, sum_by-cons}
use Rattle.fd_base.specs.Places.{count_in, local_in, owner_in}
use Rattle.trans_table.specs.Tables.{IsTable, elements_below, elements_of}

pub below_yes : (owners : List ℕ) (rank n : ℕ) → owner_in owners n ≡ rank → elements_below owners rank (n + 1) ≡ elements_below owners rank n ++ n ∷ []
unfolding elements_below
below_yes owners rank n h = ap (elements_below owners rank) (add-one n) ∙ rw (eq-eqb (owner_in owners n) rank h) refl

pub below_no : (owners : List ℕ) (rank n : ℕ) → eqb (owner_in owners n) rank ≡ false → elements_below owners rank (n + 1) ≡ elements_below owners rank n
unfolding elements_below
below_no owners rank n h = ap (elements_below owners rank) (add-one n) ∙ rw h (append-nil (elements_below owners rank n))

pub below_none : (owners : List ℕ) (rank : ℕ) → elements_below owners rank 0 ≡ []
unfolding elements_below
below_none owners rank = refl

-- a rank has as many of the first elements as stand there with its number
pub length-below : (owners : List ℕ) (rank n : ℕ) → n ≤ length owners → length (elements_below owners rank n) ≡ count_by (λ owner. owner == rank) (take n owners)
length-below owners rank zero h = ap length (below_none owners rank)
length-below owners rank (suc n) h =
    elim (cases_Bool (eqb (owner_in owners n) rank)) [
      | inl e ↦ ap (λ m. length (elements_below owners rank m)) (sym (add-one n)) ∙ (ap length (below_yes owners rank n (eqb-true (owner_in owners n) rank e)) ∙ (length-append (elements_below owners rank n) (n ∷ []) ∙ (ap (λ m. m + 1) (length-below owners rank n (omega (arith, h))) ∙ (sym (count_by_more_yes (λ owner. owner == rank) owners n 0 (omega (arith, h)) e) ∙ ap (λ m. count_by (λ owner. owner == rank) (take m owners)) (add-one n)))))
      | inr e ↦ ap (λ m. length (elements_below owners rank m)) (sym (add-one n)) ∙ (ap length (below_no owners rank n e) ∙ (length-below owners rank n (omega (arith, h)) ∙ (sym (count_by_more_no (λ owner. owner == rank) owners n 0 (omega (arith, h)) e) ∙ ap (λ m. count_by (λ owner. owner == rank) (take m owners)) (add-one n))))
    ]

pub length-elements_of : (owners : List ℕ) (rank : ℕ) → length (elements_of owners rank) ≡ count_in owners rank
length-elements_of owners rank = length-below owners rank (length owners) (omega arith) ∙ ap (λ xs. count_by (λ owner. owner == rank) xs) (take-length owners)

-- what stands at a local number
pub record StandsAt (owners : List ℕ) (rank local n element : ℕ) : Type 0 where
  pub inside : element < n
  pub owner : owner_in owners element ≡ rank
  pub local_is : local_in owners element ≡ local

grown : (owners : List ℕ) (rank local n element : ℕ) → StandsAt owners rank local n element → StandsAt owners rank local (suc n) element
grown owners rank local n element s = record { inside = omega (arith, s.inside); owner = s.owner; local_is = s.local_is }

pub stands_at : (owners : List ℕ) (rank n local : ℕ) → n ≤ length owners → local < length (elements_below owners rank n) → StandsAt owners rank local n (get_or (elements_below owners rank n) local 0)
stands_at owners rank zero local h l = absurd (omega (arith, l, ap length (below_none owners rank)))
stands_at owners rank (suc n) local h l =
    let front = elements_below owners rank n in
    let short : n ≤ length owners = omega (arith, h) in
    elim (cases_Bool (eqb (owner_in owners n) rank)) [
      | inl e ↦
          let owned : owner_in owners n ≡ rank = eqb-true (owner_in owners n) rank e in
          let more : elements_below owners rank (suc n) ≡ front ++ n ∷ [] = ap (elements_below owners rank) (sym (add-one n)) ∙ below_yes owners rank n owned in
          let long : length (elements_below owners rank (suc n)) ≡ length front + 1 = ap length more ∙ length-append front (n ∷ []) in
          rw more (elim (cases_eq local (length front)) [
            | inl q ↦
                let at : get_or (front ++ n ∷ []) local 0 ≡ n = ap (λ i. get_or (front ++ n ∷ []) i 0) q ∙ get_or-append_seam front n [] 0 in
                rw at (record { inside = omega arith; owner = owned; local_is = ap (λ r. count_by (λ other. other == r) (take n owners)) owned ∙ (sym (length-below owners rank n short) ∙ sym q) })
            | inr o ↦
                let early : local < length front = omega (arith, l, long, o) in
                rw (get_or_append_left front (n ∷ []) 0 local early) (grown owners rank local n (get_or front local 0) (stands_at owners rank n local short early))
          ])
      | inr e ↦
          let same : elements_below owners rank (suc n) ≡ front = ap (elements_below owners rank) (sym (add-one n)) ∙ below_no owners rank n e in
          rw same (grown owners rank local n (get_or front local 0) (stands_at owners rank n local short (omega (arith, l, ap length same))))
    ]

-- ---- what a table keeps

-- a rank that no element has
pub past_none : (owners : List ℕ) (ranks rank : ℕ) → All (λ owner. owner < ranks) owners → ranks ≤ rank → count_in owners rank ≡ 0
past_none [] ranks rank a h = refl
past_none (o ∷ owners) ranks rank a h =
    let first : o < ranks = a 0 0 (omega arith) in
    sum_by-cons (λ owner. cond (eqb owner rank) 1 0) o owners ∙ rw (ne_eqb o rank (λ q. absurd (omega (arith, q, first, h)))) (omega (arith, past_none owners ranks rank (λ k d l. a (suc k) d (omega (arith, l))) h))

pub row_at : (owners locals : List ℕ) (elements : List (List ℕ)) (rank : ℕ) → IsTable owners locals elements → rank < length elements → get_or elements rank [] ≡ elements_of owners rank
row_at owners locals elements rank k l =
    ap (λ es. get_or es rank []) k.elements_are ∙ get_or-map-range_with_len (elements_of owners) 0 (length elements) rank rank [] l (omega arith)

pub count_at : (owners locals : List ℕ) (elements : List (List ℕ)) (rank : ℕ) → IsTable owners locals elements → rank < length elements → length (get_or elements rank []) ≡ count_in owners rank
count_at owners locals elements rank k l = ap length (row_at owners locals elements rank k l) ∙ length-elements_of owners rank

-- a rank with an element is one of the table
pub rank_inside : (owners locals : List ℕ) (elements : List (List ℕ)) (rank local : ℕ) → IsTable owners locals elements → local < count_in owners rank → rank < length elements
rank_inside owners locals elements rank local k l =
    elim (cases_Bool (leb (length elements) rank)) [
      | inl e ↦ absurd (omega (arith, l, past_none owners (length elements) rank k.ranks (leb-true (length elements) rank e)))
      | inr e ↦ leb-false (length elements) rank e
    ]

pub element_is : (owners locals : List ℕ) (elements : List (List ℕ)) (rank local : ℕ) → IsTable owners locals elements → local < count_in owners rank → StandsAt owners rank local (length owners) (get_or (get_or elements rank []) local 0)
element_is owners locals elements rank local k l =
    let r = rank_inside owners locals elements rank local k l in
    rw (row_at owners locals elements rank k r) (stands_at owners rank (length owners) local (omega arith) (omega (arith, l, length-elements_of owners rank)))

pub count-le : (owners : List ℕ) (rank : ℕ) → count_in owners rank ≤ length owners
count-le owners rank = count_by-le-length (λ owner. owner == rank) owners

pub locals_length : (owners locals : List ℕ) (elements : List (List ℕ)) → IsTable owners locals elements → length locals ≡ length owners
locals_length owners locals elements k = ap length k.locals_are ∙ length-map-range_with_len (local_in owners) 0 (length owners)

pub local_at : (owners locals : List ℕ) (elements : List (List ℕ)) (element : ℕ) → IsTable owners locals elements → element < length owners → get_or locals element 0 ≡ local_in owners element
local_at owners locals elements element k l =
    ap (λ ns. get_or ns element 0) k.locals_are ∙ get_or-map-range_with_len (local_in owners) 0 (length owners) element element 0 l (omega arith)

other_default : {A : Type 0} → (xs : List A) (i : ℕ) (x d : A) → i < length xs → get_or xs i x ≡ get_or xs i d
other_default [] i x d l = absurd (omega (arith, l))
other_default (y ∷ ys) zero x d l = refl
other_default (y ∷ ys) (suc i) x d l = other_default ys i x d (omega (arith, l))

-- what is read inside a list is the same by any default
pub read_any : {A : Type 0} → (xs : List A) (i : ℕ) (x d : A) → i < length xs → x ≡ get_or xs i x → x ≡ get_or xs i d
read_any xs i x d l h = h ∙ other_default xs i x d l
