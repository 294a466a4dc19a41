-- Owners, counts and local numbers of the elements of an array.
use Rattle.std.proofs.Common.{inl, inr, ◌≡◌, ℕ, zero, suc, ◌+◌, ◌*◌, ◌/◌, ◌%◌, ◌<◌, ◌≤◌, ◌==◌, Bool, true, false, cond, List, length, take, count_by, refl, sym, ap, ap₂, ◌∙◌, arith}
use Rattle.std.proofs.lemmas.Bool.{cases_lt, eq-eqb, ne_eqb}
use Rattle.std.proofs.lemmas.List.{length-take}
use Rattle.std.proofs.lemmas.List.Sums.{count_by-le-length}
use Rattle.std.proofs.lemmas.List.FromFn.{length-map-range_with_len, get_or-map-range_with_len}
use Rattle.std.proofs.lemmas.Nat.{mul-le, mul-add-lt, div-mul-add, div-add-mod', mod_below, mod-mul-add}
use Rattle.std.proofs.Math.Nat.{mod-eq_of_lt, add-mod_left}
use Rattle.fd_base.specs.Places.{owner_in, local_in, count_in}
use Rattle.decomp_map.specs.declared.positions.Positions.{Positions}
use Rattle.decomp_map.specs.Counting.{count_below}
use Rattle.decomp_map.specs.Positions.{owner_at, is_owned, owners_laid}
use Rattle.decomp_map.proofs.Counting.{count_below-zero, count_below-same, count_below_run, count_below_periodic, count_below_stretched, count_by-map, count_by-front}

-- the owner of an element
abbrev owner_laid : ℕ → ℕ → Positions → ℕ → ℕ
owner_laid inner width positions element = owner_at positions ((element / inner) % width)

pub length-owners_laid : (inner width outer : ℕ) (positions : Positions) → length (owners_laid inner width outer positions) ≡ outer * width * inner
unfolding owners_laid
length-owners_laid inner width outer positions = length-map-range_with_len (owner_laid inner width positions) 0 (outer * width * inner)

pub owner_in-owners_laid : (inner width outer : ℕ) (positions : Positions) (element : ℕ) → element < outer * width * inner → owner_in (owners_laid inner width outer positions) element ≡ owner_at positions ((element / inner) % width)
unfolding owners_laid
owner_in-owners_laid inner width outer positions element h = get_or-map-range_with_len (owner_laid inner width positions) 0 (outer * width * inner) element element 0 h (omega arith)

empty_rows : (outer inner element : ℕ) → element < outer * 0 * inner → ⊥
empty_rows outer inner element h = omega arith

own_rest : (inner m rest : ℕ) (b : Bool) → b ≡ true → inner * m + cond b rest 0 ≡ m * inner + rest
own_rest inner m rest b e = rw e (omega arith)

no_rest : (inner outer n none : ℕ) (b : Bool) → none ≡ 0 → inner * (outer * n + none) + cond b 0 0 ≡ outer * n * inner
no_rest inner outer n none true e = rw e (omega arith)
no_rest inner outer n none false e = rw e (omega arith)

-- a count in the front of the owners
front : (inner width outer : ℕ) (positions : Positions) (rank element : ℕ) → element ≤ outer * width * inner → count_by (λ other. other == rank) (take element (owners_laid inner width outer positions)) ≡ count_below (λ k. owner_at positions ((k / inner) % width) == rank) element
unfolding owners_laid
front inner width outer positions rank element h = count_by-front (λ other. other == rank) (owner_laid inner width positions) (outer * width * inner) element h

-- the elements of a rank below an element that is `rest` behind the first at its position
pub elements_owned : (inner width : ℕ) (positions : Positions) (rank turns index rest : ℕ) → index ≤ width → rest ≤ inner → count_below (λ element. owner_at positions ((element / inner) % width) == rank) ((turns * width + index) * inner + rest) ≡ inner * (turns * count_below (is_owned positions rank) width + count_below (is_owned positions rank) index) + cond (is_owned positions rank ((turns * width + index) % width)) rest 0
elements_owned inner width positions rank turns index rest i r =
    let at : ℕ → Bool = λ j. owner_at positions (j % width) == rank in
    let s : count_below (λ element. owner_at positions ((element / inner) % width) == rank) ((turns * width + index) * inner + rest) ≡ inner * count_below at (turns * width + index) + cond (at (turns * width + index)) rest 0 = count_below_stretched (λ element. owner_at positions ((element / inner) % width) == rank) at inner (λ j c k. ap at (div-mul-add j inner c k)) (turns * width + index) rest r in
    let p : count_below at (turns * width + index) ≡ turns * count_below at width + count_below at index = count_below_periodic at width (λ k. ap (λ m. owner_at positions m == rank) (add-mod_left width k)) turns index in
    let a : count_below at width ≡ count_below (is_owned positions rank) width = count_below-same at (is_owned positions rank) width (λ k l. ap (is_owned positions rank) (mod-eq_of_lt l)) in
    let b : count_below at index ≡ count_below (is_owned positions rank) index = count_below-same at (is_owned positions rank) index (λ k l. ap (is_owned positions rank) (mod-eq_of_lt (omega arith))) in
    s ∙ ap (λ x. inner * x + cond (at (turns * width + index)) rest 0) (p ∙ ap₂ (λ x y. turns * x + y) a b)

-- an element of an array has a row to stand in
pub rows_not_empty : (inner width outer element : ℕ) → element < outer * width * inner → (0 < inner) × (0 < width)
rows_not_empty zero width outer element h = absurd (omega arith)
rows_not_empty (suc inner) zero outer element h = absurd (empty_rows outer (suc inner) element h)
rows_not_empty (suc inner) (suc width) outer element h = (omega arith, omega arith)

pub owner_at_spot : (inner width outer : ℕ) (positions : Positions) (element turn index rest : ℕ) → (turn * width + index) * inner + rest ≡ element → index < width → rest < inner → element < outer * width * inner → owner_in (owners_laid inner width outer positions) element ≡ owner_at positions index
owner_at_spot inner width outer positions element turn index rest e i r h =
    let d : element / inner ≡ turn * width + index = ap (λ m. m / inner) (sym e) ∙ div-mul-add (turn * width + index) inner rest r in
    owner_in-owners_laid inner width outer positions element h ∙ ap (owner_at positions) (ap (λ m. m % width) d ∙ mod-mul-add turn width index i)

-- the local number of an element by its place
pub local_at_spot : (inner width outer : ℕ) (positions : Positions) (element turn index rest : ℕ) → (turn * width + index) * inner + rest ≡ element → index < width → rest < inner → element < outer * width * inner → local_in (owners_laid inner width outer positions) element ≡ (turn * count_below (is_owned positions (owner_at positions index)) width + count_below (is_owned positions (owner_at positions index)) index) * inner + rest
local_at_spot inner width outer positions element turn index rest e i r h =
    let o : owner_in (owners_laid inner width outer positions) element ≡ owner_at positions index = owner_at_spot inner width outer positions element turn index rest e i r h in
    let f : count_by (λ other. other == owner_at positions index) (take element (owners_laid inner width outer positions)) ≡ count_below (λ k. owner_at positions ((k / inner) % width) == owner_at positions index) element = front inner width outer positions (owner_at positions index) element (omega arith) in
    let c : count_below (λ k. owner_at positions ((k / inner) % width) == owner_at positions index) ((turn * width + index) * inner + rest) ≡ inner * (turn * count_below (is_owned positions (owner_at positions index)) width + count_below (is_owned positions (owner_at positions index)) index) + cond (is_owned positions (owner_at positions index) ((turn * width + index) % width)) rest 0 = elements_owned inner width positions (owner_at positions index) turn index rest (omega arith) (omega arith) in
    let m : (turn * width + index) % width ≡ index = mod-mul-add turn width index i in
    let own : is_owned positions (owner_at positions index) ((turn * width + index) % width) ≡ true = ap (is_owned positions (owner_at positions index)) m ∙ eq-eqb (owner_at positions index) (owner_at positions index) refl in
    ap (λ rank. count_by (λ other. other == rank) (take element (owners_laid inner width outer positions))) o
    ∙ (f ∙ (ap (count_below (λ k. owner_at positions ((k / inner) % width) == owner_at positions index)) (sym e) ∙ (c ∙ own_rest inner (turn * count_below (is_owned positions (owner_at positions index)) width + count_below (is_owned positions (owner_at positions index)) index) rest (is_owned positions (owner_at positions index) ((turn * width + index) % width)) own)))

-- how many elements a rank owns
pub count_in-owners_laid : (inner width outer : ℕ) (positions : Positions) (rank : ℕ) → count_in (owners_laid inner width outer positions) rank ≡ outer * count_below (is_owned positions rank) width * inner
unfolding owners_laid
count_in-owners_laid inner width outer positions rank =
    let c : count_below (λ k. owner_at positions ((k / inner) % width) == rank) ((outer * width + 0) * inner + 0) ≡ inner * (outer * count_below (is_owned positions rank) width + count_below (is_owned positions rank) 0) + cond (is_owned positions rank ((outer * width + 0) % width)) 0 0 = elements_owned inner width positions rank outer 0 0 (omega arith) (omega arith) in
    let e : outer * width * inner ≡ (outer * width + 0) * inner + 0 = omega arith in
    count_by-map (λ owner. owner == rank) (owner_laid inner width positions) (outer * width * inner)
    ∙ (ap (count_below (λ k. owner_at positions ((k / inner) % width) == rank)) e ∙ (c ∙ no_rest inner outer (count_below (is_owned positions rank) width) (count_below (is_owned positions rank) 0) (is_owned positions rank ((outer * width + 0) % width)) (count_below-zero (is_owned positions rank))))

-- a rank past the last owns nothing
pub count_below_past : (positions : Positions) (rank n : ℕ) → positions.ranks ≤ rank → count_below (is_owned positions rank) n ≡ 0
count_below_past positions rank n h =
    count_below_run (is_owned positions rank) false n (λ i k. ne_eqb (owner_at positions i) rank (λ e. omega (arith, mod_below ((positions.start + i) / positions.block) positions.ranks positions.dealt.1)))

-- an element of the list of owners is below the number of elements
pub below_size : (inner width outer : ℕ) (positions : Positions) (owners : List ℕ) (element : ℕ) → owners_laid inner width outer positions ≡ owners → element < length owners → element < outer * width * inner
below_size inner width outer positions owners element e h =
    omega (arith, h, ap length e, length-owners_laid inner width outer positions)

pub local_in-le : (owners : List ℕ) (element : ℕ) → local_in owners element ≤ element
local_in-le owners element =
    omega (arith, count_by-le-length (λ other. other == owner_in owners element) (take element owners), length-take element owners)

-- the local number as the code adds it up
pub local_is : (inner width outer : ℕ) (positions : Positions) (owners : List ℕ) (element turn index rest rank : ℕ) → owners_laid inner width outer positions ≡ owners → (turn * width + index) * inner + rest ≡ element → index < width → rest < inner → element < length owners → rank ≡ owner_at positions index → (turn * count_below (is_owned positions rank) width + count_below (is_owned positions rank) index) * inner + rest ≡ local_in owners element
local_is inner width outer positions owners element turn index rest rank e w i r h o =
    ap (λ k. (turn * count_below (is_owned positions k) width + count_below (is_owned positions k) index) * inner + rest) o
    ∙ (sym (local_at_spot inner width outer positions element turn index rest w i r (below_size inner width outer positions owners element e h)) ∙ ap (λ list. local_in list element) e)

-- the count as the code multiplies it
pub count_is : (inner width outer : ℕ) (positions : Positions) (owners : List ℕ) (rank : ℕ) → owners_laid inner width outer positions ≡ owners → outer * count_below (is_owned positions rank) width * inner ≡ count_in owners rank
count_is inner width outer positions owners rank e =
    sym (count_in-owners_laid inner width outer positions rank) ∙ ap (λ list. count_in list rank) e

pub count_in-le : (owners : List ℕ) (rank : ℕ) → count_in owners rank ≤ length owners
count_in-le owners rank = count_by-le-length (λ owner. owner == rank) owners

-- a rank past the last
pub count_past : (inner width outer : ℕ) (positions : Positions) (owners : List ℕ) (rank : ℕ) → owners_laid inner width outer positions ≡ owners → positions.ranks ≤ rank → count_in owners rank ≡ 0
count_past inner width outer positions owners rank e h =
    sym (count_is inner width outer positions owners rank e) ∙ rw (count_below_past positions rank width h) (omega arith)

-- the front of a product is no larger
pub front_fits : (a b c l : ℕ) → a * b + c ≡ l → (a * b ≤ l) × (c ≤ l)
front_fits a b c l e = (omega arith, omega arith)

-- a place in a row of an array is an element
pub spot_inside : (inner width outer turn index rest : ℕ) → turn < outer → index < width → rest < inner → (turn * width + index) * inner + rest < outer * width * inner
spot_inside inner width outer turn index rest t i r =
    omega (arith, mul-add-lt (turn * width + index) inner rest (width * outer) (mul-add-lt turn width index outer t i) r)

-- a local number below the count stands in a row of the array
pub turn_inside : (inner outer n turn before rest local : ℕ) → (turn * n + before) * inner + rest ≡ local → local < outer * n * inner → turn < outer
turn_inside inner outer n turn before rest local e h =
    elim (cases_lt turn outer) [
      | inl k ↦ k
      | inr k ↦ absurd (omega (arith, e, h, mul-le (outer * n) inner (turn * n) inner (mul-le outer n turn n k (omega arith)) (omega arith)))
    ]

-- the parts of an element's number are no larger
pub parts_fit : (a w i n r s : ℕ) → 0 < n → (a * w + i) * n + r < s → (a * w < s) × ((a * w + i < s) × ((a * w + i) * n < s))
parts_fit a w i n r s h k =
    let p : (a * w + i) * 1 ≤ (a * w + i) * n = mul-le (a * w + i) 1 (a * w + i) n (omega arith) h in
    (omega arith, (omega arith, omega arith))

-- whole rows, the number in the row and the elements side by side make up the local number again
pub local_parts : (inner n number local index_count : ℕ) → 0 < n → number ≡ local / inner → index_count ≡ number % n → (number / n * n + index_count) * inner + local % inner ≡ local
local_parts inner n number local index_count h e k =
    ap (λ m. m * inner + local % inner) (ap (λ m. number / n * n + m) k ∙ (div-add-mod' number n ∙ e)) ∙ div-add-mod' local inner

-- a rank that owns an element is one of the run and has some in each row
pub owning_rank : (inner width outer : ℕ) (positions : Positions) (owners : List ℕ) (rank local : ℕ) → owners_laid inner width outer positions ≡ owners → local < count_in owners rank → (rank < positions.ranks) × ((0 < inner) × (0 < count_below (is_owned positions rank) width))
owning_rank inner width outer positions owners rank local e h =
    let below : local < outer * count_below (is_owned positions rank) width * inner = omega (arith, h, count_is inner width outer positions owners rank e) in
    elim (cases_lt rank positions.ranks) [
      | inl k ↦ (k, rows_not_empty inner (count_below (is_owned positions rank) width) outer local below)
      | inr k ↦ absurd (omega (arith, h, count_past inner width outer positions owners rank e k))
    ]

-- the place of a local number is an element of the array
pub element_inside : (inner width outer : ℕ) (positions : Positions) (owners : List ℕ) (rank local turn index rest : ℕ) → owners_laid inner width outer positions ≡ owners → local < count_in owners rank → (turn * count_below (is_owned positions rank) width + count_below (is_owned positions rank) index) * inner + rest ≡ local → index < width → rest < inner → (turn * width + index) * inner + rest < outer * width * inner
element_inside inner width outer positions owners rank local turn index rest e h w i r =
    let below : local < outer * count_below (is_owned positions rank) width * inner = omega (arith, h, count_is inner width outer positions owners rank e) in
    spot_inside inner width outer turn index rest (turn_inside inner outer (count_below (is_owned positions rank) width) turn (count_below (is_owned positions rank) index) rest local w below) i r

pub size_of_owners : (inner width outer : ℕ) (positions : Positions) (owners : List ℕ) → owners_laid inner width outer positions ≡ owners → length owners ≡ outer * width * inner
size_of_owners inner width outer positions owners e =
    sym (ap length e) ∙ length-owners_laid inner width outer positions
