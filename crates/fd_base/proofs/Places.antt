-- What holds of every list of owners, and the definitions at worked rows.
use Rattle.std.proofs.Common.{◌≡◌, ℕ, ◌+◌, ◌<◌, ◌≤◌, ◌==◌, Bool, cond, ℤ, pos, negsuc, List, [], ◌∷◌, length, take, count_by, refl, inl, inr, arith, ap, sym}
use Rattle.std.proofs.lemmas.Bool.{eq-eqb, cases_order}
use Rattle.std.proofs.lemmas.List.{take-take}
use Rattle.std.proofs.lemmas.List.Sums.{count_by_more_yes, sum_by-take-le}
use Rattle.fd_base.specs.declared.shapes.Shape.{Shape}
use Rattle.fd_base.specs.declared.shapes.Along.TheVariants.{Dim}
use Rattle.fd_base.specs.declared.shapes.Dist.TheVariants.{Block, Cyclic, BlockCyclic}
use Rattle.fd_base.specs.Places.{owner_in, local_in, count_in, regular_owners}

-- a longer front has as many elements that pass, or more
pub count-take-le : (p : ℕ → Bool) (xs : List ℕ) (m n : ℕ) → m ≤ n → count_by p (take m xs) ≤ count_by p (take n xs)
count-take-le p xs m n h =
    let e : take m (take n xs) ≡ take m xs = take-take m n xs h in
    rw (← e) (sum_by-take-le (λ x. cond (p x) 1 0) (take n xs) m)

-- an element is counted behind itself
counted : (owners : List ℕ) (element : ℕ) → element < length owners → count_by (λ other. other == owner_in owners element) (take (element + 1) owners) ≡ local_in owners element + 1
counted owners element h = count_by_more_yes (λ other. other == owner_in owners element) owners element 0 h (eq-eqb (owner_in owners element) (owner_in owners element) refl)

-- local numbers are below the count of the owner
pub local-lt-count : (owners : List ℕ) (element : ℕ) → element < length owners → local_in owners element < count_in owners (owner_in owners element)
local-lt-count owners element h =
    omega (arith, counted owners element h, sum_by-take-le (λ x. cond (x == owner_in owners element) 1 0) owners (element + 1))

-- of one rank's elements the later has the larger local number
pub local-grows : (owners : List ℕ) (a b : ℕ) → a < b → b < length owners → owner_in owners a ≡ owner_in owners b → local_in owners a < local_in owners b
local-grows owners a b h k e =
    let low : count_by (λ other. other == owner_in owners a) (take (a + 1) owners) ≡ local_in owners a + 1 = counted owners a (omega arith) in
    let high : count_by (λ other. other == owner_in owners a) (take (a + 1) owners) ≤ count_by (λ other. other == owner_in owners a) (take b owners) = count-take-le (λ other. other == owner_in owners a) owners (a + 1) b (omega arith) in
    let same : count_by (λ other. other == owner_in owners a) (take b owners) ≡ local_in owners b = ap (λ rank. count_by (λ other. other == rank) (take b owners)) e in
    omega arith

-- an owner and a local number name one element
pub same_from_local : (owners : List ℕ) (a b : ℕ) → a < length owners → b < length owners → owner_in owners a ≡ owner_in owners b → local_in owners a ≡ local_in owners b → a ≡ b
same_from_local owners a b h k e l =
    elim (cases_order a b) [
      | inl same ↦ same
      | inr (inl less) ↦ absurd (omega (arith, local-grows owners a b less k e))
      | inr (inr more) ↦ absurd (omega (arith, local-grows owners b a more h (sym e)))
    ]

line : ℤ → ℕ → Shape
line low extent = record { dims = 1; low = low ∷ pos 0 ∷ []; extent = extent ∷ 1 ∷ [] }

-- A(4) at D(I+1) of D(5) dealt in turn to two ranks
shifted_cyclic : regular_owners (line (pos 1) 4) (Dim 0 (pos 0)) 5 Cyclic 2 ≡ 1 ∷ 0 ∷ 1 ∷ 0 ∷ []
unfolding line regular_owners
shifted_cyclic = refl

-- B(7) at E(I+1) of E(8) in blocks of three
shifted_blocks : regular_owners (line (pos 1) 7) (Dim 0 (pos 0)) 8 (BlockCyclic 3) 2 ≡ 0 ∷ 0 ∷ 1 ∷ 1 ∷ 1 ∷ 0 ∷ 0 ∷ []
unfolding line regular_owners
shifted_blocks = refl

-- A(2,4) with its columns in blocks
columns : regular_owners (record { dims = 2; low = pos 1 ∷ pos 1 ∷ []; extent = 2 ∷ 4 ∷ [] }) (Dim 1 (negsuc 0)) 4 Block 2 ≡ 0 ∷ 0 ∷ 0 ∷ 0 ∷ 1 ∷ 1 ∷ 1 ∷ 1 ∷ []
unfolding regular_owners
columns = refl
