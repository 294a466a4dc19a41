-- The owners that a regular attribute gives are those of blocks dealt in turn.
use Rattle.std.proofs.Common.{◌≡◌, ℕ, zero, suc, ◌+◌, ◌*◌, ◌/◌, ◌%◌, ◌-◌, ◌<◌, ◌≤◌, min, max, ℤ, pos, ◌+ℤ◌, ◌≤ℤ◌, sym, ap, ◌∙◌, inl, inr, arith}
use Rattle.std.specs.Prelude.{All}
use Rattle.std.specs.Int.{div_ceil}
use Rattle.std.proofs.lemmas.Int.{ints}
use Rattle.std.proofs.lemmas.Bool.{cases_eq}
use Rattle.std.proofs.lemmas.List.Elements.{All-from_get_or}
use Rattle.std.proofs.lemmas.List.FromFn.{fill_by_all}
use Rattle.std.proofs.lemmas.Nat.{div-mul-add, div-add-mod', div_below, mod_below}
use Rattle.std.proofs.Math.Nat.{mod-eq_of_lt, mod-one}
use Rattle.fd_base.specs.Numbers.{at_least_zero}
use Rattle.fd_base.specs.Places.{block_size, owner_of_position, position_of, regular_owners}
use Rattle.fd_base.specs.Shapes.{size_of}
use Rattle.fd_base.specs.declared.shapes.Shape.{Shape}
use Rattle.fd_base.specs.declared.shapes.Along.{Along}
use Rattle.fd_base.specs.declared.shapes.Dist.{Dist}
use Rattle.decomp_map.specs.declared.positions.Positions.{Positions}
use Rattle.decomp_map.specs.Positions.{owner_at, owners_laid}
use Rattle.decomp_map.proofs.Elements.{length-owners_laid, owner_in-owners_laid}

-- ---- the size of the blocks

block_size-parts : (q r ranks : ℕ) → r < ranks → block_size (q * ranks + r) ranks ≡ q + min 1 r
block_size-parts q zero ranks h =
    let e : q * ranks + 0 + ranks - 1 ≡ q * ranks + (ranks - 1) = omega arith in
    let d : (q * ranks + (ranks - 1)) / ranks ≡ q = div-mul-add q ranks (ranks - 1) (omega arith) in
    ap (λ m. m / ranks) e ∙ (d ∙ omega arith)
block_size-parts q (suc r) ranks h =
    let e : q * ranks + suc r + ranks - 1 ≡ (q + 1) * ranks + r = omega arith in
    let d : ((q + 1) * ranks + r) / ranks ≡ q + 1 = div-mul-add (q + 1) ranks r (omega arith) in
    ap (λ m. m / ranks) e ∙ (d ∙ omega arith)

block_size-div_ceil : (extent ranks : ℕ) → 0 < ranks → block_size extent ranks ≡ div_ceil extent ranks
block_size-div_ceil extent ranks h =
    ap (λ m. block_size m ranks) (sym (div-add-mod' extent ranks)) ∙ block_size-parts (extent / ranks) (extent % ranks) ranks (mod_below extent ranks h)

reached : (extent ranks q r : ℕ) → q * ranks + r ≡ extent → r < ranks → 0 < r → extent ≤ ranks * (q + min 1 r)
reached extent ranks q (suc r) e h k =
    let m : min 1 (suc r) ≡ 1 = omega arith in
    rw m (omega (arith, e, h))
reached extent ranks q zero e h k = absurd (omega arith)

-- the blocks reach over the whole extent
blocks_reach : (extent ranks : ℕ) → 0 < ranks → extent ≤ ranks * div_ceil extent ranks
blocks_reach extent ranks h =
    elim (cases_eq (extent % ranks) 0) [
      | inl e ↦ rw e (omega (arith, div-add-mod' extent ranks, e))
      | inr n ↦ reached extent ranks (extent / ranks) (extent % ranks) (div-add-mod' extent ranks) (mod_below extent ranks h) (omega arith)
    ]

factor_positive : (a b n : ℕ) → n ≤ a * b → 0 < n → 0 < b
factor_positive a zero n h k = absurd (omega arith)
factor_positive a (suc b) n h k = omega arith

-- where each rank has one block, blocks dealt in turn are the same
pub block_owner : (extent ranks position : ℕ) → 0 < ranks → position < extent → position / block_size extent ranks ≡ (position / max (div_ceil extent ranks) 1) % ranks
block_owner extent ranks position h k =
    let reach : extent ≤ ranks * div_ceil extent ranks = blocks_reach extent ranks h in
    let some : 0 < div_ceil extent ranks = factor_positive ranks (div_ceil extent ranks) extent reach (omega arith) in
    let m : max (div_ceil extent ranks) 1 ≡ div_ceil extent ranks = omega arith in
    let below : position / div_ceil extent ranks < ranks = div_below position (div_ceil extent ranks) ranks some (omega (arith, reach)) in
    ap (λ b. position / b) (block_size-div_ceil extent ranks h) ∙ (sym (mod-eq_of_lt below) ∙ ap (λ b. position / b % ranks) (sym m))

-- ---- the owner of an element, by its position

-- an attribute deals blocks in turn
abbrev pub DealsBlocks : Dist → ℕ → ℕ → ℕ → Type 0
DealsBlocks dist extent ranks block = (position : ℕ) → position < extent → owner_of_position dist extent ranks position ≡ (position / block) % ranks

pub fixed_owner : (dist : Dist) (extent ranks block start element inner : ℕ) → DealsBlocks dist extent ranks block → start < extent → ((start + (element / inner) % 1) / block) % ranks ≡ owner_of_position dist extent ranks start
fixed_owner dist extent ranks block start element inner deals h =
    let e : start + (element / inner) % 1 ≡ start = omega (arith, mod-one (element / inner)) in
    ap (λ m. m / block % ranks) e ∙ sym (deals start h)

pub dim_owner : (dist : Dist) (extent ranks block start offset count : ℕ) (low shift : ℤ) → DealsBlocks dist extent ranks block → pos start ≡ low +ℤ shift → (low +ℤ shift +ℤ pos count) ≤ℤ pos extent → offset < count → ((start + offset) / block) % ranks ≡ owner_of_position dist extent ranks (at_least_zero (low +ℤ pos offset +ℤ shift))
dim_owner dist extent ranks block start offset count low shift deals s h k =
    let e : low +ℤ pos offset +ℤ shift ≡ pos (start + offset) = omega (arith, ints) in
    let l : start + offset < extent = omega (arith, ints) in
    sym (deals (start + offset) l) ∙ ap (λ z. owner_of_position dist extent ranks (at_least_zero z)) (sym e)

-- ---- the list of the owners

pub laid_is_regular : (shape : Shape) (along : Along) (extent : ℕ) (dist : Dist) (ranks inner width outer : ℕ) (positions : Positions) → outer * width * inner ≡ size_of shape → ((element : ℕ) → element < size_of shape → owner_at positions ((element / inner) % width) ≡ owner_of_position dist extent ranks (position_of shape along element)) → owners_laid inner width outer positions ≡ regular_owners shape along extent dist ranks
unfolding regular_owners
laid_is_regular shape along extent dist ranks inner width outer positions s h =
    fill_by_all (λ element. owner_of_position dist extent ranks (position_of shape along element)) (owners_laid inner width outer positions) (size_of shape) 0 (length-owners_laid inner width outer positions ∙ s) (λ k l. owner_in-owners_laid inner width outer positions k (omega (arith, l, s)) ∙ h k l)

pub owners_are_ranks : (inner width outer : ℕ) (positions : Positions) → All (λ owner. owner < positions.ranks) (owners_laid inner width outer positions)
owners_are_ranks inner width outer positions =
    All-from_get_or (λ owner. owner < positions.ranks) (owners_laid inner width outer positions) 0 (λ i h. rw (owner_in-owners_laid inner width outer positions i (omega (arith, h, length-owners_laid inner width outer positions))) (mod_below ((positions.start + (i / inner) % width) / positions.block) positions.ranks positions.dealt.1))
