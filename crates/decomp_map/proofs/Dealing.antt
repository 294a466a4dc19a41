-- How many positions go to a rank.
use Rattle.std.proofs.Common.{◌≡◌, ℕ, zero, suc, ◌+◌, ◌*◌, ◌/◌, ◌%◌, ◌-◌, ◌⊎◌, inl, inr, ◌<◌, ◌≤◌, ◌==◌, Bool, cond, eqb, ltb, refl, sym, ap, ap₂, ◌∙◌, arith}
use Rattle.std.proofs.lemmas.Bool.{cases_lt, eq-eqb, ne_eqb, lt-ltb, le-ltb}
use Rattle.std.proofs.lemmas.Bool.Decides.{nat_tests}
use Rattle.std.proofs.lemmas.Nat.{div-mul-add, div-add-mod', mod_below, mod-mul-add}
use Rattle.std.proofs.Math.Nat.{mod-eq_of_lt, add-mod_left}
use Rattle.decomp_map.specs.Counting.{count_below}
use Rattle.decomp_map.specs.Positions.{is_dealt, position_of_number}
use Rattle.decomp_map.proofs.Counting.{count_below-zero, count_below-suc, count_below-add, count_below-mono, count_below_periodic, count_below_stretched}

-- a block goes to a rank
abbrev takes_block : ℕ → ℕ → ℕ → Bool
takes_block ranks rank block = block % ranks == rank

last_block : (rank n : ℕ) → cond (ltb rank n) 1 0 + cond (eqb n rank) 1 0 ≡ cond (ltb rank (suc n)) 1 0
last_block rank n = grind (arith, nat_tests)

-- of the blocks of one turn a rank gets one
one_of_a_turn : (ranks rank n : ℕ) → n ≤ ranks → count_below (takes_block ranks rank) n ≡ cond (ltb rank n) 1 0
one_of_a_turn ranks rank zero h = count_below-zero (takes_block ranks rank) ∙ grind (arith, nat_tests)
one_of_a_turn ranks rank (suc n) h =
    let e : n % ranks ≡ n = mod-eq_of_lt (omega arith) in
    let i : count_below (takes_block ranks rank) n ≡ cond (ltb rank n) 1 0 = one_of_a_turn ranks rank n (omega arith) in
    let f : cond (eqb (n % ranks) rank) 1 0 ≡ cond (eqb n rank) 1 0 = ap (λ m. cond (eqb m rank) 1 0) e in
    let s : cond (ltb rank n) 1 0 + cond (eqb n rank) 1 0 ≡ cond (ltb rank (suc n)) 1 0 = last_block rank n in
    count_below-suc (takes_block ranks rank) n ∙ (ap₂ (λ a b. a + b) i f ∙ s)

-- the blocks below a block
blocks_taken : (ranks rank turn last : ℕ) → rank < ranks → last < ranks → count_below (takes_block ranks rank) (turn * ranks + last) ≡ turn + cond (ltb rank last) 1 0
blocks_taken ranks rank turn last r l =
    let p : count_below (takes_block ranks rank) (turn * ranks + last) ≡ turn * count_below (takes_block ranks rank) ranks + count_below (takes_block ranks rank) last = count_below_periodic (takes_block ranks rank) ranks (λ i. ap (λ m. m == rank) (add-mod_left ranks i)) turn last in
    let a : count_below (takes_block ranks rank) ranks ≡ 1 = one_of_a_turn ranks rank ranks (omega arith) ∙ grind (arith, nat_tests) in
    let b : count_below (takes_block ranks rank) last ≡ cond (ltb rank last) 1 0 = one_of_a_turn ranks rank last (omega arith) in
    p ∙ rw (a, b) (omega arith)

-- the positions below a position that is `rest` into a block
pub positions_dealt : (block ranks rank turn last rest : ℕ) → 0 < block → rank < ranks → last < ranks → rest ≤ block → count_below (is_dealt block ranks rank) ((turn * ranks + last) * block + rest) ≡ block * (turn + cond (ltb rank last) 1 0) + cond (eqb last rank) rest 0
positions_dealt block ranks rank turn last rest b r l h =
    let s = count_below_stretched (is_dealt block ranks rank) (takes_block ranks rank) block (λ j c k. ap (λ m. m % ranks == rank) (div-mul-add j block c k)) (turn * ranks + last) rest h in
    let m : (turn * ranks + last) % ranks ≡ last = mod-mul-add turn ranks last l in
    s ∙ ap₂ (λ x y. block * x + cond (eqb y rank) rest 0) (blocks_taken ranks rank turn last r l) m

-- the positions below a position, by division
pub dealt_below : (block ranks rank end : ℕ) → 0 < block → rank < ranks → count_below (is_dealt block ranks rank) end ≡ block * (end / block / ranks + cond (ltb rank (end / block % ranks)) 1 0) + cond (eqb (end / block % ranks) rank) (end % block) 0
dealt_below block ranks rank end b r =
    let e : (end / block / ranks * ranks + end / block % ranks) * block + end % block ≡ end = ap (λ m. m * block + end % block) (div-add-mod' (end / block) ranks) ∙ div-add-mod' end block in
    sym (ap (count_below (is_dealt block ranks rank)) e) ∙ positions_dealt block ranks rank (end / block / ranks) (end / block % ranks) (end % block) b r (mod_below (end / block) ranks (omega arith)) (omega (arith, mod_below end block b))

added : (block rank turn in_turn rest last : ℕ) → ((rank < in_turn) × (last ≡ block)) ⊎ (((rank ≡ in_turn) × (last ≡ rest)) ⊎ ((in_turn < rank) × (last ≡ 0))) → turn * block + last ≡ block * (turn + cond (ltb rank in_turn) 1 0) + cond (eqb in_turn rank) rest 0
added block rank turn in_turn rest last (inl h) =
    rw (lt-ltb rank in_turn h.0, ne_eqb in_turn rank (λ e. omega (arith, h.0))) (omega (arith, h.1))
added block rank turn in_turn rest last (inr (inl h)) =
    rw (le-ltb rank in_turn (omega (arith, h.0)), eq-eqb in_turn rank (sym h.0)) (omega (arith, h.1))
added block rank turn in_turn rest last (inr (inr h)) =
    rw (le-ltb rank in_turn (omega (arith, h.0)), ne_eqb in_turn rank (λ e. omega (arith, h.0))) (omega (arith, h.1))

-- what the code adds up: whole turns, and of the turn at hand nothing, the block's front or a whole block
pub dealt_is : (block ranks rank end turn in_turn last : ℕ) → 0 < block → rank < ranks → turn ≡ end / block / ranks → in_turn ≡ end / block % ranks → ((rank < in_turn) × (last ≡ block)) ⊎ (((rank ≡ in_turn) × (last ≡ end % block)) ⊎ ((in_turn < rank) × (last ≡ 0))) → turn * block + last ≡ count_below (is_dealt block ranks rank) end
dealt_is block ranks rank end turn in_turn last b r t i cases =
    let d : count_below (is_dealt block ranks rank) end ≡ block * (turn + cond (ltb rank in_turn) 1 0) + cond (eqb in_turn rank) (end % block) 0 = dealt_below block ranks rank end b r ∙ sym (rw (t, i) refl) in
    added block rank turn in_turn (end % block) last cases ∙ sym d

-- the difference of two counts is the count between
pub dealt_between : (p : ℕ → Bool) (start n : ℕ) → count_below p (start + n) - count_below p start ≡ count_below (λ i. p (start + i)) n
dealt_between p start n = omega (arith, count_below-add p start n)

products : (q block ranks rank rest : ℕ) → q * block * ranks + rank * block + rest ≡ (q * ranks + rank) * block + rest
products q block ranks rank rest = omega arith

whole : (block q rest number : ℕ) → q * block + rest ≡ number → block * (q + 0) + rest ≡ number
whole block q rest number e = omega (arith, e)

-- a position that goes to a rank is counted behind itself
one_more : (block ranks rank position : ℕ) → position / block % ranks ≡ rank → count_below (is_dealt block ranks rank) (suc position) ≡ count_below (is_dealt block ranks rank) position + 1
one_more block ranks rank position e =
    count_below-suc (is_dealt block ranks rank) position ∙ rw (eq-eqb (position / block % ranks) rank e) refl

-- it goes to the rank
pub position_of_number-owner : (block ranks rank number : ℕ) → 0 < block → rank < ranks → position_of_number block ranks rank number / block % ranks ≡ rank
position_of_number-owner block ranks rank number b r =
    ap (λ m. m % ranks) (div-mul-add (number / block * ranks + rank) block (number % block) (mod_below number block b)) ∙ mod-mul-add (number / block) ranks rank r

-- and the rank has that many before it
pub position_of_number-count : (block ranks rank number : ℕ) → 0 < block → rank < ranks → count_below (is_dealt block ranks rank) (position_of_number block ranks rank number) ≡ number
position_of_number-count block ranks rank number b r =
    positions_dealt block ranks rank (number / block) rank (number % block) b r r (omega (arith, mod_below number block b)) ∙ rw (le-ltb rank rank (omega arith), eq-eqb rank rank refl) (whole block (number / block) (number % block) number (div-add-mod' number block))

-- it is at the start or behind it, where the number is that of the start or more
pub position_of_number-start : (block ranks rank number start : ℕ) → 0 < block → rank < ranks → count_below (is_dealt block ranks rank) start ≤ number → start ≤ position_of_number block ranks rank number
position_of_number-start block ranks rank number start b r h =
    elim (cases_lt (position_of_number block ranks rank number) start) [
      | inr k ↦ k
      | inl k ↦ absurd (omega (arith, h, position_of_number-count block ranks rank number b r, one_more block ranks rank (position_of_number block ranks rank number) (position_of_number-owner block ranks rank number b r), count_below-mono (is_dealt block ranks rank) (suc (position_of_number block ranks rank number)) start k))
    ]

-- the same by a product less, which stays small
pub position_of_number-is : (block ranks rank number : ℕ) → (number - number % block) * ranks + rank * block + number % block ≡ position_of_number block ranks rank number
position_of_number-is block ranks rank number =
    let e : number - number % block ≡ number / block * block = omega (arith, div-add-mod' number block) in
    rw e (products (number / block) block ranks rank (number % block))
