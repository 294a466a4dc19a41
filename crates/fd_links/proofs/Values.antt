-- The chains that rings tell, before and after a slot is moved.
use Rattle.std.proofs.Common.{◌≡◌, ℕ, zero, suc, ◌+◌, ◌-◌, ◌<◌, ◌≤◌, cond, eqb, List, [], ◌∷◌, ◌++◌, length, get_or, map, set, take, replicate, None, Some, refl, sym, ap, ap₂, ◌∙◌, arith, inl, inr}
use Rattle.std.specs.Prelude.{Contains, sum_by, nat_lt, slice_get, slice_index_or}
use Rattle.std.specs.List.{flat_map}
use Rattle.std.proofs.lemmas.Bool.{cases_Bool, cases_eq, eqb-true, eqb-false, eq-eqb, ne_eqb, lt-ltb, ltb-true}
use Rattle.std.proofs.lemmas.List.{ext_get_or, get_or-map, get_or-set_same, get_or-set_other, get_or-take, get_or-replicate, length-append, length-map, length-replicate, length-set, length-take-le, map-append, take-set-le}
use Rattle.std.proofs.lemmas.List.Sums.{sum_by-cons, get_or-le-sum_by}
use Rattle.fd_links.specs.declared.links.Node.{Node}
use Rattle.fd_links.specs.Chains.{Chains, HasSlots, next_in, pushed, unlinked, without}
use Rattle.fd_links.specs.Rings.{AreRings, AreWithin, Follows, as_slots, slot_of, told}
use Rattle.fd_links.proofs.Counts.{moved_rings, times, times-append, times-cons, without_none}
use Rattle.fd_links.proofs.Kept.{moved_at, moved_past}
use Rattle.fd_links.proofs.Paths.{without_other, without_self}

-- ---- places and slots

same_test : (heads slot x : ℕ) → heads ≤ x → eqb (x - heads) slot ≡ eqb x (heads + slot)
same_test heads slot x h =
    elim (cases_Bool (eqb x (heads + slot))) [
      | inl e ↦ eq-eqb (x - heads) slot (omega (arith, eqb-true x (heads + slot) e)) ∙ sym e
      | inr e ↦ ne_eqb (x - heads) slot (λ q. eqb-false x (heads + slot) e (omega (arith, q, h))) ∙ sym e
    ]

times-as_slots : (heads high slot : ℕ) (xs : List ℕ) → AreWithin heads high xs → times slot (as_slots heads xs) ≡ times (heads + slot) xs
times-as_slots heads high slot [] w = refl
times-as_slots heads high slot (x ∷ xs) w =
    times-cons slot (x - heads) (as_slots heads xs) ∙ (ap₂ (λ a b. cond a 1 0 + b) (same_test heads slot x w.0) (times-as_slots heads high slot xs w.2) ∙ sym (times-cons (heads + slot) x xs))

as_slots-without : (heads high slot : ℕ) (xs : List ℕ) → AreWithin heads high xs → as_slots heads (without (heads + slot) xs) ≡ without slot (as_slots heads xs)
as_slots-without heads high slot [] w = refl
as_slots-without heads high slot (x ∷ xs) w =
    elim (cases_Bool (eqb x (heads + slot))) [
      | inl e ↦ rw (without_self (heads + slot) x xs e, without_self slot (x - heads) (as_slots heads xs) (same_test heads slot x w.0 ∙ e)) (as_slots-without heads high slot xs w.2)
      | inr e ↦ rw (without_other (heads + slot) x xs e, without_other slot (x - heads) (as_slots heads xs) (same_test heads slot x w.0 ∙ e)) (ap (λ ys. (x - heads) ∷ ys) (as_slots-without heads high slot xs w.2))
    ]

as_slots-push : (heads slot : ℕ) (xs : List ℕ) → as_slots heads (xs ++ (heads + slot) ∷ []) ≡ as_slots heads xs ++ slot ∷ []
as_slots-push heads slot xs =
    let e : (heads + slot) - heads ≡ slot = omega arith in
    map-append (λ i. i - heads) xs ((heads + slot) ∷ []) ∙ ap (λ q. as_slots heads xs ++ q ∷ []) e

-- what is in a list is in it once or more
Contains-times : (xs : List ℕ) (x k : ℕ) → k < length xs → slice_index_or xs k x ≡ x → 1 ≤ times x xs
Contains-times [] x k l h = absurd (omega (arith, l))
Contains-times (y ∷ ys) x zero l h =
    let c : times x (y ∷ ys) ≡ 1 + times x ys = times-cons x y ys ∙ rw (eq-eqb y x h) refl in omega (arith, c)
Contains-times (y ∷ ys) x (suc k) l h = omega (arith, times-cons x y ys, Contains-times ys x k (omega (arith, l)) h)

pub place_below : (low high s : ℕ) (xs : List ℕ) → AreWithin low high xs → 1 ≤ times s xs → s < high
place_below low high s [] w h = absurd (omega (arith, h))
place_below low high s (x ∷ xs) w h =
    elim (cases_Bool (eqb x s)) [
      | inl e ↦ omega (arith, w.1, eqb-true x s e)
      | inr e ↦ let c : times s (x ∷ xs) ≡ 0 + times s xs = times-cons s x xs ∙ rw e refl in place_below low high s xs w.2 (omega (arith, h, c))
    ]

-- where a sum is 1 at most and one ring has it, no other has
others_none : (f : List ℕ → ℕ) (rings : List (List ℕ)) (i c : ℕ) → (c ≡ i → ⊥) → i < length rings → c < length rings → sum_by f rings ≤ 1 → 1 ≤ f (get_or rings i []) → f (get_or rings c []) ≡ 0
others_none f [] i c n l m h g = absurd (omega (arith, l))
others_none f (r ∷ rings) zero zero n l m h g = absurd (n refl)
others_none f (r ∷ rings) zero (suc c) n l m h g = omega (arith, sum_by-cons f r rings, h, g, get_or-le-sum_by f rings c [] (omega (arith, m)))
others_none f (r ∷ rings) (suc i) zero n l m h g = omega (arith, sum_by-cons f r rings, h, g, get_or-le-sum_by f rings i [] (omega (arith, l)))
others_none f (r ∷ rings) (suc i) (suc c) n l m h g =
    others_none f rings i c (λ q. n (ap suc q)) (omega (arith, l)) (omega (arith, m)) (omega (arith, h, sum_by-cons f r rings)) g

-- ---- the chains of rings

pub chain_at : (heads : ℕ) (rings : List (List ℕ)) (n c : ℕ) → n ≤ length rings → c < n → get_or (map (as_slots heads) (take n rings)) c [] ≡ as_slots heads (get_or rings c [])
chain_at heads rings n c h l =
    get_or-map (as_slots heads) (take n rings) c [] [] (omega (arith, l, length-take-le n rings h)) ∙ ap (as_slots heads) (get_or-take n rings c [] l)

length-chains : (heads : ℕ) (rings : List (List ℕ)) (n : ℕ) → n ≤ length rings → length (map (as_slots heads) (take n rings)) ≡ n
length-chains heads rings n h = length-map (take n rings) (as_slots heads) ∙ length-take-le n rings h

abbrev chains_with : List (List ℕ) → List ℕ → Chains
chains_with a b = record { chains = a; free = b }

-- a slot that is in one ring is in no other
absent : (heads : ℕ) (nodes : List Node) (rings : List (List ℕ)) (s i c : ℕ) → AreRings heads nodes rings → heads ≤ s → i < heads → c < heads → (c ≡ i → ⊥) → 1 ≤ times s (get_or rings i []) → without s (get_or rings c []) ≡ get_or rings c []
absent heads nodes rings s i c k l u v n g =
    let in_i : i < length rings = omega (arith, u, k.each_head) in
    let in_c : c < length rings = omega (arith, v, k.each_head) in
    let one = k.once s l (place_below heads (length nodes) s (get_or rings i []) (k.inside i u) g) in
    without_none s (get_or rings c []) (others_none (times s) rings i c n in_i in_c (omega (arith, one)) g)

-- the ring of a free slot, and that of a slot of a chain
pub in_free : (heads : ℕ) (nodes : List Node) (rings : List (List ℕ)) (slot : ℕ) → AreRings heads nodes rings → Contains (told heads rings).free slot → 1 ≤ times (heads + slot) (get_or rings (heads - 1) [])
in_free heads nodes rings slot k m =
    let u : heads - 1 < heads = omega (arith, k.heads_inside.0) in
    let c = Contains-times (as_slots heads (get_or rings (heads - 1) [])) slot m.0 m.1 m.2 in
    omega (arith, c, times-as_slots heads (length nodes) slot (get_or rings (heads - 1) []) (k.inside (heads - 1) u))

pub in_chain : (heads : ℕ) (nodes : List Node) (rings : List (List ℕ)) (chain slot : ℕ) → AreRings heads nodes rings → chain < heads - 1 → Contains (get_or (told heads rings).chains chain []) slot → 1 ≤ times (heads + slot) (get_or rings chain [])
in_chain heads nodes rings chain slot k l m =
    let n : Contains (as_slots heads (get_or rings chain [])) slot = rw (chain_at heads rings (heads - 1) chain (omega (arith, k.each_head)) l) at m in
    let c = Contains-times (as_slots heads (get_or rings chain [])) slot n.0 n.1 n.2 in
    omega (arith, c, times-as_slots heads (length nodes) slot (get_or rings chain []) (k.inside chain (omega (arith, l))))

pub chains_length : (heads : ℕ) (nodes : List Node) (rings : List (List ℕ)) → AreRings heads nodes rings → length (told heads rings).chains ≡ heads - 1
chains_length heads nodes rings k = length-chains heads rings (heads - 1) (omega (arith, k.each_head))

-- ---- a slot moved

pub told-pushed : (heads : ℕ) (nodes : List Node) (rings : List (List ℕ)) (t slot : ℕ) → AreRings heads nodes rings → t < heads - 1 → 1 ≤ times (heads + slot) (get_or rings (heads - 1) []) → told heads (moved_rings rings (heads + slot) t) ≡ pushed (told heads rings) t slot
told-pushed heads nodes rings t slot k l g =
    let s = heads + slot in
    let n = heads - 1 in
    let long : n ≤ length rings = omega (arith, k.each_head) in
    let moved = moved_rings rings s t in
    let moved_len : length moved ≡ length rings = length-set (map (without s) rings) t (without s (get_or rings t []) ++ s ∷ []) ∙ length-map rings (without s) in
    let still : n ≤ length moved = omega (arith, long, moved_len) in
    let from : n < heads = omega (arith, l) in
    let old = map (as_slots heads) (take n rings) in
    let old_len = length-chains heads rings n long in
    let new = get_or old t [] ++ slot ∷ [] in
    let none : (c : ℕ) → c < n → without s (get_or rings c []) ≡ get_or rings c [] = λ c h. absent heads nodes rings s n c k (omega arith) from (omega (arith, h)) (λ q. absurd (omega (arith, h, q))) g in
    let each : (c : ℕ) → c < n → get_or (map (as_slots heads) (take n moved)) c [] ≡ get_or (set old t new) c [] = λ c h. elim (cases_eq c t) [
      | inl e ↦ rw e (chain_at heads moved n t still l ∙ (ap (as_slots heads) (moved_at rings s t (omega (arith, l, long)) ∙ ap (λ xs. xs ++ s ∷ []) (none t l)) ∙ (as_slots-push heads slot (get_or rings t []) ∙ (ap (λ xs. xs ++ slot ∷ []) (sym (chain_at heads rings n t long l)) ∙ sym (get_or-set_same old t new [] (omega (arith, l, old_len)))))))
      | inr o ↦ chain_at heads moved n c still h ∙ (ap (as_slots heads) (moved_past rings s t c o (omega (arith, h, long)) ∙ none c h) ∙ (sym (chain_at heads rings n c long h) ∙ sym (get_or-set_other old t c new [] o)))
    ] in
    let moved_old = length-chains heads moved n still in
    ap₂ chains_with
    (ext_get_or [] (map (as_slots heads) (take n moved)) (set old t new) (moved_old ∙ sym (length-set old t new ∙ old_len)) (λ c h. each c (omega (arith, h, moved_old))))
    (ap (as_slots heads) (moved_past rings s t n (λ q. absurd (omega (arith, l, q))) (omega (arith, from, k.each_head))) ∙ as_slots-without heads (length nodes) slot (get_or rings n []) (k.inside n from))

pub told-unlinked : (heads : ℕ) (nodes : List Node) (rings : List (List ℕ)) (chain slot : ℕ) → AreRings heads nodes rings → chain < heads - 1 → 1 ≤ times (heads + slot) (get_or rings chain []) → told heads (moved_rings rings (heads + slot) (heads - 1)) ≡ unlinked (told heads rings) slot
told-unlinked heads nodes rings chain slot k l g =
    let s = heads + slot in
    let n = heads - 1 in
    let long : n ≤ length rings = omega (arith, k.each_head) in
    let moved = moved_rings rings s n in
    let moved_len : length moved ≡ length rings = length-set (map (without s) rings) n (without s (get_or rings n []) ++ s ∷ []) ∙ length-map rings (without s) in
    let still : n ≤ length moved = omega (arith, long, moved_len) in
    let to : n < heads = omega (arith, l) in
    let old = map (as_slots heads) (take n rings) in
    let old_len = length-chains heads rings n long in
    let each : (c : ℕ) → c < n → get_or (map (as_slots heads) (take n moved)) c [] ≡ get_or (map (without slot) old) c [] = λ c h.
    chain_at heads moved n c still h ∙ (ap (as_slots heads) (moved_past rings s n c (λ q. absurd (omega (arith, h, q))) (omega (arith, h, long))) ∙ (as_slots-without heads (length nodes) slot (get_or rings c []) (k.inside c (omega (arith, h))) ∙ (ap (without slot) (sym (chain_at heads rings n c long h)) ∙ sym (get_or-map (without slot) old c [] [] (omega (arith, h, old_len)))))) in
    let moved_old = length-chains heads moved n still in
    let none = absent heads nodes rings s chain n k (omega arith) (omega (arith, l)) to (λ q. absurd (omega (arith, l, q))) g in
    ap₂ chains_with
    (ext_get_or [] (map (as_slots heads) (take n moved)) (map (without slot) old) (moved_old ∙ sym (length-map old (without slot) ∙ old_len)) (λ c h. each c (omega (arith, h, moved_old))))
    (ap (as_slots heads) (moved_at rings s n (omega (arith, to, k.each_head)) ∙ ap (λ xs. xs ++ s ∷ []) none) ∙ as_slots-push heads slot (get_or rings n []))

-- a new slot comes to the free chain
pub told-added : (heads : ℕ) (rings : List (List ℕ)) (slot : ℕ) → heads - 1 < length rings → told heads (set rings (heads - 1) (get_or rings (heads - 1) [] ++ (heads + slot) ∷ [])) ≡ record { chains = (told heads rings).chains; free = (told heads rings).free ++ slot ∷ [] }
told-added heads rings slot l =
    let n = heads - 1 in
    let new = get_or rings n [] ++ (heads + slot) ∷ [] in
    ap₂ chains_with
    (ap (map (as_slots heads)) (take-set-le n rings n new (omega arith)))
    (ap (as_slots heads) (get_or-set_same rings n new [] l) ∙ as_slots-push heads slot (get_or rings n []))

-- no slot at all
pub told-new : (heads : ℕ) → 0 < heads → told heads (replicate heads []) ≡ record { chains = replicate (heads - 1) []; free = [] }
told-new heads p =
    let n = heads - 1 in
    let len : length {A = List ℕ} (replicate heads []) ≡ heads = length-replicate heads [] in
    let long : n ≤ length {A = List ℕ} (replicate heads []) = omega (arith, len) in
    let old_len = length-chains heads (replicate heads []) n long in
    let new_len : length {A = List ℕ} (replicate n []) ≡ n = length-replicate n [] in
    ap₂ chains_with
    (ext_get_or [] (map (as_slots heads) (take n (replicate heads []))) (replicate n []) (old_len ∙ sym new_len) (λ c h.
    chain_at heads (replicate heads []) n c long (omega (arith, h, old_len)) ∙ (ap (as_slots heads) (get_or-replicate heads c [] [] (omega (arith, h, old_len))) ∙ sym (get_or-replicate n c [] [] (omega (arith, h, old_len))))))
    (ap (as_slots heads) (get_or-replicate heads n [] [] (omega (arith, p))))

-- ---- each slot is in one chain

sum-front : (f : List ℕ → ℕ) (rings : List (List ℕ)) (n : ℕ) → length rings ≡ n + 1 → sum_by f rings ≡ sum_by f (take n rings) + f (get_or rings n [])
sum-front f [] n h = absurd (omega (arith, h))
sum-front f (r ∷ []) zero h = sum_by-cons f r [] ∙ omega arith
sum-front f (r ∷ (q ∷ rings)) zero h = absurd (omega (arith, h))
sum-front f (r ∷ rings) (suc n) h =
    omega (arith, sum_by-cons f r rings, sum_by-cons f r (take n rings), sum-front f rings n (omega (arith, h)))

times-slots : (heads high slot : ℕ) (rings : List (List ℕ)) → ((c : ℕ) → c < length rings → AreWithin heads high (get_or rings c [])) → times slot (flat_map (λ chain. chain) (map (as_slots heads) rings)) ≡ sum_by (times (heads + slot)) rings
times-slots heads high slot [] w = refl
times-slots heads high slot (r ∷ rings) w =
    omega (arith, times-append slot (as_slots heads r) (flat_map (λ chain. chain) (map (as_slots heads) rings)), times-as_slots heads high slot r (w 0 (omega arith)), times-slots heads high slot rings (λ c h. w (suc c) (omega (arith, h))), sum_by-cons (times (heads + slot)) r rings)

length-slots : (heads : ℕ) (rings : List (List ℕ)) → length (flat_map (λ chain. chain) (map (as_slots heads) rings)) ≡ sum_by length rings
length-slots heads [] = refl
length-slots heads (r ∷ rings) =
    omega (arith, length-append (as_slots heads r) (flat_map (λ chain. chain) (map (as_slots heads) rings)), length-map r (λ i. i - heads), length-slots heads rings, sum_by-cons length r rings)

pub has_slots : (heads : ℕ) (nodes : List Node) (rings : List (List ℕ)) → AreRings heads nodes rings → HasSlots (told heads rings) (length nodes - heads)
has_slots heads nodes rings k =
    let n = heads - 1 in
    let front = take n rings in
    let last = get_or rings n [] in
    let in_front = flat_map (λ chain. chain) (map (as_slots heads) front) in
    let split : length rings ≡ n + 1 = omega (arith, k.each_head, k.heads_inside.0) in
    let front_len : length front ≡ n = length-take-le n rings (omega (arith, split)) in
    let u : n < heads = omega (arith, k.heads_inside.0) in (
      omega (arith, length-append in_front (as_slots heads last), length-slots heads front, length-map last (λ i. i - heads), sum-front length rings n split, k.total),
      λ slot h. omega (arith, times-append slot in_front (as_slots heads last), times-slots heads (length nodes) slot front (λ c m. rw (get_or-take n rings c [] (omega (arith, m, front_len))) (k.inside c (omega (arith, m, front_len)))), times-as_slots heads (length nodes) slot last (k.inside n u), sum-front (times (heads + slot)) rings n split, k.once (heads + slot) (omega arith) (omega (arith, h))),
    )

-- ---- the first slot, and the next

slot_of-head : (heads i : ℕ) → i < heads → slot_of heads i ≡ None
slot_of-head heads i h = rw (lt-ltb i heads h) refl

slot_of-slot : (heads i : ℕ) → heads ≤ i → slot_of heads i ≡ Some (i - heads)
slot_of-slot heads i h =
    elim (cases_Bool (nat_lt i heads)) [
      | inl e ↦ absurd (omega (arith, ltb-true i heads e, h))
      | inr e ↦ rw e refl
    ]

pub first_of : (heads high : ℕ) (f : ℕ → ℕ) (from : ℕ) (xs : List ℕ) (to : ℕ) → to < heads → AreWithin heads high xs → Follows f from xs to → slot_of heads (f from) ≡ slice_get (as_slots heads xs) 0
first_of heads high f from [] to l w h = ap (slot_of heads) h ∙ slot_of-head heads to l
first_of heads high f from (x ∷ xs) to l w h = ap (slot_of heads) h.0 ∙ slot_of-slot heads x w.0

pub next_of : (heads high : ℕ) (f : ℕ → ℕ) (slot from : ℕ) (xs : List ℕ) (to : ℕ) → to < heads → AreWithin heads high xs → Follows f from xs to → 1 ≤ times (heads + slot) xs → slot_of heads (f (heads + slot)) ≡ next_in (as_slots heads xs) slot
next_of heads high f slot from [] to l w h m = absurd (omega (arith, m))
next_of heads high f slot from (x ∷ xs) to l w h m =
    elim (cases_Bool (eqb x (heads + slot))) [
      | inl e ↦ rw (same_test heads slot x w.0 ∙ e) (ap (λ q. slot_of heads (f q)) (sym (eqb-true x (heads + slot) e)) ∙ first_of heads high f x xs to l w.2 h.1)
      | inr e ↦
          let c : times (heads + slot) (x ∷ xs) ≡ 0 + times (heads + slot) xs = times-cons (heads + slot) x xs ∙ rw e refl in
          rw (same_test heads slot x w.0 ∙ e) (next_of heads high f slot x xs to l w.2 h.1 (omega (arith, m, c)))
    ]
