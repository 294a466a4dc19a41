-- What chains say of the edges that they keep.
use Rattle.std.proofs.Common.{◌≡◌, ℕ, zero, suc, ◌+◌, ◌<◌, false, eqb, List, [], ◌∷◌, ◌++◌, length, get_or, set, drop, if◌then◌else◌, Option, None, Some, MatchOption, slice_get, Contains, refl, sym, ◌∙◌, ap, subst, inl, inr, arith, get_or-set_same, get_or-set_other, length-append, replicate, flat_map, length-set, length-drop, get_or-drop, drop-drop, drop-cons, ◌-◌}
use Rattle.std.proofs.lemmas.Bool.{cases_Bool, eqb-true, eqb-false, eq-eqb, ne_eqb}
use Rattle.fd_links.specs.Chains.{Chains, HasSlots, slots_of, without, pushed, next_in}
use Rattle.interval_graph.specs.declared.chains.Told.{Told}
use Rattle.interval_graph.specs.declared.node.EdgeKind.TheVariants.{Forward}
use Rattle.interval_graph.specs.Chained.{told_by, places_of, told_at, TellsAt, told_from, IsPlace, AreChained}

-- ---- one more edge

more_places : (n i j : ℕ) (ts : List Told) (t : Told) → j ≡ i + length ts → t.by ≡ n → places_of n i (ts ++ (t ∷ [])) ≡ places_of n i ts ++ (j ∷ [])
more_places n i j [] t e h = rw (eq-eqb t.by n h) (ap (λ k. k ∷ []) (omega (arith, e)))
more_places n i j (u ∷ ts) t e h =
    let rest = more_places n (suc i) j ts t (omega (arith, e)) h in
    elim (cases_Bool (eqb u.by n)) [
      | inl k ↦ rw k (ap (λ xs. i ∷ xs) rest)
      | inr k ↦ rw k rest
    ]

same_places : (n i : ℕ) (ts : List Told) (t : Told) → (t.by ≡ n → ⊥) → places_of n i (ts ++ (t ∷ [])) ≡ places_of n i ts
same_places n i [] t h = rw (ne_eqb t.by n h) refl
same_places n i (u ∷ ts) t h =
    let rest = same_places n (suc i) ts t h in
    elim (cases_Bool (eqb u.by n)) [
      | inl k ↦ rw k (ap (λ xs. i ∷ xs) rest)
      | inr k ↦ rw k rest
    ]

taken_out : (slot : ℕ) → without slot (slot ∷ []) ≡ []
taken_out slot = rw (eq-eqb slot slot refl) refl

one_more_chain : (chains : List (List ℕ)) (ts : List Told) (t : Told) (slot n : ℕ) → slot ≡ length ts → t.by < length chains → n < length chains
    → ((m : ℕ) → m < length chains → get_or chains m [] ≡ places_of m 0 ts)
    → get_or (set chains t.by (get_or chains t.by [] ++ (slot ∷ []))) n [] ≡ places_of n 0 (ts ++ (t ∷ []))
one_more_chain chains ts t slot n e inside l h =
    elim (cases_Bool (eqb t.by n)) [
      | inl k ↦
          let same : t.by ≡ n = eqb-true t.by n k in
          let here : get_or (set chains t.by (get_or chains t.by [] ++ (slot ∷ []))) t.by [] ≡ get_or chains t.by [] ++ (slot ∷ []) = get_or-set_same chains t.by (get_or chains t.by [] ++ (slot ∷ [])) [] inside in
          let all : get_or (set chains t.by (get_or chains t.by [] ++ (slot ∷ []))) t.by [] ≡ places_of t.by 0 (ts ++ (t ∷ [])) =
          here ∙ (ap (λ xs. xs ++ (slot ∷ [])) (h t.by inside) ∙ sym (more_places t.by 0 slot ts t (omega (arith, e)) refl)) in
          subst (λ (m : ℕ). get_or (set chains t.by (get_or chains t.by [] ++ (slot ∷ []))) m [] ≡ places_of m 0 (ts ++ (t ∷ []))) same all
      | inr k ↦
          let other : t.by ≡ n → ⊥ = eqb-false t.by n k in
          let ne : n ≡ t.by → ⊥ = λ m. other (sym m) in
          let there : get_or (set chains t.by (get_or chains t.by [] ++ (slot ∷ []))) n [] ≡ get_or chains n [] = get_or-set_other chains t.by n (get_or chains t.by [] ++ (slot ∷ [])) [] ne in
          there ∙ (h n l ∙ sym (same_places n 0 ts t other))
    ]

pub with_one : (before added after : Chains) (ts : List Told) (t : Told) (slot : ℕ) → AreChained before ts → slot ≡ length (slots_of before) → t.by < length before.chains
    → added ≡ record { chains = before.chains; free = before.free ++ (slot ∷ []) } → HasSlots added (slot + 1) → after ≡ pushed added t.by slot → HasSlots after (length (slots_of added))
    → AreChained after (ts ++ (t ∷ []))
with_one before added after ts t slot kept number inside is_added has is_after slots =
    let count : slot ≡ length ts = number ∙ kept.slots.0 in
    let more : length (ts ++ (t ∷ [])) ≡ length ts + 1 = length-append ts (t ∷ []) in
    let all : length (slots_of added) ≡ length (ts ++ (t ∷ [])) = omega (arith, has.0, count, more) in
    let chains : added.chains ≡ before.chains = ap (λ (c : Chains). c.chains) is_added in
    let free : added.free ≡ slot ∷ [] = ap (λ (c : Chains). c.free) is_added ∙ ap (λ xs. xs ++ (slot ∷ [])) kept.none_free in
    let new : after.chains ≡ set before.chains t.by (get_or before.chains t.by [] ++ (slot ∷ [])) = ap (λ (c : Chains). c.chains) is_after ∙ ap (λ xs. set xs t.by (get_or xs t.by [] ++ (slot ∷ []))) chains in
    record {
      slots = subst (HasSlots after) all slots;
      none_free = ap (λ (c : Chains). c.free) is_after ∙ (ap (without slot) free ∙ taken_out slot);
      chains = λ n l. ap (λ xs. get_or xs n []) new ∙ one_more_chain before.chains ts t slot n count inside (let k : length after.chains ≡ length before.chains = ap length new ∙ length-set before.chains t.by (get_or before.chains t.by [] ++ (slot ∷ [])) in omega (arith, k, l)) kept.chains;
    }

-- ---- the first place of a node, and the next

-- what the first place of a node says, where the first place of all has the number i
abbrev FirstOf : ℕ → ℕ → List Told → Option ℕ → Type 0
FirstOf n i ts place = MatchOption place (told_by n ts ≡ []) (λ s. (k : ℕ) × (s ≡ i + k) × TellsAt n ts k × (told_by n ts ≡ told_by n (drop k ts)))

later_first : (n i : ℕ) (t : Told) (ts : List Told) (place : Option ℕ) → eqb t.by n ≡ false → FirstOf n (suc i) ts place → FirstOf n i (t ∷ ts) place
later_first n i t ts None e h = rw e h
later_first n i t ts (Some s) e (k, at, tells, same) = (suc k, omega (arith, at), (omega (arith, tells.0), tells.1), rw e same)

first_here : (n i : ℕ) (t : Told) (ts : List Told) → t.by ≡ n → FirstOf n i (t ∷ ts) (Some i)
first_here n i t ts h = (0, omega arith, (omega arith, h), refl)

first_is : (n i : ℕ) (ts : List Told) → FirstOf n i ts (slice_get (places_of n i ts) 0)
first_is n i [] = refl
first_is n i (t ∷ ts) =
    elim (cases_Bool (eqb t.by n)) [
      | inl e ↦ subst (FirstOf n i (t ∷ ts)) (ap (λ b. slice_get (if b then i ∷ places_of n (suc i) ts else places_of n (suc i) ts) 0) (sym e)) (first_here n i t ts (eqb-true t.by n e))
      | inr e ↦ later_first n i t ts (slice_get (places_of n i (t ∷ ts)) 0) e (rw e (first_is n (suc i) ts))
    ]

-- the place behind a place of a node in its chain is the first one behind it
next_is : (n i j s k : ℕ) (ts : List Told) → s ≡ i + k → j ≡ suc s → TellsAt n ts k → next_in (places_of n i ts) s ≡ slice_get (places_of n j (drop (suc k) ts)) 0
next_is n i j s k [] e f h = absurd (omega (arith, h.0))
next_is n i j s zero (t ∷ ts) e f h =
    let same : i ≡ s = omega (arith, e) in
    let next : suc i ≡ j = omega (arith, e, f) in
    rw (eq-eqb t.by n h.1, eq-eqb i s same) (ap (λ m. slice_get (places_of n m ts) 0) next)
next_is n i j s (suc k) (t ∷ ts) e f h =
    let rest = next_is n (suc i) j s k ts (omega (arith, e)) f (omega (arith, h.0), h.1) in
    let other : i ≡ s → ⊥ = λ m. omega (arith, e, m) in
    elim (cases_Bool (eqb t.by n)) [
      | inl m ↦ rw (m, ne_eqb i s other) rest
      | inr m ↦ rw m rest
    ]

-- a place of a node stands in its chain
in_chain : (n i s k : ℕ) (ts : List Told) → s ≡ i + k → TellsAt n ts k → Contains (places_of n i ts) s
in_chain n i s k [] e h = absurd (omega (arith, h.0))
in_chain n i s zero (t ∷ ts) e h = rw (eq-eqb t.by n h.1) (0, omega arith, omega (arith, e))
in_chain n i s (suc k) (t ∷ ts) e h =
    let rest = in_chain n (suc i) s k ts (omega (arith, e)) (omega (arith, h.0), h.1) in
    elim (cases_Bool (eqb t.by n)) [
      | inl m ↦ rw m (suc rest.0, omega (arith, rest.1), rest.2)
      | inr m ↦ rw m rest
    ]

-- ---- as the calls say it

place_first : (n : ℕ) (ts : List Told) (place : Option ℕ) → FirstOf n 0 ts place → IsPlace n ts place × (told_from n ts place ≡ told_by n ts)
place_first n ts None h = (tt, sym h)
place_first n ts (Some s) (k, at, tells, same) =
    let e : k ≡ s = omega (arith, at) in
    (subst (TellsAt n ts) e tells, sym (subst (λ (m : ℕ). told_by n ts ≡ told_by n (drop m ts)) e same))

pub first_place : (links : Chains) (n : ℕ) (ts : List Told) (place : Option ℕ) → AreChained links ts → n < length links.chains → place ≡ slice_get (get_or links.chains n []) 0
    → IsPlace n ts place × (told_from n ts place ≡ told_by n ts)
first_place links n ts place kept l e =
    place_first n ts place (subst (FirstOf n 0 ts) (sym (e ∙ ap (λ xs. slice_get xs 0) (kept.chains n l))) (first_is n 0 ts))

abbrev nobody : Told
nobody = record { by = 0; node = record { 0 = 0 }; kind = Forward }

head_of : (n s : ℕ) (ts : List Told) → TellsAt n ts s → told_by n (drop s ts) ≡ ((told_at ts s).node, (told_at ts s).kind) ∷ told_by n (drop (suc s) ts)
head_of n s ts h = rw (drop-cons ts s nobody h.0, eq-eqb (told_at ts s).by n h.1) refl

place_next : (n s : ℕ) (ts : List Told) (place : Option ℕ) → TellsAt n ts s → FirstOf n (suc s) (drop (suc s) ts) place
    → IsPlace n ts place × (told_from n ts (Some s) ≡ ((told_at ts s).node, (told_at ts s).kind) ∷ told_from n ts place)
place_next n s ts None h first =
    (tt, head_of n s ts h ∙ ap (λ es. ((told_at ts s).node, (told_at ts s).kind) ∷ es) first)
place_next n s ts (Some r) h (k, at, tells, same) =
    let e : suc s + k ≡ r = omega (arith, at) in
    let more : drop k (drop (suc s) ts) ≡ drop r ts = drop-drop k (suc s) ts ∙ ap (λ (m : ℕ). drop m ts) e in
    let size : length (drop (suc s) ts) ≡ length ts - suc s = length-drop (suc s) ts in
    let here : told_at (drop (suc s) ts) k ≡ told_at ts r = get_or-drop (suc s) ts k nobody ∙ ap (told_at ts) e in (
      (omega (arith, tells.0, size, e), sym (ap (λ (t : Told). t.by) here) ∙ tells.1),
      head_of n s ts h ∙ ap (λ es. ((told_at ts s).node, (told_at ts s).kind) ∷ es) (same ∙ ap (told_by n) more),
    )

pub next_place : (links : Chains) (n s : ℕ) (ts : List Told) (place : Option ℕ) → AreChained links ts → n < length links.chains → TellsAt n ts s → place ≡ next_in (get_or links.chains n []) s
    → IsPlace n ts place × (told_from n ts (Some s) ≡ ((told_at ts s).node, (told_at ts s).kind) ∷ told_from n ts place)
next_place links n s ts place kept l h e =
    place_next n s ts place h (subst (FirstOf n (suc s) (drop (suc s) ts)) (sym (e ∙ (ap (λ xs. next_in xs s) (kept.chains n l) ∙ next_is n 0 (suc s) s s ts (omega arith) refl h))) (first_is n (suc s) (drop (suc s) ts)))

pub place_in_chain : (links : Chains) (n s : ℕ) (ts : List Told) → AreChained links ts → n < length links.chains → TellsAt n ts s → Contains (get_or links.chains n []) s
place_in_chain links n s ts kept l h = subst (λ xs. Contains xs s) (sym (kept.chains n l)) (in_chain n 0 s s ts (omega arith) h)

-- ---- no edges

none_in : (m : ℕ) → flat_map (λ (chain : List ℕ). chain) (replicate m []) ≡ []
none_in zero = refl
none_in (suc m) = none_in m

none_at : (m n : ℕ) → get_or {A = List ℕ} (replicate m []) n [] ≡ []
none_at zero n = refl
none_at (suc m) zero = refl
none_at (suc m) (suc n) = none_at m n

pub no_edges : (links : Chains) (m : ℕ) → links ≡ record { chains = replicate m []; free = [] } → AreChained links []
no_edges links m e =
    let none : AreChained (record { chains = replicate m []; free = [] }) [] = record {
      slots = (ap (λ xs. length (xs ++ [])) (none_in m), λ slot h. absurd (omega (arith, h)));
      none_free = refl;
      chains = λ n h. none_at m n;
    } in
    subst (λ (l : Chains). AreChained l []) (sym e) none
