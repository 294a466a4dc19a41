-- Queues before and after numbers are put or taken.
use Rattle.std.proofs.Common.{◌≡◌, ◌≢◌, ℕ, zero, suc, ◌+◌, ◌-◌, ◌^◌, ◌<◌, ◌≤◌, max, Bool, true, false, eqb, ℤ, List, [], ◌∷◌, ◌++◌, length, get_or, map, set, drop, replicate, Contains, slice_get, slice_index_or, Some, None, refl, sym, ap, ap₂, ◌∙◌, subst, arith, length-append, length-set, get_or-set_same, get_or-set_other}
use Rattle.std.specs.List.{flat_map}
use Rattle.std.proofs.lemmas.Bool.{eqb-true, eqb-false, eq-eqb}
use Rattle.std.proofs.lemmas.List.{ext_get_or, get_or-map, get_or_default, length-map, map-append, set-get_or}
use Rattle.std.proofs.lemmas.List.Sums.{sum_by-cons}
use Rattle.std.proofs.lemmas.List.Elements.{Contains-append_left, Contains-append_right}
use Rattle.fd_links.specs.Chains.{Chains, HasSlots, slots_of, without, pushed, unlinked}
use Rattle.fd_links.proofs.Counts.{times, times-cons, times-append, without_none}
use Rattle.fd_links.proofs.Paths.{without_self}
use Rattle.mailbox_book.specs.Pools.{Queues, IsPool, numbers_at, queue_of, queues_of, count_queued, KeepsFront}
use Rattle.mailbox_book.proofs.Slots.{slot_below, Contains-times, one_chain, two_chains, one_for}

-- ---- none

pub no_slots : (n : ℕ) → flat_map (λ (chain : List ℕ). chain) (replicate n []) ≡ []
no_slots zero = refl
no_slots (suc n) = no_slots n

pub no_queues : (n : ℕ) → queues_of [] (replicate n []) ≡ replicate n []
no_queues zero = refl
no_queues (suc n) = ap (λ qs. [] ∷ qs) (no_queues n)

pub new_slots : (n : ℕ) → HasSlots (record { chains = replicate n []; free = [] }) 0
new_slots n = (ap (λ (xs : List ℕ). length (xs ++ [])) (no_slots n), λ slot l. absurd (omega (arith, l)))

-- ---- one chain

-- numbers put elsewhere don't change a queue
pub same_queue : (slots : List (List ℤ)) (s : ℕ) (v : List ℤ) (chain : List ℕ) → times s chain ≡ 0 → queue_of (set slots s v) chain ≡ queue_of slots chain
same_queue slots s v [] h = refl
same_queue slots s v (x ∷ chain) h = by (eqb x s) refl (λ rest. same_queue slots s v chain rest)
  where
    by : (b : Bool) → eqb x s ≡ b → (times s chain ≡ 0 → queue_of (set slots s v) chain ≡ queue_of slots chain) → queue_of (set slots s v) (x ∷ chain) ≡ queue_of slots (x ∷ chain)
    by true e rest = absurd (omega (arith, h, times-cons s x chain, one_for (eqb x s) e))
    by false e rest = ap₂ (λ y ys. y ∷ ys) (get_or-set_other slots s x v [] (eqb-false x s e)) (rest (omega (arith, h, times-cons s x chain)))

-- more slots don't either
pub kept_queue : (before after : List (List ℤ)) (chain : List ℕ) → KeepsFront before after → ((k x : ℕ) → k < length chain → slice_index_or chain k x ≡ x → x < length before) → queue_of after chain ≡ queue_of before chain
kept_queue before after [] f h = refl
kept_queue before after (x ∷ chain) f h =
    ap₂ (λ y ys. y ∷ ys) (f.same x (h 0 x (omega arith) refl)) (kept_queue before after chain f (λ k y l e. h (suc k) y (omega (arith, l)) e))

-- ---- all chains

length-queues : (slots : List (List ℤ)) (chains : List (List ℕ)) → length (queues_of slots chains) ≡ length chains
length-queues slots chains = length-map chains (queue_of slots)

queue_at : (slots : List (List ℤ)) (chains : List (List ℕ)) (i : ℕ) → i < length chains → get_or (queues_of slots chains) i [] ≡ queue_of slots (get_or chains i [])
queue_at slots chains i l = get_or-map (queue_of slots) chains i [] [] l

in_chains : (chains : List (List ℕ)) (i k x : ℕ) → i < length chains → k < length (get_or chains i []) → slice_index_or (get_or chains i []) k x ≡ x → Contains (flat_map (λ chain. chain) chains) x
in_chains [] i k x l m e = absurd (omega (arith, l))
in_chains (c ∷ cs) zero k x l m e = Contains-append_left c (flat_map (λ chain. chain) cs) x (k, m, e)
in_chains (c ∷ cs) (suc i) k x l m e = Contains-append_right c (flat_map (λ chain. chain) cs) x (in_chains cs i k x (omega (arith, l)) m e)

-- with more slots the queues are as they were
pub kept_queues : (before after : List (List ℤ)) (c : Chains) → HasSlots c (length before) → KeepsFront before after → queues_of after c.chains ≡ queues_of before c.chains
kept_queues before after c h f =
    ext_get_or [] (queues_of after c.chains) (queues_of before c.chains) (length-queues after c.chains ∙ sym (length-queues before c.chains)) (λ i l.
    let m : i < length c.chains = omega (arith, l, length-queues after c.chains) in
    queue_at after c.chains i m
    ∙ kept_queue before after (get_or c.chains i []) f (λ k x n e. slot_below c (length before) x h (Contains-append_left (flat_map (λ chain. chain) c.chains) c.free x (in_chains c.chains i k x m n e)))
    ∙ sym (queue_at before c.chains i m))

-- ---- put

-- a free slot is in no chain
free_nowhere : (c : Chains) (n s : ℕ) → HasSlots c n → Contains c.free s → times s (flat_map (λ chain. chain) c.chains) ≡ 0
free_nowhere c n s h f =
    let all : times s (slots_of c) ≡ 1 = h.1 s (slot_below c n s h (Contains-append_right (flat_map (λ chain. chain) c.chains) c.free s f)) in
    omega (arith, all, times-append s (flat_map (λ chain. chain) c.chains) c.free, Contains-times c.free s f.0 f.1 f.2)

pub put_queues : (c : Chains) (slots : List (List ℤ)) (queue s : ℕ) (v : List ℤ) → HasSlots c (length slots) → Contains c.free s → queue < length c.chains
    → queues_of (set slots s v) (pushed c queue s).chains ≡ set (queues_of slots c.chains) queue (get_or (queues_of slots c.chains) queue [] ++ v ∷ [])
put_queues c slots queue s v h f q =
    ext_get_or [] (queues_of (set slots s v) (set c.chains queue (get_or c.chains queue [] ++ s ∷ []))) (set (queues_of slots c.chains) queue (get_or (queues_of slots c.chains) queue [] ++ v ∷ [])) len (λ i l. at i (omega (arith, l, length-queues (set slots s v) (set c.chains queue (get_or c.chains queue [] ++ s ∷ [])), length-set c.chains queue (get_or c.chains queue [] ++ s ∷ []))))
  where
    len : length (queues_of (set slots s v) (set c.chains queue (get_or c.chains queue [] ++ s ∷ []))) ≡ length (set (queues_of slots c.chains) queue (get_or (queues_of slots c.chains) queue [] ++ v ∷ []))
    len =
        length-queues (set slots s v) (set c.chains queue (get_or c.chains queue [] ++ s ∷ [])) ∙ length-set c.chains queue (get_or c.chains queue [] ++ s ∷ [])
        ∙ sym (length-set (queues_of slots c.chains) queue (get_or (queues_of slots c.chains) queue [] ++ v ∷ []) ∙ length-queues slots c.chains)

    inside : s < length slots
    inside = slot_below c (length slots) s h (Contains-append_right (flat_map (λ chain. chain) c.chains) c.free s f)

    none : (i : ℕ) → times s (get_or c.chains i []) ≡ 0
    none i = omega (arith, one_chain s c.chains i, free_nowhere c (length slots) s h f)

    at : (i : ℕ) → i < length c.chains → get_or (queues_of (set slots s v) (set c.chains queue (get_or c.chains queue [] ++ s ∷ []))) i [] ≡ get_or (set (queues_of slots c.chains) queue (get_or (queues_of slots c.chains) queue [] ++ v ∷ [])) i []
    at i l = by (eqb i queue) refl
      where
        first : get_or (queues_of (set slots s v) (set c.chains queue (get_or c.chains queue [] ++ s ∷ []))) i [] ≡ queue_of (set slots s v) (get_or (set c.chains queue (get_or c.chains queue [] ++ s ∷ [])) i [])
        first = queue_at (set slots s v) (set c.chains queue (get_or c.chains queue [] ++ s ∷ [])) i (omega (arith, l, length-set c.chains queue (get_or c.chains queue [] ++ s ∷ [])))

        here : queue_of (set slots s v) (get_or c.chains queue [] ++ s ∷ []) ≡ get_or (queues_of slots c.chains) queue [] ++ v ∷ []
        here =
            map-append (numbers_at (set slots s v)) (get_or c.chains queue []) (s ∷ [])
            ∙ ap₂ (λ xs y. xs ++ y ∷ []) (same_queue slots s v (get_or c.chains queue []) (none queue) ∙ sym (queue_at slots c.chains queue q)) (get_or-set_same slots s v [] inside)

        by : (b : Bool) → eqb i queue ≡ b → get_or (queues_of (set slots s v) (set c.chains queue (get_or c.chains queue [] ++ s ∷ []))) i [] ≡ get_or (set (queues_of slots c.chains) queue (get_or (queues_of slots c.chains) queue [] ++ v ∷ [])) i []
        by true e =
            let same : i ≡ queue = eqb-true i queue e in
            first
            ∙ ap (queue_of (set slots s v)) (ap (λ k. get_or (set c.chains queue (get_or c.chains queue [] ++ s ∷ [])) k []) same ∙ get_or-set_same c.chains queue (get_or c.chains queue [] ++ s ∷ []) [] q)
            ∙ here
            ∙ sym (ap (λ k. get_or (set (queues_of slots c.chains) queue (get_or (queues_of slots c.chains) queue [] ++ v ∷ [])) k []) same
            ∙ get_or-set_same (queues_of slots c.chains) queue (get_or (queues_of slots c.chains) queue [] ++ v ∷ []) [] (omega (arith, q, length-queues slots c.chains)))
        by false e =
            first
            ∙ ap (queue_of (set slots s v)) (get_or-set_other c.chains queue i (get_or c.chains queue [] ++ s ∷ []) [] (eqb-false i queue e))
            ∙ same_queue slots s v (get_or c.chains i []) (none i)
            ∙ sym (get_or-set_other (queues_of slots c.chains) queue i (get_or (queues_of slots c.chains) queue [] ++ v ∷ []) [] (eqb-false i queue e) ∙ queue_at slots c.chains i l)

-- ---- how many wait

pub waiting_are : (slots : List (List ℤ)) (chains : List (List ℕ)) → count_queued (queues_of slots chains) ≡ length (flat_map (λ chain. chain) chains)
waiting_are slots [] = refl
waiting_are slots (c ∷ cs) =
    sum_by-cons length (queue_of slots c) (queues_of slots cs)
    ∙ omega (arith, length-map c (numbers_at slots), waiting_are slots cs, length-append c (flat_map (λ chain. chain) cs))

-- ---- taken

-- the first slot of a chain is in it
first_times : (chain : List ℕ) (s : ℕ) → slice_get chain 0 ≡ Some s → 1 ≤ times s chain
first_times [] s e = absurd (cc)
first_times (x ∷ xs) s e = let same : x ≡ s = cc in omega (arith, times-cons s x xs, one_for (eqb x s) (eq-eqb x s same))

pub first_inside : (chain : List ℕ) (s : ℕ) → slice_get chain 0 ≡ Some s → Contains chain s
first_inside [] s e = absurd (cc)
first_inside (x ∷ xs) s e = let same : x ≡ s = cc in (0, omega arith, same)

-- a chain without its first slot, which stands in it once, is the rest
rest_without : (chain : List ℕ) (s : ℕ) → slice_get chain 0 ≡ Some s → times s chain ≤ 1 → without s chain ≡ drop 1 chain
rest_without [] s e h = absurd (cc)
rest_without (x ∷ xs) s e h =
    let same : x ≡ s = cc in
    without_self s x xs (eq-eqb x s same) ∙ without_none s xs (omega (arith, h, times-cons s x xs, one_for (eqb x s) (eq-eqb x s same)))

first_of_map : (slots : List (List ℤ)) (chain : List ℕ) (s : ℕ) → slice_get chain 0 ≡ Some s → slice_get (queue_of slots chain) 0 ≡ Some (numbers_at slots s)
first_of_map slots [] s e = absurd (cc)
first_of_map slots (x ∷ xs) s e = let same : x ≡ s = cc in ap (λ i. Some (numbers_at slots i)) same

rest_of_map : (slots : List (List ℤ)) (chain : List ℕ) → queue_of slots (drop 1 chain) ≡ drop 1 (queue_of slots chain)
rest_of_map slots [] = refl
rest_of_map slots (x ∷ xs) = refl

pub none_of_map : (slots : List (List ℤ)) (chain : List ℕ) → slice_get chain 0 ≡ None → queue_of slots chain ≡ []
none_of_map slots [] e = refl
none_of_map slots (x ∷ xs) e = absurd (cc)

-- what is taken
pub first_queue : (c : Chains) (slots : List (List ℤ)) (queue s : ℕ) → queue < length c.chains → slice_get (get_or c.chains queue []) 0 ≡ Some s
    → slice_get (get_or (queues_of slots c.chains) queue []) 0 ≡ Some (numbers_at slots s)
first_queue c slots queue s q e = ap (λ (xs : List (List ℤ)). slice_get xs 0) (queue_at slots c.chains queue q) ∙ first_of_map slots (get_or c.chains queue []) s e

pub empty_queue : (c : Chains) (slots : List (List ℤ)) (queue : ℕ) → queue < length c.chains → slice_get (get_or c.chains queue []) 0 ≡ None
    → get_or (queues_of slots c.chains) queue [] ≡ []
empty_queue c slots queue q e = queue_at slots c.chains queue q ∙ none_of_map slots (get_or c.chains queue []) e

-- the slot of a chain is one of those that there are
pub chain_slot : (c : Chains) (n queue s : ℕ) → HasSlots c n → queue < length c.chains → slice_get (get_or c.chains queue []) 0 ≡ Some s → s < n
chain_slot c n queue s h q e =
    let k = first_inside (get_or c.chains queue []) s e in
    slot_below c n s h (Contains-append_left (flat_map (λ chain. chain) c.chains) c.free s (in_chains c.chains queue k.0 s q k.1 k.2))

-- and the queues when it was taken
pub take_queues : (c : Chains) (slots : List (List ℤ)) (queue s : ℕ) (v : List ℤ) → HasSlots c (length slots) → queue < length c.chains → slice_get (get_or c.chains queue []) 0 ≡ Some s
    → queues_of (set slots s v) (unlinked c s).chains ≡ set (queues_of slots c.chains) queue (drop 1 (get_or (queues_of slots c.chains) queue []))
take_queues c slots queue s v h q e =
    ext_get_or [] (queues_of (set slots s v) (map (without s) c.chains)) (set (queues_of slots c.chains) queue (drop 1 (get_or (queues_of slots c.chains) queue []))) len (λ i l. at i (omega (arith, l, length-queues (set slots s v) (map (without s) c.chains), length-map c.chains (without s))))
  where
    len : length (queues_of (set slots s v) (map (without s) c.chains)) ≡ length (set (queues_of slots c.chains) queue (drop 1 (get_or (queues_of slots c.chains) queue [])))
    len =
        length-queues (set slots s v) (map (without s) c.chains) ∙ length-map c.chains (without s)
        ∙ sym (length-set (queues_of slots c.chains) queue (drop 1 (get_or (queues_of slots c.chains) queue [])) ∙ length-queues slots c.chains)

    once : times s (flat_map (λ chain. chain) c.chains) ≤ 1
    once = omega (arith, h.1 s (chain_slot c (length slots) queue s h q e), times-append s (flat_map (λ chain. chain) c.chains) c.free)

    at_most : (i : ℕ) → times s (get_or c.chains i []) ≤ 1
    at_most i = omega (arith, one_chain s c.chains i, once)

    elsewhere : (i : ℕ) → i ≢ queue → times s (get_or c.chains i []) ≡ 0
    elsewhere i n = omega (arith, two_chains s c.chains i queue n, once, first_times (get_or c.chains queue []) s e)

    gone : times s (drop 1 (get_or c.chains queue [])) ≡ 0
    gone = rest (get_or c.chains queue []) e (at_most queue)
      where
        rest : (chain : List ℕ) → slice_get chain 0 ≡ Some s → times s chain ≤ 1 → times s (drop 1 chain) ≡ 0
        rest [] e h = absurd (cc)
        rest (x ∷ xs) e h = let same : x ≡ s = cc in omega (arith, h, times-cons s x xs, one_for (eqb x s) (eq-eqb x s same))

    at : (i : ℕ) → i < length c.chains → get_or (queues_of (set slots s v) (map (without s) c.chains)) i [] ≡ get_or (set (queues_of slots c.chains) queue (drop 1 (get_or (queues_of slots c.chains) queue []))) i []
    at i l = by (eqb i queue) refl
      where
        first : get_or (queues_of (set slots s v) (map (without s) c.chains)) i [] ≡ queue_of (set slots s v) (without s (get_or c.chains i []))
        first = queue_at (set slots s v) (map (without s) c.chains) i (omega (arith, l, length-map c.chains (without s))) ∙ ap (queue_of (set slots s v)) (get_or-map (without s) c.chains i [] [] l)

        by : (b : Bool) → eqb i queue ≡ b → get_or (queues_of (set slots s v) (map (without s) c.chains)) i [] ≡ get_or (set (queues_of slots c.chains) queue (drop 1 (get_or (queues_of slots c.chains) queue []))) i []
        by true b =
            let same : i ≡ queue = eqb-true i queue b in
            first
            ∙ ap (λ k. queue_of (set slots s v) (without s (get_or c.chains k []))) same
            ∙ ap (queue_of (set slots s v)) (rest_without (get_or c.chains queue []) s e (at_most queue))
            ∙ same_queue slots s v (drop 1 (get_or c.chains queue [])) gone
            ∙ rest_of_map slots (get_or c.chains queue [])
            ∙ ap (drop 1) (sym (queue_at slots c.chains queue q))
            ∙ sym (ap (λ k. get_or (set (queues_of slots c.chains) queue (drop 1 (get_or (queues_of slots c.chains) queue []))) k []) same
            ∙ get_or-set_same (queues_of slots c.chains) queue (drop 1 (get_or (queues_of slots c.chains) queue [])) [] (omega (arith, q, length-queues slots c.chains)))
        by false b =
            let differs : i ≢ queue = eqb-false i queue b in
            first
            ∙ ap (queue_of (set slots s v)) (without_none s (get_or c.chains i []) (elsewhere i differs))
            ∙ same_queue slots s v (get_or c.chains i []) (elsewhere i differs)
            ∙ sym (get_or-set_other (queues_of slots c.chains) queue i (drop 1 (get_or (queues_of slots c.chains) queue [])) [] differs ∙ queue_at slots c.chains i l)

-- ---- calls

pub pool_added : (c after : Chains) (slots : List (List ℤ)) (slot : ℕ) → IsPool c slots → length slots < 2 ^ 32 - 1 → slot ≡ length (slots_of c) → HasSlots after (slot + 1) → IsPool after (slots ++ [] ∷ [])
pool_added c after slots slot p few e h =
    let count : slot + 1 ≡ length (slots ++ [] ∷ []) = omega (arith, e, p.has.0, length-append slots ([] ∷ [])) in
    record { has = subst (HasSlots after) count h; few = omega (arith, few, length-append slots ([] ∷ [])) }

pub pool_set : (c after : Chains) (slots : List (List ℤ)) (slot : ℕ) (v : List ℤ) → IsPool c slots → HasSlots after (length (slots_of c)) → IsPool after (set slots slot v)
pool_set c after slots slot v p h =
    let count : length (slots_of c) ≡ length (set slots slot v) = p.has.0 ∙ sym (length-set slots slot v) in
    record { has = subst (HasSlots after) count h; few = omega (arith, p.few, length-set slots slot v) }

pub queues_value : (c : Chains) (slots : List (List ℤ)) (value : Queues) → record { queues = queues_of slots c.chains; slots = length slots } ≡ value → queues_of slots c.chains ≡ value.queues
queues_value c slots value e = ap (λ (q : Queues). q.queues) e

pub inside_value : (c : Chains) (slots : List (List ℤ)) (value : Queues) (queue : ℕ) → record { queues = queues_of slots c.chains; slots = length slots } ≡ value → queue < length value.queues → queue < length c.chains
inside_value c slots value queue e q = omega (arith, q, ap (λ (v : Queues). length v.queues) e, length-queues slots c.chains)

pub put_done : (before after : Chains) (slots more : List (List ℤ)) (queue s : ℕ) (v : List ℤ) (value : Queues) → record { queues = queues_of slots before.chains; slots = length slots } ≡ value
    → IsPool before slots → IsPool after more → after.chains ≡ before.chains → KeepsFront slots more → Contains after.free s → queue < length value.queues
    → queues_of (set more s v) (pushed after queue s).chains ≡ set value.queues queue (get_or value.queues queue [] ++ v ∷ [])
put_done before after slots more queue s v value e p q same front free inside =
    let kept : queues_of more after.chains ≡ value.queues = ap (queues_of more) same ∙ kept_queues slots more before p.has front ∙ queues_value before slots value e in
    put_queues after more queue s v q.has free (omega (arith, inside_value before slots value queue e inside, ap (λ (cs : List (List ℕ)). length cs) same))
    ∙ ap (λ qs. set qs queue (get_or qs queue [] ++ v ∷ [])) kept

pub put_count : (before : Chains) (slots more : List (List ℤ)) (s : ℕ) (v : List ℤ) (value : Queues) → record { queues = queues_of slots before.chains; slots = length slots } ≡ value
    → IsPool before slots → (before.free ≡ [] → length more ≡ length slots + 1) → (0 < length before.free → length more ≡ length slots)
    → length (set more s v) ≡ max value.slots (count_queued value.queues + 1)
put_count before slots more s v value e p new old = by before.free refl
  where
    waiting : count_queued value.queues + length before.free ≡ length slots
    waiting = omega (arith, ap (λ (q : Queues). count_queued q.queues) e, waiting_are slots before.chains, p.has.0, length-append (flat_map (λ chain. chain) before.chains) before.free)

    by : (free : List ℕ) → before.free ≡ free → length (set more s v) ≡ max value.slots (count_queued value.queues + 1)
    by [] f = omega (arith, length-set more s v, new f, waiting, ap (λ (xs : List ℕ). length xs) f, ap (λ (q : Queues). q.slots) e)
    by (x ∷ xs) f =
        let some : length before.free ≡ length xs + 1 = ap (λ (ys : List ℕ). length ys) f ∙ omega arith in
        omega (arith, length-set more s v, old (omega (arith, some)), waiting, some, ap (λ (q : Queues). q.slots) e)

pub take_done : (c : Chains) (slots : List (List ℤ)) (queue s : ℕ) (v : List ℤ) (value : Queues) → record { queues = queues_of slots c.chains; slots = length slots } ≡ value
    → IsPool c slots → queue < length value.queues → slice_get (get_or c.chains queue []) 0 ≡ Some s
    → queues_of (set slots s v) (unlinked c s).chains ≡ set value.queues queue (drop 1 (get_or value.queues queue []))
take_done c slots queue s v value e p inside first =
    take_queues c slots queue s v p.has (inside_value c slots value queue e inside) first
    ∙ ap (λ qs. set qs queue (drop 1 (get_or qs queue []))) (queues_value c slots value e)

pub taken_first : (c : Chains) (slots : List (List ℤ)) (queue s : ℕ) (v : List ℤ) (value : Queues) → record { queues = queues_of slots c.chains; slots = length slots } ≡ value
    → IsPool c slots → queue < length value.queues → slice_get (get_or c.chains queue []) 0 ≡ Some s → v ≡ get_or slots s v → Some v ≡ slice_get (get_or value.queues queue []) 0
taken_first c slots queue s v value e p inside first is =
    let q : queue < length c.chains = inside_value c slots value queue e inside in
    let same : get_or slots s v ≡ numbers_at slots s = get_or_default slots s v [] (chain_slot c (length slots) queue s p.has q first) in
    ap (λ (ys : List ℤ). Some ys) (is ∙ same) ∙ sym (ap (λ (qs : List (List (List ℤ))). slice_get (get_or qs queue []) 0) (sym (queues_value c slots value e)) ∙ first_queue c slots queue s q first)

pub none_empty : (c : Chains) (slots : List (List ℤ)) (queue : ℕ) (value : Queues) → record { queues = queues_of slots c.chains; slots = length slots } ≡ value
    → queue < length value.queues → slice_get (get_or c.chains queue []) 0 ≡ None → get_or value.queues queue [] ≡ []
none_empty c slots queue value e inside first =
    ap (λ (qs : List (List (List ℤ))). get_or qs queue []) (sym (queues_value c slots value e)) ∙ empty_queue c slots queue (inside_value c slots value queue e inside) first

pub none_taken : (value : Queues) (queue : ℕ) → get_or value.queues queue [] ≡ [] → value ≡ record { queues = set value.queues queue (drop 1 (get_or value.queues queue [])); slots = value.slots }
none_taken value queue e =
    let empty : drop 1 (get_or value.queues queue []) ≡ get_or value.queues queue [] = ap (λ (xs : List (List ℤ)). drop 1 xs) e ∙ sym e in
    ap (λ qs. record { queues = qs; slots = value.slots }) (sym (ap (set value.queues queue) empty ∙ set-get_or value.queues queue []))
