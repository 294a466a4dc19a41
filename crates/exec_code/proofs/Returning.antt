-- A machine that stops never comes back to a position without a step in between, so its trace is short.
use Rattle.std.proofs.Common.{◌≡◌, ℕ, zero, suc, ◌+◌, ◌*◌, ◌<◌, ◌≤◌, ◌⊎◌, inl, inr, ◌||◌, ℤ, Bool, true, false, eqb, nat_lt, AllPairs, List, [], ◌∷◌, ◌++◌, map, length, Option, Some, None, Result, Ok, Err, refl, sym, ap, ◌∙◌, subst, arith, length-append, mul_comm, mul-add, add-mul}
use Rattle.std.specs.List.{AllByRecursion, IsDistinct, list_any}
use Rattle.std.proofs.lemmas.Bool.{false≢true, ltb-true, eqb-true}
use Rattle.std.proofs.lemmas.List.{length-map}
use Rattle.std.proofs.lemmas.List.Elements.{All-from_recursion}
use Rattle.std.proofs.lemmas.List.Kept.{AllPairs-cons}
use Rattle.std.proofs.lemmas.Map.Steps.{length-le_from_distinct_below}
use Rattle.std.proofs.lemmas.Nat.{mul-add-lt, same_from_place}
use Rattle.std.proofs.lemmas.Option.{none-some, same_Some, slice_get_within}
use Rattle.fd_base.specs.declared.numbers.FaultKind.{FaultKind}
use Rattle.fd_prog.specs.Homes.{Distribution}
use Rattle.fd_prog.specs.Mappings.{installed}
use Rattle.fd_prog.specs.Sequence.{bounds_of, line_text, with_line}
use Rattle.fd_prog.specs.Stores.{Store, ScalarCell, put, cell_of, read_into, readings_of}
use Rattle.fd_prog.specs.Values.{value_of, truth_of}
use Rattle.exec_code.specs.Instructions.{Instruction, Assign, Read, Print, Skip, Install, Test, Start, Turn, Jump, Send, Recv, Stop, FlatJob}
use Rattle.exec_code.specs.Machine.{OpenLoop, Configuration, Effect, Goes, Notes, Faults, Ends, Strays, limited, by_all, by_some, by_home, target_distribution, stepped, behind, choice, gained_after, turned, turn, act, act_where, effect, instruction_at}
use Rattle.exec_code.specs.Traces.{Walks, here, by_way_of, IsSamePlace, next, next_in}
use Rattle.exec_code.proofs.Walking.{one_walk}

-- a step is completed, which the limit allows
pub record Counts (j : FlatJob) (c d : Configuration) : Type 0 where
  pub steps : d.now.steps ≡ c.now.steps + 1
  pub limit : c.now.steps < j.limit

-- the position alone changes, or a step is completed
abbrev Moves : FlatJob → Configuration → Configuration → Type 0
Moves j c d = (d ≡ record c { at = d.at }) ⊎ Counts j c d

-- so it is with what comes of an instruction
abbrev MovesBy : FlatJob → Configuration → Effect → Type 0
MovesBy j c (Goes d) = Moves j c d
MovesBy j c (Notes kind d) = Moves j c d
MovesBy j c (Faults kind) = Unit {0}
MovesBy j c Ends = Unit {0}
MovesBy j c Strays = Unit {0}

limited_moves : (j : FlatJob) (c : Configuration) (b : Bool) (e : Effect) → nat_lt c.now.steps j.limit ≡ b → (c.now.steps < j.limit → MovesBy j c e) → MovesBy j c (limited b e)
limited_moves j c true e h go = go (ltb-true c.now.steps j.limit h)
limited_moves j c false e h go = tt

by_all_moves : {A : Type 0} (j : FlatJob) (c : Configuration) (r : Result A FaultKind) (go : A → Effect) → ((x : A) → MovesBy j c (go x)) → MovesBy j c (by_all r go)
by_all_moves j c (Ok x) go h = h x
by_all_moves j c (Err kind) go h = tt

by_some_moves : {A : Type 0} (j : FlatJob) (c d : Configuration) (r : Result A FaultKind) (go : A → Effect) → Moves j c d → ((x : A) → MovesBy j c (go x)) → MovesBy j c (by_some d r go)
by_some_moves j c d (Ok x) go k h = h x
by_some_moves j c d (Err kind) go k h = k

by_home_moves : {A : Type 0} (j : FlatJob) (c : Configuration) (home : Option Distribution) (d : Configuration) (r : Result A FaultKind) (go : A → Effect) → Moves j c d → ((x : A) → MovesBy j c (go x)) → MovesBy j c (by_home home d r go)
by_home_moves j c None d r go k h = by_all_moves j c r go h
by_home_moves j c (Some x) d r go k h = by_some_moves j c d r go k h

-- one step more, whatever else there is
counted : (j : FlatJob) (c d : Configuration) → d.now.steps ≡ c.now.steps + 1 → c.now.steps < j.limit → Moves j c d
counted j c d e h = inr (record { steps = e; limit = h })

turned_steps : (c : Configuration) (exit left : ℕ) (by : ℤ) (outer : List OpenLoop) (store : Store) → (turned c exit left by outer store).now.steps ≡ c.now.steps + 1
turned_steps c exit zero by outer store = refl
turned_steps c exit (suc left) by outer store = refl

turn_moves : (j : FlatJob) (var exit : ℕ) (c : Configuration) (loops : List OpenLoop) → MovesBy j c (turn j var exit c loops)
turn_moves j var exit c [] = tt
turn_moves j var exit c (l ∷ outer) =
    limited_moves j c (nat_lt c.now.steps j.limit) (by_all (gained_after l.begun var l.by c.now.store) (λ store. Goes (turned c exit l.left l.by outer store))) refl
    (λ h. by_all_moves j c (gained_after l.begun var l.by c.now.store) (λ store. Goes (turned c exit l.left l.by outer store))
    (λ store. counted j c (turned c exit l.left l.by outer store) (turned_steps c exit l.left l.by outer store) h))

act_moves : (j : FlatJob) (i : Instruction) (c : Configuration) → MovesBy j c (act j i c)
act_moves j (Assign target e) c =
    limited_moves j c (nat_lt c.now.steps j.limit) _ refl
    (λ h. by_all_moves j c (cell_of (readings_of j.program c.now.store) target) _
    (λ cell. by_home_moves j c (target_distribution j.program target) (behind c (suc c.at) c.now.store) (value_of (readings_of j.program c.now.store) e)
    (λ x. Goes (behind c (suc c.at) (put cell x c.now.store)))
    (counted j c (behind c (suc c.at) c.now.store) refl h) (λ x. counted j c (behind c (suc c.at) (put cell x c.now.store)) refl h)))
act_moves j (Read target) c =
    limited_moves j c (nat_lt c.now.steps j.limit) _ refl
    (λ h. by_all_moves j c (read_into j.program j.input target c.now.store) (λ store. Goes (behind c (suc c.at) store)) (λ store. counted j c (behind c (suc c.at) store) refl h))
act_moves j (Print items) c =
    limited_moves j c (nat_lt c.now.steps j.limit) _ refl
    (λ h. by_some_moves j c (behind c (suc c.at) c.now.store) (line_text (readings_of j.program c.now.store) items) (λ text. Goes (record c { at = suc c.at; now = with_line text (stepped c.now) }))
    (counted j c (behind c (suc c.at) c.now.store) refl h) (λ text. counted j c (record c { at = suc c.at; now = with_line text (stepped c.now) }) refl h))
act_moves j Skip c =
    limited_moves j c (nat_lt c.now.steps j.limit) (Goes (behind c (suc c.at) c.now.store)) refl (λ h. counted j c (behind c (suc c.at) c.now.store) refl h)
act_moves j (Install decomp number) c =
    limited_moves j c (nat_lt c.now.steps j.limit) _ refl
    (λ h. counted j c (record (behind c (suc c.at) c.now.store) { mapping = installed j.program j.ranks decomp number c.now.store c.mapping }) refl h)
act_moves j (Test condition no_side) c =
    limited_moves j c (nat_lt c.now.steps j.limit) _ refl
    (λ h. by_all_moves j c (truth_of (readings_of j.program c.now.store) condition) (λ b. Goes (behind c (choice b (suc c.at) no_side) c.now.store))
    (λ b. counted j c (behind c (choice b (suc c.at) no_side) c.now.store) refl h))
act_moves j (Start var first last by) c =
    limited_moves j c (nat_lt c.now.steps j.limit) _ refl
    (λ h. by_all_moves j c (bounds_of (readings_of j.program c.now.store) first last by) _
    (λ b. counted j c (record (behind c (suc c.at) (put (ScalarCell var) b.first c.now.store)) { loops = record { left = b.count; by = b.by; begun = false } ∷ c.loops }) refl h))
act_moves j (Turn var exit) c = turn_moves j var exit c c.loops
act_moves j (Jump to) c = inl refl
act_moves j (Send x) c = inl refl
act_moves j (Recv x) c = inl refl
act_moves j Stop c = tt

act_where_moves : (j : FlatJob) (i : Option Instruction) (c : Configuration) → MovesBy j c (act_where j i c)
act_where_moves j None c = tt
act_where_moves j (Some i) c = act_moves j i c

moves_by : (j : FlatJob) (c d : Configuration) (e : Effect) → MovesBy j c e → next_in e ≡ Some d → Moves j c d
moves_by j c d (Goes x) m h = subst (Moves j c) (same_Some x d h) m
moves_by j c d (Notes kind x) m h = subst (Moves j c) (same_Some x d h) m
moves_by j c d (Faults kind) m h = absurd (none-some d h)
moves_by j c d Ends m h = absurd (none-some d h)
moves_by j c d Strays m h = absurd (none-some d h)

-- from one configuration to the next
next_moves : (j : FlatJob) (c d : Configuration) → next j c ≡ Some d → Moves j c d
next_moves j c d h = moves_by j c d (effect j c) (act_where_moves j (instruction_at j c.at) c) h

moves_up : (j : FlatJob) (c d : Configuration) → Moves j c d → c.now.steps ≤ d.now.steps
moves_up j c d (inl e) = let same = ap (λ (x : Configuration). x.now.steps) e in omega (arith, same)
moves_up j c d (inr h) = omega (arith, h.steps)

walks_up : (j : FlatJob) (c d : Configuration) (cs : List Configuration) → Walks j c cs d → c.now.steps ≤ d.now.steps
walks_up j c d cs here = omega arith
walks_up j c d cs (by_way_of {d = e} {cs = es} n w) =
    let one = moves_up j c e (next_moves j c e n) in
    let rest = walks_up j e d es w in
    omega (arith, one, rest)

still_by : (j : FlatJob) (c e d : Configuration) → Moves j c e → e.now.steps ≤ d.now.steps → d.now.steps ≡ c.now.steps → (d.now.steps ≡ e.now.steps → d ≡ record e { at = d.at }) → d ≡ record c { at = d.at }
still_by j c e d (inl same) up h rest =
    let steps : d.now.steps ≡ e.now.steps = h ∙ sym (ap (λ (x : Configuration). x.now.steps) same) in
    rest steps ∙ ap (λ (x : Configuration). record x { at = d.at }) same
still_by j c e d (inr counts) up h rest = absurd (omega (arith, counts.steps, up, h))

-- where no step is completed on the way, the position alone changes
still : (j : FlatJob) (c d : Configuration) (cs : List Configuration) → Walks j c cs d → d.now.steps ≡ c.now.steps → d ≡ record c { at = d.at }
still j c d cs here h = refl
still j c d cs (by_way_of {d = e} {cs = es} n w) h = still_by j c e d (next_moves j c e n) (walks_up j e d es w) h (still j e d es w)

walk_then : (j : FlatJob) (c d e : Configuration) (cs ds : List Configuration) → Walks j c cs d → Walks j d ds e → Walks j c (cs ++ ds) e
walk_then j c d e cs ds here v = v
walk_then j c d e cs ds (by_way_of {d = p} {cs = ps} n w) v = by_way_of n (walk_then j p d e ps ds w v)

-- a machine that comes back to a configuration never stops
no_return : (j : FlatJob) (c x e : Configuration) (cs ds : List Configuration) → Walks j c (x ∷ cs) c → Walks j c ds e → next j e ≡ None → ⊥
no_return j c x e cs ds round way over =
    let same = one_walk j c e e ((x ∷ cs) ++ ds) ds (walk_then j c c e (x ∷ cs) ds round way) way over over in
    let size = ap length same.0 in
    let parts = length-append (x ∷ cs) ds in
    omega (arith, size, parts)

apart_here : (j : FlatJob) (c x p e : Configuration) (xs cs : List Configuration) → Walks j c (x ∷ xs) p → Walks j p cs e → next j e ≡ None → IsSamePlace c p → ⊥
apart_here j c x p e xs cs before way over same =
    let is : p ≡ c = still j c p (x ∷ xs) before (sym same.steps) ∙ ap (λ n. record c { at = n }) (sym same.at) in
    no_return j c x e xs cs (subst (λ (d : Configuration). Walks j c (x ∷ xs) d) is before) (subst (λ (d : Configuration). Walks j d cs e) is way) over

-- no configuration behind one stands at its place
abbrev Apart : Configuration → List Configuration → Type 0
Apart c cs = AllByRecursion (λ (d : Configuration). IsSamePlace c d → ⊥) cs

apart_from : (j : FlatJob) (c x p e : Configuration) (xs cs : List Configuration) → Walks j c (x ∷ xs) p → Walks j p cs e → next j e ≡ None → Apart c (cs ++ (e ∷ []))
apart_from j c x p e xs cs before here over = (apart_here j c x p e xs [] before here over, tt)
apart_from j c x p e xs cs before (by_way_of {d = q} {cs = qs} n w) over = (
  apart_here j c x p e xs (p ∷ qs) before (by_way_of n w) over,
  apart_from j c x q e (xs ++ (p ∷ [])) qs (walk_then j c p q (x ∷ xs) (p ∷ []) before (by_way_of n here)) w over,
)

-- no two configurations of a walk to an end stand at one place
pub all_apart : (j : FlatJob) (c e : Configuration) (cs : List Configuration) → Walks j c cs e → next j e ≡ None → AllPairs (λ (a b : Configuration). IsSamePlace a b → ⊥) (cs ++ (e ∷ []))
all_apart j c e cs here over = λ i k d lt within. absurd (omega (arith, lt, within))
all_apart j c e cs (by_way_of {d = q} {cs = qs} n w) over =
    AllPairs-cons (λ (a b : Configuration). IsSamePlace a b → ⊥) c (qs ++ (e ∷ []))
    (All-from_recursion (λ (d : Configuration). IsSamePlace c d → ⊥) (qs ++ (e ∷ [])) (apart_from j c c q e [] qs (by_way_of n here) w over))
    (all_apart j q e qs w over)

-- ---- how many there can be

-- whoever goes on stands at an instruction
inside_by : (j : FlatJob) (c d : Configuration) (i : Option Instruction) → instruction_at j c.at ≡ i → next_in (act_where j i c) ≡ Some d → c.at < length j.code.instructions
inside_by j c d None e h = absurd (none-some d h)
inside_by j c d (Some i) e h = slice_get_within j.code.instructions c.at i e

inside : (j : FlatJob) (c d : Configuration) → next j c ≡ Some d → c.at < length j.code.instructions
inside j c d h = inside_by j c d (instruction_at j c.at) refl h

moves_low : (j : FlatJob) (c d : Configuration) → Moves j c d → c.now.steps ≤ j.limit → d.now.steps ≤ j.limit
moves_low j c d (inl e) low = let same = ap (λ (x : Configuration). x.now.steps) e in omega (arith, same, low)
moves_low j c d (inr h) low = omega (arith, h.steps, h.limit)

-- no step is completed past the limit
pub all_low : (j : FlatJob) (c e : Configuration) (cs : List Configuration) → Walks j c cs e → c.now.steps ≤ j.limit → AllByRecursion (λ (d : Configuration). d.now.steps ≤ j.limit) (cs ++ (e ∷ []))
all_low j c e cs here low = (low, tt)
all_low j c e cs (by_way_of {d = q} {cs = qs} n w) low = (low, all_low j q e qs w (moves_low j c q (next_moves j c q n) low))

-- a place as one number, where there are so many instructions
abbrev place_number : ℕ → Configuration → ℕ
place_number count c = c.now.steps * count + c.at

other_by : (count : ℕ) (c d : Configuration) (b : Bool) → eqb (place_number count c) (place_number count d) ≡ b → c.at < count → d.at < count → (IsSamePlace c d → ⊥) → b ≡ false
other_by count c d true e h k apart =
    let same = same_from_place c.now.steps c.at d.now.steps d.at count h k (eqb-true (place_number count c) (place_number count d) e) in
    absurd (apart (record { at = same.1; steps = same.0 }))
other_by count c d false e h k apart = refl

other_numbers : (j : FlatJob) (c q e : Configuration) (qs : List Configuration) → Walks j q qs e → c.at < length j.code.instructions → Apart c (qs ++ (e ∷ []))
    → AllByRecursion (λ y. eqb (place_number (length j.code.instructions) c) y ≡ false) (map (place_number (length j.code.instructions)) qs)
other_numbers j c q e qs here at apart = tt
other_numbers j c q e qs (by_way_of {d = r} {cs = rs} n w) at apart = (
  other_by (length j.code.instructions) c q _ refl at (inside j q r n) apart.0,
  other_numbers j c r e rs w at apart.1,
)

numbers_differ : (j : FlatJob) (c e : Configuration) (cs : List Configuration) → Walks j c cs e → next j e ≡ None → IsDistinct eqb (map (place_number (length j.code.instructions)) cs)
unfolding IsDistinct
numbers_differ j c e cs here over = tt
numbers_differ j c e cs (by_way_of {d = q} {cs = qs} n w) over = (
  other_numbers j c q e qs w (inside j c q n) (apart_from j c c q e [] qs (by_way_of n here) w over),
  numbers_differ j q e qs w over,
)

low_numbers : (j : FlatJob) (c e : Configuration) (cs : List Configuration) → Walks j c cs e → c.now.steps ≤ j.limit
    → AllByRecursion (λ y. y < length j.code.instructions * (j.limit + 1)) (map (place_number (length j.code.instructions)) cs)
low_numbers j c e cs here low = tt
low_numbers j c e cs (by_way_of {d = q} {cs = qs} n w) low = (
  mul-add-lt c.now.steps (length j.code.instructions) c.at (j.limit + 1) (omega (arith, low)) (inside j c q n),
  low_numbers j q e qs w (moves_low j c q (next_moves j c q n) low),
)

found_by : (n q x : ℕ) (xs : List ℕ) (b : Bool) → eqb q x ≡ b → x < n → (list_any (eqb q) xs ≡ true → q < n) → list_any (eqb q) (x ∷ xs) ≡ true → q < n
found_by n q x xs true e h rest found = let same = eqb-true q x e in omega (arith, same, h)
found_by n q x xs false e h rest found = rest (sym (ap (λ b. b || list_any (eqb q) xs) e) ∙ found)

found_low : (n q : ℕ) (xs : List ℕ) → AllByRecursion (λ y. y < n) xs → list_any (eqb q) xs ≡ true → q < n
found_low n q [] h found = absurd (false≢true found)
found_low n q (x ∷ xs) h found = found_by n q x xs (eqb q x) refl h.0 (found_low n q xs h.1) found

few_by : (n w h : ℕ) → n ≤ w * h → n + 1 ≤ (h + 1) * (w + 1)
few_by n w h few =
    let a = add-mul h 1 (w + 1) in
    let b = mul-add h w 1 in
    let c = mul_comm w h in
    omega (arith, a, b, c, few)

-- how many configurations a walk to an end has
pub all_few : (j : FlatJob) (c e : Configuration) (cs : List Configuration) → Walks j c cs e → next j e ≡ None → c.now.steps ≤ j.limit → length (cs ++ (e ∷ [])) ≤ (j.limit + 2) * (length j.code.instructions + 1)
all_few j c e cs w over low =
    let count = length j.code.instructions in
    let numbers = map (place_number count) cs in
    let few : length numbers ≤ count * (j.limit + 1) = length-le_from_distinct_below numbers (count * (j.limit + 1)) (numbers_differ j c e cs w over)
    (λ q found. found_low (count * (j.limit + 1)) q numbers (low_numbers j c e cs w low) found) in
    let same : length numbers ≡ length cs = length-map cs (place_number count) in
    let parts = length-append cs (e ∷ []) in
    let more : length cs + 1 ≤ (j.limit + 1 + 1) * (count + 1) = few_by (length cs) count (j.limit + 1) (omega (arith, few, same)) in
    let two : j.limit + 1 + 1 ≡ j.limit + 2 = omega arith in
    subst (λ n. length (cs ++ (e ∷ [])) ≤ n * (count + 1)) two (omega (arith, parts, more))
