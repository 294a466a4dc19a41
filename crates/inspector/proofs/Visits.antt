-- Walks over iterations, one after the other.
use Rattle.std.proofs.Common.{◌≡◌, ℕ, zero, suc, ◌+◌, ◌-◌, ◌<◌, ◌≤◌, Bool, true, false, cond, get_or, Some, None, ℤ, pos, ◌+ℤ◌, ◌*ℤ◌, List, All, [], ◌∷◌, ◌++◌, length, map, take, drop, flat_map, refl, sym, ap, ap₂, ◌∙◌, subst, arith, length-append, append_assoc, Ok, Err}
use Rattle.std.specs.List.{prefix_len, range_with_len, take_while}
use Rattle.std.proofs.lemmas.Grind.{flat_map-append}
use Rattle.std.proofs.lemmas.List.{get_or-map, length-map}
use Rattle.std.proofs.lemmas.List.Elements.{All-get_or}
use Rattle.std.proofs.lemmas.Int.{ints}
use Rattle.std.proofs.Math.IntN.{suc_ℤ-*ℤ, zero-*ℤ}
use Rattle.fd_base.specs.declared.numbers.FaultKind.{FaultKind}
use Rattle.fd_base.specs.Numbers.{fits_i64}
use Rattle.fd_prog.specs.Values.{Readings}
use Rattle.fd_prog.specs.Items.{LinearItem, LinearLoop, linear_loop_of}
use Rattle.fd_prog.specs.declared.item.Widened.{Widened}
use Rattle.fd_prog.specs.Needs.{Sight, LoopNumbers, numbers_in, loop_numbers, iterations_inside, all_iterations}
use Rattle.inspector.specs.Walks.{Walk, HaveSameMembers, Visits, Goes, found_at, found_in, numbers_from, one_number_of}
use Rattle.inspector.proofs.SameMembers.{members_equal, members_along, members_append}

-- ---- fronts

take-zero : (its : List (List ℤ)) (n : ℕ) → n ≡ 0 → take n its ≡ []
take-zero [] zero e = refl
take-zero (x ∷ xs) zero e = refl
take-zero its (suc n) e = absurd (omega (arith, e))

take-nil : (n : ℕ) → take n (let none : List (List ℤ) = [] in none) ≡ []
take-nil zero = refl
take-nil (suc n) = refl

take-both : (n : ℕ) (xs ys : List (List ℤ)) → take n (xs ++ ys) ≡ take n xs ++ take (n - length xs) ys
take-both zero [] ys = refl
take-both zero (x ∷ xs) ys = sym (take-zero ys (0 - length (x ∷ xs)) (omega arith)) ∙ refl
take-both (suc n) [] ys = let same : suc n ≡ suc n - length (let none : List (List ℤ) = [] in none) = omega arith in ap (λ k. take k ys) same
take-both (suc n) (x ∷ xs) ys = ap (λ zs. x ∷ zs) (take-both n xs ys) ∙ ap (λ k. x ∷ (take n xs ++ take k ys)) (omega arith)

append-none : (xs : List ℕ) → xs ++ [] ≡ xs
append-none [] = refl
append-none (y ∷ ys) = ap (λ zs. y ∷ zs) (append-none ys)

-- ---- visits

pub visits_none : (s : Sight) (x : LinearItem) (rank : ℕ) (b : Walk) → Visits s x rank [] b b
visits_none s x rank b = record {
  left = omega arith;
  found = members_equal b.found (b.found ++ found_in s x rank (take b.left [])) (sym (ap (λ its. b.found ++ found_in s x rank its) (take-nil b.left) ∙ append-none b.found));
}

-- a walk that may visit no more stays
pub visits_out : (s : Sight) (x : LinearItem) (rank : ℕ) (its : List (List ℤ)) (b : Walk) → b.left ≡ 0 → Visits s x rank its b b
visits_out s x rank its b e = record {
  left = omega (arith, e);
  found = members_equal b.found (b.found ++ found_in s x rank (take b.left its)) (sym (ap (λ front. b.found ++ found_in s x rank front) (take-zero its b.left e) ∙ append-none b.found));
}

pub visits_both : (s : Sight) (x : LinearItem) (rank : ℕ) (xs ys : List (List ℤ)) (a b c : Walk) → Visits s x rank xs a b → Visits s x rank ys b c → Visits s x rank (xs ++ ys) a c
visits_both s x rank xs ys a b c h k = record {
  left = omega (arith, h.left, k.left, length-append xs ys);
  found =
      members_along c.found (b.found ++ found_in s x rank (take b.left ys)) (a.found ++ found_in s x rank (take a.left (xs ++ ys))) k.found
      (members_along (b.found ++ found_in s x rank (take b.left ys)) ((a.found ++ found_in s x rank (take a.left xs)) ++ found_in s x rank (take b.left ys)) (a.found ++ found_in s x rank (take a.left (xs ++ ys)))
      (members_append b.found (a.found ++ found_in s x rank (take a.left xs)) (found_in s x rank (take b.left ys)) h.found)
      (members_equal ((a.found ++ found_in s x rank (take a.left xs)) ++ found_in s x rank (take b.left ys)) (a.found ++ found_in s x rank (take a.left (xs ++ ys)))
      (append_assoc a.found (found_in s x rank (take a.left xs)) (found_in s x rank (take b.left ys))
      ∙ ap (λ n. a.found ++ (found_in s x rank (take a.left xs) ++ found_in s x rank (take n ys))) h.left
      ∙ ap (λ zs. a.found ++ zs) (sym (ap (found_in s x rank) (take-both a.left xs ys) ∙ flat_map-append (found_at s x rank) (take a.left xs) (take (a.left - length xs) ys))))));
}

-- one iteration
pub visits_one : (s : Sight) (x : LinearItem) (rank : ℕ) (vs : List ℤ) (a b : Walk) → 0 < a.left → b.left ≡ a.left - 1 → HaveSameMembers b.found (a.found ++ found_at s x rank vs) → Visits s x rank (vs ∷ []) a b
visits_one s x rank vs a b h left found = record {
  left = left;
  found =
      members_along b.found (a.found ++ found_at s x rank vs) (a.found ++ found_in s x rank (take a.left (vs ∷ []))) found
      (members_equal (a.found ++ found_at s x rank vs) (a.found ++ found_in s x rank (take a.left (vs ∷ []))) (ap (λ zs. a.found ++ zs) (front a.left h)));
}
  where
    front : (n : ℕ) → 0 < n → found_at s x rank vs ≡ found_in s x rank (take n (vs ∷ []))
    front zero h = absurd (omega (arith, h))
    front (suc zero) h = sym (append-none (found_at s x rank vs))
    front (suc (suc n)) h = sym (append-none (found_at s x rank vs))

-- an iteration that finds nothing
pub visits_nothing : (s : Sight) (x : LinearItem) (rank : ℕ) (vs : List ℤ) (a b : Walk) → 0 < a.left → b.left ≡ a.left - 1 → b.found ≡ a.found → [] ≡ found_at s x rank vs → Visits s x rank (vs ∷ []) a b
visits_nothing s x rank vs a b h left found none =
    visits_one s x rank vs a b h left (members_equal b.found (a.found ++ found_at s x rank vs) (found ∙ sym (ap (λ zs. a.found ++ zs) (sym none) ∙ append-none a.found)))

-- an iteration that finds an element
pub visits_element : (s : Sight) (x : LinearItem) (rank : ℕ) (vs : List ℤ) (e : ℕ) (a b : Walk) (begun : List ℕ) → 0 < a.left → b.left ≡ a.left - 1 → begun ≡ a.found → HaveSameMembers b.found (begun ++ e ∷ []) → e ∷ [] ≡ found_at s x rank vs → Visits s x rank (vs ∷ []) a b
visits_element s x rank vs e a b begun h left same found one =
    visits_one s x rank vs a b h left
    (members_along b.found (begun ++ e ∷ []) (a.found ++ found_at s x rank vs) found (members_equal (begun ++ e ∷ []) (a.found ++ found_at s x rank vs) (ap₂ (λ xs ys. xs ++ ys) same one)))

-- ---- the numbers of a loop

numbers-shift : (f by : ℤ) (a n : ℕ) (v : ℤ) → v ≡ f +ℤ pos a *ℤ by → take_while fits_i64 (map (λ k. f +ℤ pos k *ℤ by) (range_with_len a n)) ≡ numbers_from v by n
numbers-shift f by a zero v e = refl
numbers-shift f by a (suc n) v e =
    let further : pos (a + 1) *ℤ by ≡ pos a *ℤ by +ℤ by = ap (λ k. pos k *ℤ by) (one_more a) ∙ suc_ℤ-*ℤ (pos a) by in
    let rest : take_while fits_i64 (map (λ k. f +ℤ pos k *ℤ by) (range_with_len (a + 1) n)) ≡ numbers_from (v +ℤ by) by n = numbers-shift f by (a + 1) n (v +ℤ by) (one_further f (pos a *ℤ by) by v (pos (a + 1) *ℤ by) e further) in
    front (fits_i64 (f +ℤ pos a *ℤ by)) (prefix_len fits_i64 (map (λ k. f +ℤ pos k *ℤ by) (range_with_len (a + 1) n))) (f +ℤ pos a *ℤ by) (map (λ k. f +ℤ pos k *ℤ by) (range_with_len (a + 1) n))
    ∙ ap₂ (λ w zs. cond (fits_i64 w) (w ∷ zs) []) (sym e) rest
  where
    one_more : (a : ℕ) → a + 1 ≡ suc a
    one_more a = omega arith

    one_further : (f p by v w : ℤ) → v ≡ f +ℤ p → w ≡ p +ℤ by → v +ℤ by ≡ f +ℤ w
    one_further f p by v w e g = omega (arith, ints)

    front : (b : Bool) (m : ℕ) (x : ℤ) (xs : List ℤ) → take (cond b (1 + m) 0) (x ∷ xs) ≡ cond b (x ∷ take m xs) []
    front true m x xs = let same : 1 + m ≡ suc m = omega arith in ap (λ k. take k (x ∷ xs)) same
    front false m x xs = refl

pub numbers_are : (n : LoopNumbers) → numbers_in (Ok n) ≡ numbers_from n.first n.by n.count
numbers_are n = numbers-shift n.first n.by 0 n.count n.first (at_first n.first (pos 0 *ℤ n.by) (zero-*ℤ n.by))
  where
    at_first : (f p : ℤ) → p ≡ pos 0 → f ≡ f +ℤ p
    at_first f p e = omega (arith, ints)

-- ---- a loop on the way

pub goes_start : (s : Sight) (x : LinearItem) (rank : ℕ) (its : List (List ℤ)) (b : Walk) → Goes s x rank its b its b
goes_start s x rank its b = record { goes = λ after h. h }

pub goes_done : (s : Sight) (x : LinearItem) (rank : ℕ) (one : ℤ → List (List ℤ)) (v by : ℤ) (n : ℕ) (now begun : Walk) (all : List (List ℤ)) → n ≡ 0
    → Goes s x rank (flat_map one (numbers_from v by n)) now all begun → Visits s x rank all begun now
goes_done s x rank one v by zero now begun all e h = h.goes now (visits_none s x rank now)
goes_done s x rank one v by (suc n) now begun all e h = absurd (omega (arith, e))

pub goes_out : (s : Sight) (x : LinearItem) (rank : ℕ) (rest : List (List ℤ)) (now begun : Walk) (all : List (List ℤ)) → now.left ≡ 0
    → Goes s x rank rest now all begun → Visits s x rank all begun now
goes_out s x rank rest now begun all e h = h.goes now (visits_out s x rank rest now e)

numbers-more : (v by : ℤ) (n : ℕ) → fits_i64 v ≡ true → 0 < n → numbers_from v by n ≡ v ∷ numbers_from (v +ℤ by) by (n - 1)
numbers-more v by zero e h = absurd (omega (arith, h))
numbers-more v by (suc n) e h = let same : n ≡ suc n - 1 = omega arith in rw e (ap (λ k. v ∷ numbers_from (v +ℤ by) by k) same)

numbers-over : (v by : ℤ) (n : ℕ) → fits_i64 v ≡ false → numbers_from v by n ≡ []
numbers-over v by zero e = refl
numbers-over v by (suc n) e = rw e refl

pub goes_on : (s : Sight) (x : LinearItem) (rank : ℕ) (one : ℤ → List (List ℤ)) (v by next : ℤ) (n m : ℕ) (now mid begun : Walk) (all : List (List ℤ)) → fits_i64 v ≡ true → 0 < n → next ≡ v +ℤ by → m ≡ n - 1
    → Goes s x rank (flat_map one (numbers_from v by n)) now all begun → Visits s x rank (one v) now mid → Goes s x rank (flat_map one (numbers_from next by m)) mid all begun
goes_on s x rank one v by next n m now mid begun all fits some is_next is_m h visited = record {
  goes = λ after rest.
      let all_rest : Visits s x rank (flat_map one (numbers_from (v +ℤ by) by (n - 1))) mid after = subst (λ (ns : List ℤ). Visits s x rank (flat_map one ns) mid after) (ap₂ (λ w k. numbers_from w by k) is_next is_m) rest in
      h.goes after (subst (λ (ns : List ℤ). Visits s x rank (flat_map one ns) now after) (sym (numbers-more v by n fits some)) (visits_both s x rank (one v) (flat_map one (numbers_from (v +ℤ by) by (n - 1))) now mid after visited all_rest));
}

pub goes_over : (s : Sight) (x : LinearItem) (rank : ℕ) (one : ℤ → List (List ℤ)) (v by : ℤ) (n : ℕ) (now mid begun : Walk) (all : List (List ℤ)) → fits_i64 v ≡ true → 0 < n → fits_i64 (v +ℤ by) ≡ false
    → Goes s x rank (flat_map one (numbers_from v by n)) now all begun → Visits s x rank (one v) now mid → Visits s x rank all begun mid
goes_over s x rank one v by n now mid begun all fits some over h visited =
    (goes_on s x rank one v by (v +ℤ by) n (n - 1) now mid begun all fits some refl refl h visited).goes mid
    (subst (λ (ns : List ℤ). Visits s x rank (flat_map one ns) mid mid) (sym (numbers-over (v +ℤ by) by (n - 1) over)) (visits_none s x rank mid))

-- ---- loops by number

pub over_from : (b : Bool) (x : ℤ) → None ≡ cond b (Some x) None → b ≡ false
over_from true x e = absurd (cc)
over_from false x e = refl

pub next_from : (b : Bool) (x y : ℤ) → Some y ≡ cond b (Some x) None → y ≡ x
next_from true x y e = cc
next_from false x y e = absurd (cc)

-- the loops from one on
pub loops_none : (ls : List LinearLoop) (depth : ℕ) → length ls ≤ depth → drop depth ls ≡ []
loops_none [] zero h = refl
loops_none [] (suc d) h = refl
loops_none (l ∷ ls) zero h = absurd (omega (arith, h))
loops_none (l ∷ ls) (suc d) h = loops_none ls d (omega (arith, h))

pub loops_more : (ls : List LinearLoop) (depth : ℕ) (l : LinearLoop) → depth < length ls → get_or ls depth l ≡ l → drop depth ls ≡ l ∷ drop (depth + 1) ls
loops_more [] d l h e = absurd (omega (arith, h))
loops_more (m ∷ ls) zero l h e = ap (λ k. k ∷ ls) e
loops_more (m ∷ ls) (suc d) l h e = loops_more ls d l (omega (arith, h)) e ∙ ap (λ k. l ∷ drop k (m ∷ ls)) (past d)
  where
    past : (d : ℕ) → suc (d + 1) ≡ suc d + 1
    past d = omega arith

-- a walk past the last loop has none
pub walk_past : (s : Sight) (x : LinearItem) (rank : ℕ) (r : Readings) (ls : List LinearLoop) (depth : ℕ) (vs : List ℤ) (b : Walk) → length ls ≤ depth → Visits s x rank (iterations_inside r (drop depth ls) vs) b b
walk_past s x rank r ls depth vs b h = subst (λ (ms : List LinearLoop). Visits s x rank (iterations_inside r ms vs) b b) (sym (loops_none ls depth h)) (visits_none s x rank b)

-- the iterations of a loop and those inside
pub iterations_are : (r : Readings) (ls : List LinearLoop) (depth : ℕ) (l : LinearLoop) (vs : List ℤ) → depth < length ls → get_or ls depth l ≡ l
    → iterations_inside r (drop depth ls) vs ≡ flat_map (one_number_of r (drop (depth + 1) ls) vs) (numbers_in (loop_numbers r vs l))
iterations_are r ls depth l vs h e = ap (λ ms. iterations_inside r ms vs) (loops_more ls depth l h e)

pub walk_fault : (s : Sight) (x : LinearItem) (rank : ℕ) (r : Readings) (ls : List LinearLoop) (depth : ℕ) (l : LinearLoop) (vs : List ℤ) (kind : FaultKind) (b : Walk) → depth < length ls → get_or ls depth l ≡ l → loop_numbers r vs l ≡ Err kind
    → Visits s x rank (iterations_inside r (drop depth ls) vs) b b
walk_fault s x rank r ls depth l vs kind b h e f =
    subst (λ (its : List (List ℤ)). Visits s x rank its b b) (sym (iterations_are r ls depth l vs h e ∙ ap (λ n. flat_map (one_number_of r (drop (depth + 1) ls) vs) (numbers_in n)) f)) (visits_none s x rank b)

pub walk_numbers : (r : Readings) (ls : List LinearLoop) (depth : ℕ) (l : LinearLoop) (vs : List ℤ) (n : LoopNumbers) → depth < length ls → get_or ls depth l ≡ l → loop_numbers r vs l ≡ Ok n
    → flat_map (one_number_of r (drop (depth + 1) ls) vs) (numbers_from n.first n.by n.count) ≡ iterations_inside r (drop depth ls) vs
walk_numbers r ls depth l vs n h e f =
    sym (iterations_are r ls depth l vs h e ∙ ap (λ m. flat_map (one_number_of r (drop (depth + 1) ls) vs) (numbers_in m)) f ∙ ap (flat_map (one_number_of r (drop (depth + 1) ls) vs)) (numbers_are n))

pub same_one : (s : Sight) (x : LinearItem) (rank : ℕ) (r : Readings) (ls : List LinearLoop) (ws vs : List ℤ) (v : ℤ) (a b : Walk) → ws ≡ vs → Visits s x rank (one_number_of r ls ws v) a b → Visits s x rank (one_number_of r ls vs v) a b
same_one s x rank r ls ws vs v a b e h = subst (λ (us : List ℤ). Visits s x rank (one_number_of r ls us v) a b) e h

-- an iteration and those inside
pub one_done : (s : Sight) (x : LinearItem) (rank : ℕ) (r : Readings) (ls : List LinearLoop) (vs ws : List ℤ) (v : ℤ) (a b c : Walk) → ws ≡ vs ++ v ∷ [] → Visits s x rank (ws ∷ []) a b → Visits s x rank (iterations_inside r ls ws) b c → Visits s x rank (one_number_of r ls vs v) a c
one_done s x rank r ls vs ws v a b c e h k =
    subst (λ (us : List ℤ). Visits s x rank (us ∷ iterations_inside r ls us) a c) e (visits_both s x rank (ws ∷ []) (iterations_inside r ls ws) a b c h k)

-- the loop at a place
pub loop_at : (ws : List Widened) (depth : ℕ) (w : Widened) → depth < length ws → w ≡ get_or ws depth w → get_or (map linear_loop_of ws) depth (linear_loop_of w) ≡ linear_loop_of w
loop_at ws depth w h e = get_or-map linear_loop_of ws depth w (linear_loop_of w) h ∙ ap linear_loop_of (sym e)

pub loop_below : (ws : List Widened) (depth : ℕ) → depth < length ws → depth < length (map linear_loop_of ws)
loop_below ws depth h = omega (arith, h, length-map ws linear_loop_of)

pub loop_sound : (P : LinearLoop → Type 0) (ws : List Widened) (depth : ℕ) (w : Widened) → All P (map linear_loop_of ws) → depth < length ws → w ≡ get_or ws depth w → P (linear_loop_of w)
loop_sound P ws depth w h k e = subst P (loop_at ws depth w k e) (All-get_or P (map linear_loop_of ws) depth (linear_loop_of w) (loop_below ws depth k) h)

pub all_are : (r : Readings) (ls : List LinearLoop) (vs : List ℤ) → vs ≡ [] → 0 < length ls → iterations_inside r (drop 0 ls) vs ≡ all_iterations r ls
all_are r [] vs e h = absurd (omega (arith, h))
all_are r (l ∷ ls) vs e h = ap (iterations_inside r (l ∷ ls)) e
