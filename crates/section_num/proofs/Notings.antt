-- What is noted in parts, and of lists as they are kept.
use Rattle.std.proofs.Common.{◌≡◌, ℕ, zero, suc, ◌<◌, ◌≤◌, Bool, true, false, cond, not, List, [], ◌∷◌, ◌++◌, length, Option, Some, None, refl, sym, ap, ◌∙◌, arith, Result, Ok, Err, OnOk}
use Rattle.std.specs.Prelude.{◌+◌, flat_map, get_or, replicate, take, map, option_map, slice_set}
use Rattle.std.proofs.lemmas.List.{append-nil, length-map, map-append, take_more}
use Rattle.std.proofs.lemmas.List.Concat.{flat_map-append}
use Rattle.std.specs.List.{position, position_or_len}
use Rattle.std.specs.declared.cmp.Ordering.TheVariants.{Greater}
use Rattle.fd_base.specs.declared.numbering.ItemNo.{ItemNo}
use Rattle.fd_base.specs.declared.memory.Memory.{Memory}
use Rattle.fd_prog.specs.declared.item.Widened.{Widened}
use Rattle.fd_prog.specs.Items.{LinearItem, is_same_item, linear_item_of, linear_loop_of, loops_order}
use Rattle.fd_prog.specs.Uses as uses
use Rattle.fd_prog.specs.Uses.{print_uses}
use Rattle.fd_prog.specs.Statements.{print_item_of}
use Rattle.fd_prog.specs.declared.statement.Part.{Part}
use Rattle.section_num.specs.declared.firsts.Use.{Use}
use Rattle.section_num.specs.Noting.{Noted, all_noted, at_start, closed, is_free, noted, nodes_noted, with_site}
use Rattle.section_num.specs.Views.{numbers_of, use_of}

pub all_noted-append : (us vs : List uses.Use) (n : Noted) → all_noted (us ++ vs) n ≡ all_noted vs (all_noted us n)
all_noted-append [] vs n = refl
all_noted-append (u ∷ us) vs n = all_noted-append us vs (noted u n)

pub nodes_noted-append : (us vs : List (List uses.Use)) (n : Noted) → nodes_noted (us ++ vs) n ≡ nodes_noted vs (nodes_noted us n)
nodes_noted-append [] vs n = refl
nodes_noted-append (u ∷ us) vs n = nodes_noted-append us vs (closed (all_noted u n))

-- what is noted in two parts of a whole
pub noted_then : (r : Result (Unit {0}) Memory) (us vs ws : List uses.Use) (n m o : Noted) → ws ≡ us ++ vs → m ≡ all_noted us n → OnOk r (o ≡ all_noted vs m) → OnOk r (o ≡ all_noted ws n)
noted_then (Ok x) us vs ws n m o e f g = g ∙ (ap (all_noted vs) f ∙ (sym (all_noted-append us vs n) ∙ ap (λ xs. all_noted xs n) (sym e)))
noted_then (Err x) us vs ws n m o e f g = tt

pub ruleset noting = (all_noted-append, nodes_noted-append)

-- a node that uses two or three things
pub closed_two : (r : Result (Unit {0}) Memory) (us vs : List uses.Use) (n m o p : Noted) → m ≡ all_noted us n → o ≡ all_noted vs m → OnOk r (p ≡ closed o) → OnOk r (p ≡ closed (all_noted (us ++ vs) n))
closed_two (Ok x) us vs n m o p f g h = h ∙ ap closed (g ∙ (ap (all_noted vs) f ∙ sym (all_noted-append us vs n)))
closed_two (Err x) us vs n m o p f g h = tt

pub closed_three : (r : Result (Unit {0}) Memory) (us vs ws : List uses.Use) (n m o p q : Noted) → m ≡ all_noted us n → o ≡ all_noted vs m → p ≡ all_noted ws o → OnOk r (q ≡ closed p) → OnOk r (q ≡ closed (all_noted (us ++ (vs ++ ws)) n))
closed_three r us vs ws n m o p q f g h k = closed_two r us (vs ++ ws) n m p q f (h ∙ (ap (all_noted ws) g ∙ sym (all_noted-append vs ws m))) k

-- the nodes of a loop
pub loop_noted : (r : Result (Unit {0}) Memory) (test latch : List uses.Use) (body : List (List uses.Use)) (n a b c d : Noted) → a ≡ closed (all_noted test n) → b ≡ closed a → c ≡ nodes_noted body b → OnOk r (d ≡ closed (all_noted latch c))
    → OnOk r (d ≡ nodes_noted (test ∷ ([] ∷ (body ++ (latch ∷ [])))) n)
loop_noted (Ok x) test latch body n a b c d e f g h =
    h ∙ (ap (λ m. closed (all_noted latch m)) (g ∙ ap (nodes_noted body) (f ∙ ap closed e)) ∙ sym (nodes_noted-append body (latch ∷ []) (closed (closed (all_noted test n)))))
loop_noted (Err x) test latch body n a b c d e f g h = tt

-- the nodes of an IF
pub if_noted : (r : Result (Unit {0}) Memory) (test : List uses.Use) (so otherwise : List (List uses.Use)) (n a b c d e f : Noted) → a ≡ closed (all_noted test n) → b ≡ closed a → c ≡ nodes_noted so b → d ≡ closed (closed c) → e ≡ nodes_noted otherwise d → OnOk r (f ≡ closed (closed e))
    → OnOk r (f ≡ nodes_noted (test ∷ ([] ∷ (so ++ ([] ∷ ([] ∷ (otherwise ++ ([] ∷ ([] ∷ [])))))))) n)
if_noted (Ok x) test so otherwise n a b c d e f ha hb hc hd he hf =
    let twice : Noted → Noted = λ m. closed (closed m) in
    let start : Noted = twice (all_noted test n) in
    let last : List (List uses.Use) = [] ∷ ([] ∷ []) in
    hf ∙ (ap twice (he ∙ ap (nodes_noted otherwise) (hd ∙ ap twice (hc ∙ ap (nodes_noted so) (hb ∙ ap closed ha))))
    ∙ (sym (nodes_noted-append otherwise last (twice (nodes_noted so start))) ∙ sym (nodes_noted-append so ([] ∷ ([] ∷ (otherwise ++ last))) start)))
if_noted (Err x) test so otherwise n a b c d e f ha hb hc hd he hf = tt

-- one more part of what a PRINT prints
pub part_more : (t : uses.Stand) (parts : List Part) (i : ℕ) (x : Part) (n m o : Noted) → i < length parts → x ≡ get_or parts i x → m ≡ all_noted (flat_map (print_uses t) (map print_item_of (take i parts))) n → o ≡ all_noted (print_uses t (print_item_of x)) m
    → o ≡ all_noted (flat_map (print_uses t) (map print_item_of (take (i + 1) parts))) n
part_more t parts i x n m o h e f g =
    let P : List Part → List uses.Use = λ xs. flat_map (print_uses t) (map print_item_of xs) in
    let one : take (i + 1) parts ≡ take i parts ++ x ∷ [] = take_more parts i x h ∙ ap (λ y. take i parts ++ y ∷ []) (sym e) in
    let whole : P (take (i + 1) parts) ≡ P (take i parts) ++ (print_uses t (print_item_of x) ++ []) =
    ap P one ∙ (ap (flat_map (print_uses t)) (map-append print_item_of (take i parts) (x ∷ [])) ∙ flat_map-append (print_uses t) (map print_item_of (take i parts)) (print_item_of x ∷ [])) in
    let short : P (take (i + 1) parts) ≡ P (take i parts) ++ print_uses t (print_item_of x) = whole ∙ ap (λ zs. P (take i parts) ++ zs) (append-nil (print_uses t (print_item_of x))) in
    g ∙ (ap (all_noted (print_uses t (print_item_of x))) f ∙ (sym (all_noted-append (P (take i parts)) (print_uses t (print_item_of x)) n) ∙ ap (λ xs. all_noted xs n) (sym short)))

-- ---- lists as they are kept

-- loops that go on come behind none
pub greater_past : (l : Widened) (ls : List Widened) → Greater ≡ loops_order (map linear_loop_of (l ∷ ls)) []
greater_past l ls = refl

-- the place of an item among first uses
places_map : {A B : Type 0} (p : B → Bool) (f : A → B) (xs : List A) → position_or_len p (map f xs) ≡ position_or_len (λ x. p (f x)) xs
places_map p f [] = refl
places_map p f (x ∷ xs) = ap (λ k. cond (not (p (f x))) (1 + k) 0) (places_map p f xs)

pub place_among : (firsts : List Use) (x : LinearItem) → position (λ (v : uses.Use). is_same_item v.item x) (map use_of firsts) ≡ position (λ u. is_same_item (linear_item_of u.item) x) firsts
place_among firsts x = rw (places_map (λ (v : uses.Use). is_same_item v.item x) use_of firsts, length-map firsts)

-- a number in place of another
pub numbers_of-set : (ns : List ItemNo) (i : ℕ) (n : ItemNo) → numbers_of (slice_set ns i n) ≡ slice_set (numbers_of ns) i n.0
numbers_of-set [] i n = refl
numbers_of-set (m ∷ ms) zero n = refl
numbers_of-set (m ∷ ms) (suc i) n = ap (λ ks. m.0 ∷ ks) (numbers_of-set ms i n)

-- where a reference has no number, it is one of the list
pub free_within : (ns : List ItemNo) (i : ℕ) → is_free (numbers_of ns) i ≡ true → i < length ns
free_within [] i h = absurd cc
free_within (n ∷ ns) zero h = omega arith
free_within (n ∷ ns) (suc i) h = omega (arith, free_within ns i h)

-- it gets this one
pub set_free : (ns : List ItemNo) (i n : ℕ) → is_free (numbers_of ns) i ≡ true → numbers_of (slice_set ns i (record { 0 = n })) ≡ with_site n i (numbers_of ns)
set_free ns i n h = numbers_of-set ns i (record { 0 = n }) ∙ sym (ap (λ b. cond b (slice_set (numbers_of ns) i n) (numbers_of ns)) h)

-- no reference has a number
pub unset_numbers : (n : ℕ) → numbers_of (replicate n (record { 0 = 0 })) ≡ replicate n 0
unset_numbers zero = refl
unset_numbers (suc n) = ap (λ ks. 0 ∷ ks) (unset_numbers n)

-- nothing is noted
pub at_start_is : (firsts : List Use) (sites row : List ItemNo) (rows : List (List ItemNo)) (n : ℕ) → firsts ≡ [] → numbers_of sites ≡ replicate n 0 → row ≡ [] → rows ≡ []
    → record { firsts = map use_of firsts; sites = numbers_of sites; row = numbers_of row; rows = map numbers_of rows; over = None } ≡ at_start n
at_start_is firsts sites row rows n e f g h = rw (e, f, g, h)

-- the items of uses
pub items_seen : (firsts : List Use) → map (λ (u : Use). linear_item_of u.item) firsts ≡ map (λ (u : uses.Use). u.item) (map use_of firsts)
items_seen [] = refl
items_seen (u ∷ us) = ap (λ xs. linear_item_of u.item ∷ xs) (items_seen us)
