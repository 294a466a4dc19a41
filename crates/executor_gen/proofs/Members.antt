-- The operations that tables tell are those of the plan, and there are few at each place.
use Rattle.std.proofs.Common.{◌≡◌, ℕ, zero, suc, ◌+◌, ◌-◌, ◌<◌, ◌≤◌, ◌⊎◌, inl, inr, Bool, true, false, cond, List, [], ◌∷◌, ◌++◌, map, filter, length, get_or, slice_get, Some, refl, sym, ap, ◌∙◌, subst, arith, append_assoc, append-nil, length-append}
use Rattle.std.specs.List.{range_with_len}
use Rattle.std.proofs.lemmas.Bool.{cases_lt}
use Rattle.std.proofs.lemmas.List.{get_or-map, get_or_past, length-map}
use Rattle.std.proofs.lemmas.List.Elements.{filter_agree}
use Rattle.std.proofs.lemmas.List.FromFn.{length-range_with_len}
use Rattle.std.proofs.lemmas.Option.{slice_get_past}
use Rattle.fd_base.specs.declared.numbering.ItemNo.{ItemNo}
use Rattle.fd_sets.specs.Sets.{Subset, IsLeast}
use Rattle.fd_prog.specs.Paths.{Places, Plan}
use Rattle.gnt_solver.specs.Columns.{held, col, at}
use Rattle.gnt_solver.specs.Placed.{places_of, AreTables}
use Rattle.gnt_solver.specs.declared.solving.Placement.{Placement}
use Rattle.exec_code.specs.Instructions.{Instruction, Send, Recv}
use Rattle.executor_gen.specs.declared.operations.Operations.{Operations}
use Rattle.executor_gen.specs.Layout.{for_items, operations}
use Rattle.executor_gen.specs.Blocks.{sends_of, recvs_of, in_code, out_code, spots_in, AreFew, AreOperations}
use Rattle.executor_gen.specs.Told.{numbered, marked_from, items_marked, IsNext, AreNone, IsToldAt, AreTold}

-- ---- the members of a set, one by one

unmarked : (b : Bool) → (b ≡ true → ⊥) → b ≡ false
unmarked true h = absurd (h refl)
unmarked false h = refl

-- the least member from an item on, where it is one of so many
pub next_is : (s : Subset) (from items next : ℕ) → IsLeast s from next → next ≤ items → IsNext (held s) from items next
next_is s from items next h low = record {
  up = h.0;
  within = low;
  has = h.1;
  none = λ k at_least below. unmarked (held s k) (λ e. let least = h.2 k at_least e in absurd (omega (arith, least, below)));
}

-- none of so many, where the least is none of them
pub none_are : (s : Subset) (from items next : ℕ) → IsLeast s from next → items < next → AreNone (held s) from items
none_are s from items next h high = λ k at_least low. unmarked (held s k) (λ e. let least = h.2 k at_least e in absurd (omega (arith, least, low, high)))

-- what isn't marked is passed over
past : (f : ℕ → Bool) (a m n b : ℕ) → a + m ≡ b → ((k : ℕ) → a ≤ k → k < b → f k ≡ false) → filter f (range_with_len a (m + n)) ≡ filter f (range_with_len b n)
past f a zero n b e none =
    let x : zero + n ≡ n = omega arith in
    let y : a ≡ b = omega (arith, e) in
    ap (λ k. filter f (range_with_len a k)) x ∙ ap (λ k. filter f (range_with_len k n)) y
past f a (suc m) n b e none =
    let x : suc m + n ≡ suc (m + n) = omega arith in
    let more = filter f (range_with_len (a + 1) (m + n)) in
    ap (λ k. filter f (range_with_len a k)) x ∙ ap (λ c. cond c (a ∷ more) more) (none a (omega arith) (omega (arith, e)))
    ∙ past f (a + 1) m n b (omega (arith, e)) (λ k h l. none k (omega (arith, h)) l)

next_first : (f : ℕ → Bool) (from items next : ℕ) → IsNext f from items next → filter f (range_with_len from (items + 1 - from)) ≡ next ∷ filter f (range_with_len (next + 1) (items + 1 - (next + 1)))
next_first f from items next h =
    let x : items + 1 - from ≡ (next - from) + suc (items - next) = omega (arith, h.up, h.within) in
    let y : from + (next - from) ≡ next = omega (arith, h.up) in
    let z : items - next ≡ items + 1 - (next + 1) = omega arith in
    let more = filter f (range_with_len (next + 1) (items - next)) in
    ap (λ k. filter f (range_with_len from k)) x ∙ past f from (next - from) (suc (items - next)) next y h.none ∙ ap (λ c. cond c (next ∷ more) more) h.has
    ∙ ap (λ k. next ∷ filter f (range_with_len (next + 1) k)) z

none_left : (f : ℕ → Bool) (from items : ℕ) → AreNone f from items → filter f (range_with_len from (items + 1 - from)) ≡ []
none_left f from items h =
    let m = items + 1 - from in
    let x : m ≡ m + 0 = omega arith in
    ap (λ k. filter f (range_with_len from k)) x ∙ past f from m 0 (from + m) refl (λ k up low. h k up (omega (arith, up, low)))

-- those so far, and those that are left
pub begin_marked : (f : ℕ → Bool) (items : ℕ) (xs : List ItemNo) → xs ≡ [] → xs ++ marked_from f 1 items ≡ items_marked items f
begin_marked f items xs e =
    let x : items + 1 - 1 ≡ items = omega arith in
    ap (λ ys. ys ++ marked_from f 1 items) e ∙ ap (λ k. map numbered (filter f (range_with_len 1 k))) x

pub more_marked : (f : ℕ → Bool) (items from : ℕ) (item : ItemNo) (xs ys : List ItemNo) → IsNext f from items item.0 → xs ++ marked_from f from items ≡ items_marked items f → ys ≡ xs ++ item ∷ []
    → ys ++ marked_from f (item.0 + 1) items ≡ items_marked items f
more_marked f items from item xs ys next h e =
    let rest = marked_from f (item.0 + 1) items in
    let first : marked_from f from items ≡ item ∷ rest = ap (map numbered) (next_first f from items item.0 next) in
    ap (λ zs. zs ++ rest) e ∙ append_assoc xs (item ∷ []) rest ∙ ap (λ zs. xs ++ zs) (sym first) ∙ h

pub end_marked : (f : ℕ → Bool) (items from : ℕ) (xs : List ItemNo) → AreNone f from items → xs ++ marked_from f from items ≡ items_marked items f → xs ≡ items_marked items f
end_marked f items from xs none h = sym (ap (λ ys. xs ++ map numbered ys) (none_left f from items none) ∙ append-nil xs) ∙ h

-- the members of the set of a node
pub marked_at : (t : List Subset) (n items : ℕ) (s : Subset) (xs : List ItemNo) → n < length t → s ≡ get_or t n s → xs ≡ items_marked items (held s) → xs ≡ items_marked items (λ x. at (col t x) n)
marked_at t n items s xs within is h =
    h ∙ ap (map numbered) (filter_agree (held s) (λ x. at (col t x) n)
    (λ x. ap (λ (q : Subset). held q x) is ∙ sym (get_or-map (λ (q : Subset). held q x) t n s false within)) (range_with_len 1 items))

pub told_more : (p : Places) (items a n : ℕ) (os ps : List Operations) (o : Operations) → AreTold p items a os → a + length os ≡ n → IsToldAt p items n o → ps ≡ os ++ o ∷ [] → AreTold p items a ps
told_more p items a n os ps o h e k is = subst (AreTold p items a) (sym is) (behind a os h e)
  where
    behind : (b : ℕ) (qs : List Operations) → AreTold p items b qs → b + length qs ≡ n → AreTold p items b (qs ++ o ∷ [])
    behind b [] t at_end = let same : n ≡ b = omega (arith, at_end) in (subst (λ m. IsToldAt p items m o) same k, tt)
    behind b (q ∷ qs) t at_end = (t.0, behind (suc b) qs t.1 (omega (arith, at_end)))

-- ---- all operations

made_each : (make : ItemNo → Instruction) (xs : List ℕ) → map make (map numbered xs) ≡ map (λ y. make (record { 0 = y })) xs
made_each make [] = refl
made_each make (x ∷ xs) = ap (λ ys. make (record { 0 = x }) ∷ ys) (made_each make xs)

code_by : (items : ℕ) (sent received : ℕ → Bool) (xs ys : List ItemNo) → xs ≡ items_marked items sent → ys ≡ items_marked items received → sends_of xs ++ recvs_of ys ≡ operations items sent received
code_by items sent received xs ys e f =
    ap (λ zs. sends_of zs ++ recvs_of ys) e ∙ ap (λ zs. sends_of (items_marked items sent) ++ recvs_of zs) f
    ∙ ap (λ zs. zs ++ recvs_of (items_marked items received)) (made_each (λ x. Send x) (filter sent (range_with_len 1 items)))
    ∙ ap (λ zs. for_items (λ x. Send x) items sent ++ zs) (made_each (λ x. Recv x) (filter received (range_with_len 1 items)))

told_at : (p : Places) (items a n : ℕ) (os : List Operations) → AreTold p items a os → n < length os → (o : Operations) × (slice_get os n ≡ Some o) × IsToldAt p items (a + n) o
told_at p items a n [] h low = absurd (omega (arith, low))
told_at p items a zero (o ∷ os) h low = let e : a ≡ a + 0 = omega arith in (o, refl, subst (λ m. IsToldAt p items m o) e h.0)
told_at p items a (suc n) (o ∷ os) h low =
    let rest = told_at p items (suc a) n os h.1 (omega (arith, low)) in
    let e : suc a + n ≡ a + suc n = omega arith in
    (rest.0, rest.1, subst (λ m. IsToldAt p items m rest.0) e rest.2)

none_filtered : (f : ℕ → Bool) → ((x : ℕ) → f x ≡ false) → (xs : List ℕ) → filter f xs ≡ []
none_filtered f h [] = refl
none_filtered f h (x ∷ xs) = ap (λ b. cond b (x ∷ filter f xs) (filter f xs)) (h x) ∙ none_filtered f h xs

no_operations : (items : ℕ) (sent received : ℕ → Bool) → ((x : ℕ) → sent x ≡ false) → ((x : ℕ) → received x ≡ false) → [] ≡ operations items sent received
no_operations items sent received h k =
    sym (ap (λ xs. map (λ x. Send (record { 0 = x })) xs ++ for_items (λ x. Recv x) items received) (none_filtered sent h (range_with_len 1 items))
    ∙ ap (λ xs. map (λ x. Recv (record { 0 = x })) xs) (none_filtered received k (range_with_len 1 items)))

behind_last : (t : List Subset) (n : ℕ) → length t ≤ n → (x : ℕ) → at (col t x) n ≡ false
behind_last t n h x = let same = length-map t (λ (s : Subset). held s x) in get_or_past (col t x) n false (omega (arith, h, same))

-- the operations of a plan with the placement's places are those that its tables tell
pub told_operations : (p : Plan) (placement : Placement) (items nodes : ℕ) (os : List Operations) → p.items ≡ items → p.places ≡ places_of placement → AreTables (record { nodes = nodes; items = items }) placement → length os ≡ nodes
    → AreTold (places_of placement) items 0 os → AreOperations p os
told_operations p placement items nodes os e f tables count told = record {
  ins = λ n. ins_at n (cases_lt n (length os)) ∙ ap (λ k. operations k ((places_of placement).send_in n) ((places_of placement).recv_in n)) (sym e) ∙ ap (λ (q : Places). operations p.items (q.send_in n) (q.recv_in n)) (sym f);
  outs = λ n. outs_at n (cases_lt n (length os)) ∙ ap (λ k. operations k ((places_of placement).send_out n) ((places_of placement).recv_out n)) (sym e) ∙ ap (λ (q : Places). operations p.items (q.send_out n) (q.recv_out n)) (sym f);
}
  where
    from_zero : (n : ℕ) (o : Operations) → IsToldAt (places_of placement) items (0 + n) o → IsToldAt (places_of placement) items n o
    from_zero n o h = let same : 0 + n ≡ n = omega arith in subst (λ m. IsToldAt (places_of placement) items m o) same h

    ins_at : (n : ℕ) → (n < length os) ⊎ (length os ≤ n) → in_code (slice_get os n) ≡ operations items ((places_of placement).send_in n) ((places_of placement).recv_in n)
    ins_at n (inl low) =
        let o = told_at (places_of placement) items 0 n os told low in
        let h = from_zero n o.0 o.2 in
        ap in_code o.1 ∙ code_by items ((places_of placement).send_in n) ((places_of placement).recv_in n) o.0.send_in.items o.0.recv_in.items h.send_in h.recv_in
    ins_at n (inr high) =
        ap in_code (slice_get_past os n high)
        ∙ no_operations items ((places_of placement).send_in n) ((places_of placement).recv_in n) (behind_last placement.send_in n (omega (arith, tables.send_in.long, count, high))) (behind_last placement.recv_in n (omega (arith, tables.recv_in.long, count, high)))

    outs_at : (n : ℕ) → (n < length os) ⊎ (length os ≤ n) → out_code (slice_get os n) ≡ operations items ((places_of placement).send_out n) ((places_of placement).recv_out n)
    outs_at n (inl low) =
        let o = told_at (places_of placement) items 0 n os told low in
        let h = from_zero n o.0 o.2 in
        ap out_code o.1 ∙ code_by items ((places_of placement).send_out n) ((places_of placement).recv_out n) o.0.send_out.items o.0.recv_out.items h.send_out h.recv_out
    outs_at n (inr high) =
        ap out_code (slice_get_past os n high)
        ∙ no_operations items ((places_of placement).send_out n) ((places_of placement).recv_out n) (behind_last placement.send_out n (omega (arith, tables.send_out.long, count, high))) (behind_last placement.recv_out n (omega (arith, tables.recv_out.long, count, high)))

filter_short : (f : ℕ → Bool) (xs : List ℕ) → length (filter f xs) ≤ length xs
filter_short f [] = omega arith
filter_short f (x ∷ xs) = by (f x) (filter_short f xs)
  where
    by : (b : Bool) → length (filter f xs) ≤ length xs → length (cond b (x ∷ filter f xs) (filter f xs)) ≤ suc (length xs)
    by true h = omega (arith, h)
    by false h = omega (arith, h)

few_each : (make : ItemNo → Instruction) (items : ℕ) (f : ℕ → Bool) → length (for_items make items f) ≤ items
few_each make items f =
    let a = length-map (filter f (range_with_len 1 items)) (λ x. make (record { 0 = x })) in
    let b = filter_short f (range_with_len 1 items) in
    let c = length-range_with_len 1 items in
    omega (arith, a, b, c)

-- at most two for each item at each place
pub few_operations : (items : ℕ) (sent received : ℕ → Bool) → length (operations items sent received) ≤ items + items
few_operations items sent received =
    let a = length-append (for_items (λ x. Send x) items sent) (for_items (λ x. Recv x) items received) in
    let b = few_each (λ x. Send x) items sent in
    let c = few_each (λ x. Recv x) items received in
    omega (arith, a, b, c)

pub few_told : (p : Plan) (os : List Operations) → AreOperations p os → p.items ≤ 512 → AreFew os
few_told p os h few = record {
  ins = λ n. let a : length ((spots_in os).ins n) ≡ length (operations p.items (p.places.send_in n) (p.places.recv_in n)) = ap length (h.ins n) in let b = few_operations p.items (p.places.send_in n) (p.places.recv_in n) in omega (arith, a, b, few);
  outs = λ n. let a : length ((spots_in os).outs n) ≡ length (operations p.items (p.places.send_out n) (p.places.recv_out n)) = ap length (h.outs n) in let b = few_operations p.items (p.places.send_out n) (p.places.recv_out n) in omega (arith, a, b, few);
}
