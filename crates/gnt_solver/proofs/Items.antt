-- The conditions for all items: what happens to an item alone on a path is a path of one item.
use Rattle.std.proofs.Common.{◌≡◌, ℕ, zero, suc, ◌+◌, ◌-◌, ◌<◌, ◌≤◌, Bool, true, false, ◌&&◌, cond, IsTrue, ◌↔◌, inl, inr, List, [], ◌∷◌, ◌++◌, map, filter, refl, sym, ◌∙◌, ap, ap₂, subst, arith, true≢false, ◌==◌, eq-eqb}
use Rattle.std.specs.List.{list_any, range_with_len}
use Rattle.std.proofs.lemmas.List.{map-append}
use Rattle.std.proofs.lemmas.List.Elements.{filter-append}
use Rattle.std.proofs.lemmas.Bool.{ne_eqb, and_parts, and_from, or_cases, cases_eq}
use Rattle.fd_base.specs.declared.numbering.ItemNo.{ItemNo}
use Rattle.fd_prog.specs.declared.item.Event.{Event}
use Rattle.fd_prog.specs.declared.item.Event.TheVariants.{Send, Recv, Take, Steal, Hoist}
use Rattle.fd_prog.specs.Flow.{FlowGraph, Within}
use Rattle.fd_prog.specs.Paths.{Marks, Plan, taken_inside, for_each, operations, at_arrival, at_leaving, IsPath, start, forward, entry, cycle, Happening, Sent, Received, Taken, Hoisted, Stolen, item_in, happening_of, happenings}
use Rattle.fd_prog.specs.PathConditions.{IsGoodPlan}
use Rattle.interval_graph.specs.Structure.{IsFlow, IsLast}
use Rattle.gnt_solver.specs.Equations.{wants_of, spots_of, AreSolved}
use Rattle.gnt_solver.proofs.OneItem.{if_so, ops, arrives, Path, start as one_start, forward as one_forward, entry as one_entry, cycle as one_cycle}
use Rattle.gnt_solver.proofs.Static.{or_left, or_right}
use Rattle.gnt_solver.proofs.Steps.{all_kept}

-- ---- what happens to one item

pub happenings-append : (x : ℕ) (es fs : List Event) → happenings x (es ++ fs) ≡ happenings x es ++ happenings x fs
happenings-append x es fs =
    ap (λ (l : List Event). map happening_of l) (filter-append (λ e. item_in e == x) es fs)
    ∙ map-append happening_of (filter (λ e. item_in e == x) es) (filter (λ e. item_in e == x) fs)

-- a kind of event, with what it is called for one item
record IsKind (event : ItemNo → Event) (h : Happening) : Type 0 where
  item : (y : ℕ) → item_in (event (record { 0 = y })) ≡ y
  called : (y : ℕ) → happening_of (event (record { 0 = y })) ≡ h

kept_first : (b : Bool) (e : Event) (fs : List Event) (h : Happening) → happening_of e ≡ h
    → map happening_of (cond b (e ∷ fs) fs) ≡ cond b (h ∷ map happening_of fs) (map happening_of fs)
kept_first true e fs h q = ap (λ (z : Happening). z ∷ map happening_of fs) q
kept_first false e fs h q = refl

one_more : (event : ItemNo → Event) (h : Happening) → IsKind event h → (x a : ℕ) (es : List Event)
    → happenings x (event (record { 0 = a }) ∷ es) ≡ cond (a == x) (h ∷ happenings x es) (happenings x es)
one_more event h k x a es =
    kept_first (item_in (event (record { 0 = a })) == x) (event (record { 0 = a })) (filter (λ e. item_in e == x) es) h (k.called a)
    ∙ ap (λ (z : ℕ). cond (z == x) (h ∷ happenings x es) (happenings x es)) (k.item a)

abbrev events : (ItemNo → Event) → (ℕ → Bool) → ℕ → ℕ → List Event
events event marked a n = map (λ x. event (record { 0 = x })) (filter marked (range_with_len a n))

-- nothing of an item before the first
events_before : (event : ItemNo → Event) (h : Happening) → IsKind event h → (marked : ℕ → Bool) (x a n : ℕ) → x < a → happenings x (events event marked a n) ≡ []
events_before event h k marked x a zero lt = refl
events_before event h k marked x a (suc n) lt =
    let rest = events_before event h k marked x (a + 1) n (omega arith) in
    elim (marked a) as (λ (b : Bool). happenings x (map (λ y. event (record { 0 = y })) (cond b (a ∷ filter marked (range_with_len (a + 1) n)) (filter marked (range_with_len (a + 1) n)))) ≡ []) [
      | true ↦ one_more event h k x a (events event marked (a + 1) n) ∙ (let e : (a == x) ≡ false = ne_eqb a x (λ e. omega (arith, e, lt)) in rw e rest)
      | false ↦ rest
    ]

events_of : (event : ItemNo → Event) (h : Happening) → IsKind event h → (marked : ℕ → Bool) (x a n : ℕ) → a ≤ x → x < a + n
    → happenings x (events event marked a n) ≡ if_so (marked x) h
events_of event h k marked x a zero lo hi = absurd (omega arith)
events_of event h k marked x a (suc n) lo hi = elim (cases_eq a x) [
  | inl e ↦
      let rest = events_before event h k marked x (a + 1) n (omega (arith, e)) in
      let here : (a == x) ≡ true = eq-eqb a x e in
      subst (λ (z : ℕ). happenings x (events event marked a (suc n)) ≡ if_so (marked z) h) e
      (elim (marked a) as (λ (b : Bool). happenings x (map (λ y. event (record { 0 = y })) (cond b (a ∷ filter marked (range_with_len (a + 1) n)) (filter marked (range_with_len (a + 1) n)))) ≡ if_so b h) [
        | true ↦ one_more event h k x a (events event marked (a + 1) n) ∙ (rw here (ap (λ (z : List Happening). h ∷ z) rest))
        | false ↦ rest
      ])
  | inr ne ↦
      let rest = events_of event h k marked x (a + 1) n (omega arith) (omega arith) in
      let there : (a == x) ≡ false = ne_eqb a x ne in
      elim (marked a) as (λ (b : Bool). happenings x (map (λ y. event (record { 0 = y })) (cond b (a ∷ filter marked (range_with_len (a + 1) n)) (filter marked (range_with_len (a + 1) n)))) ≡ if_so (marked x) h) [
        | true ↦ one_more event h k x a (events event marked (a + 1) n) ∙ (rw there rest)
        | false ↦ rest
      ]
]

-- ---- one path

pub record IsItem (p : Plan) (x : ℕ) : Type 0 where
  pub low : 1 ≤ x
  pub high : x ≤ p.items

each : (p : Plan) (x : ℕ) → IsItem p x → (event : ItemNo → Event) (h : Happening) → IsKind event h → (marked : ℕ → Bool)
    → happenings x (for_each event p.items marked) ≡ if_so (marked x) h
each p x i event h k marked = events_of event h k marked x 1 p.items i.low (let hi : x ≤ p.items = i.high in omega arith)

sends : IsKind Send Sent
sends = record { item = λ y. refl; called = λ y. refl }

recvs : IsKind Recv Received
recvs = record { item = λ y. refl; called = λ y. refl }

takes : IsKind Take Taken
takes = record { item = λ y. refl; called = λ y. refl }

hoisted : IsKind Hoist Hoisted
hoisted = record { item = λ y. refl; called = λ y. refl }

steals : IsKind Steal Stolen
steals = record { item = λ y. refl; called = λ y. refl }

pub ops_of : (p : Plan) (x : ℕ) → IsItem p x → (a b : ℕ → Bool) → happenings x (operations p.items a b) ≡ ops (a x) (b x)
ops_of p x i a b = happenings-append x (for_each Send p.items a) (for_each Recv p.items b)
    ∙ ap₂ (λ (u : List Happening) (v : List Happening). u ++ v) (each p x i Send Sent sends a) (each p x i Recv Received recvs b)

pub arrival_of : (p : Plan) (x n : ℕ) → IsItem p x → happenings x (at_arrival p n) ≡ arrives p.graph (wants_of p.graph p.uses x) (spots_of p.places x) n
arrival_of p x n i =
    let a = operations p.items (p.places.send_in n) (p.places.recv_in n) in
    let b = for_each Take p.items (p.uses.take n) in
    let c = for_each Hoist p.items (λ y. p.places.hoists n y && taken_inside p.graph p.uses.take n y) in
    let d = for_each Steal p.items (p.uses.steal n) in
    happenings-append x a (b ++ (c ++ d)) ∙ ap₂ (λ (u : List Happening) (v : List Happening). u ++ v) (ops_of p x i (p.places.send_in n) (p.places.recv_in n))
    (happenings-append x b (c ++ d) ∙ ap₂ (λ (u : List Happening) (v : List Happening). u ++ v) (each p x i Take Taken takes (p.uses.take n))
    (happenings-append x c d ∙ ap₂ (λ (u : List Happening) (v : List Happening). u ++ v)
    (each p x i Hoist Hoisted hoisted (λ y. p.places.hoists n y && taken_inside p.graph p.uses.take n y)) (each p x i Steal Stolen steals (p.uses.steal n))))

abbrev OnePath : Plan → ℕ → List ℕ → ℕ → List Happening → Type 0
OnePath p x = Path p.graph (wants_of p.graph p.uses x) (spots_of p.places x)

one_path : (p : Plan) (x : ℕ) → IsItem p x → (ns : List ℕ) (n : ℕ) (es : List Event) → IsPath p ns n es → OnePath p x ns n (happenings x es)
one_path p x i ns n es start = subst (λ (hs : List Happening). OnePath p x ns n hs) (sym (arrival_of p x 0 i)) one_start
one_path p x i ns n es (forward {ns = ms} {n = m} {es = fs} s path e) =
    subst (λ (hs : List Happening). OnePath p x ns n hs)
    (sym (happenings-append x fs (at_leaving p m ++ at_arrival p s) ∙ ap (λ (z : List Happening). happenings x fs ++ z)
    (happenings-append x (at_leaving p m) (at_arrival p s) ∙ ap₂ (λ (u : List Happening) (v : List Happening). u ++ v) (ops_of p x i (p.places.send_out m) (p.places.recv_out m)) (arrival_of p x s i))))
    (one_forward s (one_path p x i ms m fs path) e)
one_path p x i ns n es (entry {ns = ms} {l = l} {es = fs} path e) =
    subst (λ (hs : List Happening). OnePath p x ns n hs)
    (sym (happenings-append x fs (at_arrival p (suc l)) ∙ ap (λ (z : List Happening). happenings x fs ++ z) (arrival_of p x (suc l) i)))
    (one_entry (one_path p x i ms l fs path) e)
one_path p x i ns n es (cycle {ns = ms} {n = m} {es = fs} l path e at) = one_cycle l (one_path p x i ms m es path) e at

-- ---- what is taken in the body of a loop

any_from : (test : ℕ → Bool) (a k m : ℕ) → a ≤ m → m < a + k → IsTrue (test m) → IsTrue (list_any test (range_with_len a k))
any_from test a zero m lo hi h = absurd (omega arith)
any_from test a (suc k) m lo hi h = elim (cases_eq a m) [
  | inl e ↦ or_left _ (subst (λ (z : ℕ). IsTrue (test z)) (sym e) h)
  | inr ne ↦ or_right (test a) (any_from test (a + 1) k m (omega arith) (omega arith) h)
]

record IsAmong (test : ℕ → Bool) (a k : ℕ) : Type 0 where
  m : ℕ
  low : a ≤ m
  high : m < a + k
  holds : IsTrue (test m)

any_is : (test : ℕ → Bool) (a k : ℕ) → IsTrue (list_any test (range_with_len a k)) → IsAmong test a k
any_is test a zero h = absurd (true≢false (sym h))
any_is test a (suc k) h = elim (or_cases _ _ h) [
  | inl x ↦ record { m = a; low = omega arith; high = omega arith; holds = x }
  | inr x ↦ let i = any_is test (a + 1) k x in let lo : a + 1 ≤ i.m = i.low in let hi : i.m < a + 1 + k = i.high in
      record { m = i.m; low = omega arith; high = omega arith; holds = i.holds }
]

pub any_within : (f : FlowGraph) (take : Marks) (x n : ℕ) → IsTrue (taken_inside f take n x) ↔ ((m : ℕ) × Within f n m × IsTrue (take m x))
any_within f take x n = (
  (λ h. let y = and_parts _ _ h in let i = any_is (λ m. take m x) (suc n) (f.latch n - n) y.1 in
      let lo : suc n ≤ i.m = i.low in let hi : i.m < suc n + (f.latch n - n) = i.high in
      (i.m, record { is_loop = y.0; above = omega arith; below = omega arith }, i.holds)),
  (λ h. let lo : n < h.0 = h.1.above in let hi : h.0 ≤ f.latch n = h.1.below in
      and_from _ _ h.1.is_loop (any_from (λ m. take m x) (suc n) (f.latch n - n) h.0 (omega arith) (omega arith) h.2)),
)

-- ---- the theorem

pub is_good : (p : Plan) (last : ℕ) → IsFlow p.graph → IsLast p.graph last → AreSolved p.graph p.uses p.places → IsGoodPlan p last
is_good p last flow ends solved ns n es path x low high =
    let s = solved x in
    all_kept
    (record { f = p.graph; i = wants_of p.graph p.uses x; s = s.0; flow = flow; any = any_within p.graph p.uses.take x; solved = s.1 })
    (spots_of p.places x) last ns n (happenings x es) s.2 ends
    (one_path p x (record { low = low; high = high }) ns n es path)
