-- What each node tells, edge by edge.
use Rattle.std.proofs.Common.{◌≡◌, ℕ, ◌+◌, ◌<◌, ◌^◌, ◌==◌, nat_lt, true, false, if◌then◌else◌, eqb, ltb, List, [], ◌∷◌, ◌++◌, length, Option, None, Some, IfSome, Result, Ok, Err, IfOk, refl, sym, ◌∙◌, ap, subst, inl, inr, add-one, append_assoc, arith}
use Rattle.std.specs.Option.{option_to_list}
use Rattle.std.proofs.lemmas.Bool.{cases_Bool, cases_lt, cases_eq, eq-eqb, ne_eqb, lt-ltb, le-ltb}
use Rattle.std.proofs.lemmas.List.{append-nil}
use Rattle.fd_prog.specs.Flow.{Way, Next, Fork, Jump, Around, Back, Nowhere, latch_in}
use Rattle.fd_base.specs.declared.numbering.NodeNo.{NodeNo}
use Rattle.interval_graph.specs.declared.chains.Told.{Told}
use Rattle.interval_graph.specs.declared.node.EdgeKind.{EdgeKind}
use Rattle.interval_graph.specs.declared.node.Row.{Row}
use Rattle.interval_graph.specs.Rows.{leads_at, AreRows}
use Rattle.interval_graph.specs.Edges.{Edge, leaving, successors, arriving, arriving_below}
use Rattle.interval_graph.specs.Chained.{told_by}
use Rattle.interval_graph.proofs.Inside.{few, fork_in, fork_next, jump_in, loop_in, next_in, back_in}

-- one more edge is told last, by its node alone
pub told_more : (m : ℕ) (ts : List Told) (t : Told) → told_by m (ts ++ (t ∷ [])) ≡ told_by m ts ++ (if t.by == m then (t.node, t.kind) ∷ [] else [])
told_more m [] t = refl
told_more m (u ∷ ts) t =
    let rest = told_more m ts t in
    elim (cases_Bool (eqb u.by m)) [
      | inl k ↦ rw k (ap (λ es. (u.node, u.kind) ∷ es) rest)
      | inr k ↦ rw k rest
    ]

-- an edge from node n, as node m tells it
pub arriving_one : (n m : ℕ) (e : Edge) → arriving n m (e ∷ []) ≡ (if e.0.0 == m then (record { 0 = n }, e.1) ∷ [] else [])
arriving_one n m e =
    elim (cases_Bool (eqb e.0.0 m)) [
      | inl k ↦ rw k refl
      | inr k ↦ rw k refl
    ]

pub arriving-append : (n m : ℕ) (xs ys : List Edge) → arriving n m (xs ++ ys) ≡ arriving n m xs ++ arriving n m ys
arriving-append n m [] ys = refl
arriving-append n m (x ∷ xs) ys =
    let rest = arriving-append n m xs ys in
    elim (cases_Bool (eqb x.0.0 m)) [
      | inl k ↦ rw k (ap (λ es. (record { 0 = n }, x.1) ∷ es) rest)
      | inr k ↦ rw k rest
    ]

-- the edges that leave the nodes below n + 1 are told after those of node n
pub one_more_leaving : (rows : List Row) (n m : ℕ) (old new a b : List Edge) → old ≡ (if nat_lt m n then successors rows m else [])
    → new ≡ (old ++ (if n == m then a else [])) ++ (if n == m then b else []) → a ++ b ≡ successors rows n → new ≡ (if nat_lt m (n + 1) then successors rows m else [])
one_more_leaving rows n m old new a b e f g =
    elim (cases_eq n m) [
      | inl same ↦
          let before : ltb m n ≡ false = le-ltb m n (omega (arith, same)) in
          let after : ltb m (n + 1) ≡ true = lt-ltb m (n + 1) (omega (arith, same)) in
          let none : old ≡ [] = e ∙ ap (λ t. if t then successors rows m else []) before in
          let all : new ≡ a ++ b = f ∙ (ap (λ t. (old ++ (if t then a else [])) ++ (if t then b else [])) (eq-eqb n m same) ∙ ap (λ xs. (xs ++ a) ++ b) none) in
          rw after (all ∙ (g ∙ ap (successors rows) same))
      | inr other ↦
          let all : new ≡ old = f ∙ (ap (λ t. (old ++ (if t then a else [])) ++ (if t then b else [])) (ne_eqb n m other) ∙ (append-nil (old ++ []) ∙ append-nil old)) in
          all ∙ (e ∙ elim (cases_lt m n) [
            | inl l ↦
                let before : ltb m n ≡ true = lt-ltb m n l in
                let after : ltb m (n + 1) ≡ true = lt-ltb m (n + 1) (omega (arith, l)) in
                rw (before, after) refl
            | inr l ↦
                let before : ltb m n ≡ false = le-ltb m n l in
                let after : ltb m (n + 1) ≡ false = le-ltb m (n + 1) (omega (arith, l, other)) in
                rw (before, after) refl
          ])
    ]

pub one_more_arriving : (rows : List Row) (n m : ℕ) (old new a b : List Edge) → old ≡ arriving_below rows m n → new ≡ (old ++ arriving n m a) ++ arriving n m b → a ++ b ≡ successors rows n
    → new ≡ arriving_below rows m (n + 1)
one_more_arriving rows n m old new a b e f g =
    let all : arriving n m (successors rows n) ≡ arriving n m a ++ arriving n m b = sym (ap (arriving n m) g) ∙ arriving-append n m a b in
    let more : new ≡ arriving_below rows m n ++ arriving n m (successors rows n) =
    f ∙ (append_assoc old (arriving n m a) (arriving n m b) ∙ (ap (λ xs. xs ++ (arriving n m a ++ arriving n m b)) e ∙ ap (λ xs. arriving_below rows m n ++ xs) (sym all))) in
    rw add-one more

-- ---- the edges that leave a node lead to nodes of the program

abbrev Inside : ℕ → List Edge → Type 0
Inside size [] = Unit {0}
Inside size (e ∷ es) = (e.0.0 < size) × Inside size es

leaving_inside : (rows : List Row) (n : ℕ) (w : Way) → AreRows rows → n < length rows → leads_at rows n ≡ w → Inside (length rows) (leaving w n)
leaving_inside rows n Next h l e = let x = next_in rows n h e in (omega (arith, x), tt)
leaving_inside rows n (Fork other) h l e = let x = fork_next rows n other h e in (omega (arith, x), ((fork_in rows n other h e).1, tt))
leaving_inside rows n (Jump other) h l e = ((jump_in rows n other h e).1, tt)
leaving_inside rows n (Around latch) h l e = let x = loop_in rows n latch h e in let y = x.far in let z = x.inside in (omega (arith, y, z), (omega (arith, z), tt))
leaving_inside rows n (Back loop) h l e = let x = back_in rows n loop h e in (omega (arith, x, l), tt)
leaving_inside rows n Nowhere h l e = tt

halves : (size : ℕ) (a b : Option Edge) → Inside size (option_to_list a ++ option_to_list b) → IfSome a (λ e. e.0.0 < size) × IfSome b (λ e. e.0.0 < size)
halves size None None h = (tt, tt)
halves size None (Some b) h = (tt, h.0)
halves size (Some a) None h = (h.0, tt)
halves size (Some a) (Some b) h = (h.0, h.1.0)

pub edges_inside : (rows : List Row) (n : ℕ) (a b : Option Edge) → AreRows rows → n < length rows → option_to_list a ++ option_to_list b ≡ successors rows n
    → IfSome a (λ e. e.0.0 < length rows) × IfSome b (λ e. e.0.0 < length rows)
edges_inside rows n a b h l e = halves (length rows) a b (subst (Inside (length rows)) (sym e) (leaving_inside rows n (leads_at rows n) h l refl))

-- the latch of a node's loop is a node of the program
pub latch_inside : (rows : List Row) (n : ℕ) (w : Way) → AreRows rows → leads_at rows n ≡ w → latch_in w < 2 ^ 15
latch_inside rows n (Around latch) h e = let x = (loop_in rows n latch h e).inside in let y = few rows h in omega (arith, x, y)
latch_inside rows n Next h e = omega arith
latch_inside rows n (Fork other) h e = omega arith
latch_inside rows n (Jump other) h e = omega arith
latch_inside rows n (Back loop) h e = omega arith
latch_inside rows n Nowhere h e = omega arith

-- ---- as the calls say it

pub if_ok : {T E : Type 0} (P Q : T → Type 0) (r : Result T E) → IfOk r P → ((x : T) → P x → Q x) → IfOk r Q
if_ok P Q (Ok x) h f = f x h
if_ok P Q (Err e) h f = tt

pub leaving_told : (n m : ℕ) (node : NodeNo) (kind : EdgeKind) (edge : Option Edge) (old new : List Told) → edge ≡ Some (node, kind)
    → new ≡ old ++ (record { by = n; node = node; kind = kind } ∷ []) → told_by m new ≡ told_by m old ++ (if n == m then option_to_list edge else [])
leaving_told n m node kind edge old new e h =
    ap (told_by m) h ∙ (told_more m old (record { by = n; node = node; kind = kind }) ∙ ap (λ (o : Option Edge). told_by m old ++ (if n == m then option_to_list o else [])) (sym e))

pub arriving_told : (n m : ℕ) (node : NodeNo) (kind : EdgeKind) (edge : Option Edge) (old new : List Told) → edge ≡ Some (node, kind)
    → new ≡ old ++ (record { by = node.0; node = record { 0 = n }; kind = kind } ∷ []) → told_by m new ≡ told_by m old ++ arriving n m (option_to_list edge)
arriving_told n m node kind edge old new e h =
    ap (told_by m) h ∙ (told_more m old (record { by = node.0; node = record { 0 = n }; kind = kind })
    ∙ (ap (λ es. told_by m old ++ es) (sym (arriving_one n m (node, kind))) ∙ ap (λ (o : Option Edge). told_by m old ++ arriving n m (option_to_list o)) (sym e)))
