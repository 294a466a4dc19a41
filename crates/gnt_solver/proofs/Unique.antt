-- The equations have one solution.
use Rattle.std.proofs.Common.{◌≡◌, ℕ, zero, suc, ◌+◌, ◌<◌, ◌≤◌, Bool, true, false, not, ◌&&◌, ◌||◌, IsTrue, IsFalse, ◌↔◌, inl, inr, refl, sym, ◌∙◌, ap₂, arith}
use Rattle.std.proofs.lemmas.Bool.{cases_Bool, and_from}
use Rattle.fd_prog.specs.Flow.{FlowGraph, Within}
use Rattle.fd_prog.specs.Paths.{Uses, Places}
use Rattle.interval_graph.specs.Structure.{IsFlow, IsLast}
use Rattle.gnt_solver.specs.Equations.{Had, IsHad, Wants, Solution, Solves, AreOps, wants_of, AreSolved}
use Rattle.gnt_solver.specs.Same.{AreSameHad, AreSameSolutions, AreSamePlaces}
use Rattle.gnt_solver.proofs.Static.{World, or_left, or_right, not_from, from_not, clash, ti_parts, ti_from_t, ti_from_to, t_parts, taken, inside, later, t_from_take, t_from_later, go_parts, go_from}
use Rattle.gnt_solver.proofs.Items.{any_within}

-- tests that imply each other are equal
pub equal_tests : (a b : Bool) → (IsTrue a → IsTrue b) → (IsTrue b → IsTrue a) → a ≡ b
equal_tests true b h k = sym (h refl)
equal_tests false true h k = k refl
equal_tests false false h k = refl

-- ---- from the last node down: each set of one solution is part of that of another

-- two solutions for one item of one graph, whose last node is e
pub record Pair : Type 0 where
  pub f : FlowGraph
  pub i : Wants
  pub s : Solution
  pub r : Solution
  pub e : ℕ
  pub flow : IsFlow f
  pub last : IsLast f e
  pub any : (n : ℕ) → IsTrue (i.any n) ↔ ((m : ℕ) × Within f n m × IsTrue (i.take m))
  pub one : Solves f i s
  pub two : Solves f i r

abbrev first_world : Pair → World
first_world p = record { f = p.f; i = p.i; s = p.s; flow = p.flow; any = p.any; solved = p.one }

abbrev second_world : Pair → World
second_world p = record { f = p.f; i = p.i; s = p.r; flow = p.flow; any = p.any; solved = p.two }

abbrev swapped : Pair → Pair
swapped p = record { f = p.f; i = p.i; s = p.r; r = p.s; e = p.e; flow = p.flow; last = p.last; any = p.any; one = p.two; two = p.one }

st_part : (p : Pair) (k n : ℕ) → p.e < k + n → IsTrue (p.s.st n) → IsTrue (p.r.st n)
st_part p zero n lt h = elim ((p.one.st n).0 h) [
  | inl x ↦ (p.two.st n).1 (inl x)
  | inr x ↦ let a : n < x.0 = x.1.above in let b : x.0 ≤ p.f.latch n = x.1.below in let c : p.f.latch n < p.e = p.last.no_loop n x.1.is_loop in absurd (omega arith)
]
st_part p (suc k) n lt h = elim ((p.one.st n).0 h) [
  | inl x ↦ (p.two.st n).1 (inl x)
  | inr x ↦ let a : n < x.0 = x.1.above in (p.two.st n).1 (inr (x.0, x.1, st_part p k x.0 (omega arith) x.2))
]

st_all : (p : Pair) (n : ℕ) → IsTrue (p.s.st n) → IsTrue (p.r.st n)
st_all p n = st_part p (suc p.e) n (omega arith)

st_not : (p : Pair) (n : ℕ) → IsFalse (p.s.st n) → IsFalse (p.r.st n)
st_not p n h = from_not (λ x. clash (st_all (swapped p) n x) h)

-- TO of a node, where TI of the nodes behind it is known
to_part : (p : Pair) (n : ℕ) → ((m : ℕ) → n < m → IsTrue (p.s.ti m) → IsTrue (p.r.ti m)) → IsTrue (p.s.to n) → IsTrue (p.r.to n)
to_part p n rec h = let z = (p.one.to n).0 h in (p.two.to n).1 (z.0, λ q e. rec q (p.flow.up n q e) (z.1 q e))

t_part : (p : Pair) (n : ℕ) → ((m : ℕ) → n < m → IsTrue (p.s.ti m) → IsTrue (p.r.ti m)) → IsTrue (p.s.t n) → IsTrue (p.r.t n)
t_part p n rec h = elim (t_parts (first_world p) n h) [
  | taken x ↦ t_from_take (second_world p) n x
  | inside q x b ↦ p.two.t_loop n q ∙ or_right _ (or_left _ (and_from _ _ (rec (suc n) (omega arith) x) (not_from (st_not p n b))))
  | later x a b ↦ elim (cases_Bool (p.f.is_loop n)) [
    | inl q ↦ t_from_later (second_world p) n q (to_part p n rec x) a (st_not p n b)
    | inr q ↦ let z = (p.any n).0 a in absurd (clash z.1.is_loop q)
  ]
]

ti_part : (p : Pair) (k n : ℕ) → p.e < k + n → IsTrue (p.s.ti n) → IsTrue (p.r.ti n)
ti_part p zero n lt h =
    let none = λ (m : ℕ) (e : IsTrue (p.f.forward n m)). let a : n < p.e = p.last.no_edge n m e in absurd {A = ⊥} (omega arith) in
    let no_loop = λ (q : IsTrue (p.f.is_loop n)). let a : n < p.f.latch n = p.flow.far n q in let b : p.f.latch n < p.e = p.last.no_loop n q in absurd {A = ⊥} (omega arith) in
    elim (ti_parts (first_world p) n h) [
      | inl x ↦ elim (t_parts (first_world p) n x) [
        | taken y ↦ ti_from_t (second_world p) n (t_from_take (second_world p) n y)
        | inside q y b ↦ absurd (no_loop q)
        | later y a b ↦ let z = (p.one.to n).0 y in absurd (none z.0.0 z.0.1)
      ]
      | inr x ↦ let z = (p.one.to n).0 x.0 in absurd (none z.0.0 z.0.1)
    ]
ti_part p (suc k) n lt h =
    let rec = λ (m : ℕ) (g : n < m) (x : IsTrue (p.s.ti m)). ti_part p k m (omega arith) x in
    elim (ti_parts (first_world p) n h) [
      | inl x ↦ ti_from_t (second_world p) n (t_part p n rec x)
      | inr x ↦ ti_from_to (second_world p) n (to_part p n rec x.0) (st_not p n x.1)
    ]

ti_all : (p : Pair) (n : ℕ) → IsTrue (p.s.ti n) → IsTrue (p.r.ti n)
ti_all p n = ti_part p (suc p.e) n (omega arith)

-- ---- from the first node up

-- what is had in one is had in another that brings as much and steals no more
record IsMore (f : FlowGraph) (st ti x st2 ti2 x2 : ℕ → Bool) (v w : Had) : Type 0 where
  one : IsHad f st ti x v
  two : IsHad f st2 ti2 x2 w
  wants : (n : ℕ) → IsTrue (ti n) → IsTrue (ti2 n)
  brings : (n : ℕ) → IsTrue (x n) → IsTrue (x2 n)
  keeps : (n : ℕ) → IsFalse (st n) → IsFalse (st2 n)

go_part : (f : FlowGraph) (st ti x st2 ti2 x2 : ℕ → Bool) (v w : Had) → IsMore f st ti x st2 ti2 x2 v w → (n : ℕ) → (IsTrue (v.gi n) → IsTrue (w.gi n)) → IsTrue (v.go n) → IsTrue (w.go n)
go_part f st ti x st2 ti2 x2 v w m n h g = let p = go_parts f st ti x v m.one n g in
    go_from f st2 ti2 x2 w m.two n (elim p.0 [ inl a ↦ inl (h a) | inr a ↦ inr (m.brings n a) ]) (m.keeps n p.1)

gi_part : (f : FlowGraph) (st ti x st2 ti2 x2 : ℕ → Bool) (v w : Had) → IsFlow f → IsMore f st ti x st2 ti2 x2 v w → (k n : ℕ) → n < k → IsTrue (v.gi n) → IsTrue (w.gi n)
gi_part f st ti x st2 ti2 x2 v w flow m zero n lt h = absurd (omega arith)
gi_part f st ti x st2 ti2 x2 v w flow m (suc k) zero lt h = absurd (clash h m.one.start)
gi_part f st ti x st2 ti2 x2 v w flow m (suc k) (suc n) lt h = elim (cases_Bool (f.is_loop n)) [
  | inl p ↦ m.two.top n p ∙ (sym (m.two.go n) ∙ go_part f st ti x st2 ti2 x2 v w m n (gi_part f st ti x st2 ti2 x2 v w flow m k n (omega arith)) (m.one.go n ∙ (sym (m.one.top n p) ∙ h)))
  | inr p ↦ (m.two.met n p).1 (elim ((m.one.met n p).0 h) [
    | inl a ↦ inl (a.0, λ q e. let up : q < suc n = flow.up q (suc n) e in go_part f st ti x st2 ti2 x2 v w m q (gi_part f st ti x st2 ti2 x2 v w flow m k q (omega arith)) (a.1 q e))
    | inr a ↦ inr (
      m.wants (suc n) a.0,
      (let q = a.1.0 in let up : q < suc n = flow.up q (suc n) a.1.1 in
          (q, a.1.1, go_part f st ti x st2 ti2 x2 v w m q (gi_part f st ti x st2 ti2 x2 v w flow m k q (omega arith)) a.1.2)),
    )
  ])
]

had_same : (f : FlowGraph) (st ti x st2 ti2 x2 : ℕ → Bool) (v w : Had) → IsFlow f → IsMore f st ti x st2 ti2 x2 v w → IsMore f st2 ti2 x2 st ti x w v
    → ((n : ℕ) → x n ≡ x2 n) → ((n : ℕ) → st n ≡ st2 n) → AreSameHad v w
had_same f st ti x st2 ti2 x2 v w flow m o ex es =
    let gi : (n : ℕ) → v.gi n ≡ w.gi n = λ n. equal_tests _ _ (gi_part f st ti x st2 ti2 x2 v w flow m (suc n) n (omega arith)) (gi_part f st2 ti2 x2 st ti x w v flow o (suc n) n (omega arith)) in
    let g : (n : ℕ) → v.g n ≡ w.g n = λ n. m.one.g n ∙ (ap₂ (λ (a : Bool) (b : Bool). a || b) (gi n) (ex n) ∙ sym (m.two.g n)) in
    record { gi = gi; g = g; go = λ n. m.one.go n ∙ (ap₂ (λ (a : Bool) (b : Bool). a && not b) (g n) (es n) ∙ sym (m.two.go n)) }

same_solutions : (p : Pair) → AreSameSolutions p.s p.r
same_solutions p =
    let q = swapped p in
    let all = λ (n m : ℕ) (lt : n < m) (x : IsTrue (p.s.ti m)). ti_all p m x in
    let back = λ (n m : ℕ) (lt : n < m) (x : IsTrue (p.r.ti m)). ti_all q m x in
    let st : (n : ℕ) → p.s.st n ≡ p.r.st n = λ n. equal_tests _ _ (st_all p n) (st_all q n) in
    let t : (n : ℕ) → p.s.t n ≡ p.r.t n = λ n. equal_tests _ _ (t_part p n (all n)) (t_part q n (back n)) in
    let ti : (n : ℕ) → p.s.ti n ≡ p.r.ti n = λ n. equal_tests _ _ (ti_all p n) (ti_all q n) in
    record {
      st = st;
      to = λ n. equal_tests _ _ (to_part p n (all n)) (to_part q n (back n));
      t = t;
      ti = ti;
      eager = had_same p.f p.s.st p.s.ti p.s.ti p.r.st p.r.ti p.r.ti p.s.eager p.r.eager p.flow
          (record { one = p.one.eager; two = p.two.eager; wants = ti_all p; brings = ti_all p; keeps = st_not p })
          (record { one = p.two.eager; two = p.one.eager; wants = ti_all q; brings = ti_all q; keeps = st_not q }) ti st;
      lazy = had_same p.f p.s.st p.s.ti p.s.t p.r.st p.r.ti p.r.t p.s.lazy p.r.lazy p.flow
          (record { one = p.one.lazy; two = p.two.lazy; wants = ti_all p; brings = λ n. t_part p n (all n); keeps = st_not p })
          (record { one = p.two.lazy; two = p.one.lazy; wants = ti_all q; brings = λ n. t_part q n (back n); keeps = st_not q }) t st;
    }

pub one_solution : (f : FlowGraph) (e x : ℕ) (u : Uses) (s r : Solution) → IsFlow f → IsLast f e → Solves f (wants_of f u x) s → Solves f (wants_of f u x) r → AreSameSolutions s r
one_solution f e x u s r flow last hs hr =
    same_solutions (record { f = f; i = wants_of f u x; s = s; r = r; e = e; flow = flow; last = last; any = any_within f u.take x; one = hs; two = hr })

-- ---- one placement

out_part : (f : FlowGraph) (v w : Had) (a b a2 b2 : ℕ → Bool) → AreSameHad v w → AreOps f v a b → AreOps f w a2 b2 → (n : ℕ) → IsTrue (b n) → IsTrue (b2 n)
out_part f v w a b a2 b2 same h k n x =
    let z = (h.at_out n).0 x in
    (k.at_out n).1 ((z.0.0, z.0.1, sym (same.gi z.0.0) ∙ z.0.2), sym (same.go n) ∙ z.1)

in_same : (f : FlowGraph) (v w : Had) (a b a2 b2 : ℕ → Bool) → AreSameHad v w → AreOps f v a b → AreOps f w a2 b2 → (n : ℕ) → a n ≡ a2 n
in_same f v w a b a2 b2 same h k n = h.at_in n ∙ (ap₂ (λ (x : Bool) (y : Bool). x && not y) (same.g n) (same.gi n) ∙ sym (k.at_in n))

turned : (v w : Had) → AreSameHad v w → AreSameHad w v
turned v w h = record { gi = λ n. sym (h.gi n); g = λ n. sym (h.g n); go = λ n. sym (h.go n) }

pub one_placement : (f : FlowGraph) (e : ℕ) (u : Uses) (p q : Places) → IsFlow f → IsLast f e → AreSolved f u p → AreSolved f u q → AreSamePlaces p q
one_placement f e u p q flow last hp hq =
    let same = λ (x : ℕ). one_solution f e x u (hp x).0 (hq x).0 flow last (hp x).1 (hq x).1 in
    record {
      send_in = λ n x. in_same f _ _ _ _ _ _ (same x).eager (hp x).2.sends (hq x).2.sends n;
      send_out = λ n x. equal_tests _ _ (out_part f _ _ _ _ _ _ (same x).eager (hp x).2.sends (hq x).2.sends n) (out_part f _ _ _ _ _ _ (turned _ _ (same x).eager) (hq x).2.sends (hp x).2.sends n);
      recv_in = λ n x. in_same f _ _ _ _ _ _ (same x).lazy (hp x).2.recvs (hq x).2.recvs n;
      recv_out = λ n x. equal_tests _ _ (out_part f _ _ _ _ _ _ (same x).lazy (hp x).2.recvs (hq x).2.recvs n) (out_part f _ _ _ _ _ _ (turned _ _ (same x).lazy) (hq x).2.recvs (hp x).2.recvs n);
      hoists = λ n x. (hp x).2.hoists n ∙ (ap₂ (λ (a : Bool) (b : Bool). f.is_loop n && ((a && not b) && not (u.take n x))) ((same x).ti (suc n)) ((same x).st n) ∙ sym ((hq x).2.hoists n));
    }
