-- The equations have the same solutions on graphs, and for uses, that agree everywhere.
use Rattle.std.proofs.Common.{◌≡◌, ℕ, zero, suc, ◌-◌, ◌≤◌, Bool, not, ◌&&◌, ◌||◌, IsTrue, IsFalse, ◌⊎◌, inl, inr, List, [], ◌∷◌, refl, sym, ◌∙◌, ap, subst}
use Rattle.std.specs.List.{list_any, range_with_len}
use Rattle.fd_prog.specs.Nodes.{Node}
use Rattle.fd_prog.specs.Flow as flow
use Rattle.fd_prog.specs.Flow.{FlowGraph, Within, graph_of, leads, is_around, latch_in, way_at, way_of}
use Rattle.fd_prog.specs.Paths.{Uses, Places, taken_inside}
use Rattle.interval_graph.specs.Rows.{told, way_in, rows_of, leads_at, flow_of}
use Rattle.gnt_solver.specs.Equations.{Wants, Had, IsHad, Solution, Solves, AreOps, Spots, IsPlacement, AreSolved, wants_of, spots_of}
use Rattle.gnt_solver.specs.Same.{AreSameGraphs, AreSameUses}

flipped : (f g : FlowGraph) → AreSameGraphs f g → AreSameGraphs g f
flipped f g a = record { forward = λ n s. sym (a.forward n s); is_loop = λ l. sym (a.is_loop l); latch = λ l. sym (a.latch l) }

within : (f g : FlowGraph) → AreSameGraphs f g → (l n : ℕ) → Within f l n → Within g l n
within f g a l n w = record { is_loop = subst IsTrue (a.is_loop l) w.is_loop; above = w.above; below = subst (λ (k : ℕ). n ≤ k) (a.latch l) w.below }

-- ---- where an item is had

abbrev Met : FlowGraph → (ℕ → Bool) → (ℕ → Bool) → ℕ → Type 0
Met f ti go s =
    (((p : ℕ) × IsTrue (f.forward p s)) × ((p : ℕ) → IsTrue (f.forward p s) → IsTrue (go p)))
    ⊎ (IsTrue (ti s) × ((p : ℕ) × IsTrue (f.forward p s) × IsTrue (go p)))

met : (f g : FlowGraph) → AreSameGraphs f g → (ti go : ℕ → Bool) (s : ℕ) → Met f ti go s → Met g ti go s
met f g a ti go s (inl ((p, e), all)) = inl ((p, subst IsTrue (a.forward p s) e), λ q d. all q (subst IsTrue (sym (a.forward q s)) d))
met f g a ti go s (inr (t, (p, e, h))) = inr (t, (p, subst IsTrue (a.forward p s) e, h))

had : (f g : FlowGraph) → AreSameGraphs f g → (st ti x : ℕ → Bool) (w : Had) → IsHad f st ti x w → IsHad g st ti x w
had f g a st ti x w h = record {
  start = h.start;
  top = λ l p. h.top l (subst IsTrue (sym (a.is_loop l)) p);
  met = λ k p. let both = h.met k (subst IsFalse (sym (a.is_loop k)) p) in
      (λ i. met f g a ti w.go (suc k) (both.0 i), λ m. both.1 (met g f (flipped f g a) ti w.go (suc k) m));
  g = h.g;
  go = h.go;
}

-- ---- a solution

-- an item that is taken and stolen at the same nodes
record AreSameWants (i j : Wants) : Type 0 where
  take : (n : ℕ) → i.take n ≡ j.take n
  steal : (n : ℕ) → i.steal n ≡ j.steal n
  any : (n : ℕ) → i.any n ≡ j.any n

stolen : (f g : FlowGraph) → AreSameGraphs f g → (s t st : ℕ → Bool) → ((n : ℕ) → s n ≡ t n) → (n : ℕ)
    → IsTrue (s n) ⊎ ((m : ℕ) × Within f n m × IsTrue (st m)) → IsTrue (t n) ⊎ ((m : ℕ) × Within g n m × IsTrue (st m))
stolen f g a s t st e n (inl h) = inl (subst IsTrue (e n) h)
stolen f g a s t st e n (inr (m, w, h)) = inr (m, within f g a n m w, h)

abbrev Behind : FlowGraph → (ℕ → Bool) → ℕ → Type 0
Behind f ti n = ((r : ℕ) × IsTrue (f.forward n r)) × ((r : ℕ) → IsTrue (f.forward n r) → IsTrue (ti r))

behind : (f g : FlowGraph) → AreSameGraphs f g → (ti : ℕ → Bool) (n : ℕ) → Behind f ti n → Behind g ti n
behind f g a ti n ((r, e), all) = ((r, subst IsTrue (a.forward n r) e), λ q d. all q (subst IsTrue (sym (a.forward n q)) d))

solves : (f g : FlowGraph) → AreSameGraphs f g → (i j : Wants) → AreSameWants i j → (s : Solution) → Solves f i s → Solves g j s
solves f g a i j w s h = record {
  st = λ n. let both = h.st n in
      (λ x. stolen f g a i.steal j.steal s.st w.steal n (both.0 x), λ y. both.1 (stolen g f (flipped f g a) j.steal i.steal s.st (λ m. sym (w.steal m)) n y));
  to = λ n. let both = h.to n in (λ x. behind f g a s.ti n (both.0 x), λ y. both.1 (behind g f (flipped f g a) s.ti n y));
  t_plain = λ n p. h.t_plain n (subst IsFalse (sym (a.is_loop n)) p) ∙ w.take n;
  t_loop = λ n p. h.t_loop n (subst IsTrue (sym (a.is_loop n)) p)
      ∙ ap (λ (b : Bool). b || ((s.ti (suc n) && not (s.st n)) || ((s.to n && i.any n) && not (s.st n)))) (w.take n)
      ∙ ap (λ (b : Bool). j.take n || ((s.ti (suc n) && not (s.st n)) || ((s.to n && b) && not (s.st n)))) (w.any n);
  ti = h.ti;
  eager = had f g a s.st s.ti s.ti s.eager h.eager;
  lazy = had f g a s.st s.ti s.t s.lazy h.lazy;
}

-- ---- the placement of a solution

abbrev Brought : FlowGraph → Had → ℕ → Type 0
Brought f v n = ((r : ℕ) × IsTrue (f.forward n r) × IsTrue (v.gi r)) × IsFalse (v.go n)

brought : (f g : FlowGraph) → AreSameGraphs f g → (v : Had) (n : ℕ) → Brought f v n → Brought g v n
brought f g a v n ((r, e, h), k) = ((r, subst IsTrue (a.forward n r) e, h), k)

ops : (f g : FlowGraph) → AreSameGraphs f g → (v : Had) (x y : ℕ → Bool) → AreOps f v x y → AreOps g v x y
ops f g a v x y o = record {
  at_in = o.at_in;
  at_out = λ n. let both = o.at_out n in (λ p. brought f g a v n (both.0 p), λ q. both.1 (brought g f (flipped f g a) v n q));
}

placed : (f g : FlowGraph) → AreSameGraphs f g → (i j : Wants) → AreSameWants i j → (s : Solution) (p : Spots) → IsPlacement f i s p → IsPlacement g j s p
placed f g a i j w s p h = record {
  sends = ops f g a s.eager p.send_in p.send_out h.sends;
  recvs = ops f g a s.lazy p.recv_in p.recv_out h.recvs;
  hoists = λ n. h.hoists n
      ∙ ap (λ (b : Bool). b && ((s.ti (suc n) && not (s.st n)) && not (i.take n))) (a.is_loop n)
      ∙ ap (λ (b : Bool). g.is_loop n && ((s.ti (suc n) && not (s.st n)) && not b)) (w.take n);
}

-- ---- for every item

any_same : (p q : ℕ → Bool) → ((n : ℕ) → p n ≡ q n) → (ns : List ℕ) → list_any p ns ≡ list_any q ns
any_same p q e [] = refl
any_same p q e (n ∷ ns) = ap (λ (b : Bool). b || list_any p ns) (e n) ∙ ap (λ (b : Bool). q n || b) (any_same p q e ns)

taken_same : (f g : FlowGraph) → AreSameGraphs f g → (u v : Uses) → AreSameUses u v → (l x : ℕ) → taken_inside f u.take l x ≡ taken_inside g v.take l x
taken_same f g a u v e l x =
    ap (λ (b : Bool). b && list_any (λ n. u.take n x) (range_with_len (suc l) (f.latch l - l))) (a.is_loop l)
    ∙ ap (λ (k : ℕ). g.is_loop l && list_any (λ n. u.take n x) (range_with_len (suc l) (k - l))) (a.latch l)
    ∙ ap (λ (b : Bool). g.is_loop l && b) (any_same (λ n. u.take n x) (λ n. v.take n x) (λ n. e.take n x) (range_with_len (suc l) (g.latch l - l)))

wants_same : (f g : FlowGraph) → AreSameGraphs f g → (u v : Uses) → AreSameUses u v → (x : ℕ) → AreSameWants (wants_of f u x) (wants_of g v x)
wants_same f g a u v e x = record { take = λ n. e.take n x; steal = λ n. e.steal n x; any = λ n. taken_same f g a u v e n x }

pub solved_alike : (f g : FlowGraph) (u v : Uses) (p : Places) → AreSameGraphs f g → AreSameUses u v → AreSolved f u p → AreSolved g v p
solved_alike f g u v p a e h = λ x.
    let found = h x in
    let same = wants_same f g a u v e x in
    (found.0, solves f g a (wants_of f u x) (wants_of g v x) same found.0 found.1, placed f g a (wants_of f u x) (wants_of g v x) same found.0 (spots_of p x) found.2)

-- ---- the graph that rows tell

told_back : (w : flow.Way) → way_in (told w) ≡ w
told_back flow.Next = refl
told_back (flow.Fork n) = refl
told_back (flow.Jump n) = refl
told_back (flow.Around n) = refl
told_back (flow.Back n) = refl
told_back flow.Nowhere = refl

leads_same : (nodes : List Node) (n : ℕ) → leads_at (rows_of nodes) n ≡ way_at nodes n
leads_same [] zero = refl
leads_same [] (suc n) = refl
leads_same (x ∷ xs) zero = told_back (way_of x.role)
leads_same (x ∷ xs) (suc n) = leads_same xs n

pub rows_graph : (nodes : List Node) → AreSameGraphs (flow_of (rows_of nodes)) (graph_of nodes)
rows_graph nodes = record {
  forward = λ n s. ap (λ (w : flow.Way). leads w n s) (leads_same nodes n);
  is_loop = λ l. ap is_around (leads_same nodes l);
  latch = λ l. ap latch_in (leads_same nodes l);
}
