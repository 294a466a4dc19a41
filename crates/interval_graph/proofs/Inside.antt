-- Where the rows of a program's nodes lead: to nodes of the program.
use Rattle.std.proofs.Common.{◌≡◌, ℕ, zero, suc, ◌+◌, ◌-◌, ◌<◌, ◌≤◌, IsTrue, inl, inr, List, [], ◌∷◌, length, refl, sym, ◌∙◌, ap, subst, arith, eq-eqb}
use Rattle.std.proofs.lemmas.Bool.{cases_lt}
use Rattle.std.proofs.lemmas.List.{length-map}
use Rattle.fd_prog.specs.Nodes.{Node, nodes_of, node_count, nodes_among}
use Rattle.fd_prog.specs.Flow.{Way, Next, Fork, Jump, Around, Back, Nowhere, leads, is_around, latch_in, way_of, way_at}
use Rattle.interval_graph.specs.declared.node.Row.{Row}
use Rattle.interval_graph.specs.Rows.{told, way_in, row_of, rows_of, leads_at, flow_of, AreRows}
use Rattle.interval_graph.specs.Structure.{IsFlow, IsLast}
use Rattle.interval_graph.proofs.Tests.{or_left, or_right}
use Rattle.interval_graph.proofs.Blocks.{IsWhole, is_flow, is_last, backs, nowhere_back}
use Rattle.interval_graph.proofs.Laid.{whole, length_program}

-- ---- what rows tell is the flow graph of the program

told_way : (w : Way) → way_in (told w) ≡ w
told_way Next = refl
told_way (Fork m) = refl
told_way (Jump m) = refl
told_way (Around m) = refl
told_way (Back l) = refl
told_way Nowhere = refl

row_leads : (ns : List Node) (n : ℕ) → leads_at (rows_of ns) n ≡ way_at ns n
row_leads [] n = refl
row_leads (node ∷ ns) zero = told_way (way_of node.role)
row_leads (node ∷ ns) (suc n) = row_leads ns n

pub is_whole : (rows : List Row) (h : AreRows rows) → IsWhole (leads_at rows) (nodes_among h.0.body + 1)
is_whole rows h = whole h.0 (leads_at rows) (λ i. ap (λ (r : List Row). leads_at r i) h.1 ∙ row_leads (nodes_of h.0) i)

pub flow : (rows : List Row) → AreRows rows → IsFlow (flow_of rows)
flow rows h = is_flow (leads_at rows) (nodes_among h.0.body + 1) (is_whole rows h)

pub count : (rows : List Row) (h : AreRows rows) → length rows ≡ nodes_among h.0.body + 2
count rows h = ap length h.1 ∙ (length-map (nodes_of h.0) row_of ∙ length_program h.0)

pub last : (rows : List Row) → AreRows rows → IsLast (flow_of rows) (length rows - 1)
last rows h = let e = count rows h in subst (λ (n : ℕ). IsLast (flow_of rows) n) (omega (arith, e)) (is_last (leads_at rows) (nodes_among h.0.body + 1) (is_whole rows h))

pub few : (rows : List Row) → AreRows rows → length rows ≤ 30000
few rows h = let e = count rows h in let f : node_count h.0 ≤ 30000 = h.2 in omega arith

pub some_rows : (rows : List Row) → AreRows rows → 0 < length rows
some_rows rows h = let e = count rows h in omega (arith, e)

-- an edge leads up and stays inside
pub edge_in : (rows : List Row) (n s : ℕ) → AreRows rows → IsTrue (leads (leads_at rows n) n s) → (n < s) × (s < length rows)
edge_in rows n s h e =
    let up : n < s = (flow rows h).up n s e in
    let in_last : s ≤ length rows - 1 = (last rows h).inside n s e in
    let pos = some_rows rows h in
    (up, omega arith)

edge_by : (rows : List Row) {w : Way} (n s : ℕ) → leads_at rows n ≡ w → IsTrue (leads w n s) → IsTrue (leads (leads_at rows n) n s)
edge_by rows n s e h = subst (λ (w : Way). IsTrue (leads w n s)) (sym e) h

pub fork_in : (rows : List Row) (n m : ℕ) → AreRows rows → leads_at rows n ≡ Fork m → (n < m) × (m < length rows)
fork_in rows n m h e = edge_in rows n m h (edge_by rows n m e (or_right _ (eq-eqb m m refl)))

pub fork_next : (rows : List Row) (n m : ℕ) → AreRows rows → leads_at rows n ≡ Fork m → suc n < length rows
fork_next rows n m h e = (edge_in rows n (suc n) h (edge_by rows n (suc n) e (or_left _ (eq-eqb (suc n) (suc n) refl)))).1

pub jump_in : (rows : List Row) (n m : ℕ) → AreRows rows → leads_at rows n ≡ Jump m → (n < m) × (m < length rows)
jump_in rows n m h e = edge_in rows n m h (edge_by rows n m e (eq-eqb m m refl))

pub record LoopIn (rows : List Row) (n c : ℕ) : Type 0 where
  pub far : n < c
  pub inside : suc c < length rows

pub loop_in : (rows : List Row) (n c : ℕ) → AreRows rows → leads_at rows n ≡ Around c → LoopIn rows n c
loop_in rows n c h e = record {
  far = subst (λ (x : ℕ). n < x) (ap latch_in e) ((flow rows h).far n (ap is_around e));
  inside = (edge_in rows n (suc c) h (edge_by rows n (suc c) e (eq-eqb (suc c) (suc c) refl))).1;
}

pub next_in : (rows : List Row) (n : ℕ) → AreRows rows → leads_at rows n ≡ Next → suc n < length rows
next_in rows n h e = (edge_in rows n (suc n) h (edge_by rows n (suc n) e (eq-eqb (suc n) (suc n) refl))).1

-- a latch leads back to a node before
pub back_in : (rows : List Row) (n l : ℕ) → AreRows rows → leads_at rows n ≡ Back l → l < n
back_in rows n l h e =
    let all = is_whole rows h in
    elim (cases_lt n (nodes_among h.0.body + 1)) [
      | inl k ↦ backs (leads_at rows) 0 (nodes_among h.0.body + 1) all.block n l (omega arith) k e
      | inr k ↦ absurd (nowhere_back l (sym (all.ended n k) ∙ e))
    ]
