-- Paths with what happens to one item alone.
use Rattle.std.proofs.Common.{◌≡◌, ℕ, suc, Bool, true, false, ◌&&◌, IsTrue, List, [], ◌∷◌, ◌++◌}
use Rattle.fd_prog.specs.Flow.{FlowGraph}
use Rattle.fd_prog.specs.Paths.{Happening, Sent, Received, Taken, Hoisted, Stolen}
use Rattle.gnt_solver.specs.Equations.{Wants, Spots}

abbrev pub if_so : Bool → Happening → List Happening
if_so true h = h ∷ []
if_so false h = []

-- a send, then a receive
abbrev pub ops : Bool → Bool → List Happening
ops a b = if_so a Sent ++ if_so b Received

abbrev pub arrives : FlowGraph → Wants → Spots → ℕ → List Happening
arrives f i p n = ops (p.send_in n) (p.recv_in n) ++
    (if_so (i.take n) Taken ++ (if_so (p.hoists n && i.any n) Hoisted ++ if_so (i.steal n) Stolen))

abbrev pub leaves : Spots → ℕ → List Happening
leaves p n = ops (p.send_out n) (p.recv_out n)

-- a path of these nodes that ends at this node, and what happens to the item on it
pub data Path (f : FlowGraph) (i : Wants) (p : Spots) : List ℕ → ℕ → List Happening → Type 0 where
  start : Path f i p (0 ∷ []) 0 (arrives f i p 0)
  forward : {ns : List ℕ} {n : ℕ} {es : List Happening} (r : ℕ) → Path f i p ns n es → IsTrue (f.forward n r)
      → Path f i p (ns ++ (r ∷ [])) r (es ++ (leaves p n ++ arrives f i p r))
  entry : {ns : List ℕ} {l : ℕ} {es : List Happening} → Path f i p ns l es → IsTrue (f.is_loop l)
      → Path f i p (ns ++ (suc l ∷ [])) (suc l) (es ++ arrives f i p (suc l))
  cycle : {ns : List ℕ} {n : ℕ} {es : List Happening} (l : ℕ) → Path f i p ns n es → IsTrue (f.is_loop l) → n ≡ f.latch l
      → Path f i p (ns ++ (l ∷ [])) l es
