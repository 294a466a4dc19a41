-- What the passes over the nodes compute, for one item: its marks at the nodes.
use Rattle.std.specs.Prelude.{◌≡◌, ℕ, zero, suc, ◌<◌, ◌≤◌, Bool, false, not, ◌&&◌, ◌||◌, IsTrue, IsFalse, ◌↔◌, ◌⊎◌, List}
use Rattle.fd_prog.specs.Flow.{Way, Next, Fork, Jump, Around, Back, Nowhere, Within, leads, is_around}
use Rattle.interval_graph.specs.declared.node.Row.{Row}
use Rattle.interval_graph.specs.Rows.{leads_at, flow_of}
use Rattle.gnt_solver.specs.Columns.{at}

-- ST, as far as the nodes from i on
abbrev pub IsSt : List Row → List Bool → List Bool → ℕ → Type 0
IsSt rows steal st i = (n : ℕ) → i ≤ n → IsTrue (at st n) ↔ (IsTrue (at steal n) ⊎ ((m : ℕ) × Within (flow_of rows) n m × IsTrue (at st m)))

-- behind node l, a loop is marked where a node of its body is
abbrev pub IsClosed : List Row → List Bool → ℕ → Type 0
IsClosed rows marks l = (m k : ℕ) → l < m → Within (flow_of rows) m k → IsTrue (at marks k) → IsTrue (at marks m)

-- the loops in whose body the item is taken, as far as the nodes from i on
abbrev pub IsAny : List Row → List Bool → List Bool → ℕ → Type 0
IsAny rows take any i = (n : ℕ) → i ≤ n → IsTrue (at any n) ↔ ((m : ℕ) × Within (flow_of rows) n m × IsTrue (at take m))

-- all successors are marked, and there is one
abbrev pub to_of : Way → ℕ → (ℕ → Bool) → Bool
to_of Next n ti = ti (suc n)
to_of (Fork m) n ti = ti (suc n) && ti m
to_of (Jump m) n ti = ti m
to_of (Around m) n ti = ti (suc m)
to_of (Back l) n ti = false
to_of Nowhere n ti = false

-- some successor is marked
abbrev pub some_of : Way → ℕ → (ℕ → Bool) → Bool
some_of Next n gi = gi (suc n)
some_of (Fork m) n gi = gi (suc n) || gi m
some_of (Jump m) n gi = gi m
some_of (Around m) n gi = gi (suc m)
some_of (Back l) n gi = false
some_of Nowhere n gi = false

-- what a loop wants for its body, and to keep over it
abbrev pub inner_of : List Row → (ℕ → Bool) → (ℕ → Bool) → (ℕ → Bool) → ℕ → Bool
inner_of rows st any ti n = is_around (leads_at rows n) && ((ti (suc n) && not (st n)) || ((to_of (leads_at rows n) n ti && any n) && not (st n)))

-- T and TI of a node, from TI of others
abbrev pub t_of : List Row → (ℕ → Bool) → (ℕ → Bool) → (ℕ → Bool) → (ℕ → Bool) → ℕ → Bool
t_of rows take st any ti n = take n || inner_of rows st any ti n

abbrev pub ti_of : List Row → (ℕ → Bool) → (ℕ → Bool) → (ℕ → Bool) → (ℕ → Bool) → ℕ → Bool
ti_of rows take st any ti n = t_of rows take st any ti n || (to_of (leads_at rows n) n ti && not (st n))

-- TI, as far as the nodes from i on
abbrev pub IsTi : List Row → (ℕ → Bool) → (ℕ → Bool) → (ℕ → Bool) → (ℕ → Bool) → ℕ → Type 0
IsTi rows take st any ti i = (n : ℕ) → i ≤ n → ti n ≡ ti_of rows take st any ti n

-- T, as far as the nodes below i
abbrev pub IsT : List Row → (ℕ → Bool) → (ℕ → Bool) → (ℕ → Bool) → (ℕ → Bool) → (ℕ → Bool) → ℕ → Type 0
IsT rows take st any ti t i = (n : ℕ) → n < i → t n ≡ t_of rows take st any ti n

-- a node below i leads to s; some such node has the mark; and there is one, and all such nodes have it
abbrev pub seen_by : (ℕ → Way) → ℕ → ℕ → Bool
seen_by way s zero = false
seen_by way s (suc i) = seen_by way s i || leads (way i) i s

abbrev pub some_by : (ℕ → Way) → (ℕ → Bool) → ℕ → ℕ → Bool
some_by way go s zero = false
some_by way go s (suc i) = some_by way go s i || (leads (way i) i s && go i)

-- what every predecessor has, after one that has it or not
abbrev pub every_then : Bool → Bool → Bool → Bool → Bool
every_then led seen every has = (led && ((not seen || every) && has)) || (not led && every)

abbrev pub every_by : (ℕ → Way) → (ℕ → Bool) → ℕ → ℕ → Bool
every_by way go s zero = false
every_by way go s (suc i) = every_then (leads (way i) i s) (seen_by way s i) (every_by way go s i) (go i)

-- marks of what came to each node from the nodes below i
pub record HasCome (way : ℕ → Way) (go : ℕ → Bool) (a b c : List Bool) (i : ℕ) : Type 0 where
  pub seen : (s : ℕ) → at a s ≡ seen_by way s i
  pub some : (s : ℕ) → at b s ≡ some_by way go s i
  pub every : (s : ℕ) → at c s ≡ every_by way go s i

abbrev pub IsMet : List Row → Bool → (ℕ → Bool) → Bool → ℕ → Type 0
IsMet rows wants go b n = IsTrue b ↔
    ((((p : ℕ) × IsTrue ((flow_of rows).forward p n)) × ((p : ℕ) → IsTrue ((flow_of rows).forward p n) → IsTrue (go p)))
    ⊎ (IsTrue wants × ((p : ℕ) × IsTrue ((flow_of rows).forward p n) × IsTrue (go p))))

-- b is GI of n, by GO of the nodes before
abbrev pub IsEntered : List Row → (ℕ → Bool) → (ℕ → Bool) → Bool → ℕ → Type 0
IsEntered rows ti go b zero = IsFalse b
IsEntered rows ti go b (suc k) = (IsTrue (is_around (leads_at rows k)) → b ≡ go k) × (IsFalse (is_around (leads_at rows k)) → IsMet rows (ti (suc k)) go b (suc k))

-- the equations of where an item is had, at the nodes below i
pub record ArePassed (rows : List Row) (st ti x gi g go : List Bool) (i : ℕ) : Type 0 where
  pub entered : (n : ℕ) → n < i → IsEntered rows (at ti) (at go) (at gi n) n
  pub has : (n : ℕ) → n < i → at g n ≡ (at gi n || at x n)
  pub goes : (n : ℕ) → n < i → at go n ≡ (at g n && not (at st n))

-- the operations of one solution, at the nodes below i
pub record AreSet (rows : List Row) (gi g go a b : List Bool) (i : ℕ) : Type 0 where
  pub at_in : (n : ℕ) → n < i → at a n ≡ (at g n && not (at gi n))
  pub at_out : (n : ℕ) → n < i → at b n ≡ (some_of (leads_at rows n) n (at gi) && not (at go n))

abbrev pub hoist_of : List Row → (ℕ → Bool) → (ℕ → Bool) → (ℕ → Bool) → ℕ → Bool
hoist_of rows take st ti n = is_around (leads_at rows n) && ((ti (suc n) && not (st n)) && not (take n))
