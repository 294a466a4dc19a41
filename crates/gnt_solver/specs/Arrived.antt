-- What comes to the nodes of a pass from those before them.
use Rattle.std.specs.Prelude.{◌≡◌, ℕ, Bool, true, not, ◌&&◌, ◌||◌, List, length, set}
use Rattle.fd_sets.specs.Sets.{Subset}
use Rattle.gnt_solver.specs.declared.tables.Size.{Size}
use Rattle.gnt_solver.specs.declared.arrivals.Arrivals.{Arrivals}
use Rattle.gnt_solver.specs.Columns.{held, col, at, IsTable}
use Rattle.gnt_solver.specs.Passes.{every_then}

pub record AreArrivals (size : Size) (a : Arrivals) : Type 0 where
  pub seen : length a.seen.items ≡ size.nodes
  pub some : IsTable size a.some
  pub every : IsTable size a.every

-- one more node that leads to s has these items
pub record Joins (a b : Arrivals) (s : ℕ) (goes : Subset) : Type 0 where
  pub seen : b.seen.items ≡ set a.seen.items s true
  pub some : (x : ℕ) → col b.some x ≡ set (col a.some x) s (at (col a.some x) s || held goes x)
  pub every : (x : ℕ) → col b.every x ≡ set (col a.every x) s ((not (at a.seen.items s) || at (col a.every x) s) && held goes x)

-- for one item: the marks after one more node, which leads to the nodes of `led`
pub record Step (led : ℕ → Bool) (go : Bool) (a1 b1 c1 a2 b2 c2 : List Bool) : Type 0 where
  pub seen : (s : ℕ) → at a2 s ≡ (at a1 s || led s)
  pub some : (s : ℕ) → at b2 s ≡ (at b1 s || (led s && go))
  pub every : (s : ℕ) → at c2 s ≡ every_then (led s) (at a1 s) (at c1 s) go

-- the same for all items
abbrev pub StepsOn : (ℕ → Bool) → Subset → Arrivals → Arrivals → Type 0
StepsOn led goes a b = (x : ℕ) → Step led (held goes x) a.seen.items (col a.some x) (col a.every x) b.seen.items (col b.some x) (col b.every x)
