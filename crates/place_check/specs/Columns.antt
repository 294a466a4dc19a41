-- What happens to one item at the nodes of a plan.
use Rattle.std.specs.Prelude.{◌≡◌, ℕ, ◌<◌, ◌≤◌, ◌-◌, Bool, false, ◌&&◌, IsTrue, List, length}
use Rattle.fd_sets.specs.Sets.{Subset}
use Rattle.fd_prog.specs.Paths.{Plan, taken_inside}
use Rattle.interval_graph.specs.declared.node.Row.{Row}
use Rattle.interval_graph.specs.Rows.{flow_of}
use Rattle.gnt_solver.specs.declared.solving.Placement.{Placement}
use Rattle.gnt_solver.specs.Columns.{size_of, uses_of}
use Rattle.gnt_solver.specs.Placed.{places_of}
use Rattle.place_check.specs.declared.marks.Doings.{Doings}
use Rattle.place_check.specs.declared.column.Column.{Column}
use Rattle.place_check.specs.Marks.{Machine, machine_by, doings_at}

-- the flow graph of rows, with what tables take and steal, and with a placement
abbrev pub plan_of : List Row → List Subset → List Subset → Placement → Plan
plan_of rows take steal p = record { graph = flow_of rows; items = (size_of take).items; uses = uses_of take steal; places = places_of p }

-- what happens to an item at a node
abbrev pub doings_of : Plan → ℕ → ℕ → Doings
doings_of p x n = record {
  sent_in = p.places.send_in n x;
  received_in = p.places.recv_in n x;
  taken = p.uses.take n x;
  hoisted = p.places.hoists n x && taken_inside p.graph p.uses.take n x;
  stolen = p.uses.steal n x;
  sent_out = p.places.send_out n x;
  received_out = p.places.recv_out n x;
}

abbrev pub machine_of : Column → Machine
machine_of c = machine_by c.condition (length c.nodes.items - 1) (doings_at c.nodes.items)

-- each table has one set for each node
pub record HaveNodes (count : ℕ) (take steal : List Subset) (p : Placement) : Type 0 where
  pub takes : length take ≡ count
  pub steals : length steal ≡ count
  pub sends_in : length p.send_in ≡ count
  pub sends_out : length p.send_out ≡ count
  pub recvs_in : length p.recv_in ≡ count
  pub recvs_out : length p.recv_out ≡ count
  pub hoists : length p.hoists ≡ count

-- of the nodes from one on, this is the first that is marked, or there is none and it is the count
pub record IsNearest (count : ℕ) (marked : ℕ → Bool) (from nearest : ℕ) : Type 0 where
  pub low : from ≤ nearest
  pub high : nearest ≤ count
  pub none : (m : ℕ) → from ≤ m → m < nearest → marked m ≡ false
  pub here : nearest < count → IsTrue (marked nearest)
