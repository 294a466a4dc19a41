-- Tables of a placement that have a set for each node, and the lines of nodes.
use Rattle.std.specs.Prelude.{◌≡◌, ℕ, ◌<◌, List, map, length}
use Rattle.fd_base.specs.declared.numbering.Line.{Line}
use Rattle.interval_graph.specs.declared.node.Row.{Row}
use Rattle.gnt_solver.specs.declared.solving.Placement.{Placement}

-- the lines of nodes in order of their numbers
abbrev pub lines_of : List Row → List Line
lines_of rows = map (λ (r : Row). r.line) rows

-- the four tables of operations have a set for a node
pub record HasNode (p : Placement) (n : ℕ) : Type 0 where
  pub send_in : n < length p.send_in
  pub send_out : n < length p.send_out
  pub recv_in : n < length p.recv_in
  pub recv_out : n < length p.recv_out

-- each of the five tables has as many sets as there are nodes
pub record HasNodes (p : Placement) (nodes : ℕ) : Type 0 where
  pub send_in : length p.send_in ≡ nodes
  pub send_out : length p.send_out ≡ nodes
  pub recv_in : length p.recv_in ≡ nodes
  pub recv_out : length p.recv_out ≡ nodes
  pub hoists : length p.hoists ≡ nodes
