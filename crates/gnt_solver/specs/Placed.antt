-- The places that tables tell.
use Rattle.fd_prog.specs.Paths.{Places}
use Rattle.gnt_solver.specs.declared.tables.Size.{Size}
use Rattle.gnt_solver.specs.declared.solving.Placement.{Placement}
use Rattle.gnt_solver.specs.Columns.{col, at, IsTable}

abbrev pub places_of : Placement → Places
places_of p = record {
  send_in = λ n x. at (col p.send_in x) n;
  send_out = λ n x. at (col p.send_out x) n;
  recv_in = λ n x. at (col p.recv_in x) n;
  recv_out = λ n x. at (col p.recv_out x) n;
  hoists = λ n x. at (col p.hoists x) n;
}

-- the five tables have one set for each node, all of one size
pub record AreTables (size : Size) (p : Placement) : Type 0 where
  pub send_in : IsTable size p.send_in
  pub send_out : IsTable size p.send_out
  pub recv_in : IsTable size p.recv_in
  pub recv_out : IsTable size p.recv_out
  pub hoists : IsTable size p.hoists
