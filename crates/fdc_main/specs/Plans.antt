-- What mode plan prints: a program's items, and where each is sent and received.
use Rattle.std.specs.Prelude.{◌≡◌, ◌≤◌, ◌+◌, List, ℕ, map, length}
use Rattle.fd_prog.specs.Programs.{CheckedProgram}
use Rattle.fd_prog.specs.Flow.{graph_of}
use Rattle.fd_prog.specs.Items.{linear_item_of}
use Rattle.fd_prog.specs.Nodes.{Node, nodes_of, nodes_among, node_count}
use Rattle.fd_prog.specs.PathConditions.{IsGoodPlan}
use Rattle.fd_prog.specs.Paths.{Places}
use Rattle.fd_prog.specs.Uses.{items_of, takes, steals}
use Rattle.program_laws.specs.Plans.{node_uses, plan_of}
use Rattle.section_num.specs.declared.numbering.Items.{Items}
use Rattle.section_num.specs.Tables.{IsTable}
use Rattle.gnt_solver.specs.Equations.{AreSolved}
use Rattle.place_text.specs.Listings.{listing}

-- the items of a program, and tables of what its nodes take and steal
pub record AreItems (p : CheckedProgram) (x : Items) : Type 0 where
  pub few : length x.items ≤ 512
  pub items : map linear_item_of x.items ≡ items_of p
  pub take : IsTable (node_count p) (length x.items) (takes p) x.take
  pub steal : IsTable (node_count p) (length x.items) (steals p) x.steal

-- The text is the listing of the places that the equations give for a program's flow graph and for what its nodes take and steal. These places are good: they
-- keep the conditions on every path for every item.
pub record IsListing (p : CheckedProgram) (text : List ℕ) : Type 0 where
  pub places : Places
  pub solved : AreSolved (graph_of (nodes_of p)) (node_uses p) places
  pub good : IsGoodPlan (plan_of p places) (nodes_among p.body + 1)
  pub is : text ≡ listing p (items_of p) (map (λ (n : Node). n.line) (nodes_of p)) places
