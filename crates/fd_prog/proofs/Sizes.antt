-- How large statements are: what a walk over them goes down by, and that there are at most six nodes for each.
use Rattle.std.proofs.Common.{ℕ, ◌+◌, ◌*◌, ◌≤◌, arith}
use Rattle.fd_prog.specs.Checked.{size_in, size_among}
use Rattle.fd_prog.specs.Nodes.{nodes_in, nodes_among}
use Rattle.fd_prog.specs.Statements.{Statement, Assign, If, Do, While, Read, Print, Continue, Distribute, Statements, Empty, Then}

-- a list weighs more than each of its statements, and a statement more than what it holds with room for two calls between
abbrev mutual
  pub weight_in : Statement → ℕ
  weight_in (Assign line target e) = 1
  weight_in (If line c so otherwise) = weight_among so + weight_among otherwise + 3
  weight_in (Do line var first last by body) = weight_among body + 3
  weight_in (While line c body) = weight_among body + 3
  weight_in (Read line target) = 1
  weight_in (Print line items) = 1
  weight_in (Continue line) = 1
  weight_in (Distribute line decomp given) = 1

  pub weight_among : Statements → ℕ
  weight_among Empty = 0
  weight_among (Then s ss) = weight_in s + weight_among ss + 1

mutual
  few_nodes : (s : Statement) → nodes_in s ≤ 6 * size_in s
  few_nodes (Assign line target e) = omega arith
  few_nodes (If line c so otherwise) = let x = few_among so in let y = few_among otherwise in omega (arith, x, y)
  few_nodes (Do line var first last by body) = let x = few_among body in omega (arith, x)
  few_nodes (While line c body) = let x = few_among body in omega (arith, x)
  few_nodes (Read line target) = omega arith
  few_nodes (Print line items) = omega arith
  few_nodes (Continue line) = omega arith
  few_nodes (Distribute line decomp given) = omega arith

  -- at most six for each statement
  pub few_among : (ss : Statements) → nodes_among ss ≤ 6 * size_among ss
  few_among Empty = omega arith
  few_among (Then s ss) = let x = few_nodes s in let y = few_among ss in omega (arith, x, y)
