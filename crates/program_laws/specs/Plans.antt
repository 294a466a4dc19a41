-- A program's items, what its nodes take and steal, and a placement for them.
use Rattle.std.specs.Prelude.{length}
use Rattle.fd_prog.specs.Flow.{graph_of}
use Rattle.fd_prog.specs.Nodes.{nodes_of}
use Rattle.fd_prog.specs.Paths.{Uses, Places, Plan}
use Rattle.fd_prog.specs.Programs.{CheckedProgram}
use Rattle.fd_prog.specs.Uses.{items_of, takes, steals}

-- the items that the nodes of a program take and steal
abbrev pub node_uses : CheckedProgram → Uses
node_uses p = record { take = takes p; steal = steals p }

-- a placement for a program
abbrev pub plan_of : CheckedProgram → Places → Plan
plan_of p places = record { graph = graph_of (nodes_of p); items = length (items_of p); uses = node_uses p; places = places }
