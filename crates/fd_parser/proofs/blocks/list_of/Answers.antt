use Rattle.std.proofs.Common.{◌∙◌}
use Rattle.fd_ast.specs.Tree.{stmt_trees}
use Rattle.fd_parser.proofs.Statements.{joined_last}
use Rattle.fd_parser.proofs.blocks.list_of.Goals as goal

pub loop-stmt-preserved : goal.loop-stmt-preserved
loop-stmt-preserved c = rw c.in_ok-new.ensures.ok (joined_last c.loop-stmt.statements.items c.pop.new.self.items c.in-Some.stmt (stmt_trees c.loop-stmt.list) c.in-Some.ensures.items ∙ c.loop-stmt.invariant)
