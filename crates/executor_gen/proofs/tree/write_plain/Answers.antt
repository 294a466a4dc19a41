use Rattle.std.proofs.Common.{◌+◌, ap}
use Rattle.fd_prog.specs.Statements.{statement_of}
use Rattle.executor_gen.specs.Blocks.{spots_in}
use Rattle.executor_gen.proofs.TreeParts.{plain_adds}
use Rattle.executor_gen.proofs.tree.write_plain.Goals as goal

pub returns-clause-adds : goal.returns-clause-adds
returns-clause-adds c = λ place s same.
    plain_adds (spots_in c.args.operations.now) place c.args.k c.args.a (c.args.k + c.distributes.result) c.args.line (statement_of c.args.statement.now) s
    c.args.instrs.now.items c.write_simple.new.instrs.items c.args.lines.now.items c.write_simple.new.lines.items (ap (λ n. c.args.k + n) c.distributes.ensures.is) same c.in_ok-write_simple.ensures
