use Rattle.std.proofs.Common.{sym, ◌∙◌}
use Rattle.gnt_solver.proofs.Marks.{size_of_node, col_changed, table-set}
use Rattle.gnt_solver.proofs.tables.put.Goals as goal

pub fill-requires : goal.fill-requires
fill-requires c = c.requires.sized ∙ sym (size_of_node c.args.size c.args.table.now c.args.n _ c.requires.table c.requires.inside c.set_mut.ensures.value)

pub returns-clause-table : goal.returns-clause-table
returns-clause-table c =
    table-set c.args.size c.args.table.now c.args.n _ c.requires.table
    (c.fill.ensures.size ∙ size_of_node c.args.size c.args.table.now c.args.n _ c.requires.table c.requires.inside c.set_mut.ensures.value) c.requires.inside

pub returns-clause-column : goal.returns-clause-column
returns-clause-column c x =
    col_changed c.args.table.now x c.args.n _ _ (c.fill.ensures.held x)
