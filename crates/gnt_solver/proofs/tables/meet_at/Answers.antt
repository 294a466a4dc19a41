use Rattle.std.proofs.Common.{Bool, ◌&&◌, sym, ◌∙◌, ap, arith}
use Rattle.gnt_solver.specs.Columns.{held}
use Rattle.gnt_solver.proofs.Marks.{of_node, size_of_node, col_changed, table-set}
use Rattle.gnt_solver.proofs.tables.meet_at.Goals as goal

pub meet-requires : goal.meet-requires
meet-requires c = c.requires.sized ∙ sym (size_of_node c.args.size c.args.table.now c.args.n _ c.requires.table c.requires.inside c.set_mut.ensures.value)

pub returns-clause-table : goal.returns-clause-table
returns-clause-table c =
    table-set c.args.size c.args.table.now c.args.n _ c.requires.table
    (c.meet.ensures.size ∙ size_of_node c.args.size c.args.table.now c.args.n _ c.requires.table c.requires.inside c.set_mut.ensures.value) c.requires.inside

pub returns-clause-column : goal.returns-clause-column
returns-clause-column c x =
    col_changed c.args.table.now x c.args.n _ _
    (c.meet.ensures.held x ∙ ap (λ (b : Bool). b && held c.args.other.now x) (of_node c.args.table.now c.args.n x _ (omega (arith, c.requires.inside, c.requires.table.long)) c.set_mut.ensures.value))
