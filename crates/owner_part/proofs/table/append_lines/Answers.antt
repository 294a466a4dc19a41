use Rattle.std.proofs.Common.{◌++◌, ◌∙◌, ap, List, ℕ}
use Rattle.owner_part.specs.OwnerTable.{element_line}
use Rattle.owner_part.proofs.Tables.{lines_more}
use Rattle.owner_part.proofs.table.append_lines.Goals as goal

pub loop-element-preserved : goal.loop-element-preserved
loop-element-preserved c =
    let line = element_line c.args.array.now c.args.map.now in
    c.in_ok-append_line.ensures ∙ (ap (λ (xs : List ℕ). xs ++ line c.loop-element.element) c.loop-element.invariant
    ∙ lines_more line c.args.out.now c.loop-element.element)
