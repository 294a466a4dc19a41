use Rattle.std.proofs.Common.{◌≡◌, rules, Ok, ◌∙◌, FitsSigned, w64}
use Rattle.std.proofs.lemmas.Int.{to_z-of_z}
use Rattle.fd_prog.specs.Expressions.{More, End}
use Rattle.fd_prog.specs.Programs.{program_of}
use Rattle.fd_prog.specs.Statements.{ToElement}
use Rattle.fd_prog.specs.Stores.{readings_of}
use Rattle.fd_prog.specs.Values.{value_of}
use Rattle.seq_meaning.specs.Ready.{ready_expression, ready_shifted, ready_target}
use Rattle.seq_meaning.specs.Stored.{store_of}
use Rattle.seq_meaning.proofs.Subscripts.{cell-row, cell-grid}
use Rattle.seq_meaning.proofs.simple.target_cell.Goals as goal

pub returns-in_ok-first-in-ShiftedRow : goal.returns-in_ok-first-in-ShiftedRow
returns-in_ok-first-in-ShiftedRow c =
    let r = readings_of (program_of c.args.task.now.program.now) (store_of c.args.store.now) in
    let a = ready_shifted c.in-ShiftedRow.first in
    let x = c.in_ok-first-in-ShiftedRow.first in
    let fits : FitsSigned w64 x = search rules in
    let first : value_of r a ≡ Ok x = search rules in
    let whole : ready_target c.args.target.now ≡ ToElement c.in-ShiftedRow.array (More a End) c.in-ShiftedRow.field-2 = search rules in
    let found = simp to_z-of_z at c.element_cell.ensures in
    rw whole (cell-row r c.in-ShiftedRow.array c.in-ShiftedRow.field-2 a x first ∙ found)

pub returns-in_ok-second-in-ShiftedGrid : goal.returns-in_ok-second-in-ShiftedGrid
returns-in_ok-second-in-ShiftedGrid c =
    let r = readings_of (program_of c.args.task.now.program.now) (store_of c.args.store.now) in
    let a = ready_shifted c.in-ShiftedGrid.both.first in
    let b = ready_shifted c.in-ShiftedGrid.both.second in
    let x = c.in_ok-first-in-ShiftedGrid.first in
    let y = c.in_ok-second-in-ShiftedGrid.second in
    let fits_x : FitsSigned w64 x = search rules in
    let fits_y : FitsSigned w64 y = search rules in
    let first : value_of r a ≡ Ok x = search rules in
    let second : value_of r b ≡ Ok y = search rules in
    let whole : ready_target c.args.target.now ≡ ToElement c.in-ShiftedGrid.array (More a (More b End)) c.in-ShiftedGrid.field-2 = search rules in
    let found = simp to_z-of_z at c.element_cell-in-ShiftedGrid.ensures in
    rw whole (cell-grid r c.in-ShiftedGrid.array c.in-ShiftedGrid.field-2 a b x y first second ∙ found)

pub returns-in_ok-first-in-Row : goal.returns-in_ok-first-in-Row
returns-in_ok-first-in-Row c =
    let r = readings_of (program_of c.args.task.now.program.now) (store_of c.args.store.now) in
    let a = ready_expression c.in-Row.first in
    let x = c.in_ok-first-in-Row.first in
    let fits : FitsSigned w64 x = search rules in
    let first : value_of r a ≡ Ok x = search rules in
    let whole : ready_target c.args.target.now ≡ ToElement c.in-Row.array (More a End) c.in-Row.field-2 = search rules in
    let found = simp to_z-of_z at c.element_cell-in-Row.ensures in
    rw whole (cell-row r c.in-Row.array c.in-Row.field-2 a x first ∙ found)

pub returns-in_ok-second-in-Grid : goal.returns-in_ok-second-in-Grid
returns-in_ok-second-in-Grid c =
    let r = readings_of (program_of c.args.task.now.program.now) (store_of c.args.store.now) in
    let a = ready_expression c.in-Grid.first in
    let b = ready_expression c.in-Grid.second in
    let x = c.in_ok-first-in-Grid.first in
    let y = c.in_ok-second-in-Grid.second in
    let fits_x : FitsSigned w64 x = search rules in
    let fits_y : FitsSigned w64 y = search rules in
    let first : value_of r a ≡ Ok x = search rules in
    let second : value_of r b ≡ Ok y = search rules in
    let whole : ready_target c.args.target.now ≡ ToElement c.in-Grid.array (More a (More b End)) c.in-Grid.field-3 = search rules in
    let found = simp to_z-of_z at c.element_cell-in-Grid.ensures in
    rw whole (cell-grid r c.in-Grid.array c.in-Grid.field-3 a b x y first second ∙ found)
