use Rattle.std.proofs.Common.{◌≡◌, rules, Ok, Some, ◌∙◌, FitsSigned, w64}
use Rattle.std.proofs.lemmas.Int.{to_z-of_z}
use Rattle.fd_prog.specs.Expressions.{Element, More, End}
use Rattle.fd_prog.specs.Programs.{program_of}
use Rattle.fd_prog.specs.Stores.{readings_of}
use Rattle.fd_prog.specs.Values.{value_of}
use Rattle.seq_meaning.specs.Ready.{ready_expression}
use Rattle.seq_meaning.specs.Stored.{store_of}
use Rattle.seq_meaning.proofs.Subscripts.{value-row, value-grid}
use Rattle.seq_meaning.proofs.valuing.+number.Goals as goal

pub number-returns-in_ok-first-in-Row : goal.number-returns-in_ok-first-in-Row
number-returns-in_ok-first-in-Row t c =
    let r = readings_of (program_of c.args.cells.program.now) (store_of c.args.cells.store.now) in
    let a = ready_expression c.in-Row.first.value in
    let x = c.in_ok-first-in-Row.first in
    let array = c.in-Row.array in
    let site = c.in-Row.field-2 in
    let fits : FitsSigned w64 x = search rules in
    let first : value_of r a ≡ Ok x = search rules in
    let whole : ready_expression c.args.e.now ≡ Element array (More a End) site = search rules in
    let at_site = c.found_in_row.ensures (Some site) in
    let found = simp to_z-of_z at at_site in
    rw whole (value-row r array site a x first ∙ found)

pub number-returns-in_ok-second-in-Grid : goal.number-returns-in_ok-second-in-Grid
number-returns-in_ok-second-in-Grid t c =
    let r = readings_of (program_of c.args.cells.program.now) (store_of c.args.cells.store.now) in
    let a = ready_expression c.in-Grid.first.value in
    let b = ready_expression c.in-Grid.second.value in
    let x = c.in_ok-first-in-Grid.first in
    let y = c.in_ok-second-in-Grid.second in
    let array = c.in-Grid.array in
    let site = c.in-Grid.field-3 in
    let fits_x : FitsSigned w64 x = search rules in
    let fits_y : FitsSigned w64 y = search rules in
    let first : value_of r a ≡ Ok x = search rules in
    let second : value_of r b ≡ Ok y = search rules in
    let whole : ready_expression c.args.e.now ≡ Element array (More a (More b End)) site = search rules in
    let at_site = c.found.ensures (Some site) in
    let found = simp to_z-of_z at at_site in
    rw whole (value-grid r array site a b x y first second ∙ found)
