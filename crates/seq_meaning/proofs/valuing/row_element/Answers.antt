use Rattle.std.proofs.Common.{◌≡◌, rules, Ok, Some, ◌∙◌, FitsSigned, w64}
use Rattle.std.proofs.lemmas.Int.{to_z-of_z}
use Rattle.fd_prog.specs.Programs.{program_of}
use Rattle.fd_prog.specs.Stores.{readings_of}
use Rattle.fd_prog.specs.Values.{value_of}
use Rattle.seq_meaning.specs.Ready.{ready_shifted}
use Rattle.seq_meaning.specs.Stored.{store_of}
use Rattle.seq_meaning.proofs.Subscripts.{value-row}
use Rattle.seq_meaning.proofs.valuing.row_element.Goals as goal

pub returns : goal.returns
returns c site =
    let r = readings_of (program_of c.args.cells.program.now) (store_of c.args.cells.store.now) in
    let a = ready_shifted c.args.first.now in
    let x = c.in_ok-first.first in
    let fits : FitsSigned w64 x = search rules in
    let first : value_of r a ≡ Ok x = search rules in
    let at_site = c.found_in_row.ensures (Some site) in
    let found = simp to_z-of_z at at_site in
    value-row r c.args.array site a x first ∙ found
