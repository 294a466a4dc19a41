use Rattle.std.proofs.Common.{◌≡◌, rules, Ok, Some, ◌∙◌, FitsSigned, w64}
use Rattle.std.proofs.lemmas.Int.{to_z-of_z}
use Rattle.fd_prog.specs.Programs.{program_of}
use Rattle.fd_prog.specs.Stores.{readings_of}
use Rattle.fd_prog.specs.Values.{value_of}
use Rattle.seq_meaning.specs.Ready.{ready_shifted}
use Rattle.seq_meaning.specs.Stored.{store_of}
use Rattle.seq_meaning.proofs.Subscripts.{value-grid}
use Rattle.seq_meaning.proofs.valuing.grid_element.Goals as goal

pub returns : goal.returns
returns c site =
    let r = readings_of (program_of c.args.cells.program.now) (store_of c.args.cells.store.now) in
    let a = ready_shifted c.args.both.now.first in
    let b = ready_shifted c.args.both.now.second in
    let x = c.in_ok-first.first in
    let y = c.in_ok-second.second in
    let fits_x : FitsSigned w64 x = search rules in
    let fits_y : FitsSigned w64 y = search rules in
    let first : value_of r a ≡ Ok x = search rules in
    let second : value_of r b ≡ Ok y = search rules in
    let at_site = c.found.ensures (Some site) in
    let found = simp to_z-of_z at at_site in
    value-grid r c.args.array site a b x y first second ∙ found
