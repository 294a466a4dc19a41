use Rattle.std.proofs.Common.{◌≡◌, get_or, rules, ap, sym, ◌∙◌}
use Rattle.fd_prog.specs.Programs.{program_of}
use Rattle.fd_prog.specs.Stores.{readings_of, shape_of}
use Rattle.seq_meaning.specs.Stored.{store_of}
use Rattle.seq_meaning.proofs.Subscripts.{shape-read, value-placed}
use Rattle.seq_meaning.proofs.valuing.found_in_row.Goals as goal

pub returns : goal.returns
returns c site =
    let p = program_of c.args.cells.program.now in
    let array = c.args.array in
    let one = c.index-arrays-array.result in
    let all : c.as_slice-arrays.result.now ≡ p.arrays = search rules in
    let same : shape_of p array ≡ (get_or c.as_slice-arrays.result.now array one).shape = shape-read p array one c.requires.array ∙ ap (λ xs. (get_or xs array one).shape) (sym all) in
    value-placed (readings_of p (store_of c.args.cells.store.now)) array site c.args.subs _ c.place_in_row-place.result _ same c.place_in_row-place.ensures (c.number_at.ensures site)
