use Rattle.std.proofs.Common.{◌≡◌, ◌<◌, ◌+◌, ◌∙◌, ℕ, List, refl, ap, sym, subst, get_or, slice_get, length, Some, arith}
use Rattle.std.proofs.lemmas.Option.{slice_get_read}
use Rattle.fd_prog.specs.declared.program.Array as program
use Rattle.fd_prog.specs.Programs.{program_of}
use Rattle.owner_part.proofs.Told.{TellsFirst, all_told, installed_by, one_more}
use Rattle.owner_part.proofs.installing.install.Goals as goal

pub loop-number-preserved : goal.loop-number-preserved
loop-number-preserved c =
    let p = program_of c.args.program.now in
    let k = c.loop-number.number in
    let l : k < length p.arrays = omega (arith, c.loop-number-test.true, ap length c.as_slice-array-items.ensures) in
    let here : slice_get p.arrays k ≡ Some c.array-item.result = slice_get_read p.arrays (length p.arrays) k c.array-item.result refl l (c.array-item.is ∙ ap (λ (xs : List program.Array). get_or xs k c.array-item.result) c.as_slice-array-items.ensures) in
    subst (TellsFirst p c.args.decomp c.args.values.now c.args.ranks (k + 1))
    (sym c.in_ok-add_place.ensures)
    (one_more p c.args.decomp c.args.values.now c.args.ranks k c.loop-number.places c.array-item.result c.in_ok-found.found c.loop-number.invariant here c.in_ok-found.ensures.place c.in_ok-found.ensures.ranks)

pub returns-clause-places : goal.returns-clause-places
returns-clause-places c =
    let p = program_of c.args.program.now in
    let e : c.loop-number.number ≡ length p.arrays = omega (arith, c.loop-number-test.false, c.loop-number.auto.number-end, ap length c.as_slice-array-items.ensures) in
    all_told p c.args.decomp c.args.values.now c.args.ranks c.loop-number.places (subst (λ (n : ℕ). TellsFirst p c.args.decomp c.args.values.now c.args.ranks n c.loop-number.places) e c.loop-number.invariant)

pub returns-clause-installed : goal.returns-clause-installed
returns-clause-installed c =
    let p = program_of c.args.program.now in
    let e : c.loop-number.number ≡ length p.arrays = omega (arith, c.loop-number-test.false, c.loop-number.auto.number-end, ap length c.as_slice-array-items.ensures) in
    installed_by p c.args.decomp c.args.values.now c.args.ranks c.loop-number.places
    (all_told p c.args.decomp c.args.values.now c.args.ranks c.loop-number.places (subst (λ (n : ℕ). TellsFirst p c.args.decomp c.args.values.now c.args.ranks n c.loop-number.places) e c.loop-number.invariant))
