use Rattle.std.proofs.Common.{◌+◌, refl, sym, ap, ◌∙◌}
use Rattle.fd_prog.specs.Programs.{program_of}
use Rattle.executor_gen.specs.Blocks.{spots_in, place_at}
use Rattle.executor_gen.proofs.Generated.{program_adds, laid_by}
use Rattle.executor_gen.proofs.generating.code_with.Goals as goal

pub returns : goal.returns
returns c = λ p h.
    let o = spots_in c.args.operations.now in
    let prog = program_of c.args.program.now in
    let places = c.as_slice.result.now in
    rw (c.from_vec.ensures, c.from_vec-2.ensures)
    (laid_by p c.args.operations.now prog places c.write_end.new.instrs.items c.write_end.new.lines.items c.in_ok-_next._next h (c.as_slice.ensures.value ∙ c.in_ok-places.ensures.places)
    (program_adds o (place_at places) prog (record { 0 = 0 }) c.new-instrs.result.items c.write_quiet.new.instrs.items c.write_all.new.instrs.items c.write_end.new.instrs.items
    c.new-lines.result.items c.write_quiet.new.lines.items c.write_all.new.lines.items c.write_end.new.lines.items (c.count_all-last.result + 1) c.in_ok-_next._next
    refl (ap (λ n. n + 1) (sym c.count_all-last.ensures)) c.new-instrs.ensures.items c.new-lines.ensures.items c.in_ok-write_quiet.ensures c.in_ok-_next.ensures.adds c.in_ok-write_end.ensures))
