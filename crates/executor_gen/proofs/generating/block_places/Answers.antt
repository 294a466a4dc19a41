use Rattle.std.proofs.Common.{◌≡◌, ◌+◌, ◌∷◌, [], ◌++◌, length, refl, sym, ap, ◌∙◌, arith}
use Rattle.fd_prog.specs.Nodes.{nodes_of, nodes_among, all_nodes_from}
use Rattle.fd_prog.specs.Programs.{program_of}
use Rattle.executor_gen.specs.Blocks.{spots_in, Measures}
use Rattle.executor_gen.proofs.Measuring.{measures_at}
use Rattle.executor_gen.proofs.Generated.{program_places, places_low}
use Rattle.executor_gen.proofs.generating.block_places.Goals as goal

measured : (c : goal.In_ok-_end) → Measures (spots_in c.args.operations.now) 0 0 (nodes_of (program_of c.args.program.now)) (0 ∷ []) c.note-2.new.places.items (c.in_ok-mid.mid + (c.count_ins-size.result + 1))
measured c =
    let o = spots_in c.args.operations.now in
    let p = program_of c.args.program.now in
    let first = c.quiet_size-first.result in
    let start : c.in_ok-start.start ≡ first = omega (arith, c.in_ok-start.ensures.end) in
    let last : length (o.ins (nodes_among p.body + 1)) + 1 ≡ c.count_ins-size.result + 1 = ap (λ n. length (o.ins (n + 1)) + 1) (sym c.count_all-last.ensures) ∙ ap (λ n. n + 1) (sym c.count_ins-size.ensures) in
    program_places o p c.push.new.self.items c.note.new.places.items c.measure_all.new.places.items c.note-2.new.places.items first c.in_ok-mid.mid (c.count_ins-size.result + 1)
    (c.in_ok-push.ensures.items ∙ ap (λ l. l ++ 0 ∷ []) c.new-places.ensures.items) (sym c.quiet_size-first.ensures.is) c.in_ok-start.ensures.places
    (measures_at o c.in_ok-start.start first 1 (all_nodes_from 1 p.body) c.note.new.places.items c.measure_all.new.places.items c.in_ok-mid.mid c.in_ok-mid.mid start refl c.in_ok-mid.ensures.measures)
    last c.in_ok-_end.ensures.places

pub returns-clause-places : goal.returns-clause-places
returns-clause-places c = (measured c).ends

pub returns-clause-low : goal.returns-clause-low
returns-clause-low c =
    let o = spots_in c.args.operations.now in
    let p = program_of c.args.program.now in
    let m = measured c in
    let few = c.requires.few.ins (c.count_all-last.result + 1) in
    places_low o (nodes_of p) c.note-2.new.places.items m.ends (omega (arith, m.total, c.in_ok-mid.ensures.low, c.requires.nodes, c.count_ins-size.ensures, few))
