-- The code of a program runs as the program does in sequence.
use Rattle.std.proofs.Common.{◌≡◌, ℕ, ◌+◌, List, [], ◌∷◌, ◌++◌, length, Some, refl, subst, arith}
use Rattle.fd_prog.specs.Nodes as nodes
use Rattle.fd_prog.specs.Nodes.{Node, nodes_of, start_node, at_line, all_nodes_from, nodes_among}
use Rattle.fd_prog.specs.Paths.{Plan}
use Rattle.fd_prog.specs.Sequence.{Onward, after_all}
use Rattle.exec_code.specs.Instructions.{Stop, FlatJob, task_of}
use Rattle.exec_code.specs.Machine.{OpenLoop, Configuration, instruction_at, first_configuration}
use Rattle.exec_code.specs.Passing.{Mark, marks_of}
use Rattle.exec_code.specs.Sound.{Finishes, stops, fails, Follows}
use Rattle.exec_code.specs.Trails.{arriving, IsAlong, Arrives}
use Rattle.exec_code.proofs.Trips as trips
use Rattle.exec_code.proofs.Trips.{standing, Trip, arrives, trip_then, Ending, Comes, comes_of_trip, ending_over}
use Rattle.executor_gen.specs.Layout.{at_in}
use Rattle.executor_gen.specs.Blocks.{IsLaid}
use Rattle.executor_gen.specs.Uses.{IsPlanOf}
use Rattle.executor_gen.proofs.Trailing.{Lay, Towards, Reaching, begins, in_marks, arriving_quiet}
use Rattle.executor_gen.proofs.Skipping.{Go, has_first, has_then, Skips, skips_in}
use Rattle.executor_gen.proofs.Standing.{stand_first, stand_then, start_hop, hop_on, quiet_at}
use Rattle.interval_graph.proofs.Laid.{length_all}
use Rattle.executor_gen.proofs.Trees.{follows_all}
use Rattle.executor_gen.proofs.Laid.{lay_of, code_stands}

-- a trip that has come to the block of End comes to its Stop
last_way : (l : Lay) (n stop : ℕ) (loops : List OpenLoop) (c : Configuration) (ms : List Mark) (o : Onward) → Skips l (l.place n) stop (in_marks l n) → arriving l.plan l.nodes n ≡ in_marks l n
    → Go l (l.place n) loops (Towards n) c ms o → Go l stop loops (Reaching n) c ms o
last_way l n stop loops c ms o skip still (arrives now mapping xs fine) = skip stop loops (Reaching n) loops now mapping xs _ (arrives now mapping (xs ++ in_marks l n) (quiet_at l n xs still fine))
last_way l n stop loops c ms o skip still (trips.goes d e rest) = trips.goes d e (last_way l n stop loops d _ o skip still rest)
last_way l n stop loops c ms o skip still (trips.notes d p kind e rest) = trips.notes d p kind e (last_way l n stop loops d _ p skip still rest)
last_way l n stop loops c ms o skip still (trips.faults kind e fine) = trips.faults kind e fine

-- the trip of the whole program, to its Stop
pub whole_trip : (j : FlatJob) (p : Plan) → (h : IsLaid p (nodes_of j.program) j.code) → IsPlanOf j (nodes_of j.program) p
    → (stop : ℕ) × (instruction_at j stop ≡ Some Stop)
    × Go (lay_of j p (nodes_of j.program) h.place) stop [] (Reaching (nodes_among j.program.body + 1)) (first_configuration j) [] (after_all (task_of j) j.program.body (first_configuration j).now)
whole_trip j p code fits =
    let ns = nodes_of j.program in
    let l = lay_of j p ns code.place in
    let body = all_nodes_from 1 j.program.body in
    let last_node = at_line j.program.end_line nodes.End in
    let every = code_stands j p ns code fits in
    let all = stand_first l 0 (start_node ∷ body) (last_node ∷ []) every in
    let end_at = nodes_among j.program.body + 1 in
    let size_of : length (start_node ∷ body) ≡ end_at = omega (arith, length_all 1 j.program.body) in
    let last = stand_then l 0 end_at (start_node ∷ body) (last_node ∷ []) (omega (arith, size_of)) every in
    let ins = at_in p end_at in
    let a = l.place end_at in
    let stop = a + length ins in
    let here = has_then j a j.program.end_line ins (Stop ∷ []) last.0.has in
    let first = first_configuration j in
    let o = after_all (task_of j) j.program.body first.now in
    let from_one : 1 + nodes_among j.program.body ≡ end_at = omega arith in
    let skip = skips_in l end_at a j.program.end_line (has_first j a j.program.end_line ins (Stop ∷ []) last.0.has) in
    let still = arriving_quiet l end_at j.program.end_line nodes.End fits last.0.is refl refl refl in (
      stop,
      here.0,
      subst (λ (x : ℕ). Go l stop [] (Reaching end_at) (standing x first.now first.mapping []) [] o) code.begins (hop_on l 0 1 (start_hop l 0 start_node.line all.0) stop [] (Reaching end_at) [] first.now first.mapping [] o (begins l)
          (λ xs come. last_way l end_at stop [] (standing (l.place 1) first.now first.mapping []) xs o skip still
          (subst (λ (x : ℕ). Go l (l.place x) [] (Towards x) (standing (l.place 1) first.now first.mapping []) xs o) from_one (follows_all l j.program.body 1 all.1 first.now first.mapping [] xs come)))),
    )

finished : (j : FlatJob) (p : Plan) (before : List Configuration) (last : Configuration)
    → Ending j (IsAlong p (nodes_of j.program)) (Arrives p (nodes_of j.program) (nodes_among j.program.body + 1)) last (marks_of j (before ++ (last ∷ []))) → Finishes j p before last
finished j p before last (trips.stops e h) = stops e h
finished j p before last (trips.fails kind e h) = fails kind e h

-- the code runs as the program does in sequence, for every input, number of ranks and limit, and its trace passes a path
pub follows_program : (j : FlatJob) (p : Plan) → (h : IsLaid p (nodes_of j.program) j.code) → IsPlanOf j (nodes_of j.program) p → Follows j p
follows_program j p code fits =
    let ns = nodes_of j.program in
    let trip = whole_trip j p code fits in
    let end_at = nodes_among j.program.body + 1 in
    let x = comes_of_trip j (IsAlong p ns) trip.0 [] (Arrives p ns end_at) (first_configuration j) [] (after_all (task_of j) j.program.body (first_configuration j).now) trip.1 tt trip.2 in
    record {
      before = x.before;
      last = x.last;
      trace = record { walks = x.walks; over = ending_over j (IsAlong p ns) (Arrives p ns end_at) x.last _ x.ending };
      finish = finished j p x.before x.last x.ending;
      run = x.run;
    }
