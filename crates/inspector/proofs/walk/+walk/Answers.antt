use Rattle.std.proofs.Common.{◌≡◌, ◌∙◌, rules, arith, ◌-◌, ◌<◌, ◌≤◌, ℤ, ◌+ℤ◌, List, drop, flat_map, length, map, get_or, Ok, Err, FitsSigned, to_z, w64, OnOk, sym, subst, refl}
use Rattle.std.proofs.lemmas.Int.{to_z-of_z}
use Rattle.std.proofs.lemmas.List.{length-map}
use Rattle.fd_base.specs.Numbers.{fits_i64}
use Rattle.fd_prog.specs.Items.{linear_loop_of}
use Rattle.fd_prog.specs.Needs.{loop_numbers}
use Rattle.inspector.specs.Readers.{item_in, numbers_of, sight_of, walk_of}
use Rattle.fd_prog.specs.SoundForms.{IsSoundLoop}
use Rattle.inspector.specs.Walks.{Visits, numbers_from, one_number_of}
use Rattle.inspector.proofs.Visits.{goes_done, goes_on, goes_out, goes_over, next_from, one_done, over_from, same_one, loop_at, loop_below, loop_sound, walk_fault, walk_numbers, walk_past}
use Rattle.inspector.proofs.walk.+walk.Goals as goal

pub each_number-loop-remaining-preserved : goal.each_number-loop-remaining-preserved
each_number-loop-remaining-preserved g t c =
    let r = g.C.Cells.readings c.args.c.now in
    let s = sight_of r c.args.r.now in
    let x = item_in c.args.r.now in
    let ls = drop c.args.depth x.loops in
    let vs = c.args.vs.now.items in
    let v = to_z w64 c.loop-remaining.number-bits in
    let fit : FitsSigned w64 c.in-Some.next = search rules in
    let fit_by : FitsSigned w64 c.args.numbers.by = search rules in
    let visited = same_one s x c.args.r.now.rank.0 r ls c.loop-remaining.vs.items vs v (walk_of c.loop-remaining.found) (walk_of c.one_number.new.found) c.loop-remaining.invariant.0 c.in_ok-one_number.ensures.visits in (
      c.in_ok-one_number.ensures.same ∙ c.loop-remaining.invariant.0,
      simp to_z-of_z (goes_on s x c.args.r.now.rank.0 (one_number_of r ls vs) v c.args.numbers.by c.in-Some.next c.loop-remaining.remaining (c.loop-remaining.remaining - 1) (walk_of c.loop-remaining.found) (walk_of c.one_number.new.found) (walk_of c.args.found.now)
          (flat_map (one_number_of r ls vs) (numbers_from c.args.numbers.first c.args.numbers.by c.args.numbers.count)) c.following.ensures.word (omega arith) (next_from _ _ _ (simp to_z-of_z at c.in-Some.ensures.next)) refl c.loop-remaining.invariant.1 visited),
    )

pub each_number-returns-then-found-eq0-clause-visits :
    goal.each_number-returns-then-found-eq0-clause-visits
each_number-returns-then-found-eq0-clause-visits g t c =
    goes_out _ _ _ _ (walk_of c.loop-remaining.found) _ _ c.if-found-eq0.true c.loop-remaining.invariant.1

pub each_number-returns-in-None-clause-visits : goal.each_number-returns-in-None-clause-visits
each_number-returns-in-None-clause-visits g t c =
    let r = g.C.Cells.readings c.args.c.now in
    let s = sight_of r c.args.r.now in
    let x = item_in c.args.r.now in
    let ls = drop c.args.depth x.loops in
    let vs = c.args.vs.now.items in
    let v = to_z w64 c.loop-remaining.number-bits in
    let fit_by : FitsSigned w64 c.args.numbers.by = search rules in
    let visited = same_one s x c.args.r.now.rank.0 r ls c.loop-remaining.vs.items vs v (walk_of c.loop-remaining.found) (walk_of c.one_number.new.found) c.loop-remaining.invariant.0 c.in_ok-one_number.ensures.visits in
    goes_over s x c.args.r.now.rank.0 (one_number_of r ls vs) v c.args.numbers.by c.loop-remaining.remaining (walk_of c.loop-remaining.found) (walk_of c.one_number.new.found) (walk_of c.args.found.now)
    (flat_map (one_number_of r ls vs) (numbers_from c.args.numbers.first c.args.numbers.by c.args.numbers.count)) c.following.ensures.word (omega arith) (over_from (fits_i64 (v +ℤ c.args.numbers.by)) (v +ℤ c.args.numbers.by) (simp to_z-of_z at c.in-None.ensures.next)) c.loop-remaining.invariant.1 visited

pub each_number-returns-clause-visits : goal.each_number-returns-clause-visits
each_number-returns-clause-visits g t c =
    let r = g.C.Cells.readings c.args.c.now in
    let x = item_in c.args.r.now in
    goes_done _ _ _ (one_number_of r (drop c.args.depth x.loops) c.args.vs.now.items) (to_z w64 c.loop-remaining.number-bits) c.args.numbers.by c.loop-remaining.remaining (walk_of c.loop-remaining.found) _ _ (omega arith) c.loop-remaining.invariant.1

pub one_number-returns-clause-visits : goal.one_number-returns-clause-visits
one_number-returns-clause-visits g t c =
    let r = g.C.Cells.readings c.args.c.now in
    let s = sight_of r c.args.r.now in
    let x = item_in c.args.r.now in
    let fit : FitsSigned w64 c.args.number = search rules in
    one_done s x c.args.r.now.rank.0 r (drop c.args.depth x.loops) c.args.vs.now.items c.push.new.self.items c.args.number (walk_of c.args.found.now) (walk_of c.visit.new.found) (walk_of c.walk.new.found)
    (simp to_z-of_z at c.in_ok-push.ensures.items) (rw c.deref.ensures.value at c.in_ok-visit.ensures) c.in_ok-walk.ensures.visits

pub walk-loop_numbers-requires : goal.walk-loop_numbers-requires
walk-loop_numbers-requires g t c =
    let loops = c.args.r.now.item.now.loops in
    let inside : c.args.depth < length loops = rw c.as_slice-loops.ensures at c.if-depth-loops.false in
    let is : c.index-loops-depth.result ≡ get_or loops c.args.depth c.index-loops-depth.result = rw c.as_slice-loops.ensures at c.index-loops-depth.is in
    loop_sound (IsSoundLoop (g.C.Cells.names c.args.c.now)) loops c.args.depth c.index-loops-depth.result c.requires.reader.sound.loops inside is

pub walk-returns-in-Err-clause-visits : goal.walk-returns-in-Err-clause-visits
walk-returns-in-Err-clause-visits g t c =
    let r = g.C.Cells.readings c.args.c.now in
    let loops = c.args.r.now.item.now.loops in
    let w = c.index-loops-depth.result in
    let inside : c.args.depth < length loops = rw c.as_slice-loops.ensures at c.if-depth-loops.false in
    let is : w ≡ get_or loops c.args.depth w = rw c.as_slice-loops.ensures at c.index-loops-depth.is in
    let fault : loop_numbers r c.args.vs.now.items (linear_loop_of w) ≡ Err c.in-Err.field-0 = sym (rw c.deref.ensures.value at c.in-Err.ensures) in
    walk_fault (sight_of r c.args.r.now) (item_in c.args.r.now) c.args.r.now.rank.0 r (map linear_loop_of loops) c.args.depth (linear_loop_of w) c.args.vs.now.items c.in-Err.field-0 (walk_of c.args.found.now) (loop_below loops c.args.depth inside) (loop_at loops c.args.depth w inside is) fault

pub walk-returns-in-Ok-clause-visits : goal.walk-returns-in-Ok-clause-visits
walk-returns-in-Ok-clause-visits g t c =
    let r = g.C.Cells.readings c.args.c.now in
    let loops = c.args.r.now.item.now.loops in
    let w = c.index-loops-depth.result in
    let inside : c.args.depth < length loops = rw c.as_slice-loops.ensures at c.if-depth-loops.false in
    let is : w ≡ get_or loops c.args.depth w = rw c.as_slice-loops.ensures at c.index-loops-depth.is in
    let found : loop_numbers r c.args.vs.now.items (linear_loop_of w) ≡ Ok (numbers_of c.in-Ok.numbers) = sym (rw c.deref.ensures.value at c.in-Ok.ensures) in
    subst (λ (its : List (List ℤ)). OnOk c.each_number.result (Visits (sight_of r c.args.r.now) (item_in c.args.r.now) c.args.r.now.rank.0 its (walk_of c.args.found.now) (walk_of c.each_number.new.found)))
    (walk_numbers r (map linear_loop_of loops) c.args.depth (linear_loop_of w) c.args.vs.now.items (numbers_of c.in-Ok.numbers) (loop_below loops c.args.depth inside) (loop_at loops c.args.depth w inside is) found)
    c.each_number.ensures.visits

pub walk-returns-then-depth-loops-clause-visits : goal.walk-returns-then-depth-loops-clause-visits
walk-returns-then-depth-loops-clause-visits g t c =
    let r = g.C.Cells.readings c.args.c.now in
    let loops = c.args.r.now.item.now.loops in
    let past : length loops ≤ c.args.depth = rw c.as_slice-loops.ensures at c.if-depth-loops.true in
    walk_past (sight_of r c.args.r.now) (item_in c.args.r.now) c.args.r.now.rank.0 r (map linear_loop_of loops) c.args.depth c.args.vs.now.items (walk_of c.args.found.now) (omega (arith, past, length-map loops linear_loop_of))
