use Rattle.std.proofs.Common.{◌≡◌, ◌++◌, ◌∷◌, ◌<◌, ◌-◌, List, [], true, false, sym, ap, ◌∙◌, arith}
use Rattle.std.proofs.lemmas.List.{map-append}
use Rattle.fd_prog.specs.Items.{loop_forms, widened_over, without}
use Rattle.fd_prog.specs.Items as items
use Rattle.section_num.specs.declared.names.Name.{Name}
use Rattle.section_num.specs.Views.{around_of, counted_of, loops_of, names_of}
use Rattle.section_num.proofs.NameLists.{any_names, others_are}
use Rattle.section_num.proofs.Reaches.{goes_on, is_stopped, is_touched, no_room}
use Rattle.section_num.proofs.widening.+widened.Goals as goal

pub widened_past-returns-then-room-eq0-clause-loops : goal.widened_past-returns-then-room-eq0-clause-loops
widened_past-returns-then-room-eq0-clause-loops t c = λ p others h.
    let l = counted_of c.args.l.now in
    let zero : 0 ≡ c.args.room = omega (arith, c.if-room-eq0.true) in
    ap loops_of c.new.ensures.items ∙ sym (no_room p (names_of c.args.names) others l (loop_forms [] l) (widened_over p (around_of c.args.outer.now)) (zero ∙ h))

pub widened_past-returns-then-has_any-clause-loops : goal.widened_past-returns-then-has_any-clause-loops
widened_past-returns-then-has_any-clause-loops t c = λ p others h.
    let l = counted_of c.args.l.now in
    let sets = names_of c.args.l.now.sets.now in
    let touched : is_touched (names_of c.args.names) sets ≡ true =
    sym (c.has_any.ensures ∙ (any_names c.as_slice.result.now c.args.l.now.sets.now ∙ ap (λ (ns : List Name). is_touched (names_of ns) sets) c.as_slice.ensures)) ∙ c.if-has_any.true in
    ap loops_of c.new-then-has_any.ensures.items ∙ sym (is_stopped p (names_of c.args.names) others l (loop_forms [] l) (widened_over p (around_of c.args.outer.now)) touched)

pub widened_past-returns-clause-loops : goal.widened_past-returns-clause-loops
widened_past-returns-clause-loops t c = λ p others h.
    let l = counted_of c.args.l.now in
    let sets = names_of c.args.l.now.sets.now in
    let outer = widened_over p (around_of c.args.outer.now) in
    let further = c.in_ok-loops.loops.items in
    let some : 0 < c.args.room = omega (arith, c.if-room-eq0.false) in
    let touched : is_touched (names_of c.args.names) sets ≡ false =
    sym (c.has_any.ensures ∙ (any_names c.as_slice.result.now c.args.l.now.sets.now ∙ ap (λ (ns : List Name). is_touched (names_of ns) sets) c.as_slice.ensures)) ∙ c.if-has_any.false in
    let names : names_of c.in_ok-further.further ≡ without l.var (names_of c.args.names) =
    ap names_of c.in_ok-further.ensures ∙ (others_are l.var c.as_slice-2.result.now ∙ ap (λ (ns : List Name). without l.var (names_of ns)) c.as_slice-2.ensures) in
    ap loops_of c.in_ok-push.ensures.items
    ∙ (map-append counted_of further (c.args.l.now ∷ [])
    ∙ goes_on p (names_of c.args.names) others l (loop_forms [] l) outer c.args.room (loops_of further) some touched h (λ more e. c.in_ok-loops.ensures.loops p more e ∙ ap (λ (ns : List items.Name). outer (ns ++ more)) names))
