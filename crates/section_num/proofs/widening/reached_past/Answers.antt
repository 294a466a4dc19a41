use Rattle.std.proofs.Common.{◌≡◌, ◌++◌, ◌∷◌, List, [], length, true, false, sym, ap, ◌∙◌}
use Rattle.std.proofs.lemmas.List.{map-append}
use Rattle.fd_prog.specs.Items as items
use Rattle.fd_prog.specs.Items.{linear_loop_of, loop_names, may_widen, widened_over, without}
use Rattle.fd_prog.specs.Programs.{program_of}
use Rattle.section_num.specs.declared.names.Name.{Name}
use Rattle.section_num.specs.Views.{around_of, counted_of, loops_of, names_of}
use Rattle.section_num.proofs.NameLists.{others_are}
use Rattle.section_num.proofs.Reaches.{none_reached, one_more_reached}
use Rattle.section_num.proofs.widening.reached_past.Goals as goal

pub returns-then-not-may_widen-clause-loops : goal.returns-then-not-may_widen-clause-loops
returns-then-not-may_widen-clause-loops c =
    let p = program_of c.args.program.now in
    let l = counted_of c.args.l.now in
    let f = linear_loop_of c.args.forms.now in
    let outer = widened_over p (around_of c.args.outer.now) in
    let all : names_of c.add_loop.new.names ≡ loop_names f = c.in_ok-add_loop.ensures ∙ ap (λ (ns : List Name). names_of ns ++ loop_names f) c.new-bounds.ensures in
    let may : may_widen p [] l (loop_names f) ≡ false = ap (may_widen p [] l) (sym (ap names_of c.as_slice.ensures ∙ all)) ∙ (sym c.may_widen.ensures ∙ c.if-not-may_widen.true) in
    ap loops_of c.new.ensures.items ∙ none_reached p l f outer may

pub returns-clause-loops : goal.returns-clause-loops
returns-clause-loops c =
    let p = program_of c.args.program.now in
    let l = counted_of c.args.l.now in
    let f = linear_loop_of c.args.forms.now in
    let outer = widened_over p (around_of c.args.outer.now) in
    let further = c.in_ok-loops.loops.items in
    let all : names_of c.add_loop.new.names ≡ loop_names f = c.in_ok-add_loop.ensures ∙ ap (λ (ns : List Name). names_of ns ++ loop_names f) c.new-bounds.ensures in
    let may : may_widen p [] l (loop_names f) ≡ true = ap (may_widen p [] l) (sym (ap names_of c.as_slice.ensures ∙ all)) ∙ (sym c.may_widen.ensures ∙ c.if-not-may_widen.false) in
    let others : names_of c.in_ok-others.others ≡ without l.var (loop_names f) =
    ap names_of c.in_ok-others.ensures ∙ (others_are l.var c.as_slice-2.result.now ∙ ap (without l.var) (ap names_of c.as_slice-2.ensures ∙ all)) in
    let reached : c.reach.result ≡ length (outer []) = c.reach.ensures ∙ c.requires.reach.count in
    let loops : loops_of further ≡ outer (without l.var (loop_names f) ++ []) =
    c.in_ok-loops.ensures.loops p [] reached ∙ ap (λ (ns : List items.Name). outer (ns ++ [])) others in
    ap loops_of c.in_ok-push.ensures.items ∙ (map-append counted_of further (c.args.l.now ∷ []) ∙ one_more_reached p l f outer (loops_of further) may loops)
