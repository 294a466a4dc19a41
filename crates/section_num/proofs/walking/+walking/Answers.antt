use Rattle.std.proofs.Common.{◌≡◌, ◌≤◌, List, [], ◌∷◌, ◌++◌, length, ap, sym, subst, ◌∙◌, Result, Ok, Err, OnOk}
use Rattle.fd_base.specs.declared.memory.Memory.{Memory}
use Rattle.fd_prog.specs.Conditions.{condition_of}
use Rattle.fd_prog.specs.Expressions.{expression_of}
use Rattle.fd_prog.specs.Items.{CountedLoop, Counted, Side, Repeated, all_names_set}
use Rattle.fd_prog.specs.Programs.{program_of}
use Rattle.fd_prog.specs.Statements.{statements_of}
use Rattle.fd_prog.specs.Uses.{Stand, condition_uses, counted, expression_uses, for_all_ranks, uses_among}
use Rattle.section_num.specs.declared.firsts.Use.{Use as FirstUse}
use Rattle.section_num.specs.Views.{around_of, names_of, noted_of}
use Rattle.section_num.specs.Noting.{Noted, nodes_noted}
use Rattle.section_num.proofs.Notings.{if_noted, loop_noted}
use Rattle.section_num.proofs.Copied.{same_loop}
use Rattle.section_num.proofs.walking.+walking.Goals as goal

pub note_if-returns-clause-noted : goal.note_if-returns-clause-noted
note_if-returns-clause-noted t c =
    let p = program_of c.args.program.now in
    let around = around_of c.args.around.now in
    let test = condition_uses (for_all_ranks p around c.args.line) (condition_of c.args.c.now) in
    let so = uses_among p (Side ∷ around) (statements_of c.args.so.now) in
    let otherwise = uses_among p (Side ∷ around) (statements_of c.args.otherwise.now) in
    if_noted c.close_both-2.result test so otherwise (noted_of c.args.book.now) _ _ _ _ _ _ c.in_ok-note_test.ensures.noted c.in_ok-close.ensures.noted c.in_ok-note_statements.ensures.noted c.in_ok-close_both.ensures.noted c.in_ok-note_statements-2.ensures.noted c.close_both-2.ensures.noted

pub note_while-returns-clause-noted : goal.note_while-returns-clause-noted
note_while-returns-clause-noted t c =
    let p = program_of c.args.program.now in
    let around = around_of c.args.around.now in
    let test = condition_uses (for_all_ranks p around c.args.line) (condition_of c.args.c.now) in
    let body = uses_among p (Repeated ∷ around) (statements_of c.args.body.now) in
    loop_noted c.note_test-2.result test test body (noted_of c.args.book.now) _ _ _ _ c.in_ok-note_test.ensures.noted c.in_ok-close.ensures.noted c.in_ok-note_statements.ensures.noted c.note_test-2.ensures.noted

pub note_do-returns-clause-noted : goal.note_do-returns-clause-noted
note_do-returns-clause-noted t c =
    let p = program_of c.args.program.now in
    let around = around_of c.args.around.now in
    let s : Stand = for_all_ranks p around c.args.line in
    let first = expression_of c.args.first.now in
    let last = expression_of c.args.last.now in
    let step = expression_of c.args.step.now in
    let start = expression_uses s first ++ (expression_uses s last ++ expression_uses s step) in
    let body = uses_among p (counted c.args.var first last step (statements_of c.args.body.now) ∷ around) (statements_of c.args.body.now) in
    let sets : names_of c.in_ok-sets.sets ≡ all_names_set (statements_of c.args.body.now) =
    ap names_of c.in_ok-sets.ensures ∙ (c.in_ok-add_all_set.ensures ∙ ap (λ ns. names_of ns ++ all_names_set (statements_of c.args.body.now)) c.new-names.ensures) in
    let counts = same_loop c.args.var c.in_ok-bounds.bounds first last step (names_of c.in_ok-sets.sets) (all_names_set (statements_of c.args.body.now)) c.in_ok-bounds.ensures.first c.in_ok-bounds.ensures.last c.in_ok-bounds.ensures.step sets in
    let inside : CountedLoop → Noted = λ l. nodes_noted (uses_among p (Counted l ∷ around) (statements_of c.args.body.now)) (noted_of c.close.new.self) in
    loop_noted c.close-2.result start [] body (noted_of c.args.book.now) _ _ _ _ c.in_ok-note_bounds.ensures.noted c.in_ok-close.ensures.noted (c.in_ok-note_statements.ensures.noted ∙ ap inside counts) c.close-2.ensures.noted

-- first uses that stay as they were are as few
still_few : (r : Result (Unit {0}) Memory) (new old : List FirstUse) → OnOk r (new ≡ old) → length old ≤ 512 → OnOk r (length new ≤ 512)
still_few (Ok x) new old e h = subst (λ (xs : List FirstUse). length xs ≤ 512) (sym e) h
still_few (Err x) new old e h = tt

pub note_do-returns-clause-count : goal.note_do-returns-clause-count
note_do-returns-clause-count t c = still_few c.close-2.result c.close-2.new.self.firsts _ c.close-2.ensures.count c.in_ok-note_statements.ensures.count
