use Rattle.fd_prog.specs.Expressions.{expression_of}
use Rattle.fd_prog.specs.Programs.{program_of}
use Rattle.fd_prog.specs.Uses.{Stand, expression_uses, for_all_ranks}
use Rattle.section_num.specs.Views.{around_of, noted_of}
use Rattle.section_num.proofs.Notings.{closed_three}
use Rattle.section_num.proofs.walking.note_bounds.Goals as goal

pub returns-clause-noted : goal.returns-clause-noted
returns-clause-noted c =
    let t : Stand = for_all_ranks (program_of c.args.program.now) (around_of c.args.around.now) c.args.line in
    let us = expression_uses t (expression_of c.args.first.now) in
    let vs = expression_uses t (expression_of c.args.last.now) in
    let ws = expression_uses t (expression_of c.args.step.now) in
    closed_three c.close.result us vs ws (noted_of c.args.book.now) _ _ _ _ c.in_ok-note_expression.ensures.noted c.in_ok-note_expression-2.ensures.noted c.in_ok-note_expression-3.ensures.noted c.close.ensures.noted
