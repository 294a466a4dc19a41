use Rattle.fd_prog.specs.Expressions.{expression_of}
use Rattle.fd_prog.specs.Programs.{program_of}
use Rattle.fd_prog.specs.Statements.{statement_of, target_of}
use Rattle.fd_prog.specs.Uses.{expression_uses, for_all_ranks, for_home_of, target_uses}
use Rattle.section_num.specs.Views.{around_of, noted_of}
use Rattle.section_num.proofs.Notings.{closed_two}
use Rattle.section_num.proofs.walking.note_assign.Goals as goal

pub returns-clause-noted : goal.returns-clause-noted
returns-clause-noted c =
    let p = program_of c.args.program.now in
    let around = around_of c.args.around.now in
    let us = target_uses (for_all_ranks p around c.args.line) (target_of c.args.target.now) in
    let vs = expression_uses (for_home_of p around c.args.line (statement_of c.args.s.now)) (expression_of c.args.e.now) in
    closed_two c.close.result us vs (noted_of c.args.book.now) _ _ _ c.in_ok-note_target.ensures.noted c.in_ok-note_expression.ensures.noted c.close.ensures.noted
