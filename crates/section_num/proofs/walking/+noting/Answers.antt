use Rattle.std.proofs.Common.{◌≡◌, ◌++◌}
use Rattle.fd_prog.specs.Expressions.{expression_of}
use Rattle.fd_prog.specs.Uses.{expression_uses}
use Rattle.section_num.specs.Views.{noted_of, stand_of}
use Rattle.section_num.proofs.Notings.{noted_then}
use Rattle.section_num.proofs.walking.+noting.Goals as goal

pub note_expression-returns-in_ok-note_expression-in-Bin-clause-noted :
    goal.note_expression-returns-in_ok-note_expression-in-Bin-clause-noted
note_expression-returns-in_ok-note_expression-in-Bin-clause-noted t c =
    let s = stand_of c.args.stand.now in
    let us = expression_uses s (expression_of c.deref-in-Bin.result.now) in
    let vs = expression_uses s (expression_of c.deref-in-Bin-2.result.now) in
    let e : expression_uses s (expression_of c.args.e.now) ≡ us ++ vs = rw (c.in-Bin.is, c.deref-in-Bin.ensures, c.deref-in-Bin-2.ensures) in
    noted_then c.note_expression-in-Bin-2.result us vs _ _ _ _ e c.in_ok-note_expression-in-Bin.ensures.noted c.note_expression-in-Bin-2.ensures.noted
