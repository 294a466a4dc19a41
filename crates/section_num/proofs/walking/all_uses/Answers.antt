use Rattle.std.proofs.Common.{List, [], ◌∷◌, sym, ap, ◌∙◌}
use Rattle.fd_prog.specs.Programs.{program_of}
use Rattle.fd_prog.specs.Uses.{Use, uses_among}
use Rattle.section_num.specs.Noting.{at_start, closed, nodes_noted}
use Rattle.section_num.proofs.Notings.{nodes_noted-append}
use Rattle.section_num.proofs.walking.all_uses.Goals as goal

pub returns : goal.returns
returns c =
    let p = program_of c.args.program.now in
    let body : List (List Use) = uses_among p [] p.body in
    let inside = c.in_ok-note_statements.ensures.noted ∙ ap (nodes_noted body) (c.in_ok-close.ensures.noted ∙ ap closed c.in_ok-book.ensures.noted) in
    c.in_ok-close-2.ensures.noted ∙ (ap closed inside ∙ sym (nodes_noted-append body ([] ∷ []) (closed (at_start p.sites))))
