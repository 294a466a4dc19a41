use Rattle.std.proofs.Common.{◌≡◌, ◌<◌, ◌^◌, sym, subst}
use Rattle.fd_ast.specs.Tree.{nesting_among, program_tree}
use Rattle.fd_prog.specs.Mapped.{IsMapped}
use Rattle.fd_prog.specs.Programs.{CheckedProgram}
use Rattle.fd_prog.specs.WellFormed.{IsSoundProgram}
use Rattle.fd_prog.specs.Words.{SetWords}
use Rattle.fd_prog.specs.Checked.{IsCheckedProgram, depth_among, statements_references}
use Rattle.program_laws.specs.Accepted.{IsAcceptedProgram}
use Rattle.fd_names.specs.Checked.{base_of, seen_in_decls}
use Rattle.fd_names.specs.Distributed.{AreRegular, IsLocal}
use Rattle.fd_names.specs.Sites.{CountUp}
use Rattle.fd_names.proofs.Deep.{stmts_deep}
use Rattle.fd_names.proofs.Localized.{program_local}
use Rattle.fd_names.proofs.Mapped.{program_mapped}
use Rattle.fd_names.proofs.Numbered.{program_numbered}
use Rattle.fd_names.proofs.ProgramAccepted.{program_accepted}
use Rattle.fd_names.proofs.ProgramChecked.{program_checked}
use Rattle.fd_names.proofs.ProgramSound.{program_sound}
use Rattle.fd_names.proofs.checking.check.Goals as goal

pub returns-clause-sound : goal.returns-clause-sound
returns-clause-sound c = subst IsSoundProgram (sym c.in_ok-checked.ensures.program) (program_sound (program_tree c.args.tree.now) c.args.tree.now.end_line c.args.tree.now.rest c.in_ok-checked.ensures.accepted)

pub returns-clause-sites : goal.returns-clause-sites
returns-clause-sites c =
    let P : CheckedProgram → Type 0 = λ p. CountUp 0 (statements_references p.body) p.sites in
    subst P (sym c.in_ok-checked.ensures.program) (program_numbered (program_tree c.args.tree.now) c.args.tree.now.end_line c.args.tree.now.rest c.in_ok-checked.ensures.accepted)

pub returns-clause-nesting : goal.returns-clause-nesting
returns-clause-nesting c =
    let t = program_tree c.args.tree.now in
    let P : CheckedProgram → Type 0 = λ p. depth_among p.body ≡ nesting_among t.body in
    subst P (sym c.in_ok-checked.ensures.program) (stmts_deep (base_of t).table t.body (seen_in_decls t))

pub returns-clause-mapped : goal.returns-clause-mapped
returns-clause-mapped c = subst IsMapped (sym c.in_ok-checked.ensures.program) (program_mapped (program_tree c.args.tree.now) c.args.tree.now.end_line c.args.tree.now.rest c.in_ok-checked.ensures.accepted).mapped

pub returns-clause-regular : goal.returns-clause-regular
returns-clause-regular c = subst AreRegular (sym c.in_ok-checked.ensures.program) (program_mapped (program_tree c.args.tree.now) c.args.tree.now.end_line c.args.tree.now.rest c.in_ok-checked.ensures.accepted).regular

pub returns-clause-local : goal.returns-clause-local
returns-clause-local c = subst IsLocal (sym c.in_ok-checked.ensures.program) (program_local (program_tree c.args.tree.now) c.args.tree.now.end_line c.args.tree.now.rest c.in_ok-checked.ensures.accepted)

pub returns-clause-checked : goal.returns-clause-checked
returns-clause-checked c = λ nested.
    subst IsCheckedProgram (sym c.in_ok-checked.ensures.program) (program_checked (program_tree c.args.tree.now) c.args.tree.now.end_line c.args.tree.now.rest c.in_ok-checked.ensures.accepted nested)

pub returns-clause-kept : goal.returns-clause-kept
returns-clause-kept c = λ written nested.
    let is = c.in_ok-checked.ensures.program in
    let words = subst (λ (p : CheckedProgram). SetWords p.body) is c.numbers_are_words.ensures in
    let few = subst (λ (p : CheckedProgram). p.sites < 2 ^ 32) is c.is_count.ensures in
    subst IsAcceptedProgram (sym is) (program_accepted (program_tree c.args.tree.now) c.args.tree.now.end_line c.args.tree.now.rest c.in_ok-checked.ensures.accepted written nested words few)
