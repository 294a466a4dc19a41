use Rattle.std.proofs.Common.{[], ◌∙◌, refl, sym, ap, not}
use Rattle.fd_prog.specs.Programs.{program_of}
use Rattle.section_num.proofs.NameLists.{stopped, passed, tests_are}
use Rattle.section_num.proofs.widening.may_widen.Goals as goal

pub returns-then-not-has_name : goal.returns-then-not-has_name
returns-then-not-has_name c =
    passed c.has_distributed.result _ _ _ c.has_distributed.ensures c.if-not-has_distributed.true
    (passed c.has_name.result _ _ _ c.has_name.ensures c.if-not-has_name.true (ap not c.has_any.ensures))
    ∙ sym (tests_are (program_of c.args.program.now) [] c.args.l.now c.args.bounds.now c.args.bounds.now refl)

pub returns-else-not-has_name : goal.returns-else-not-has_name
returns-else-not-has_name c =
    passed c.has_distributed.result _ _ _ c.has_distributed.ensures c.if-not-has_distributed.true
    (stopped c.has_name.result _ _ c.has_name.ensures c.if-not-has_name.false)
    ∙ sym (tests_are (program_of c.args.program.now) [] c.args.l.now c.args.bounds.now c.args.bounds.now refl)

pub returns-else-not-has_distributed : goal.returns-else-not-has_distributed
returns-else-not-has_distributed c =
    stopped c.has_distributed.result _ _ c.has_distributed.ensures c.if-not-has_distributed.false
    ∙ sym (tests_are (program_of c.args.program.now) [] c.args.l.now c.args.bounds.now c.args.bounds.now refl)
