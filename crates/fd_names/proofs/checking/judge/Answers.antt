use Rattle.std.proofs.Common.{sym, ◌∙◌}
use Rattle.std.proofs.lemmas.Result.{err_from_is_err_and}
use Rattle.fd_ast.specs.Tree.{program_tree}
use Rattle.fd_names.proofs.FirstLaws.{answers_first, none_is}
use Rattle.fd_names.proofs.Parts.{finished_is}
use Rattle.fd_names.proofs.checking.judge.Goals as goal

pub returns-in-Some-clause-refused : goal.returns-in-Some-clause-refused
returns-in-Some-clause-refused c = answers_first _ _ _ (sym c.in_ok-walked.ensures.worst ∙ c.in-Some.is) c.answer.ensures

pub returns-in_err-program-in-None-clause-refused : goal.returns-in_err-program-in-None-clause-refused
returns-in_err-program-in-None-clause-refused c = let p = err_from_is_err_and c.from_residual-in_err-program-in-None.result c.from_residual-in_err-program-in-None.ensures.1 in rw (p.1, p.2) tt

pub returns-in_ok-program-in-None-clause-accepted : goal.returns-in_ok-program-in-None-clause-accepted
returns-in_ok-program-in-None-clause-accepted c = none_is _ (sym c.in_ok-walked.ensures.worst ∙ c.in-None.is)

pub returns-in_ok-program-in-None-clause-program : goal.returns-in_ok-program-in-None-clause-program
returns-in_ok-program-in-None-clause-program c =
    c.in_ok-program-in-None.ensures
    ∙ finished_is (program_tree c.args.tree.now) _ _ _ _ _ (none_is _ (sym c.in_ok-walked.ensures.worst ∙ c.in-None.is)) c.in_ok-walked.ensures.base c.in_ok-walked.ensures.seen c.in_ok-walked.ensures.body
