use Rattle.std.proofs.Common.{◌≡◌, ℕ, List, map, IfSome, Ok, sym, subst, ◌∙◌}
use Rattle.fd_prog.specs.Items.{all_loop_forms, linear_loop_of}
use Rattle.section_num.specs.Views.{loops_of}
use Rattle.section_num.proofs.referring.item_over.Goals as goal

pub forms_from-requires-clause-kept : goal.forms_from-requires-clause-kept
forms_from-requires-clause-kept c =
    subst (λ (b : List ℕ). IfSome c.args.kept (λ forms. all_loop_forms b (loops_of c.args.loops.now) ≡ Ok (map linear_loop_of forms.now))) (sym (c.deref-3.ensures.value ∙ c.in_ok-bound.ensures)) c.requires.kept
