use Rattle.std.proofs.Common.{ℕ, List, sym, ap, ◌∙◌}
use Rattle.fd_prog.specs.Items.{all_loop_forms}
use Rattle.section_num.specs.Views.{loops_of}
use Rattle.section_num.proofs.referring.kept_over.Goals as goal

pub returns-in-Ok : goal.returns-in-Ok
returns-in-Ok c = ap (λ (b : List ℕ). all_loop_forms b (loops_of c.args.loops.now)) (sym (c.deref.ensures.value ∙ c.in_ok-bound.ensures)) ∙ c.in-Ok.ensures.found
