use Rattle.std.proofs.Common.{List, length, ap, subst, ◌∙◌, arith}
use Rattle.std.proofs.lemmas.List.{length-map}
use Rattle.fd_prog.specs.Items.{CountedLoop}
use Rattle.section_num.specs.Views.{AreFormsOver, counted_of, loops_of}
use Rattle.section_num.proofs.walking.reach_of_do.Goals as goal

pub returns-clause-count : goal.returns-clause-count
returns-clause-count c = omega (arith, c.len.ensures, length-map c.in_ok-loops.loops.items counted_of, ap length c.in_ok-loops.ensures.loops)

pub returns-clause-forms : goal.returns-clause-forms
returns-clause-forms c =
    subst (λ (ls : List CountedLoop). AreFormsOver c.in_ok-forms.forms ls) (ap loops_of c.deref.ensures.value ∙ c.in_ok-loops.ensures.loops) c.in_ok-forms.ensures
