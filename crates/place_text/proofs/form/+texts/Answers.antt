use Rattle.std.proofs.Common.{arith, rules, append_assoc}
use Rattle.std.proofs.lemmas.Grind.{common_steps}
use Rattle.place_text.proofs.Joined.{join_first}
use Rattle.place_text.proofs.form.+texts.Goals as goal

pub append_joined-returns-in_ok-append_form-in-More : goal.append_joined-returns-in_ok-append_form-in-More
append_joined-returns-in_ok-append_form-in-More t c = rw (c.in-More.is, join_first) (first_of (grind (arith, common_steps), search (rules, append_assoc), grind (arith, append_assoc)))
