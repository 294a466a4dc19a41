-- A distributed reference whose subscripts have forms has its item, or is local.
use Rattle.std.proofs.Common.{◌≡◌, ℕ, List, [], Some, None, Result, Ok, Err, IsOk, refl, ◌∙◌}
use Rattle.std.specs.Result.{result_err}
use Rattle.fd_base.specs.declared.numbering.Line.{Line}
use Rattle.fd_prog.specs.declared.form.FormRefusal.{FormRefusal}
use Rattle.fd_prog.specs.Outcomes.{and_then}
use Rattle.fd_prog.specs.Expressions.{Expressions}
use Rattle.fd_prog.specs.Programs.{CheckedProgram}
use Rattle.fd_prog.specs.FormOf.{forms_of_expressions}
use Rattle.fd_prog.specs.Homes.{Distribution, distribution_at, home_of_statement}
use Rattle.fd_prog.specs.Items.{Enclosing, item_of_reference}
use Rattle.fd_prog.specs.Statements.{Statement}
use Rattle.fd_prog.specs.Uses.{for_all_ranks, for_home_of}
use Rattle.fd_prog.proofs.Widening.{all_ranks-same, homes-same}

no_error : {A : Type 0} (r : Result A FormRefusal) → IsOk r → result_err r ≡ None
no_error (Ok x) h = refl
no_error (Err why) h = absurd cc

is_ok : {A : Type 0} (r : Result A FormRefusal) → result_err r ≡ None → IsOk r
is_ok (Ok x) h = refl
is_ok (Err why) h = absurd cc

then_ok : {A B : Type 0} (r : Result A FormRefusal) (next : Result B FormRefusal) → IsOk r → IsOk next → IsOk (and_then r (λ x. next))
then_ok (Ok x) next h k = k
then_ok (Err why) next h k = absurd cc

-- a reference that all ranks value
pub for_ranks : (p : CheckedProgram) (around : List Enclosing) (line : Line) (array : ℕ) (subs : Expressions) (d : Distribution) → distribution_at p array ≡ Some d
    → IsOk (forms_of_expressions [] subs) → IsOk (item_of_reference p (for_all_ranks p around line).setting array subs)
for_ranks p around line array subs d e h =
    is_ok (item_of_reference p (for_all_ranks p around line).setting array subs) (all_ranks-same p around line array subs d e ∙ no_error (forms_of_expressions [] subs) h)

-- and one that the home of a statement values
pub for_home : (p : CheckedProgram) (around : List Enclosing) (line : Line) (s : Statement) (array : ℕ) (subs : Expressions) (d : Distribution) → distribution_at p array ≡ Some d
    → IsOk (forms_of_expressions [] subs) → IsOk (home_of_statement p [] s) → IsOk (item_of_reference p (for_home_of p around line s).setting array subs)
for_home p around line s array subs d e h k =
    is_ok (item_of_reference p (for_home_of p around line s).setting array subs)
    (homes-same p around line s array subs d e ∙ no_error (and_then (forms_of_expressions [] subs) (λ fs. home_of_statement p [] s)) (then_ok (forms_of_expressions [] subs) (home_of_statement p [] s) h k))
