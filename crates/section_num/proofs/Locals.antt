-- The item of a reference that isn't local, from its parts.
use Rattle.std.proofs.Common.{◌≡◌, ℕ, false, List, [], Some, Result, Ok, Err, sym, ap, ◌∙◌}
use Rattle.fd_prog.specs.declared.form.FormRefusal.{FormRefusal}
use Rattle.fd_prog.specs.Outcomes.{and_then}
use Rattle.fd_prog.specs.Expressions.{Expressions}
use Rattle.fd_prog.specs.Forms.{LinearForm, LinearForms}
use Rattle.fd_prog.specs.FormOf.{forms_of_expressions}
use Rattle.fd_prog.specs.Programs.{CheckedProgram}
use Rattle.fd_prog.specs.Homes.{Distribution, Executor, location_of}
use Rattle.fd_prog.specs.Items.{CountedLoop, LinearItem, Setting, is_local, item_by, item_names, item_over, widened_over}
use Rattle.owner_part.specs.Distributions.{form_of_location}

plain_subs : (array : ℕ) (fs : Result LinearForms FormRefusal) (home : Result Executor FormRefusal) (x : LinearItem) → and_then fs (λ f. and_then home (λ h. Ok (record { array = array; subs = f; loops = []; home = h }))) ≡ Ok x → fs ≡ Ok x.subs
plain_subs array (Ok f) (Ok h) x e =
    let made : LinearItem = record { array = array; subs = f; loops = []; home = h } in
    let same : made ≡ x = cc in
    ap Ok (ap (λ (y : LinearItem). y.subs) same)
plain_subs array (Ok f) (Err why) x e = absurd cc
plain_subs array (Err why) home x e = absurd cc

-- the subscripts of an item that isn't widened
item_subs : (s : Setting) (array : ℕ) (subs : Expressions) (x : LinearItem) → item_over s array subs [] ≡ Ok x → forms_of_expressions [] subs ≡ Ok x.subs
item_subs s array subs x e = plain_subs array (forms_of_expressions [] subs) (s.home []) x e

location_in : (d : Distribution) (fs : Result LinearForms FormRefusal) (ss : LinearForms) (f : LinearForm) → fs ≡ Ok ss → and_then fs (λ gs. Ok (location_of d gs).form) ≡ Ok f → f ≡ (location_of d ss).form
location_in d (Ok gs) ss f e h =
    let same : gs ≡ ss = cc in
    let form : (location_of d gs).form ≡ f = cc in
    sym form ∙ ap (λ (xs : LinearForms). (location_of d xs).form) same
location_in d (Err why) ss f e h = absurd cc

-- the location that is compared is that of the item's own subscripts
pub location_is : (s : Setting) (d : Distribution) (array : ℕ) (subs : Expressions) (x : LinearItem) (f : LinearForm) → item_over s array subs [] ≡ Ok x → form_of_location d [] subs ≡ Ok f → f ≡ (location_of d x.subs).form
location_is s d array subs x f e h = location_in d (forms_of_expressions [] subs) x.subs f (item_subs s array subs x e) h

-- where a reference isn't local its item is widened over these loops
pub widened_item : (p : CheckedProgram) (s : Setting) (d : Distribution) (array : ℕ) (subs : Expressions) (plain : LinearItem) (loops : List CountedLoop) → item_over s array subs [] ≡ Ok plain → is_local d plain.subs plain.home ≡ false → loops ≡ widened_over p s.around (item_names p plain) → item_by p s array subs (Some d) ≡ and_then (item_over s array subs loops) (λ x. Ok (Some x))
widened_item p s d array subs plain loops e local w = rw (e, local, w)
