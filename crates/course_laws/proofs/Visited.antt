-- At each moment of a course, the present iteration of the loops that an item is widened over is visited.
use Rattle.std.proofs.Common.{◌≡◌, ℕ, zero, suc, ◌<◌, ◌≤◌, ℤ, true, List, [], ◌∷◌, ◌++◌, take, length, All, Contains, Option, Ok, inl, inr, refl, sym, ap, ◌∙◌, subst, arith}
use Rattle.std.proofs.lemmas.List.{append-nil}
use Rattle.std.proofs.lemmas.List.Elements.{All-contains}
use Rattle.fd_base.specs.Numbers.{fits_i64}
use Rattle.fd_prog.specs.Items.{LinearItem, LinearLoop, Name, all_loop_forms}
use Rattle.fd_prog.specs.Needs.{all_iterations, iterations_inside, visited}
use Rattle.fd_prog.specs.Sequence.{Task}
use Rattle.fd_prog.specs.Stores.{readings_of}
use Rattle.fd_prog.specs.Values.{Readings}
use Rattle.fd_prog.specs.Words.{SetWords}
use Rattle.program_laws.specs.Accepted.{IsAcceptedProgram}
use Rattle.course_laws.specs.Courses.{Around, InSide, InWhile, InDo, IsCourse, Moment, Point}
use Rattle.course_laws.specs.Widened.{iteration_at, variables_of, widened_at}
use Rattle.course_laws.proofs.Moments.{moments-ok}
use Rattle.course_laws.proofs.Opens.{MomentOk, OpensOk}
use Rattle.course_laws.proofs.Visiting.{NestHere, Visits, turned_in, vars_in, visit}

-- an entry with few before it is among the first
take-reach : {A : Type 0} (front : List A) (x : A) (rest : List A) (n : ℕ) → length front < n → Contains (take n (front ++ (x ∷ rest))) x
take-reach front x rest zero h = absurd (omega (arith, h))
take-reach [] x rest (suc n) h = (0, omega arith, refl)
take-reach (y ∷ front) x rest (suc n) h = let c = take-reach front x rest n (omega (arith, h)) in (suc c.0, omega (arith, c.1), c.2)

nothing-nested : (around : List Around) → NestHere around []
nothing-nested [] = tt
nothing-nested (InSide ∷ around) = tt
nothing-nested (InWhile ∷ around) = tt
nothing-nested (InDo d ∷ around) = tt

turned-limit : (t : Task) (now : Point) (around : List Around) → OpensOk t around now → turned_in around ≤ t.limit
turned-limit t now [] h = omega arith
turned-limit t now (InSide ∷ around) h = omega arith
turned-limit t now (InWhile ∷ around) h = omega arith
turned-limit t now (InDo d ∷ around) h = h.0.limit

-- without loops there is one iteration
abbrev no_numbers : List ℤ
no_numbers = []

one-iteration : (r : Readings) (n : ℕ) → 0 < n → Contains (take n (all_iterations r [])) no_numbers
one-iteration r zero h = absurd (omega (arith, h))
one-iteration r (suc n) h = (0, omega arith, refl)

among-visited : (r : Readings) (outs : List LinearLoop) (vs : List ℤ) (steps limit : ℕ) → 0 < limit → steps ≤ limit → Visits r outs [] vs steps → Contains (take limit (all_iterations r outs)) vs
among-visited r outs vs steps limit some le (inl (none, blank)) = subst (λ os. Contains (take limit (all_iterations r os)) vs) (sym none) (subst (λ (ws : List ℤ). Contains (take limit (all_iterations r [])) ws) (sym blank) (one-iteration r limit some))
among-visited r [] vs steps limit some le (inr x) = absurd (no x.front x.is)
  where
    no : (front : List (List ℤ)) → [] ≡ front ++ (vs ∷ (iterations_inside r [] vs ++ x.back)) → ⊥
    no [] e = absurd (cc)
    no (y ∷ front) e = absurd (cc)
among-visited r (o ∷ outs) vs steps limit some le (inr x) =
    let before = x.before in
    let all : iterations_inside r (o ∷ outs) [] ≡ x.front ++ (vs ∷ (iterations_inside r [] vs ++ x.back)) = ap (λ os. iterations_inside r (o ∷ os) []) (sym (append-nil outs)) ∙ x.is in
    subst (λ its. Contains (take limit its) vs) (sym all) (take-reach x.front vs (iterations_inside r [] vs ++ x.back) limit (omega (arith, before, le)))

pub open-visited : (t : Task) (ms : List Moment) (end : Option Point) (m : Moment) (names : List Name) (x : LinearItem) → IsAcceptedProgram t.program → All (λ n. fits_i64 n ≡ true) t.input → SetWords t.program.body → IsCourse t ms end → Contains ms m → 0 < t.limit
    → all_loop_forms (variables_of (widened_at t.program m names)) (widened_at t.program m names) ≡ Ok x.loops → Contains (visited (readings_of t.program m.now.store) x t.limit) (iteration_at m (widened_at t.program m names))
open-visited t ms end m names x accepted fit words c member some e =
    let ok = All-contains (MomentOk t) ms m (moments-ok t ms end accepted fit words c) member in
    let loops = widened_at t.program m names in
    let forms = subst (λ b. all_loop_forms b loops ≡ Ok x.loops) (sym (append-nil (vars_in loops))) e in
    among-visited (readings_of t.program m.now.store) x.loops (iteration_at m loops) (turned_in m.around) t.limit some (turned-limit t m.now m.around ok) (visit t m.now m.around names ok [] [] tt (nothing-nested m.around) x.loops forms)
