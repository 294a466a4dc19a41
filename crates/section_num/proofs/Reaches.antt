-- Over which loops an item is widened, by its names and by what it is widened over without these.
use Rattle.std.proofs.Common.{◌≡◌, ℕ, ◌+◌, ◌-◌, ◌<◌, Bool, true, false, not, ◌&&◌, ◌||◌, List, [], ◌∷◌, ◌++◌, length, map, Option, Some, None, IfSome, Bor, Result, Ok, Err, refl, sym, ap, subst, ◌∙◌, arith}
use Rattle.std.specs.List.{list_any}
use Rattle.std.proofs.lemmas.List.{append-nil, append_assoc, length-append}
use Rattle.std.proofs.lemmas.List.Elements.{filter-append}
use Rattle.std.proofs.lemmas.List.Folds.{list_any-append}
use Rattle.fd_prog.specs.declared.form.FormRefusal.{FormRefusal}
use Rattle.fd_prog.specs.declared.item.Widened.{Widened}
use Rattle.fd_prog.specs.Items.{Counted, CountedLoop, Enclosing, LinearLoop, Name, Repeated, ScalarName, Side, is_among, is_distributed, is_same_name, linear_loop_of, loop_forms, loop_names, may_widen, widened_over, widened_past, with_loop, without}
use Rattle.fd_prog.specs.Programs.{CheckedProgram}
use Rattle.section_num.specs.Views.{AreFormsOver, IsReached, around_of, forms_over, kept_forms, reach_of}
use Rattle.section_num.specs.declared.around.Around.{Around}
use Rattle.section_num.proofs.NameLists.{any-each, any_or}

-- some of these are among the names
abbrev pub is_touched : List Name → List Name → Bool
is_touched names sets = list_any (is_among names) sets

touched-append : (names others sets : List Name) → is_touched (names ++ others) sets ≡ (is_touched names sets || is_touched others sets)
touched-append names others sets =
    any-each (is_among (names ++ others)) (λ n. is_among names n || is_among others n) sets (λ n. list_any-append (is_same_name n) names others)
    ∙ any_or (is_among names) (is_among others) sets

-- the names of an item and others decide apart
may_apart : (p : CheckedProgram) (names others : List Name) (l : CountedLoop) (bounds : List Name) → may_widen p (names ++ others) l bounds ≡ (not (is_touched names l.sets) && may_widen p others l bounds)
may_apart p names others l bounds =
    ap (λ b. not (list_any (is_distributed p) bounds) && (not (is_among bounds (ScalarName l.var)) && not b)) (ap (λ ns. is_touched ns l.sets) (append_assoc names others bounds) ∙ touched-append names (others ++ bounds) l.sets)
    ∙ moved (list_any (is_distributed p) bounds) (is_among bounds (ScalarName l.var)) (is_touched names l.sets) (is_touched (others ++ bounds) l.sets)
  where
    moved : (a b c d : Bool) → (not a && (not b && not (c || d))) ≡ (not c && (not a && (not b && not d)))
    moved true b true d = refl
    moved true b false d = refl
    moved false true true d = refl
    moved false true false d = refl
    moved false false true d = refl
    moved false false false d = refl

without-append : (var : ℕ) (names others bounds : List Name) → without var ((names ++ others) ++ bounds) ≡ without var names ++ without var (others ++ bounds)
without-append var names others bounds =
    ap (without var) (append_assoc names others bounds) ∙ filter-append (λ n. not (is_same_name n (ScalarName var))) names (others ++ bounds)

longer : (l : CountedLoop) (xs : List CountedLoop) → length (xs ++ l ∷ []) ≡ length xs + 1
longer l xs = let e = length-append xs (l ∷ []) in omega (arith, e)

-- ---- where it ends

and_later : (a b : Bool) → b ≡ false → (not a && b) ≡ false
and_later true b e = refl
and_later false b e = e

no_room_by : (a b : Bool) (l : CountedLoop) (xs ys : List CountedLoop) (r : Bool) → b ≡ r → 0 ≡ length (with_loop b l xs) → with_loop (not a && b) l ys ≡ []
no_room_by a b l xs ys true e h = absurd (let m = longer l xs in let k = ap (λ c. length (with_loop c l xs)) e in omega (arith, h, m, k))
no_room_by a b l xs ys false e h = ap (λ c. with_loop c l ys) (and_later a b e)

-- what isn't widened over the loop without these names isn't with them
pub no_room : (p : CheckedProgram) (names others : List Name) (l : CountedLoop) (m : Result LinearLoop FormRefusal) (outer : List Name → List CountedLoop) → 0 ≡ length (widened_past p others l m outer) → widened_past p (names ++ others) l m outer ≡ []
no_room p names others l (Err why) outer h = refl
no_room p names others l (Ok f) outer h =
    ap (λ b. with_loop b l (outer (without l.var ((names ++ others) ++ loop_names f)))) (may_apart p names others l (loop_names f))
    ∙ no_room_by (is_touched names l.sets) (may_widen p others l (loop_names f)) l (outer (without l.var (others ++ loop_names f))) (outer (without l.var ((names ++ others) ++ loop_names f))) (may_widen p others l (loop_names f)) refl h

-- nor is what has a name that the body sets
pub is_stopped : (p : CheckedProgram) (names others : List Name) (l : CountedLoop) (m : Result LinearLoop FormRefusal) (outer : List Name → List CountedLoop) → is_touched names l.sets ≡ true → widened_past p (names ++ others) l m outer ≡ []
is_stopped p names others l (Err why) outer h = refl
is_stopped p names others l (Ok f) outer h =
    ap (λ b. with_loop b l (outer (without l.var ((names ++ others) ++ loop_names f)))) (may_apart p names others l (loop_names f) ∙ ap (λ a. not a && may_widen p others l (loop_names f)) h)

-- ---- where it goes on

on_by : (b : Bool) (l : CountedLoop) (room : ℕ) (xs ys zs : List CountedLoop) → 0 < room → room ≡ length (with_loop b l xs) → (room - 1 ≡ length xs → zs ≡ ys) → zs ++ l ∷ [] ≡ with_loop b l ys
on_by true l room xs ys zs h e f = ap (λ ws. ws ++ l ∷ []) (f (let m = longer l xs in omega (arith, e, m)))
on_by false l room xs ys zs h e f = absurd (omega (arith, h, e))

pub goes_on : (p : CheckedProgram) (names others : List Name) (l : CountedLoop) (m : Result LinearLoop FormRefusal) (outer : List Name → List CountedLoop) (room : ℕ) (zs : List CountedLoop)
    → 0 < room → is_touched names l.sets ≡ false → room ≡ length (widened_past p others l m outer)
    → ((more : List Name) → room - 1 ≡ length (outer more) → zs ≡ outer (without l.var names ++ more)) → zs ++ l ∷ [] ≡ widened_past p (names ++ others) l m outer
goes_on p names others l (Err why) outer room zs h t e f = absurd (omega (arith, h, e))
goes_on p names others l (Ok g) outer room zs h t e f =
    let bounds = loop_names g in
    on_by (may_widen p others l bounds) l room (outer (without l.var (others ++ bounds))) (outer (without l.var names ++ without l.var (others ++ bounds))) zs h e (f (without l.var (others ++ bounds)))
    ∙ (ap (λ ns. with_loop (may_widen p others l bounds) l (outer ns)) (sym (without-append l.var names others bounds))
    ∙ sym (ap (λ b. with_loop b l (outer (without l.var ((names ++ others) ++ bounds)))) (may_apart p names others l bounds ∙ ap (λ a. not a && may_widen p others l bounds) t)))

-- ---- over which loops without names

pub none_reached : (p : CheckedProgram) (l : CountedLoop) (f : LinearLoop) (outer : List Name → List CountedLoop) → may_widen p [] l (loop_names f) ≡ false → [] ≡ widened_past p [] l (Ok f) outer
none_reached p l f outer h = sym (ap (λ b. with_loop b l (outer (without l.var (loop_names f)))) h)

pub one_more_reached : (p : CheckedProgram) (l : CountedLoop) (f : LinearLoop) (outer : List Name → List CountedLoop) (zs : List CountedLoop) → may_widen p [] l (loop_names f) ≡ true → zs ≡ outer (without l.var (loop_names f) ++ [])
    → zs ++ l ∷ [] ≡ widened_past p [] l (Ok f) outer
one_more_reached p l f outer zs h e =
    let same : zs ≡ outer (without l.var (loop_names f)) = e ∙ ap outer (append-nil (without l.var (loop_names f))) in
    ap (λ ws. ws ++ l ∷ []) same ∙ sym (ap (λ b. with_loop b l (outer (without l.var (loop_names f)))) h)

-- ---- over as many loops as without names

same_by : (t m : Bool) (l : CountedLoop) (xs ys : List CountedLoop) → (length xs ≡ length ys → xs ≡ ys) → length (with_loop (not t && m) l xs) ≡ length (with_loop m l ys) → with_loop (not t && m) l xs ≡ with_loop m l ys
same_by true true l xs ys f h = absurd (let m = longer l ys in omega (arith, h, m))
same_by true false l xs ys f h = refl
same_by false true l xs ys f h = ap (λ ws. ws ++ l ∷ []) (f (let m = longer l xs in let n = longer l ys in omega (arith, h, m, n)))
same_by false false l xs ys f h = refl

same_past : (p : CheckedProgram) (names others : List Name) (l : CountedLoop) (m : Result LinearLoop FormRefusal) (outer : List Name → List CountedLoop)
    → ((ns os : List Name) → length (outer (ns ++ os)) ≡ length (outer os) → outer (ns ++ os) ≡ outer os)
    → length (widened_past p (names ++ others) l m outer) ≡ length (widened_past p others l m outer) → widened_past p (names ++ others) l m outer ≡ widened_past p others l m outer
same_past p names others l (Err why) outer f h = refl
same_past p names others l (Ok g) outer f h =
    let bounds = loop_names g in
    let xs = outer (without l.var names ++ without l.var (others ++ bounds)) in
    let ys = outer (without l.var (others ++ bounds)) in
    let apart : widened_past p (names ++ others) l (Ok g) outer ≡ with_loop (not (is_touched names l.sets) && may_widen p others l bounds) l xs =
    ap (λ b. with_loop b l (outer (without l.var ((names ++ others) ++ bounds)))) (may_apart p names others l bounds)
    ∙ ap (λ ns. with_loop (not (is_touched names l.sets) && may_widen p others l bounds) l (outer ns)) (without-append l.var names others bounds) in
    apart ∙ same_by (is_touched names l.sets) (may_widen p others l bounds) l xs ys (f (without l.var names) (without l.var (others ++ bounds))) (sym (ap length apart) ∙ h)

-- an item is then widened over the same loops
same_reached : (p : CheckedProgram) (around : List Enclosing) (names others : List Name) → length (widened_over p around (names ++ others)) ≡ length (widened_over p around others) → widened_over p around (names ++ others) ≡ widened_over p around others
same_reached p [] names others h = refl
same_reached p (Side ∷ around) names others h = refl
same_reached p (Repeated ∷ around) names others h = refl
same_reached p (Counted l ∷ around) names others h = same_past p names others l (loop_forms [] l) (widened_over p around) (λ ns os e. same_reached p around ns os e) h

-- so what is kept of the forms of those are the forms of these
pub kept_fits : (p : CheckedProgram) (a : Around) (names : List Name) (ls : List CountedLoop) (n : ℕ) (r : Option (Bor (List Widened))) → IsReached p a → ls ≡ widened_over p (around_of a) (names ++ []) → n ≡ length ls
    → IfSome r (λ w. (n ≡ reach_of a) × (kept_forms a ≡ Some w.now)) → IfSome r (λ w. forms_over ls ≡ Ok (map linear_loop_of w.now))
kept_fits p a names ls n None h e f g = tt
kept_fits p a names ls n (Some w) h e f g =
    let count : length (widened_over p (around_of a) (names ++ [])) ≡ length (widened_over p (around_of a) []) = sym (ap length e) ∙ (sym f ∙ (g.0 ∙ h.count)) in
    let same : ls ≡ widened_over p (around_of a) [] = e ∙ same_reached p (around_of a) names [] count in
    let forms : AreFormsOver (Some w.now) (widened_over p (around_of a) []) = subst (λ (k : Option (List Widened)). AreFormsOver k (widened_over p (around_of a) [])) g.1 h.forms in
    ap forms_over same ∙ forms
