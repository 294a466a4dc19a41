-- What a reference reads at a moment is the rank's own, or one of the rank's needs.
use Rattle.std.proofs.Common.{◌≡◌, ℕ, suc, ◌<◌, ◌==◌, ℤ, pos, Bool, true, false, ◌&&◌, cond, List, [], ◌∷◌, map, length, slice_index_or, All, Contains, Option, Some, None, Result, Ok, ◌⊎◌, refl, sym, ap, ◌∙◌, subst}
use Rattle.std.proofs.lemmas.Bool.{eq-eqb}
use Rattle.std.proofs.lemmas.List.{length-map}
use Rattle.std.proofs.lemmas.List.Elements.{All-contains}
use Rattle.fd_base.specs.Numbers.{fits_i64}
use Rattle.fd_base.specs.Places.{is_owner}
use Rattle.fd_base.specs.Shapes.{ordinal_of}
use Rattle.fd_prog.specs.declared.form.FormRefusal.{FormRefusal}
use Rattle.fd_prog.specs.Expressions.{Expressions}
use Rattle.fd_prog.specs.Forms.{LinearForms}
use Rattle.fd_prog.specs.FormOf.{forms_of_expressions}
use Rattle.fd_prog.specs.FormValues.{AreWords, part_values}
use Rattle.fd_prog.specs.Homes.{Distribution, Executor, distribution_at}
use Rattle.fd_prog.specs.Items.{CountedLoop, LinearItem, LinearLoop, Setting, all_loop_forms, is_local, item_by, item_names, item_of_reference, item_over, item_unless_local, loop_forms}
use Rattle.fd_prog.specs.Mappings.{Mapping, array_place, sight_of}
use Rattle.fd_prog.specs.Needs.{Sight, executes_at, is_element, needs, reads_in}
use Rattle.fd_prog.specs.Outcomes.{and_then}
use Rattle.fd_prog.specs.Passed.{at_begin}
use Rattle.fd_prog.specs.Programs.{CheckedProgram}
use Rattle.fd_prog.specs.Sequence.{Task}
use Rattle.fd_prog.specs.Stores.{readings_of, shape_of}
use Rattle.fd_prog.specs.Values.{values_of}
use Rattle.fd_prog.specs.Words.{SetWords}
use Rattle.fd_prog.specs.Agreement.{AgreeOn}
use Rattle.fd_prog.proofs.Agreement.{needs_same, own_or_needed}
use Rattle.fd_prog.proofs.FormValues.{values-kept}
use Rattle.fd_prog.proofs.Runs.{and_then-ok}
use Rattle.fd_prog.proofs.StoredWords.{passed-words}
use Rattle.program_laws.specs.Accepted.{IsAcceptedProgram}
use Rattle.rank_part.proofs.Executing.{element-lt}
use Rattle.course_laws.specs.Courses.{IsCourse, Moment, Point, enclosing, first_point}
use Rattle.course_laws.specs.Ends.{first_progress}
use Rattle.course_laws.specs.Widened.{iteration_at, variables_of, widened_at}
use Rattle.course_laws.proofs.Onwards.{AtMoment, FitInput, all-onwards}
use Rattle.course_laws.proofs.Visited.{open-visited}

-- all numbers fit 64 bits at each moment
moment-words : (t : Task) (ms : List Moment) (end : Option Point) (m : Moment) → FitInput t → SetWords t.program.body → IsCourse t ms end → Contains ms m → AreWords (readings_of t.program m.now.store)
moment-words t ms end m fit words c member =
    let all = all-onwards t (λ n. ⊥) fit c (λ n i k. i) words in
    (All-contains (AtMoment t.program (λ n. ⊥) (first_point t)) ms m all.0 member).words (passed-words t (first_progress t) fit words at_begin)

-- as many forms as loops
as-many : (bound : List ℕ) (ls : List CountedLoop) (ms : List LinearLoop) → all_loop_forms bound ls ≡ Ok ms → length ms ≡ length ls
as-many bound [] ms h = let none : List LinearLoop = [] in let same : none ≡ ms = cc in ap length (sym same)
as-many bound (l ∷ ls) ms h =
    let a = and_then-ok (loop_forms bound l) (λ x. and_then (all_loop_forms bound ls) (λ xs. Ok (x ∷ xs))) ms h in
    let b = and_then-ok (all_loop_forms bound ls) (λ xs. Ok (a.0 ∷ xs)) ms a.2 in
    let same : a.0 ∷ b.0 ≡ ms = cc in
    ap length (sym same) ∙ ap suc (as-many bound ls b.0 b.1)

abbrev item_with : ℕ → LinearForms → List LinearLoop → Executor → LinearItem
item_with array fs ms who = record { array = array; subs = fs; loops = ms; home = who }

abbrev made : LinearItem → Result LinearItem FormRefusal
made x = Ok x

-- by an item that is widened over the loops at hand
over-present : (t : Task) (ms : List Moment) (end : Option Point) (m : Moment) (mapping : Mapping) (home : List ℕ → Result Executor FormRefusal) (array : ℕ) (subs : Expressions) (plain x : LinearItem) (xs : List ℤ) (n rank : ℕ)
    → IsAcceptedProgram t.program → FitInput t → SetWords t.program.body → IsCourse t ms end → Contains ms m → 0 < t.limit
    → item_over (record { around = map enclosing m.around; home = home }) array subs (widened_at t.program m (item_names t.program plain)) ≡ Ok x
    → values_of (readings_of t.program m.now.store) subs ≡ Ok xs → ordinal_of (shape_of t.program array) xs ≡ Ok n
    → ((bound : List ℕ) (h : Executor) → home bound ≡ Ok h → executes_at (sight_of t.program m.now.store mapping) (map (λ k. slice_index_or m.now.store.scalars k (pos 0)) bound) h rank ≡ true)
    → (is_owner (array_place mapping array) n rank ≡ true) ⊎ Contains (needs (sight_of t.program m.now.store mapping) x rank t.limit) n
over-present t ms end m mapping home array subs plain x xs n rank accepted fit words c member some over values named executes =
    subst (λ (y : LinearItem). (is_owner (array_place mapping array) n rank ≡ true) ⊎ Contains (needs s y rank t.limit) n) same
    (own_or_needed s item rank t.limit n vs (open-visited t ms end m (item_names p plain) item accepted fit words c member some f.1) reads (element-lt (shape_of p array) xs n named))
  where
    p : CheckedProgram
    p = t.program

    s : Sight
    s = sight_of p m.now.store mapping

    loops : List CountedLoop
    loops = widened_at p m (item_names p plain)

    bound : List ℕ
    bound = variables_of loops

    vs : List ℤ
    vs = iteration_at m loops

    a : (fs : LinearForms) × (forms_of_expressions bound subs ≡ Ok fs) × (and_then (home bound) (λ who. and_then (all_loop_forms bound loops) (λ ls. Ok (item_with array fs ls who))) ≡ Ok x)
    a = and_then-ok (forms_of_expressions bound subs) (λ fs. and_then (home bound) (λ who. and_then (all_loop_forms bound loops) (λ ls. Ok (item_with array fs ls who)))) x over

    b : (who : Executor) × (home bound ≡ Ok who) × (and_then (all_loop_forms bound loops) (λ ls. Ok (item_with array a.0 ls who)) ≡ Ok x)
    b = and_then-ok (home bound) (λ who. and_then (all_loop_forms bound loops) (λ ls. Ok (item_with array a.0 ls who))) x a.2

    f : (ls : List LinearLoop) × (all_loop_forms bound loops ≡ Ok ls) × (made (item_with array a.0 ls b.0) ≡ Ok x)
    f = and_then-ok (all_loop_forms bound loops) (λ ls. Ok (item_with array a.0 ls b.0)) x b.2

    item : LinearItem
    item = item_with array a.0 f.0 b.0

    same : item ≡ x
    same = cc (f.2)

    count : length vs ≡ length f.0
    count = length-map bound (λ k. slice_index_or m.now.store.scalars k (pos 0)) ∙ length-map loops (λ (l : CountedLoop). l.var) ∙ sym (as-many bound loops f.0 f.1)

    value : part_values (readings_of p m.now.store) vs a.0 ≡ Ok xs
    value = values-kept (readings_of p m.now.store) bound subs a.0 xs (moment-words t ms end m fit words c member) (λ array site k. refl) a.1 values

    both : (b c d : Bool) → b ≡ true → c ≡ true → d ≡ true → (b && (c && d)) ≡ true
    both true true true h i j = refl
    both true true false h i j = j
    both true false d h i j = i
    both false c d h i j = h

    reads : reads_in s item rank n vs ≡ true
    reads = both (length vs == length f.0) (executes_at s vs b.0 rank) (is_element n (and_then (part_values (readings_of p m.now.store) vs a.0) (ordinal_of (shape_of p array)))) (eq-eqb (length vs) (length f.0) count) (executes bound b.0 b.1)
        (ap (λ o. is_element n (and_then o (ordinal_of (shape_of p array)))) value ∙ ap (is_element n) named ∙ eq-eqb n n refl)

-- what a reference with an item reads at a moment
pub present : (t : Task) (ms : List Moment) (end : Option Point) (m : Moment) (mapping : Mapping) (home : List ℕ → Result Executor FormRefusal) (array : ℕ) (subs : Expressions) (x : LinearItem) (xs : List ℤ) (n rank : ℕ)
    → IsAcceptedProgram t.program → All (λ k. fits_i64 k ≡ true) t.input → SetWords t.program.body → IsCourse t ms end → Contains ms m → 0 < t.limit
    → item_of_reference t.program (record { around = map enclosing m.around; home = home }) array subs ≡ Ok (Some x)
    → values_of (readings_of t.program m.now.store) subs ≡ Ok xs → ordinal_of (shape_of t.program array) xs ≡ Ok n
    → ((bound : List ℕ) (h : Executor) → home bound ≡ Ok h → executes_at (sight_of t.program m.now.store mapping) (map (λ k. slice_index_or m.now.store.scalars k (pos 0)) bound) h rank ≡ true)
    → (is_owner (array_place mapping array) n rank ≡ true) ⊎ Contains (needs (sight_of t.program m.now.store mapping) x rank t.limit) n
present t ms end m mapping home array subs x xs n rank accepted fit words c member some item values named executes = by (distribution_at t.program array) item
  where
    set : Setting
    set = record { around = map enclosing m.around; home = home }

    Goal : Type 0
    Goal = (is_owner (array_place mapping array) n rank ≡ true) ⊎ Contains (needs (sight_of t.program m.now.store mapping) x rank t.limit) n

    unless : (plain : LinearItem) (b : Bool) → cond b (Ok None) (and_then (item_over set array subs (widened_at t.program m (item_names t.program plain))) (λ y. Ok (Some y))) ≡ Ok (Some x) → Goal
    unless plain true e = absurd (cc)
    unless plain false e =
        let o = and_then-ok (item_over set array subs (widened_at t.program m (item_names t.program plain))) (λ y. Ok (Some y)) (Some x) e in
        let same : o.0 ≡ x = cc (o.2) in
        over-present t ms end m mapping home array subs plain x xs n rank accepted fit words c member some (o.1 ∙ ap Ok same) values named executes

    by : (d : Option Distribution) → item_by t.program set array subs d ≡ Ok (Some x) → Goal
    by None e = absurd (cc)
    by (Some d) e =
        let o = and_then-ok (item_over set array subs []) (item_unless_local t.program set d array subs) (Some x) e in
        unless o.0 (is_local d o.0.subs o.0.home) o.2

-- and so it is in an earlier view that has the same of the names that the item's needs are read from
pub sent : (t : Task) (ms : List Moment) (end : Option Point) (m : Moment) (mapping : Mapping) (home : List ℕ → Result Executor FormRefusal) (array : ℕ) (subs : Expressions) (x : LinearItem) (xs : List ℤ) (n rank : ℕ) (earlier : Sight)
    → IsAcceptedProgram t.program → All (λ k. fits_i64 k ≡ true) t.input → SetWords t.program.body → IsCourse t ms end → Contains ms m → 0 < t.limit
    → item_of_reference t.program (record { around = map enclosing m.around; home = home }) array subs ≡ Ok (Some x)
    → values_of (readings_of t.program m.now.store) subs ≡ Ok xs → ordinal_of (shape_of t.program array) xs ≡ Ok n
    → ((bound : List ℕ) (h : Executor) → home bound ≡ Ok h → executes_at (sight_of t.program m.now.store mapping) (map (λ k. slice_index_or m.now.store.scalars k (pos 0)) bound) h rank ≡ true)
    → AgreeOn earlier (sight_of t.program m.now.store mapping) x → (is_owner (array_place mapping array) n rank ≡ true) ⊎ Contains (needs earlier x rank t.limit) n
sent t ms end m mapping home array subs x xs n rank earlier accepted fit words c member some item values named executes agree =
    subst (λ es. (is_owner (array_place mapping array) n rank ≡ true) ⊎ Contains es n) (needs_same earlier (sight_of t.program m.now.store mapping) x rank t.limit agree)
    (present t ms end m mapping home array subs x xs n rank accepted fit words c member some item values named executes)
