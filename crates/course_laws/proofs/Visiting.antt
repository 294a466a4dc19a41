-- The present iteration of the loops over which an item is widened is among the visited ones.
use Rattle.std.proofs.Common.{◌≡◌, ℕ, zero, suc, ◌+◌, ◌<◌, ◌≤◌, ◌==◌, ℤ, pos, Bool, true, false, not, cond, List, [], ◌∷◌, ◌++◌, map, flat_map, length, get_or, slice_index_or, Contains, Option, Some, None, Result, Ok, Err, ◌⊎◌, inl, inr, refl, sym, ap, ◌∙◌, subst, arith, append_assoc, length-append}
use Rattle.std.specs.List.{position, position_from}
use Rattle.std.proofs.lemmas.Bool.{eqb-true, eq-eqb}
use Rattle.std.proofs.lemmas.Grind.{flat_map-append}
use Rattle.std.proofs.lemmas.Iterator.Adapters.{position_from-zero}
use Rattle.std.proofs.lemmas.List.{map-append}
use Rattle.std.proofs.lemmas.List.Elements.{All-weaker, All-contains, All-contains_itself, All-filter, Contains-append_cases, Contains-append_left, Contains-append_right}
use Rattle.std.proofs.lemmas.List.Quantifiers.{position-Some}
use Rattle.std.proofs.lemmas.List.Elements.{filter_passes}
use Rattle.fd_base.specs.Numbers.{fits_i64}
use Rattle.fd_prog.specs.declared.form.FormRefusal.{FormRefusal}
use Rattle.fd_prog.specs.Items.{CountedLoop, LinearLoop, Name, ScalarName, ArrayName, DecompName, all_loop_forms, all_names_set, is_same_name, loop_forms, loop_names, may_widen, widened_over, widened_past, with_loop, without}
use Rattle.fd_prog.specs.Needs.{iterations_inside, loop_numbers, numbers_in}
use Rattle.fd_prog.specs.Outcomes.{and_then}
use Rattle.fd_prog.specs.Programs.{CheckedProgram}
use Rattle.fd_prog.specs.Sequence.{Task}
use Rattle.fd_prog.specs.Stores.{Store, readings_of}
use Rattle.fd_prog.specs.Values.{Readings}
use Rattle.fd_prog.proofs.Runs.{and_then-ok}
use Rattle.course_laws.specs.Courses.{Around, InSide, InWhile, InDo, Loop, OpenLoop, Point, enclosing}
use Rattle.course_laws.proofs.Covering.{ChainTells, Held, Nested, counted_of}
use Rattle.course_laws.proofs.Numbers.{begun_before, begun_by, number_of, numbers-split, numbers_between}
use Rattle.course_laws.proofs.Onwards.{Unset}
use Rattle.course_laws.proofs.Opens.{NestsIn, OpensOk, Within, same-back, scalars-back, set_by, within-outer}
use Rattle.course_laws.proofs.Tells.{HasSame, IsOutside, WhereAt, scalars_at}
use Rattle.course_laws.proofs.Widened.{ChainForms, chain-other, chain-tells, kept-name, may-own, may-unset, nested-sets, same-name, vars_of}

-- ---- lists

-- an entry of a list, what follows it, and how many stand before it at most
pub record Reaches (all inside : List (List ℤ)) (vs : List ℤ) (steps : ℕ) : Type 0 where
  pub front : List (List ℤ)
  pub back : List (List ℤ)
  pub is : all ≡ front ++ (vs ∷ (inside ++ back))
  pub before : length front < steps

-- no loop is widened, or the present iteration of those that are is reached
abbrev pub Visits : Readings → List LinearLoop → List LinearLoop → List ℤ → ℕ → Type 0
Visits r outs ms vs steps = ((outs ≡ []) × (vs ≡ [])) ⊎ Reaches (iterations_inside r (outs ++ ms) []) (iterations_inside r ms vs) vs steps

regroup : {A : Type 0} (f : List A) (x : A) (y : List A) (w : A) (i g b : List A) → f ++ (x ∷ ((y ++ (w ∷ (i ++ g))) ++ b)) ≡ (f ++ (x ∷ y)) ++ (w ∷ (i ++ (g ++ b)))
regroup f x y w i g b =
    ap (λ z. f ++ (x ∷ z)) (append_assoc y (w ∷ (i ++ g)) b ∙ ap (λ z. y ++ (w ∷ z)) (append_assoc i g b))
    ∙ sym (append_assoc f (x ∷ y) (w ∷ (i ++ (g ++ b))))

-- the iterations of a loop and those inside, at an iteration
at-number : (r : Readings) (m : LinearLoop) (ms : List LinearLoop) (vs : List ℤ) (first by : ℤ) (count number : ℕ) → loop_numbers r vs m ≡ Ok (record { first = first; by = by; count = count }) → number < count
    → ((i : ℕ) → i < suc number → fits_i64 (number_of first by i) ≡ true)
    → (back : List (List ℤ)) × (iterations_inside r (m ∷ ms) vs
    ≡ flat_map (begun_by r ms vs) (numbers_between first by 0 number) ++ ((vs ++ number_of first by number ∷ []) ∷ (iterations_inside r ms (vs ++ number_of first by number ∷ []) ++ back)))
at-number r m ms vs first by count number is below fits =
    let s = numbers-split first by 0 count number below (λ i l k. fits i (omega (arith, k))) in (
      flat_map (begun_by r ms vs) s.0,
      ap (λ o. flat_map (begun_by r ms vs) (numbers_in o)) is ∙ ap (flat_map (begun_by r ms vs)) s.1
          ∙ ap (λ k. flat_map (begun_by r ms vs) (numbers_between first by 0 number ++ (number_of first by k ∷ s.0))) (none number)
          ∙ flat_map-append (begun_by r ms vs) (numbers_between first by 0 number) (number_of first by number ∷ s.0),
    )
  where
    none : (n : ℕ) → 0 + n ≡ n
    none n = omega arith

-- one loop further in
one-more : (r : Readings) (outs : List LinearLoop) (m : LinearLoop) (ms : List LinearLoop) (vs : List ℤ) (first by : ℤ) (count number outer began turned : ℕ) → loop_numbers r vs m ≡ Ok (record { first = first; by = by; count = count }) → number < count
    → ((i : ℕ) → i < suc number → fits_i64 (number_of first by i) ≡ true) → outer ≤ began → began + begun_before r ms vs first by number < turned → Visits r outs (m ∷ ms) vs outer
    → Reaches (iterations_inside r ((outs ++ m ∷ []) ++ ms) []) (iterations_inside r ms (vs ++ number_of first by number ∷ [])) (vs ++ number_of first by number ∷ []) turned
one-more r outs m ms vs first by count number outer began turned is below fits le paid (inl (none, blank)) =
    let at = at-number r m ms vs first by count number is below fits in
    record {
      front = flat_map (begun_by r ms vs) (numbers_between first by 0 number);
      back = at.0;
      is = ap (λ os. iterations_inside r ((os ++ m ∷ []) ++ ms) []) none ∙ ap (iterations_inside r (m ∷ ms)) (sym blank) ∙ at.1;
      before = omega (arith, paid);
    }
one-more r outs m ms vs first by count number outer began turned is below fits le paid (inr x) =
    let at = at-number r m ms vs first by count number is below fits in
    let y = flat_map (begun_by r ms vs) (numbers_between first by 0 number) in
    let w = vs ++ number_of first by number ∷ [] in
    let long = length-append x.front (vs ∷ y) in
    let before = x.before in
    record {
      front = x.front ++ (vs ∷ y);
      back = at.0 ++ x.back;
      is = ap (λ os. iterations_inside r os []) (append_assoc outs (m ∷ []) ms) ∙ x.is ∙ ap (λ z. x.front ++ (vs ∷ (z ++ x.back))) at.1 ∙ regroup x.front vs y w (iterations_inside r ms w) at.0 x.back;
      before = omega (arith, long, before, le, paid);
    }

-- ---- forms

abbrev pub vars_in : List CountedLoop → List ℕ
vars_in loops = map (λ (l : CountedLoop). l.var) loops

-- the forms of loops with one more
forms-split : (bound : List ℕ) (xs : List CountedLoop) (l : CountedLoop) (ms : List LinearLoop) → all_loop_forms bound (xs ++ (l ∷ [])) ≡ Ok ms
    → (outs : List LinearLoop) × (m : LinearLoop) × (all_loop_forms bound xs ≡ Ok outs) × (loop_forms bound l ≡ Ok m) × (ms ≡ outs ++ (m ∷ []))
forms-split bound [] l ms h =
    let a = and_then-ok (loop_forms bound l) (λ m. and_then (all_loop_forms bound []) (λ ns. Ok (m ∷ ns))) ms h in
    let same : a.0 ∷ [] ≡ ms = cc in
    ([], a.0, refl, a.1, sym same)
forms-split bound (x ∷ xs) l ms h =
    let a = and_then-ok (loop_forms bound x) (λ m. and_then (all_loop_forms bound (xs ++ (l ∷ []))) (λ ns. Ok (m ∷ ns))) ms h in
    let b = and_then-ok (all_loop_forms bound (xs ++ (l ∷ []))) (λ ns. Ok (a.0 ∷ ns)) ms a.2 in
    let same : a.0 ∷ b.0 ≡ ms = cc in
    let rest = forms-split bound xs l b.0 b.1 in (
      a.0 ∷ rest.0,
      rest.1,
      ap (λ o. and_then o (λ m. and_then (all_loop_forms bound xs) (λ ns. Ok (m ∷ ns)))) a.1 ∙ ap (λ o. and_then o (λ ns. Ok (a.0 ∷ ns))) rest.2,
      rest.3,
      sym same ∙ ap (λ zs. a.0 ∷ zs) rest.4,
    )

-- a number that stands in a list has a position there
none-from : (test : ℕ → Bool) (i : ℕ) (xs : List ℕ) → position_from test i xs ≡ None → (k d : ℕ) → k < length xs → test (get_or xs k d) ≡ false
none-from test i [] h k d l = absurd (omega (arith, l))
none-from test i (x ∷ xs) h k d l = by (test x) refl h (λ g j m. none-from test (i + 1) xs g j d m) k l
  where
    by : (b : Bool) → test x ≡ b → cond b (Some i) (position_from test (i + 1) xs) ≡ None → (position_from test (i + 1) xs ≡ None → (j : ℕ) → j < length xs → test (get_or xs j d) ≡ false) → (k : ℕ) → k < suc (length xs) → test (get_or (x ∷ xs) k d) ≡ false
    by true e g rest k l = absurd (cc)
    by false e g rest zero l = e
    by false e g rest (suc k) l = rest g k (omega (arith, l))

no-position : (bound : List ℕ) (k : ℕ) → position (λ b. b == k) bound ≡ None → Contains bound k → ⊥
no-position bound k h c =
    let no = none-from (λ b. b == k) 0 bound (sym (position_from-zero (λ b. b == k) bound) ∙ h) c.0 k c.1 in
    let yes = ap (λ z. z == k) c.2 ∙ eq-eqb k k refl in
    absurd (cc (no, yes))

-- an entry of two lists together
which : (xs ys : List ℕ) (j : ℕ) → j < length (xs ++ ys) → (j < length xs) ⊎ Contains ys (get_or (xs ++ ys) j 0)
which [] ys j l = inr (j, l, same ys j l)
  where
    same : (ys : List ℕ) (j : ℕ) → j < length ys → get_or ys j (get_or ys j 0) ≡ get_or ys j 0
    same [] j l = absurd (omega (arith, l))
    same (y ∷ ys) zero l = refl
    same (y ∷ ys) (suc j) l = same ys j (omega (arith, l))
which (x ∷ xs) ys zero l = inl (omega arith)
which (x ∷ xs) ys (suc j) l = by (which xs ys j (omega (arith, l)))
  where
    by : (j < length xs) ⊎ Contains ys (get_or (xs ++ ys) j 0) → (suc j < suc (length xs)) ⊎ Contains ys (get_or (xs ++ ys) j 0)
    by (inl k) = inl (omega (arith, k))
    by (inr c) = inr c

-- ---- a loop that is widened

-- a name of its bounds stands further out, or is one of the names that are left
bound-outside : (p : CheckedProgram) (names bounds : List Name) (l : Loop) (ls : List Loop) (outer : List ℕ) → may_widen p names (counted_of l) bounds ≡ true → Nested l.body ls → (n : Name) → Contains bounds n
    → IsOutside (Contains (without l.var (names ++ bounds))) (outer ++ (l.var ∷ vars_of ls)) (length outer) n
bound-outside p names bounds l ls outer may nested (ArrayName array) c = kept-name l.var (names ++ bounds) (ArrayName array) refl (Contains-append_right names bounds (ArrayName array) c)
bound-outside p names bounds l ls outer may nested (DecompName decomp) c = tt
bound-outside p names bounds l ls outer may nested (ScalarName k) c = by (position (λ b. b == k) bound) refl
  where
    bound : List ℕ
    bound = outer ++ (l.var ∷ vars_of ls)

    own : k ≡ l.var → ⊥
    own e = may-own p names (counted_of l) bounds may (subst (λ j. Contains bounds (ScalarName j)) e c)

    differs : (b : Bool) → (k == l.var) ≡ b → (k == l.var) ≡ false
    differs true e = absurd (own (eqb-true k l.var e))
    differs false e = e

    inner : Contains (l.var ∷ vars_of ls) k → ⊥
    inner (zero, lt, e) = own (sym e)
    inner (suc j, lt, e) = may-unset p names (counted_of l) bounds may (ScalarName k) (Contains-append_right names bounds (ScalarName k) c) (nested-sets l.body ls nested k (j, omega (arith, lt), e))

    further : (j : ℕ) → get_or bound j 0 ≡ k → (j < length outer) ⊎ Contains (l.var ∷ vars_of ls) (get_or bound j 0) → j < length outer
    further j e (inl h) = h
    further j e (inr d) = absurd (inner (subst (Contains (l.var ∷ vars_of ls)) e d))

    by : (o : Option ℕ) → position (λ b. b == k) bound ≡ o → WhereAt (Contains (without l.var (names ++ bounds))) (length outer) k o
    by None e = kept-name l.var (names ++ bounds) (ScalarName k) (differs (k == l.var) refl) (Contains-append_right names bounds (ScalarName k) c)
    by (Some j) e =
        let x = position-Some (λ b. b == k) bound j 0 e in
        further j (eqb-true (get_or bound j 0) k x.1) (which outer (l.var ∷ vars_of ls) j x.0)

-- ---- all loops that are widened

without-has : (var : ℕ) (names : List Name) (n : Name) → Contains (without var names) n → Contains names n × (is_same_name n (ScalarName var) ≡ false)
without-has var names n c =
    let test : Name → Bool = λ x. not (is_same_name x (ScalarName var)) in (
      All-contains (Contains names) (without var names) n (All-filter test (Contains names) names (All-contains_itself names)) c,
      untrue (is_same_name n (ScalarName var)) (All-contains (λ x. test x ≡ true) (without var names) n (filter_passes test names) c),
    )
  where
    untrue : (b : Bool) → not b ≡ true → b ≡ false
    untrue true h = absurd cc
    untrue false h = refl

-- the variables of the loops that are widened aren't set inside
outer-unset : (t : Task) (now : Point) (around : List Around) (names set : List Name) → OpensOk t around now → Within around set → (k : ℕ) → Contains (vars_in (widened_over t.program (map enclosing around) names)) k → Contains set (ScalarName k) → ⊥
outer-unset t now [] names set h w k c d = omega (arith, c.1)
outer-unset t now (InSide ∷ around) names set h w k c d = omega (arith, c.1)
outer-unset t now (InWhile ∷ around) names set h w k c d = omega (arith, c.1)
outer-unset t now (InDo e ∷ around) names set h w k c d =
    by (λ others i. outer-unset t now around others set h.2 (within-outer e around set h.1 (λ n j. Contains-append_right (ScalarName e.loop.var ∷ []) (all_names_set e.loop.body) n (w n j))) k i d) (loop_forms [] l) c
  where
    l : CountedLoop
    l = counted_of e.loop

    one : (j : ℕ) → j < 1 → get_or (l.var ∷ []) j k ≡ k → l.var ≡ k
    one zero lt g = g
    one (suc j) lt g = absurd (omega (arith, lt))

    with : (outer : List CountedLoop) → (Contains (vars_in outer) k → ⊥) → (b : Bool) → Contains (vars_in (with_loop b l outer)) k → ⊥
    with outer rest false c = omega (arith, c.1)
    with outer rest true c = split (Contains-append_cases (vars_in outer) (l.var ∷ []) k (subst (λ vs. Contains vs k) (map-append (λ (x : CountedLoop). x.var) outer (l ∷ [])) c))
      where
        split : Contains (vars_in outer) k ⊎ Contains (l.var ∷ []) k → ⊥
        split (inl i) = rest i
        split (inr i) = h.0.ordinary.variables.0 (subst (λ j. Contains (all_names_set e.loop.body) (ScalarName j)) (sym (one i.0 i.1 i.2)) (w (ScalarName k) d))

    by : ((others : List Name) → Contains (vars_in (widened_over t.program (map enclosing around) others)) k → ⊥) → (r : Result LinearLoop FormRefusal) → Contains (vars_in (widened_past t.program names l r (widened_over t.program (map enclosing around)))) k → ⊥
    by rest (Err why) c = omega (arith, c.1)
    by rest (Ok f) c = let others = without l.var (names ++ loop_names f) in with (widened_over t.program (map enclosing around) others) (rest others) (may_widen t.program names l (loop_names f)) c

-- loops nested in the body of the innermost open DO
abbrev pub NestHere : List Around → List Loop → Type 0
NestHere [] ls = Unit {0}
NestHere (InSide ∷ around) ls = Unit {0}
NestHere (InWhile ∷ around) ls = Unit {0}
NestHere (InDo d ∷ around) ls = Nested d.loop.body ls

nest-here : (d : OpenLoop) (around : List Around) (ls : List Loop) → NestsIn d around → Nested d.loop.body ls → NestHere around (d.loop ∷ ls)
nest-here d [] ls h k = tt
nest-here d (InSide ∷ around) ls h k = tt
nest-here d (InWhile ∷ around) ls h k = tt
nest-here d (InDo e ∷ around) ls h k = (h.0, k)

-- when its iteration began
abbrev pub turned_in : List Around → ℕ
turned_in [] = 0
turned_in (InSide ∷ around) = 0
turned_in (InWhile ∷ around) = 0
turned_in (InDo d ∷ around) = d.turned

turned-before : (d : OpenLoop) (around : List Around) → NestsIn d around → turned_in around ≤ d.began
turned-before d [] h = omega arith
turned-before d (InSide ∷ around) h = omega arith
turned-before d (InWhile ∷ around) h = omega arith
turned-before d (InDo e ∷ around) h = h.1

-- of loops that are widened, with further ones inside, the present iteration is reached
abbrev pub VisitsIn : Task → Point → List CountedLoop → List Name → List Around → Type 0
VisitsIn t now loops names around = (ls : List Loop) (ms : List LinearLoop) → ChainForms (vars_in loops ++ vars_of ls) (Contains names) (length (vars_in loops)) ls ms → NestHere around ls → (outs : List LinearLoop) → all_loop_forms (vars_in loops ++ vars_of ls) loops ≡ Ok outs
    → Visits (readings_of t.program now.store) outs ms (scalars_at now.store (vars_in loops)) (turned_in around)

no-loops : (t : Task) (now : Point) (names : List Name) (around : List Around) → VisitsIn t now [] names around
no-loops t now names around ls ms forms nested outs e = let none : List LinearLoop = [] in let same : none ≡ outs = cc in inl (sym same, refl)

own-same : (p : CheckedProgram) (s : Store) (n : Name) → HasSame p (readings_of p s) s n
own-same p s (ScalarName k) = refl
own-same p s (ArrayName array) = λ n. refl
own-same p s (DecompName decomp) = tt

-- one loop further in
visit-more : (t : Task) (now : Point) (d : OpenLoop) (around : List Around) (names : List Name) (f : LinearLoop) → OpensOk t (InDo d ∷ around) now → loop_forms [] (counted_of d.loop) ≡ Ok f → may_widen t.program names (counted_of d.loop) (loop_names f) ≡ true
    → VisitsIn t now (widened_over t.program (map enclosing around) (without d.loop.var (names ++ loop_names f))) (without d.loop.var (names ++ loop_names f)) around
    → VisitsIn t now (widened_over t.program (map enclosing around) (without d.loop.var (names ++ loop_names f)) ++ (counted_of d.loop ∷ [])) names (InDo d ∷ around)
visit-more t now d around names f h ef may rest ls ms forms nested outs eo = inr (subst P (sym made.4) (subst Q (sym vars_are) reached))
  where
    p : CheckedProgram
    p = t.program

    s : Store
    s = now.store

    l : CountedLoop
    l = counted_of d.loop

    left : List Name
    left = without d.loop.var (names ++ loop_names f)

    others : List CountedLoop
    others = widened_over p (map enclosing around) left

    outer : List ℕ
    outer = vars_in others

    bound : List ℕ
    bound = outer ++ (d.loop.var ∷ vars_of ls)

    vars : vars_in (others ++ (l ∷ [])) ≡ outer ++ (d.loop.var ∷ [])
    vars = map-append (λ (x : CountedLoop). x.var) others (l ∷ [])

    bound_is : vars_in (others ++ (l ∷ [])) ++ vars_of ls ≡ bound
    bound_is = ap (λ vs. vs ++ vars_of ls) vars ∙ append_assoc outer (d.loop.var ∷ []) (vars_of ls)

    one : (n : ℕ) → n + 1 ≡ suc n
    one n = omega arith

    level_is : length (vars_in (others ++ (l ∷ []))) ≡ suc (length outer)
    level_is = ap length vars ∙ length-append outer (d.loop.var ∷ []) ∙ one (length outer)

    made : (os : List LinearLoop) × (m : LinearLoop) × (all_loop_forms bound others ≡ Ok os) × (loop_forms bound l ≡ Ok m) × (outs ≡ os ++ (m ∷ []))
    made = forms-split bound others l outs (subst (λ b. all_loop_forms b (others ++ (l ∷ [])) ≡ Ok outs) bound_is eo)

    inner : ChainForms bound (Contains names) (suc (length outer)) ls ms
    inner = subst (λ k. ChainForms bound (Contains names) k ls ms) level_is (subst (λ b. ChainForms b (Contains names) (length (vars_in (others ++ (l ∷ [])))) ls ms) bound_is forms)

    differs : (k : ℕ) → position (λ b. b == k) bound ≡ None → (b : Bool) → (k == d.loop.var) ≡ b → (k == d.loop.var) ≡ false
    differs k none true e = absurd (no-position bound k none (Contains-append_right outer (d.loop.var ∷ vars_of ls) k (0, omega arith, sym (eqb-true k d.loop.var e))))
    differs k none false e = e

    chain : ChainForms bound (Contains left) (length outer) (d.loop ∷ ls) (made.1 ∷ ms)
    chain = (
      (f, ef, made.3, All-weaker (Contains (loop_names f)) (IsOutside (Contains left) bound (length outer)) (bound-outside p names (loop_names f) d.loop ls outer may nested) (loop_names f) (All-contains_itself (loop_names f))),
      chain-other (Contains names) (Contains left) bound (λ k none c. kept-name d.loop.var (names ++ loop_names f) (ScalarName k) (differs k none (k == d.loop.var) refl) (Contains-append_left names (loop_names f) (ScalarName k) c))
          (λ array c. kept-name d.loop.var (names ++ loop_names f) (ArrayName array) refl (Contains-append_left names (loop_names f) (ArrayName array) c)) (suc (length outer)) ls ms inner,
    )

    r : Readings
    r = readings_of p s

    tells : ChainTells p r (Contains left) outer (d.loop ∷ ls) (made.1 ∷ ms)
    tells = chain-tells p r (Contains left) (λ array. refl) outer (d.loop ∷ ls) (made.1 ∷ ms) (length outer) refl chain

    name-unset : (n : Name) → Contains left n → Contains (set_by d) n → ⊥
    name-unset n c (zero, lt, e) = let x = without-has d.loop.var (names ++ loop_names f) n c in let no = x.1 in let yes = ap (λ z. is_same_name z (ScalarName d.loop.var)) (sym e) ∙ same-name (ScalarName d.loop.var) in absurd (cc (no, yes))
    name-unset n c (suc j, lt, e) = let x = without-has d.loop.var (names ++ loop_names f) n c in may-unset p names l (loop_names f) may n x.0 (j, omega (arith, lt), e)

    scalar-unset : (k : ℕ) → Contains outer k → Contains (set_by d) (ScalarName k) → ⊥
    scalar-unset k c i = outer-unset t now around left (set_by d) h.2 (within-outer d around (set_by d) h.1 (λ n j. j)) k c i

    unset : Unset (Held (Contains left) outer) (set_by d)
    unset n (inl c) i = name-unset n c i
    unset n (inr (k, c, e)) i = scalar-unset k c (subst (Contains (set_by d)) e i)

    is : loop_numbers r (scalars_at s outer) made.1 ≡ Ok (record { first = d.bounds.first; by = d.bounds.by; count = d.bounds.count })
    is =
        let g = h.0.begun in
        let told = tells.0 g.start.store d.bounds (omega (arith, h.0.ordinary.sound.0, g.room)) g.words (λ n c. same-back p r g.start.store s n (own-same p s n) (g.since.kept n (name-unset n c))) g.bounds in
        subst (λ vs. loop_numbers r vs made.1 ≡ Ok (record { first = d.bounds.first; by = d.bounds.by; count = d.bounds.count })) (scalars-back g.start.store s outer (λ k c. g.since.kept (ScalarName k) (scalar-unset k c))) told

    reached : Reaches (iterations_inside r ((made.0 ++ made.1 ∷ []) ++ ms) []) (iterations_inside r ms (scalars_at s outer ++ number_of d.bounds.first d.bounds.by d.number ∷ [])) (scalars_at s outer ++ number_of d.bounds.first d.bounds.by d.number ∷ []) d.turned
    reached = one-more r made.0 made.1 ms (scalars_at s outer) d.bounds.first d.bounds.by d.bounds.count d.number (turned_in around) d.began d.turned is h.0.below h.0.fits (turned-before d around h.1)
        (h.0.paid r left outer (scalars_at s outer) ls ms nested tells.1 unset (record { same = λ n c. own-same p s n; outer_is = refl })) (rest (d.loop ∷ ls) (made.1 ∷ ms) chain (nest-here d around ls h.1 nested) made.0 made.2)

    vars_are : scalars_at s (vars_in (others ++ (l ∷ []))) ≡ scalars_at s outer ++ number_of d.bounds.first d.bounds.by d.number ∷ []
    vars_are = ap (scalars_at s) vars ∙ map-append (λ k. slice_index_or s.scalars k (pos 0)) outer (d.loop.var ∷ []) ∙ ap (λ v. scalars_at s outer ++ v ∷ []) h.0.value

    Q : List ℤ → Type 0
    Q vs = Reaches (iterations_inside r ((made.0 ++ made.1 ∷ []) ++ ms) []) (iterations_inside r ms vs) vs d.turned

    P : List LinearLoop → Type 0
    P os = Reaches (iterations_inside r (os ++ ms) []) (iterations_inside r ms (scalars_at s (vars_in (others ++ (l ∷ []))))) (scalars_at s (vars_in (others ++ (l ∷ [])))) d.turned

visit-do : (t : Task) (now : Point) (d : OpenLoop) (around : List Around) (names : List Name) → OpensOk t (InDo d ∷ around) now → ((others : List Name) → VisitsIn t now (widened_over t.program (map enclosing around) others) others around)
    → (o : Result LinearLoop FormRefusal) → loop_forms [] (counted_of d.loop) ≡ o → VisitsIn t now (widened_past t.program names (counted_of d.loop) o (widened_over t.program (map enclosing around))) names (InDo d ∷ around)
visit-do t now d around names h rest (Err why) e = no-loops t now names (InDo d ∷ around)
visit-do t now d around names h rest (Ok f) e = by (may_widen t.program names (counted_of d.loop) (loop_names f)) refl
  where
    left : List Name
    left = without d.loop.var (names ++ loop_names f)

    by : (b : Bool) → may_widen t.program names (counted_of d.loop) (loop_names f) ≡ b → VisitsIn t now (with_loop b (counted_of d.loop) (widened_over t.program (map enclosing around) left)) names (InDo d ∷ around)
    by true k = visit-more t now d around names f h e k (rest left)
    by false k = no-loops t now names (InDo d ∷ around)

pub visit : (t : Task) (now : Point) (around : List Around) (names : List Name) → OpensOk t around now → VisitsIn t now (widened_over t.program (map enclosing around) names) names around
visit t now [] names h = no-loops t now names []
visit t now (InSide ∷ around) names h = no-loops t now names (InSide ∷ around)
visit t now (InWhile ∷ around) names h = no-loops t now names (InWhile ∷ around)
visit t now (InDo d ∷ around) names h = visit-do t now d around names h (λ others. visit t now around others h.2) (loop_forms [] (counted_of d.loop)) refl
