-- The loops over which an item is widened, as open loops of a moment.
use Rattle.std.proofs.Common.{◌≡◌, ℕ, zero, suc, ◌+◌, ◌<◌, ◌==◌, Bool, true, false, not, cond, ◌&&◌, ◌||◌, List, [], ◌∷◌, ◌++◌, map, length, get_or, Contains, All, Option, Some, None, Ok, refl, sym, ap, ◌∙◌, subst, arith, append_assoc, length-append}
use Rattle.std.specs.List.{list_any, position}
use Rattle.std.proofs.lemmas.Bool.{eq-eqb}
use Rattle.std.proofs.lemmas.List.Elements.{All-weaker, Contains-append_left, Contains-append_right}
use Rattle.fd_prog.specs.Items.{CountedLoop, LinearLoop, Name, ScalarName, ArrayName, DecompName, all_names_set, is_among, is_distributed, is_same_name, loop_forms, loop_names, may_widen, names_set, without}
use Rattle.fd_prog.specs.Programs.{CheckedProgram}
use Rattle.fd_prog.specs.Statements.{Statements}
use Rattle.fd_prog.specs.Stores.{shape_of}
use Rattle.fd_prog.specs.Values.{Readings}
use Rattle.course_laws.specs.Courses.{Loop}
use Rattle.course_laws.proofs.Covering.{ChainTells, Nested, StandsIn, counted_of, do_of, here, later}
use Rattle.course_laws.proofs.Tells.{IsOutside, WhereAt, loop-tells}

abbrev pub vars_of : List Loop → List ℕ
vars_of ls = map (λ (l : Loop). l.var) ls

-- the bounds of a loop at a level have forms, with and without widened variables, whose names are variables further out or some names
abbrev pub HasForms : List ℕ → (Name → Type 0) → ℕ → Loop → LinearLoop → Type 0
HasForms bound N level l m = (f : LinearLoop) × (loop_forms [] (counted_of l) ≡ Ok f) × (loop_forms bound (counted_of l) ≡ Ok m) × All (IsOutside N bound level) (loop_names f)

abbrev pub ChainForms : List ℕ → (Name → Type 0) → ℕ → List Loop → List LinearLoop → Type 0
ChainForms bound N level [] [] = Unit {0}
ChainForms bound N level [] (m ∷ ms) = ⊥
ChainForms bound N level (l ∷ ls) [] = ⊥
ChainForms bound N level (l ∷ ls) (m ∷ ms) = HasForms bound N level l m × ChainForms bound N (suc level) ls ms

-- so the bounds give what the loops begin with
pub chain-tells : (p : CheckedProgram) (r : Readings) (N : Name → Type 0) → ((array : ℕ) → r.shape array ≡ shape_of p array) → (outer : List ℕ) (ls : List Loop) (ms : List LinearLoop) (level : ℕ) → level ≡ length outer
    → ChainForms (outer ++ vars_of ls) N level ls ms → ChainTells p r N outer ls ms
chain-tells p r N shapes outer [] [] level e h = tt
chain-tells p r N shapes outer [] (m ∷ ms) level e h = absurd h
chain-tells p r N shapes outer (l ∷ ls) [] level e h = absurd h
chain-tells p r N shapes outer (l ∷ ls) (m ∷ ms) level e h =
    let x = h.0 in
    let K : ℕ → Type 0 = λ k. All (IsOutside N (outer ++ (l.var ∷ vars_of ls)) k) (loop_names x.0) in
    let B : List ℕ → Type 0 = λ b. ChainForms b N (suc level) ls ms in (
      loop-tells p r N outer (l.var ∷ vars_of ls) (counted_of l) x.0 m shapes x.1 x.2 (subst K e x.3),
      chain-tells p r N shapes (outer ++ l.var ∷ []) ls ms (suc level) (ap suc e ∙ sym (length-append outer (l.var ∷ []) ∙ one (length outer)))
          (subst B (sym (append_assoc outer (l.var ∷ []) (vars_of ls))) h.1),
    )
  where
    one : (n : ℕ) → n + 1 ≡ suc n
    one n = omega arith

-- with other names
where-other : (N M : Name → Type 0) (level k : ℕ) (o : Option ℕ) → (o ≡ None → N (ScalarName k) → M (ScalarName k)) → WhereAt N level k o → WhereAt M level k o
where-other N M level k None f h = f refl h
where-other N M level k (Some i) f h = h

outside-other : (N M : Name → Type 0) (bound : List ℕ) (level : ℕ) → ((k : ℕ) → position (λ b. b == k) bound ≡ None → N (ScalarName k) → M (ScalarName k)) → ((array : ℕ) → N (ArrayName array) → M (ArrayName array))
    → (n : Name) → IsOutside N bound level n → IsOutside M bound level n
outside-other N M bound level f g (ScalarName k) h = where-other N M level k (position (λ b. b == k) bound) (f k) h
outside-other N M bound level f g (ArrayName array) h = g array h
outside-other N M bound level f g (DecompName decomp) h = tt

pub chain-other : (N M : Name → Type 0) (bound : List ℕ) → ((k : ℕ) → position (λ b. b == k) bound ≡ None → N (ScalarName k) → M (ScalarName k)) → ((array : ℕ) → N (ArrayName array) → M (ArrayName array)) → (level : ℕ) (ls : List Loop) (ms : List LinearLoop)
    → ChainForms bound N level ls ms → ChainForms bound M level ls ms
chain-other N M bound f g level [] [] h = tt
chain-other N M bound f g level [] (m ∷ ms) h = absurd h
chain-other N M bound f g level (l ∷ ls) [] h = absurd h
chain-other N M bound f g level (l ∷ ls) (m ∷ ms) h =
    let x = h.0 in
    ((x.0, x.1, x.2, All-weaker (IsOutside N bound level) (IsOutside M bound level) (outside-other N M bound level f g) (loop_names x.0) x.3), chain-other N M bound f g (suc level) ls ms h.1)

-- ---- names

pub same-name : (n : Name) → is_same_name n n ≡ true
same-name (ScalarName k) = eq-eqb k k refl
same-name (ArrayName k) = eq-eqb k k refl
same-name (DecompName k) = eq-eqb k k refl

or-true : (a b : Bool) → b ≡ true → (a || b) ≡ true
or-true true b h = refl
or-true false b h = h

-- an element passes
passes-at : {A : Type 0} (test : A → Bool) (xs : List A) (x : A) (k : ℕ) → k < length xs → get_or xs k x ≡ x → test x ≡ true → list_any test xs ≡ true
passes-at test [] x k l e h = absurd (omega (arith, l))
passes-at test (y ∷ ys) x zero l e h = ap (λ z. test z || list_any test ys) e ∙ ap (λ b. b || list_any test ys) h
passes-at test (y ∷ ys) x (suc k) l e h = or-true (test y) (list_any test ys) (passes-at test ys x k (omega (arith, l)) e h)

pub among : (names : List Name) (n : Name) → Contains names n → is_among names n ≡ true
among names n c = passes-at (is_same_name n) names n c.0 c.1 c.2 (same-name n)

three : (a b c : Bool) → (not a && (not b && not c)) ≡ true → (b ≡ false) × (c ≡ false)
three false false false h = (refl, refl)
three false false true h = absurd cc
three false true c h = absurd cc
three true b c h = absurd cc

-- what a loop that an item is widened over keeps to: the names aren't set in its body, and its bounds don't name its variable
pub may-unset : (p : CheckedProgram) (names : List Name) (l : CountedLoop) (bounds : List Name) → may_widen p names l bounds ≡ true → (n : Name) → Contains (names ++ bounds) n → Contains l.sets n → ⊥
may-unset p names l bounds h n c d =
    let no = (three (list_any (is_distributed p) bounds) (is_among bounds (ScalarName l.var)) (list_any (is_among (names ++ bounds)) l.sets) h).1 in
    let yes = passes-at (is_among (names ++ bounds)) l.sets n d.0 d.1 d.2 (among (names ++ bounds) n c) in
    absurd (cc (no, yes))

pub may-own : (p : CheckedProgram) (names : List Name) (l : CountedLoop) (bounds : List Name) → may_widen p names l bounds ≡ true → Contains bounds (ScalarName l.var) → ⊥
may-own p names l bounds h c =
    let no = (three (list_any (is_distributed p) bounds) (is_among bounds (ScalarName l.var)) (list_any (is_among (names ++ bounds)) l.sets) h).0 in
    let yes = among bounds (ScalarName l.var) c in
    absurd (cc (no, yes))

-- a name among those but for a variable
pub kept-name : (var : ℕ) (names : List Name) (n : Name) → is_same_name n (ScalarName var) ≡ false → Contains names n → Contains (without var names) n
kept-name var [] n h c = absurd (omega (arith, c.1))
kept-name var (x ∷ xs) n h (zero, l, e) = first (is_same_name x (ScalarName var)) refl
  where
    first : (b : Bool) → is_same_name x (ScalarName var) ≡ b → Contains (cond (not b) (x ∷ without var xs) (without var xs)) n
    first false k = (0, omega arith, e)
    first true k = let same = ap (λ z. is_same_name z (ScalarName var)) (sym e) in absurd (cc (same, k, h))
kept-name var (x ∷ xs) n h (suc k, l, e) = rest (is_same_name x (ScalarName var)) (kept-name var xs n h (k, omega (arith, l), e))
  where
    rest : (b : Bool) → Contains (without var xs) n → Contains (cond (not b) (x ∷ without var xs) (without var xs)) n
    rest true c = c
    rest false c = (suc c.0, omega (arith, c.1), c.2)

-- the variables of nested loops are set
pub nested-sets : (ss : Statements) (ls : List Loop) → Nested ss ls → (k : ℕ) → Contains (vars_of ls) k → Contains (all_names_set ss) (ScalarName k)
nested-sets ss [] h k c = absurd (omega (arith, c.1))
nested-sets ss (l ∷ ls) (stands, h) k (zero, lt, e) = subst (λ j. Contains (all_names_set ss) (ScalarName j)) e (sets-in l ss stands (ScalarName l.var) (0, omega arith, refl))
  where
    sets-in : (l : Loop) (ss : Statements) → StandsIn l ss → (n : Name) → Contains (names_set (do_of l)) n → Contains (all_names_set ss) n
    sets-in l ss (here {ss = rest}) n c = Contains-append_left (names_set (do_of l)) (all_names_set rest) n c
    sets-in l ss (later {s = s} {ss = rest} i) n c = Contains-append_right (names_set s) (all_names_set rest) n (sets-in l rest i n c)
nested-sets ss (l ∷ ls) (stands, h) k (suc j, lt, e) = deeper l ss stands (nested-sets l.body ls h k (j, omega (arith, lt), e))
  where
    deeper : (l : Loop) (ss : Statements) → StandsIn l ss → Contains (all_names_set l.body) (ScalarName k) → Contains (all_names_set ss) (ScalarName k)
    deeper l ss (here {ss = rest}) c = Contains-append_left (names_set (do_of l)) (all_names_set rest) (ScalarName k) (Contains-append_right (ScalarName l.var ∷ []) (all_names_set l.body) (ScalarName k) c)
    deeper l ss (later {s = s} {ss = rest} i) c = Contains-append_right (names_set s) (all_names_set rest) (ScalarName k) (deeper l rest i c)
