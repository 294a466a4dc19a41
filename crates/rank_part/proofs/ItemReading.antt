-- What the needs of an accepted program's item depend on is replicated, or the rank's own where it executes.
use Rattle.std.proofs.Common.{◌≡◌, ◌⊎◌, inl, inr, ℕ, ◌<◌, ℤ, Bool, true, false, not, cond, ◌&&◌, ◌||◌, is_some, IsTrue, List, [], ◌∷◌, ◌++◌, map, filter, flat_map, All, Contains, slice_get, Option, Some, None, option_and_then, Result, Ok, Err, refl, sym, subst, ap, ◌∙◌}
use Rattle.std.specs.List.{list_any}
use Rattle.std.proofs.lemmas.List.Elements.{All-nil, All-cons, All-head, All-tail, All-append, All-filter, All-map, All-weaker, All-contains}
use Rattle.fd_base.specs.declared.numbering.Line.{Line}
use Rattle.fd_base.specs.Places.{is_owner}
use Rattle.fd_base.specs.Shapes.{ordinal_of, size_of}
use Rattle.fd_prog.specs.declared.form.FormRefusal.{FormRefusal}
use Rattle.fd_prog.specs.declared.program.Array.{Array}
use Rattle.fd_prog.specs.Outcomes.{and_then}
use Rattle.fd_prog.specs.Conditions as conditions
use Rattle.fd_prog.specs.Conditions.{Condition, Compared, Not, Both, Either}
use Rattle.fd_prog.specs.Expressions.{Expression, Number, Scalar, Element, Negated, Joined, Applied, Expressions, End, More}
use Rattle.fd_prog.specs.Forms.{LinearForm, LinearForms}
use Rattle.fd_prog.specs.FormOf.{form_of_expression, forms_of_expressions}
use Rattle.fd_prog.specs.FormValues.{part_values}
use Rattle.fd_prog.specs.Homes.{Distribution, Executor, EveryRank, RankZero, OwnerOf, distribution_at, distribution_of, element_home, home_of_statement, location_of, target_home}
use Rattle.fd_prog.specs.Items.{CountedLoop, Counted, Enclosing, LinearItem, LinearLoop, Name, ScalarName, ArrayName, DecompName, Repeated, Setting, Side, all_loop_forms, form_names, is_among, is_distributed, is_local, is_same_item, item_by, item_names, item_of_reference, item_over, item_unless_local, loop_forms, loop_names, may_widen, widened_over, widened_past, with_loop, without}
use Rattle.fd_prog.specs.Mappings.{AreConsistent}
use Rattle.fd_prog.specs.Needs.{Sight, executes_at}
use Rattle.fd_prog.specs.Programs.{CheckedProgram}
use Rattle.fd_prog.specs.Statements.{Target, ToScalar, ToElement, PrintItem, Words, Value, Statement, Assign, If, Do, While, Read, Print, Continue, Distribute, Statements, Empty, Then}
use Rattle.fd_prog.specs.Stores.{shape_of}
use Rattle.fd_prog.specs.Uses.{Use, Stand, condition_uses, counted, expression_uses, expressions_uses, first_uses, firsts_of, for_all_ranks, for_home_of, items_of, print_uses, target_uses, use_of, uses_among, uses_by_node, uses_in, uses_of}
use Rattle.fd_prog.proofs.Runs.{and_then-ok}
use Rattle.program_laws.specs.Accepted.{IsAcceptedProgram}
use Rattle.program_laws.specs.Indexing.{AreIndexed, AreIndexedStatements, Indexed, IsIndexed, IsIndexedStatement, IsLocalTo, condition_elements, elements_among, elements_in, item_elements, target_elements}
use Rattle.rank_part.specs.Local.{IsLocalElement}
use Rattle.rank_part.specs.NeedsRead.{HomeReads, LoopsRead, NeedsRead}
use Rattle.rank_part.specs.Seen.{FormReads}
use Rattle.rank_part.proofs.Executing.{element-lt, executes-owner, local-home}
use Rattle.rank_part.proofs.FormReading.{OfArray, OfIndexed, along-reads, back, form-image-names, form-named, forms-read, front}
use Rattle.rank_part.proofs.Images.{form-image, forms-plain, put_form, stays-local, widening}

-- ---- a sight of an accepted program

pub record IsSeen (s : Sight) : Type 0 where
  pub accepted : IsAcceptedProgram s.program
  pub consistent : AreConsistent s.program s.array_place s.decomp_place
  pub shapes : (array : ℕ) → s.readings.shape array ≡ shape_of s.program array

-- what a rank has without a message
abbrev Has : Sight → ℕ → ℕ → Option ℕ → ℕ → Type 0
Has s rank = IsLocalElement s.program s.array_place rank

-- an element that subscripts give is one of its array
inside : (s : Sight) → IsSeen s → (array : ℕ) (xs : List ℤ) (n : ℕ) → ordinal_of (s.readings.shape array) xs ≡ Ok n → n < size_of (shape_of s.program array)
inside s seen array xs n e = element-lt (shape_of s.program array) xs n (ap (λ shape. ordinal_of shape xs) (sym (seen.shapes array)) ∙ e)

-- an array that is distributed
found : (p : CheckedProgram) (array : ℕ) (d : Distribution) → distribution_at p array ≡ Some d → (a : Array) × (slice_get p.arrays array ≡ Some a) × (distribution_of p a ≡ Some d)
found p array d e = by (slice_get p.arrays array) refl
  where
    by : (o : Option Array) → slice_get p.arrays array ≡ o → (a : Array) × (slice_get p.arrays array ≡ Some a) × (distribution_of p a ≡ Some d)
    by None h = let none : distribution_at p array ≡ None = ap (option_and_then (distribution_of p)) h in absurd (cc)
    by (Some a) h = (a, h, sym (ap (option_and_then (distribution_of p)) h) ∙ e)

-- ---- references in subscripts

-- a home over widened scalars is at the location of each reference that is local to it
abbrev KeepsLocal : CheckedProgram → (List ℕ → Result Executor FormRefusal) → Type 0
KeepsLocal p home = (plain widened : Executor) (d : Distribution) (subs : Expressions) (bound : List ℕ) (fs gs : LinearForms) → home [] ≡ Ok plain → home bound ≡ Ok widened
    → forms_of_expressions [] subs ≡ Ok fs → forms_of_expressions bound subs ≡ Ok gs → is_local d fs plain ≡ true → is_local d gs widened ≡ true

true-is : (b : Bool) → IsTrue b → b ≡ true
true-is true h = refl
true-is false h = absurd cc

-- the references in subscripts that are local to a home give what a rank has, in an iteration that it executes
indexed : (s : Sight) → IsSeen s → (home : List ℕ → Result Executor FormRefusal) → KeepsLocal s.program home → (plain widened : Executor) (vs : List ℤ) (bound : List ℕ) (rank : ℕ) → home [] ≡ Ok plain → home bound ≡ Ok widened
    → executes_at s vs widened rank ≡ true → (x : Indexed) → IsLocalTo s.program plain x → OfIndexed s.readings (Has s rank) vs bound x
indexed s seen home keeps plain widened vs bound rank eh ew executes x local = λ gs eg xs n ev en. record { inside = inside s seen x.array xs n en; found = by gs eg xs n ev en (distribution_at s.program x.array) refl }
  where
    by : (gs : LinearForms) → forms_of_expressions bound x.subs ≡ Ok gs → (xs : List ℤ) (n : ℕ) → part_values s.readings vs gs ≡ Ok xs → ordinal_of (s.readings.shape x.array) xs ≡ Ok n
        → (o : Option Distribution) → distribution_at s.program x.array ≡ o → (distribution_at s.program x.array ≡ None) ⊎ (is_owner (s.array_place x.array) n rank ≡ true)
    by gs eg xs n ev en None ed = inl ed
    by gs eg xs n ev en (Some d) ed =
        let f = forms-plain bound x.subs gs eg in
        let stays = keeps plain widened d x.subs bound f.0 gs eh ew f.1 eg (true-is (is_local d f.0 plain) (local d ed f.0 f.1)) in
        let at = local-home d gs widened stays in
        let a = found s.program x.array d ed in
        let shape : shape_of s.program x.array ≡ a.0.shape = rw a.1 refl in
        inr (sym (executes-owner s x.array a.0 d vs gs xs n rank seen.accepted.mapped seen.consistent a.1 a.2 ev (sym (ap (λ z. ordinal_of z xs) (seen.shapes x.array ∙ shape)) ∙ en))
        ∙ ap (λ h. executes_at s vs h rank) (sym at) ∙ executes)

-- what all ranks value reads replicated arrays alone
for_all : (s : Sight) → IsSeen s → (vs : List ℤ) (bound : List ℕ) (rank : ℕ) → (x : Indexed) → IsLocalTo s.program EveryRank x → OfIndexed s.readings (Has s rank) vs bound x
for_all s seen vs bound rank x local =
    indexed s seen (λ b. Ok EveryRank) (λ plain widened d subs b fs gs e f g h l. keeps plain d fs e l) EveryRank EveryRank vs bound rank refl refl refl x local
  where
    told : Executor → Result Executor FormRefusal
    told who = Ok who

    keeps : (plain : Executor) (d : Distribution) (fs : LinearForms) {A : Type 0} → told EveryRank ≡ Ok plain → is_local d fs plain ≡ true → A
    keeps plain d fs e l = let every : EveryRank ≡ plain = cc in let no : is_local d fs EveryRank ≡ true = ap (is_local d fs) every ∙ l in absurd (cc)

-- ---- homes

-- a home over widened scalars reads what a rank has
abbrev ReadsHome : Sight → ℕ → (List ℕ → Result Executor FormRefusal) → Type 0
ReadsHome s rank home = (bound : List ℕ) (h : Executor) → home bound ≡ Ok h → (vs : List ℤ) → HomeReads s.readings (Has s rank) vs h

told-home : (s : Sight) (rank : ℕ) (who : Executor) → ((vs : List ℤ) → HomeReads s.readings (Has s rank) vs who) → ReadsHome s rank (λ bound. Ok who)
told-home s rank who reads bound h e vs = let same : who ≡ h = cc in let P : Executor → Type 0 = HomeReads s.readings (Has s rank) vs in subst P same (reads vs)

element-home : (s : Sight) → IsSeen s → (rank array : ℕ) (subs : Expressions) (o : Option Distribution) → distribution_at s.program array ≡ o → AreIndexed s.program EveryRank (record { array = array; subs = subs } ∷ elements_among subs)
    → ReadsHome s rank (λ bound. element_home o bound subs)
element-home s seen rank array subs None eo h = told-home s rank EveryRank (λ vs. tt)
element-home s seen rank array subs (Some d) eo h = λ bound who e vs.
    let p = and_then-ok (forms_of_expressions bound subs) (λ fs. Ok (OwnerOf (location_of d fs))) who e in
    let same : OwnerOf (location_of d p.0) ≡ who = cc in
    let A : Indexed → Type 0 = λ x. (d : Distribution) → distribution_at s.program x.array ≡ Some d → IsIndexed s.program EveryRank x in
    let own = All-head A (record { array = array; subs = subs }) (elements_among subs) h d eo in
    let P : Executor → Type 0 = HomeReads s.readings (Has s rank) vs in
    subst P same (along-reads s.readings (Has s rank) vs d.along d.low p.0
    (forms-read s.readings (Has s rank) vs bound subs p.0 p.1 (All-weaker (IsLocalTo s.program EveryRank) (OfIndexed s.readings (Has s rank) vs bound) (for_all s seen vs bound rank) (elements_among subs) own.inner)))

target-home : (s : Sight) → IsSeen s → (rank : ℕ) (target : Target) → AreIndexed s.program EveryRank (target_elements target) → ReadsHome s rank (λ bound. target_home s.program bound target)
target-home s seen rank (ToScalar k) h = told-home s rank EveryRank (λ vs. tt)
target-home s seen rank (ToElement array subs site) h = element-home s seen rank array subs (distribution_at s.program array) refl h

-- ---- loops

-- the forms of a loop's bounds have no distributed array among their names
abbrev HasWholeBounds : CheckedProgram → CountedLoop → Type 0
HasWholeBounds p l = (m : LinearLoop) × (loop_forms [] l ≡ Ok m) × (list_any (is_distributed p) (loop_names m) ≡ false)

first-false : (a b c : Bool) → (not a && (b && c)) ≡ true → a ≡ false
first-false true b c h = absurd cc
first-false false b c h = refl

widened-whole : (p : CheckedProgram) (around : List Enclosing) (names : List Name) → All (HasWholeBounds p) (widened_over p around names)
widened-whole p [] names = All-nil (HasWholeBounds p)
widened-whole p (Side ∷ around) names = All-nil (HasWholeBounds p)
widened-whole p (Repeated ∷ around) names = All-nil (HasWholeBounds p)
widened-whole p (Counted l ∷ around) names = by (λ others. widened-whole p around others) (loop_forms [] l) refl
  where
    with : (m : LinearLoop) (outer : List CountedLoop) → loop_forms [] l ≡ Ok m → All (HasWholeBounds p) outer → (b : Bool) → may_widen p names l (loop_names m) ≡ b → All (HasWholeBounds p) (with_loop b l outer)
    with m outer e h true k =
        All-append (HasWholeBounds p) outer (l ∷ []) h (All-cons (HasWholeBounds p) l [] (m, e, first-false (list_any (is_distributed p) (loop_names m)) (not (is_among (loop_names m) (ScalarName l.var))) (not (list_any (is_among (names ++ loop_names m)) l.sets)) k) (All-nil (HasWholeBounds p)))
    with m outer e h false k = All-nil (HasWholeBounds p)

    by : ((others : List Name) → All (HasWholeBounds p) (widened_over p around others)) → (r : Result LinearLoop FormRefusal) → loop_forms [] l ≡ r → All (HasWholeBounds p) (widened_past p names l r (widened_over p around))
    by rest (Err why) e = All-nil (HasWholeBounds p)
    by rest (Ok m) e = with m (widened_over p around (without l.var (names ++ loop_names m))) e (rest (without l.var (names ++ loop_names m))) (may_widen p names l (loop_names m)) refl

none-passes : {A : Type 0} (test : A → Bool) (xs : List A) → list_any test xs ≡ false → All (λ x. test x ≡ false) xs
none-passes test [] h = All-nil (λ x. test x ≡ false)
none-passes test (x ∷ xs) h = by (λ k. none-passes test xs k) (test x) refl h
  where
    by : (list_any test xs ≡ false → All (λ y. test y ≡ false) xs) → (b : Bool) → test x ≡ b → (b || list_any test xs) ≡ false → All (λ y. test y ≡ false) (x ∷ xs)
    by rest true e k = absurd cc
    by rest false e k = All-cons (λ y. test y ≡ false) x xs e (rest k)

no_some : {A : Type 0} (o : Option A) → is_some o ≡ false → o ≡ None
no_some None h = refl
no_some (Some x) h = absurd cc

-- replicated arrays are at hand
whole-names : (s : Sight) → IsSeen s → (rank : ℕ) (name : Name) → is_distributed s.program name ≡ false → OfArray (Has s rank) s.readings name
whole-names s seen rank (ScalarName k) h = tt
whole-names s seen rank (ArrayName array) h = λ subs xs n ev en. record { inside = inside s seen array xs n en; found = inl (no_some (distribution_at s.program array) h) }
whole-names s seen rank (DecompName decomp) h = tt

-- a form over widened scalars, where that without them names no distributed array
bound-reads : (s : Sight) → IsSeen s → (rank : ℕ) (bound : List ℕ) (e : Expression) (f g : LinearForm) → form_of_expression [] e ≡ Ok f → form_of_expression bound e ≡ Ok g → All (λ name. is_distributed s.program name ≡ false) (form_names f)
    → (vs : List ℤ) → FormReads s.readings (Has s rank) vs g
bound-reads s seen rank bound e f g ef eg h vs =
    let image = form-image bound e f ef in
    let same : put_form (widening bound) f ≡ g = cc (image.0, eg) in
    let P : LinearForm → Type 0 = FormReads s.readings (Has s rank) vs in
    subst P same (form-named s.readings (Has s rank) vs (put_form (widening bound) f)
    (form-image-names (OfArray (Has s rank) s.readings) bound f (All-weaker (λ name. is_distributed s.program name ≡ false) (OfArray (Has s rank) s.readings) (whole-names s seen rank) (form_names f) h)))

abbrev made : LinearForm → LinearForm → LinearForm → LinearLoop
made x y z = record { first = x; last = y; step = z }

-- what a loop's three bounds give
pub loop-ok : (bound : List ℕ) (l : CountedLoop) (m : LinearLoop) → loop_forms bound l ≡ Ok m → (form_of_expression bound l.first ≡ Ok m.first) × (form_of_expression bound l.last ≡ Ok m.last) × (form_of_expression bound l.step ≡ Ok m.step)
loop-ok bound l m h =
    let x = and_then-ok (form_of_expression bound l.first) (λ x. and_then (form_of_expression bound l.last) (λ y. and_then (form_of_expression bound l.step) (λ z. Ok (made x y z)))) m h in
    let y = and_then-ok (form_of_expression bound l.last) (λ y. and_then (form_of_expression bound l.step) (λ z. Ok (made x.0 y z))) m x.2 in
    let z = and_then-ok (form_of_expression bound l.step) (λ z. Ok (made x.0 y.0 z)) m y.2 in
    let same : made x.0 y.0 z.0 ≡ m = cc in
    let P : LinearLoop → Type 0 = λ n. (form_of_expression bound l.first ≡ Ok n.first) × (form_of_expression bound l.last ≡ Ok n.last) × (form_of_expression bound l.step ≡ Ok n.step) in
    subst P same (x.1, y.1, z.1)

loops-read : (s : Sight) → IsSeen s → (rank : ℕ) (bound : List ℕ) (ls : List CountedLoop) (ms : List LinearLoop) → all_loop_forms bound ls ≡ Ok ms → All (HasWholeBounds s.program) ls → LoopsRead s.readings (Has s rank) ms
loops-read s seen rank bound [] ms h k = let none : List LinearLoop = [] in let same : none ≡ ms = cc in let P : List LinearLoop → Type 0 = LoopsRead s.readings (Has s rank) in subst P same tt
loops-read s seen rank bound (l ∷ ls) ms h k =
    let first = and_then-ok (loop_forms bound l) (λ x. and_then (all_loop_forms bound ls) (λ xs. Ok (x ∷ xs))) ms h in
    let rest = and_then-ok (all_loop_forms bound ls) (λ xs. Ok (first.0 ∷ xs)) ms first.2 in
    let same : (first.0 ∷ rest.0) ≡ ms = cc in
    let whole = All-head (HasWholeBounds s.program) l ls k in
    let plain = loop-ok [] l whole.0 whole.1 in
    let wide = loop-ok bound l first.0 first.1 in
    let names = none-passes (is_distributed s.program) (loop_names whole.0) whole.2 in
    let N : Name → Type 0 = λ name. is_distributed s.program name ≡ false in
    let others = back N (form_names whole.0.first) (form_names whole.0.last ++ form_names whole.0.step) names in
    let P : List LinearLoop → Type 0 = LoopsRead s.readings (Has s rank) in
    subst P same (
      (λ vs. (
        bound-reads s seen rank bound l.first whole.0.first first.0.first plain.0 wide.0 (front N (form_names whole.0.first) (form_names whole.0.last ++ form_names whole.0.step) names) vs,
        bound-reads s seen rank bound l.last whole.0.last first.0.last plain.1 wide.1 (front N (form_names whole.0.last) (form_names whole.0.step) others) vs,
        bound-reads s seen rank bound l.step whole.0.step first.0.step plain.2 wide.2 (back N (form_names whole.0.last) (form_names whole.0.step) others) vs,
      )),
      loops-read s seen rank bound ls rest.0 rest.1 (All-tail (HasWholeBounds s.program) l ls k),
    )

-- ---- items

-- where references stand: what is around them, and who values them
record IsReading (s : Sight) (rank : ℕ) (t : Setting) : Type 0 where
  home : ReadsHome s rank t.home
  local : KeepsLocal s.program t.home

-- what the needs of an item depend on is there
abbrev HasItem : Sight → ℕ → LinearItem → Type 0
HasItem s rank x = NeedsRead s (Has s rank) x rank

over-reads : (s : Sight) → IsSeen s → (rank : ℕ) (t : Setting) → IsReading s rank t → (array : ℕ) (subs : Expressions) (loops : List CountedLoop) (x : LinearItem) (plain : Executor) → t.home [] ≡ Ok plain
    → item_over t array subs loops ≡ Ok x → All (IsLocalTo s.program plain) (elements_among subs) → All (HasWholeBounds s.program) loops → HasItem s rank x
over-reads s seen rank t reads array subs loops x plain ep h inner ls =
    let bound = map (λ (l : CountedLoop). l.var) loops in
    let a = and_then-ok (forms_of_expressions bound subs) (λ fs. and_then (t.home bound) (λ who. and_then (all_loop_forms bound loops) (λ ms. Ok (record { array = array; subs = fs; loops = ms; home = who })))) x h in
    let b = and_then-ok (t.home bound) (λ who. and_then (all_loop_forms bound loops) (λ ms. Ok (record { array = array; subs = a.0; loops = ms; home = who }))) x a.2 in
    let c = and_then-ok (all_loop_forms bound loops) (λ ms. Ok (record { array = array; subs = a.0; loops = ms; home = b.0 })) x b.2 in
    let item : LinearItem = record { array = array; subs = a.0; loops = c.0; home = b.0 } in
    let same : item ≡ x = cc in
    let P : LinearItem → Type 0 = HasItem s rank in
    subst P {x = item} same (record {
      loops = loops-read s seen rank bound loops c.0 c.1 ls;
      home = λ vs. reads.home bound b.0 b.1 vs;
      subs = λ vs executes. forms-read s.readings (Has s rank) vs bound subs a.0 a.1
          (All-weaker (IsLocalTo s.program plain) (OfIndexed s.readings (Has s rank) vs bound) (indexed s seen t.home reads.local plain b.0 vs bound rank ep b.1 executes) (elements_among subs) inner);
    })

-- of the item that there may be
abbrev HasAnswer : Sight → ℕ → Result (Option LinearItem) FormRefusal → Type 0
HasAnswer s rank (Ok (Some x)) = HasItem s rank x
HasAnswer s rank (Ok None) = Unit {0}
HasAnswer s rank (Err why) = Unit {0}

some-answer : (s : Sight) (rank : ℕ) (r : Result LinearItem FormRefusal) → ((x : LinearItem) → r ≡ Ok x → HasItem s rank x) → HasAnswer s rank (and_then r (λ x. Ok (Some x)))
some-answer s rank (Ok x) h = h x refl
some-answer s rank (Err why) h = tt

then-answer : (s : Sight) (rank : ℕ) (r : Result LinearItem FormRefusal) (f : LinearItem → Result (Option LinearItem) FormRefusal) → ((x : LinearItem) → r ≡ Ok x → HasAnswer s rank (f x)) → HasAnswer s rank (and_then r f)
then-answer s rank (Ok x) f h = h x refl
then-answer s rank (Err why) f h = tt

-- the references in an expression are those that a home may value
abbrev AreValued : CheckedProgram → Setting → List Indexed → Type 0
AreValued p t xs = (plain : Executor) → t.home [] ≡ Ok plain → AreIndexed p plain xs

reference-reads : (s : Sight) → IsSeen s → (rank : ℕ) (t : Setting) → IsReading s rank t → (array : ℕ) (subs : Expressions) (rest : List Indexed) → AreValued s.program t (record { array = array; subs = subs } ∷ rest)
    → HasAnswer s rank (item_of_reference s.program t array subs)
reference-reads s seen rank t reads array subs rest h = by (distribution_at s.program array) refl
  where
    home : (plain : LinearItem) → item_over t array subs [] ≡ Ok plain → (who : Executor) × (t.home [] ≡ Ok who)
    home plain e =
        let a = and_then-ok (forms_of_expressions [] subs) (λ fs. and_then (t.home []) (λ who. and_then (all_loop_forms [] []) (λ ms. Ok (record { array = array; subs = fs; loops = ms; home = who })))) plain e in
        let b = and_then-ok (t.home []) (λ who. and_then (all_loop_forms [] []) (λ ms. Ok (record { array = array; subs = a.0; loops = ms; home = who }))) plain a.2 in
        (b.0, b.1)

    inner : (d : Distribution) → distribution_at s.program array ≡ Some d → (who : Executor) → t.home [] ≡ Ok who → All (IsLocalTo s.program who) (elements_among subs)
    inner d ed who eh =
        let A : Indexed → Type 0 = λ x. (d : Distribution) → distribution_at s.program x.array ≡ Some d → IsIndexed s.program who x in
        let own = All-head A (record { array = array; subs = subs }) rest (h who eh) d ed in own.inner

    unless : (d : Distribution) (plain : LinearItem) → distribution_at s.program array ≡ Some d → item_over t array subs [] ≡ Ok plain → (b : Bool)
        → HasAnswer s rank (cond b (Ok None) (and_then (item_over t array subs (widened_over s.program t.around (item_names s.program plain))) (λ x. Ok (Some x))))
    unless d plain ed e true = tt
    unless d plain ed e false =
        let loops = widened_over s.program t.around (item_names s.program plain) in
        let who = home plain e in
        some-answer s rank (item_over t array subs loops) (λ x k. over-reads s seen rank t reads array subs loops x who.0 who.1 k (inner d ed who.0 who.1) (widened-whole s.program t.around (item_names s.program plain)))

    by : (o : Option Distribution) → distribution_at s.program array ≡ o → HasAnswer s rank (item_by s.program t array subs o)
    by None e = tt
    by (Some d) e = then-answer s rank (item_over t array subs []) (item_unless_local s.program t d array subs) (λ plain k. unless d plain e k (is_local d plain.subs plain.home))

-- ---- uses

abbrev HasUse : Sight → ℕ → Use → Type 0
HasUse s rank u = HasItem s rank u.item

abbrev HasUses : Sight → ℕ → List Use → Type 0
HasUses s rank us = All (HasUse s rank) us

use-reads : (s : Sight) (rank : ℕ) (line : Line) (site : ℕ) (r : Result (Option LinearItem) FormRefusal) → HasAnswer s rank r → HasUses s rank (use_of line site r)
use-reads s rank line site (Ok (Some x)) h = All-cons (HasUse s rank) (record { line = line; site = site; item = x }) [] h (All-nil (HasUse s rank))
use-reads s rank line site (Ok None) h = All-nil (HasUse s rank)
use-reads s rank line site (Err why) h = All-nil (HasUse s rank)

abbrev stand : CheckedProgram → Line → Setting → Stand
stand p line t = record { program = p; line = line; setting = t }

-- some of the references
fewer-front : (p : CheckedProgram) (t : Setting) (xs ys : List Indexed) → AreValued p t (xs ++ ys) → AreValued p t xs
fewer-front p t xs ys h who e = front (λ x. (d : Distribution) → distribution_at p x.array ≡ Some d → IsIndexed p who x) xs ys (h who e)

fewer-back : (p : CheckedProgram) (t : Setting) (xs ys : List Indexed) → AreValued p t (xs ++ ys) → AreValued p t ys
fewer-back p t xs ys h who e = back (λ x. (d : Distribution) → distribution_at p x.array ≡ Some d → IsIndexed p who x) xs ys (h who e)

fewer-tail : (p : CheckedProgram) (t : Setting) (x : Indexed) (xs : List Indexed) → AreValued p t (x ∷ xs) → AreValued p t xs
fewer-tail p t x xs h who e = All-tail (λ y. (d : Distribution) → distribution_at p y.array ≡ Some d → IsIndexed p who y) x xs (h who e)

mutual
  uses-read : (s : Sight) → IsSeen s → (rank : ℕ) (line : Line) (t : Setting) → IsReading s rank t → (e : Expression) → AreValued s.program t (elements_in e) → HasUses s rank (expression_uses (stand s.program line t) e)
  uses-read s seen rank line t h (Number z) k = All-nil (HasUse s rank)
  uses-read s seen rank line t h (Scalar i) k = All-nil (HasUse s rank)
  uses-read s seen rank line t h (Element array subs site) k =
      All-append (HasUse s rank) (use_of line site (item_of_reference s.program t array subs)) (expressions_uses (stand s.program line t) subs)
      (use-reads s rank line site (item_of_reference s.program t array subs) (reference-reads s seen rank t h array subs (elements_among subs) k))
      (all_uses-read s seen rank line t h subs (fewer-tail s.program t (record { array = array; subs = subs }) (elements_among subs) k))
  uses-read s seen rank line t h (Negated a) k = uses-read s seen rank line t h a k
  uses-read s seen rank line t h (Joined op a b) k =
      All-append (HasUse s rank) (expression_uses (stand s.program line t) a) (expression_uses (stand s.program line t) b)
      (uses-read s seen rank line t h a (fewer-front s.program t (elements_in a) (elements_in b) k)) (uses-read s seen rank line t h b (fewer-back s.program t (elements_in a) (elements_in b) k))
  uses-read s seen rank line t h (Applied f args) k = all_uses-read s seen rank line t h args k

  all_uses-read : (s : Sight) → IsSeen s → (rank : ℕ) (line : Line) (t : Setting) → IsReading s rank t → (es : Expressions) → AreValued s.program t (elements_among es) → HasUses s rank (expressions_uses (stand s.program line t) es)
  all_uses-read s seen rank line t h End k = All-nil (HasUse s rank)
  all_uses-read s seen rank line t h (More e es) k =
      All-append (HasUse s rank) (expression_uses (stand s.program line t) e) (expressions_uses (stand s.program line t) es)
      (uses-read s seen rank line t h e (fewer-front s.program t (elements_in e) (elements_among es) k)) (all_uses-read s seen rank line t h es (fewer-back s.program t (elements_in e) (elements_among es) k))

condition-reads : (s : Sight) → IsSeen s → (rank : ℕ) (line : Line) (t : Setting) → IsReading s rank t → (c : Condition) → AreValued s.program t (condition_elements c) → HasUses s rank (condition_uses (stand s.program line t) c)
condition-reads s seen rank line t h (conditions.Fixed b) k = All-nil (HasUse s rank)
condition-reads s seen rank line t h (Compared rel a b) k =
    All-append (HasUse s rank) (expression_uses (stand s.program line t) a) (expression_uses (stand s.program line t) b)
    (uses-read s seen rank line t h a (fewer-front s.program t (elements_in a) (elements_in b) k)) (uses-read s seen rank line t h b (fewer-back s.program t (elements_in a) (elements_in b) k))
condition-reads s seen rank line t h (Not c) k = condition-reads s seen rank line t h c k
condition-reads s seen rank line t h (Both c d) k =
    All-append (HasUse s rank) (condition_uses (stand s.program line t) c) (condition_uses (stand s.program line t) d)
    (condition-reads s seen rank line t h c (fewer-front s.program t (condition_elements c) (condition_elements d) k)) (condition-reads s seen rank line t h d (fewer-back s.program t (condition_elements c) (condition_elements d) k))
condition-reads s seen rank line t h (Either c d) k =
    All-append (HasUse s rank) (condition_uses (stand s.program line t) c) (condition_uses (stand s.program line t) d)
    (condition-reads s seen rank line t h c (fewer-front s.program t (condition_elements c) (condition_elements d) k)) (condition-reads s seen rank line t h d (fewer-back s.program t (condition_elements c) (condition_elements d) k))

target-reads : (s : Sight) → IsSeen s → (rank : ℕ) (line : Line) (t : Setting) → IsReading s rank t → (target : Target) → AreValued s.program t (target_elements target) → HasUses s rank (target_uses (stand s.program line t) target)
target-reads s seen rank line t h (ToScalar k) i = All-nil (HasUse s rank)
target-reads s seen rank line t h (ToElement array subs site) i = all_uses-read s seen rank line t h subs (fewer-tail s.program t (record { array = array; subs = subs }) (elements_among subs) i)

printed-reads : (s : Sight) → IsSeen s → (rank : ℕ) (line : Line) (t : Setting) → IsReading s rank t → (items : List PrintItem) → AreValued s.program t (flat_map item_elements items)
    → HasUses s rank (flat_map (print_uses (stand s.program line t)) items)
printed-reads s seen rank line t h [] k = All-nil (HasUse s rank)
printed-reads s seen rank line t h (Words text ∷ items) k = printed-reads s seen rank line t h items k
printed-reads s seen rank line t h (Value e ∷ items) k =
    All-append (HasUse s rank) (expression_uses (stand s.program line t) e) (flat_map (print_uses (stand s.program line t)) items)
    (uses-read s seen rank line t h e (fewer-front s.program t (elements_in e) (flat_map item_elements items) k)) (printed-reads s seen rank line t h items (fewer-back s.program t (elements_in e) (flat_map item_elements items) k))

-- ---- statements

statement-keeps : (p : CheckedProgram) (s : Statement) → KeepsLocal p (λ bound. home_of_statement p bound s)
statement-keeps p s = λ plain widened d subs bound fs gs e f g h l. stays-local p s d subs bound fs gs plain widened e f g h l

all_ranks-read : (s : Sight) → IsSeen s → (rank : ℕ) (around : List Enclosing) (line : Line) → IsReading s rank (for_all_ranks s.program around line).setting
all_ranks-read s seen rank around line = record { home = told-home s rank EveryRank (λ vs. tt); local = statement-keeps s.program (Continue line) }

-- what all ranks value is what they may
all-valued : (p : CheckedProgram) (around : List Enclosing) (line : Line) (xs : List Indexed) → AreIndexed p EveryRank xs → AreValued p (for_all_ranks p around line).setting xs
all-valued p around line xs h who e = let same : EveryRank ≡ who = cc in let P : Executor → Type 0 = λ w. AreIndexed p w xs in subst P same h

root-valued : (p : CheckedProgram) (around : List Enclosing) (line : Line) (items : List PrintItem) (xs : List Indexed) → AreIndexed p RankZero xs → AreValued p (for_home_of p around line (Print line items)).setting xs
root-valued p around line items xs h who e = let same : RankZero ≡ who = cc in let P : Executor → Type 0 = λ w. AreIndexed p w xs in subst P same h

abbrev HasRow : Sight → ℕ → List Use → Type 0
HasRow s rank us = All (HasUse s rank) us

row : (s : Sight) (rank : ℕ) (us : List Use) (uss : List (List Use)) → HasUses s rank us → All (HasRow s rank) uss → All (HasRow s rank) (us ∷ uss)
row s rank us uss h k = All-cons (HasRow s rank) us uss h k

quiet : (s : Sight) (rank : ℕ) (uss : List (List Use)) → All (HasRow s rank) uss → All (HasRow s rank) ([] ∷ uss)
quiet s rank uss k = row s rank [] uss (All-nil (HasUse s rank)) k

no_rows : (s : Sight) (rank : ℕ) → All (HasRow s rank) []
no_rows s rank = All-nil (HasRow s rank)

mutual
  statement-reads : (s : Sight) → IsSeen s → (rank : ℕ) (around : List Enclosing) (x : Statement) → IsIndexedStatement s.program x → All (HasRow s rank) (uses_in s.program around x)
  statement-reads s seen rank around (Assign line target e) k =
      let p = s.program in
      let own : Setting = (for_home_of p around line (Assign line target e)).setting in
      row s rank (target_uses (for_all_ranks p around line) target ++ expression_uses (for_home_of p around line (Assign line target e)) e) []
      (All-append (HasUse s rank) (target_uses (for_all_ranks p around line) target) (expression_uses (for_home_of p around line (Assign line target e)) e)
      (target-reads s seen rank line (for_all_ranks p around line).setting (all_ranks-read s seen rank around line) target (all-valued p around line (target_elements target) k.0))
      (uses-read s seen rank line own (record { home = target-home s seen rank target k.0; local = statement-keeps p (Assign line target e) }) e k.1)) (no_rows s rank)
  statement-reads s seen rank around (If line c so otherwise) k =
      let p = s.program in
      row s rank (condition_uses (for_all_ranks p around line) c) ([] ∷ (uses_among p (Side ∷ around) so ++ ([] ∷ ([] ∷ (uses_among p (Side ∷ around) otherwise ++ ([] ∷ ([] ∷ [])))))))
      (condition-reads s seen rank line (for_all_ranks p around line).setting (all_ranks-read s seen rank around line) c (all-valued p around line (condition_elements c) k.0))
      (quiet s rank (uses_among p (Side ∷ around) so ++ ([] ∷ ([] ∷ (uses_among p (Side ∷ around) otherwise ++ ([] ∷ ([] ∷ []))))))
      (All-append (HasRow s rank) (uses_among p (Side ∷ around) so) ([] ∷ ([] ∷ (uses_among p (Side ∷ around) otherwise ++ ([] ∷ ([] ∷ [])))))
      (statements-read s seen rank (Side ∷ around) so k.1)
      (quiet s rank ([] ∷ (uses_among p (Side ∷ around) otherwise ++ ([] ∷ ([] ∷ [])))) (quiet s rank (uses_among p (Side ∷ around) otherwise ++ ([] ∷ ([] ∷ [])))
      (All-append (HasRow s rank) (uses_among p (Side ∷ around) otherwise) ([] ∷ ([] ∷ [])) (statements-read s seen rank (Side ∷ around) otherwise k.2) (quiet s rank ([] ∷ []) (quiet s rank [] (no_rows s rank))))))))
  statement-reads s seen rank around (Do line var first last by body) k =
      let p = s.program in let t = for_all_ranks p around line in let all = all_ranks-read s seen rank around line in
      let loop = counted var first last by body in
      row s rank (expression_uses t first ++ (expression_uses t last ++ expression_uses t by)) ([] ∷ (uses_among p (loop ∷ around) body ++ ([] ∷ [])))
      (All-append (HasUse s rank) (expression_uses t first) (expression_uses t last ++ expression_uses t by) (uses-read s seen rank line t.setting all first (all-valued p around line (elements_in first) k.0))
      (All-append (HasUse s rank) (expression_uses t last) (expression_uses t by) (uses-read s seen rank line t.setting all last (all-valued p around line (elements_in last) k.1)) (uses-read s seen rank line t.setting all by (all-valued p around line (elements_in by) k.2))))
      (quiet s rank (uses_among p (loop ∷ around) body ++ ([] ∷ []))
      (All-append (HasRow s rank) (uses_among p (loop ∷ around) body) ([] ∷ []) (statements-read s seen rank (loop ∷ around) body k.3) (quiet s rank [] (no_rows s rank))))
  statement-reads s seen rank around (While line c body) k =
      let p = s.program in let t = for_all_ranks p around line in let all = all_ranks-read s seen rank around line in
      row s rank (condition_uses t c) ([] ∷ (uses_among p (Repeated ∷ around) body ++ (condition_uses t c ∷ [])))
      (condition-reads s seen rank line t.setting all c (all-valued p around line (condition_elements c) k.0))
      (quiet s rank (uses_among p (Repeated ∷ around) body ++ (condition_uses t c ∷ []))
      (All-append (HasRow s rank) (uses_among p (Repeated ∷ around) body) (condition_uses t c ∷ []) (statements-read s seen rank (Repeated ∷ around) body k.1)
      (row s rank (condition_uses t c) [] (condition-reads s seen rank line t.setting all c (all-valued p around line (condition_elements c) k.0)) (no_rows s rank))))
  statement-reads s seen rank around (Read line target) k =
      let p = s.program in
      row s rank (target_uses (for_all_ranks p around line) target) [] (target-reads s seen rank line (for_all_ranks p around line).setting (all_ranks-read s seen rank around line) target (all-valued p around line (target_elements target) k)) (no_rows s rank)
  statement-reads s seen rank around (Print line items) k =
      let p = s.program in let t = for_home_of p around line (Print line items) in
      row s rank (flat_map (print_uses t) items) []
      (printed-reads s seen rank line t.setting (record { home = told-home s rank RankZero (λ vs. tt); local = statement-keeps p (Print line items) }) items (root-valued p around line items (flat_map item_elements items) k)) (no_rows s rank)
  statement-reads s seen rank around (Continue line) k = quiet s rank [] (no_rows s rank)
  statement-reads s seen rank around (Distribute line decomp given) k = quiet s rank [] (no_rows s rank)

  statements-read : (s : Sight) → IsSeen s → (rank : ℕ) (around : List Enclosing) (ss : Statements) → AreIndexedStatements s.program ss → All (HasRow s rank) (uses_among s.program around ss)
  statements-read s seen rank around Empty k = no_rows s rank
  statements-read s seen rank around (Then x ss) k =
      All-append (HasRow s rank) (uses_in s.program around x) (uses_among s.program around ss) (statement-reads s seen rank around x k.0) (statements-read s seen rank around ss k.1)

-- ---- the items of a program

flat-read : (s : Sight) (rank : ℕ) (uss : List (List Use)) → All (HasRow s rank) uss → HasUses s rank (flat_map (λ us. us) uss)
flat-read s rank [] h = All-nil (HasUse s rank)
flat-read s rank (us ∷ uss) h = All-append (HasUse s rank) us (flat_map (λ vs. vs) uss) (All-head (HasRow s rank) us uss h) (flat-read s rank uss (All-tail (HasRow s rank) us uss h))

first-reads : (s : Sight) (rank : ℕ) (us : List Use) → HasUses s rank us → HasUses s rank (first_uses us)
first-reads s rank [] h = h
first-reads s rank (u ∷ us) h =
    All-cons (HasUse s rank) u (filter (λ (v : Use). not (is_same_item u.item v.item)) (first_uses us)) (All-head (HasUse s rank) u us h)
    (All-filter (λ (v : Use). not (is_same_item u.item v.item)) (HasUse s rank) (first_uses us) (first-reads s rank us (All-tail (HasUse s rank) u us h)))

-- what the needs of an item depend on is replicated, or own where the rank executes
pub item-reads : (s : Sight) (x : LinearItem) (rank : ℕ) → IsAcceptedProgram s.program → AreConsistent s.program s.array_place s.decomp_place → ((array : ℕ) → s.readings.shape array ≡ shape_of s.program array)
    → Contains (items_of s.program) x → NeedsRead s (IsLocalElement s.program s.array_place rank) x rank
item-reads s x rank accepted consistent shapes member =
    let seen : IsSeen s = record { accepted = accepted; consistent = consistent; shapes = shapes } in
    let p = s.program in
    let body = statements-read s seen rank [] p.body accepted.indexed in
    let rows = quiet s rank (uses_among p [] p.body ++ ([] ∷ [])) (All-append (HasRow s rank) (uses_among p [] p.body) ([] ∷ []) body (quiet s rank [] (no_rows s rank))) in
    let all = All-map (HasItem s rank) (λ (u : Use). u.item) (firsts_of p) (first-reads s rank (uses_of p) (flat-read s rank (uses_by_node p) rows)) in
    All-contains (HasItem s rank) (items_of p) x all member
