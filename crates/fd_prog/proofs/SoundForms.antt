-- The forms of sound expressions and the items of sound programs are sound.
use Rattle.std.proofs.Common.{◌≡◌, refl, sym, ap, arith, subst, ℕ, zero, suc, ◌+◌, ◌<◌, ◌≤◌, ℤ, pos, ◌+ℤ◌, ◌*ℤ◌, Bool, true, false, not, cond, IsTrue, nat_lt, ◌&&◌, ◌==◌, List, [], ◌∷◌, ◌++◌, All, map, filter, flat_map, Option, Some, None, option_map, Result, Ok, Err}
use Rattle.std.specs.List.{position}
use Rattle.std.specs.declared.cmp.Ordering.{Ordering}
use Rattle.std.specs.declared.cmp.Ordering.TheVariants.{Less, Equal, Greater}
use Rattle.std.proofs.lemmas.Bool.Decides.{nat_tests}
use Rattle.std.proofs.lemmas.List.Elements.{All-nil, All-cons, All-head, All-tail, All-append, All-filter, All-map}
use Rattle.fd_base.specs.declared.numbers.FaultKind.{FaultKind}
use Rattle.fd_base.specs.declared.numbering.Line.{Line}
use Rattle.fd_base.specs.declared.shapes.Along.{Along}
use Rattle.fd_base.specs.declared.shapes.Along.TheVariants.{Fixed, Dim}
use Rattle.fd_base.specs.Numbers.{is_zero}
use Rattle.fd_prog.specs.declared.expression.Op2.{Op2}
use Rattle.fd_prog.specs.declared.expression.Op2.TheVariants.{Add, Sub, Mul, Div}
use Rattle.fd_prog.specs.declared.form.FormRefusal.{FormRefusal}
use Rattle.fd_prog.specs.declared.form.FormRefusal.TheVariants.{Terms, Coefficient}
use Rattle.fd_prog.specs.Outcomes.{and_then}
use Rattle.fd_prog.specs.Programs.{CheckedProgram}
use Rattle.fd_prog.specs.Expressions.{Expression, Number, Scalar, Element, Negated, Joined, Applied, Expressions, End, More}
use Rattle.fd_prog.specs.Conditions as conditions
use Rattle.fd_prog.specs.Conditions.{Condition, Compared, Not, Both, Either}
use Rattle.fd_prog.specs.Statements.{Target, ToScalar, ToElement, PrintItem, Words, Value, Statement, Assign, If, Do, While, Read, Print, Continue, Distribute, Statements, Empty, Then}
use Rattle.fd_prog.specs.Values.{applied}
use Rattle.fd_prog.specs.WellFormed.{Names, Takes, count_of, names_of, IsSound, AreSound, IsSoundCondition, IsSoundTarget, IsSoundItem as IsSoundPrintItem, IsSoundStatement, AreSoundStatements, IsSoundProgram}
use Rattle.fd_prog.specs.Forms.{LinearAtom, ElementOf, FunctionOf, QuotientOf, LinearForm, Sum, LinearTerms, NoTerms, Term, LinearForms, NoForms, Part, terms_in, atom_order}
use Rattle.fd_prog.specs.FormOf.{kept, joined_term, with_term, sum_of_terms, scaled_terms, sum_of, scaled, minus_one, constant, single, constant_in, constants_in, product, known_or, known_quotient, joined_form, scalar_atom, are_small, is_small, limited, form_of_expression, forms_of_expressions}
use Rattle.fd_prog.specs.Homes.{Distribution, Executor, EveryRank, RankZero, OwnerOf, distribution_at, element_home, form_at, location_of, plus_number, subscript_along, target_home}
use Rattle.fd_prog.specs.Items.{LinearLoop, LinearItem, CountedLoop, Enclosing, Side, Repeated, Counted, Setting, all_loop_forms, is_local, is_same_item, Name, item_by, item_names, item_of_reference, item_over, item_unless_local, loop_forms, loop_names, may_widen, widened_over, widened_past, with_loop, without}
use Rattle.fd_prog.specs.Uses.{Use, Stand, condition_uses, counted, expression_uses, expressions_uses, first_uses, firsts_of, for_all_ranks, for_home_of, items_of, print_uses, target_uses, use_of, uses_among, uses_by_node, uses_in, uses_of}
use Rattle.fd_prog.specs.SoundForms.{forms_in, IsSoundAtom, IsSoundForm, AreSoundTerms, AreSoundForms, IsSoundLoop, IsSoundHome, IsSoundItem}
use Rattle.fd_prog.proofs.Runs.{and_then-ok}

-- ---- terms

kept-sound : (n : Names) (c : ℤ) (a : LinearAtom) (ts : LinearTerms) → IsSoundAtom n a → AreSoundTerms n ts → AreSoundTerms n (kept c a ts)
kept-sound n c a ts h k = by (is_zero c)
  where
    by : (b : Bool) → AreSoundTerms n (cond b ts (Term c a ts))
    by true = k
    by false = (h, k)

with_term-sound : (n : Names) (c : ℤ) (a : LinearAtom) (ts : LinearTerms) → IsSoundAtom n a → AreSoundTerms n ts → AreSoundTerms n (with_term c a ts)
with_term-sound n c a NoTerms h k = kept-sound n c a NoTerms h tt
with_term-sound n c a (Term d b ts) h k = by (with_term-sound n c a ts h k.1) (atom_order a b)
  where
    by : AreSoundTerms n (with_term c a ts) → (o : Ordering) → AreSoundTerms n (joined_term o c a d b ts (with_term c a ts))
    by rest Less = kept-sound n c a (Term d b ts) h k
    by rest Equal = kept-sound n (c +ℤ d) b ts k.0 k.1
    by rest Greater = (k.0, rest)

sum-sound : (n : Names) (ts us : LinearTerms) → AreSoundTerms n ts → AreSoundTerms n us → AreSoundTerms n (sum_of_terms ts us)
sum-sound n NoTerms us h k = k
sum-sound n (Term c a ts) us h k = with_term-sound n c a (sum_of_terms ts us) h.0 (sum-sound n ts us h.1 k)

scaled-sound : (n : Names) (k : ℤ) (ts : LinearTerms) → AreSoundTerms n ts → AreSoundTerms n (scaled_terms k ts)
scaled-sound n k NoTerms h = tt
scaled-sound n k (Term c a ts) h = kept-sound n (k *ℤ c) a (scaled_terms k ts) h.0 (scaled-sound n k ts h.1)

-- ---- forms

-- the atoms of a form are sound
abbrev Named : Names → LinearForm → Type 0
Named n (Sum ts c) = AreSoundTerms n ts

named : (n : Names) (f : LinearForm) → IsSoundForm n f → Named n f
named n (Sum ts c) h = h.2

sum_of-named : (n : Names) (f g : LinearForm) → Named n f → Named n g → Named n (sum_of f g)
sum_of-named n (Sum ts c) (Sum us d) h k = sum-sound n ts us h k

scaled-named : (n : Names) (k : ℤ) (f : LinearForm) → Named n f → Named n (scaled k f)
scaled-named n k (Sum ts c) h = scaled-sound n k ts h

known-named : (n : Names) (q : Option (Result ℤ FaultKind)) (a : LinearAtom) → IsSoundAtom n a → Named n (known_or q a)
known-named n (Some (Ok z)) a h = tt
known-named n (Some (Err kind)) a h = (h, tt)
known-named n None a h = (h, tt)

product-named : (n : Names) (o p : Option ℤ) (f g : LinearForm) → IsSoundForm n f → IsSoundForm n g → Named n (product o p f g)
product-named n (Some x) p f g h k = scaled-named n x g (named n g k)
product-named n None (Some y) f g h k = scaled-named n y f (named n f h)
product-named n None None f g h k = ((h, k), tt)

joined-named : (n : Names) (op : Op2) (f g : LinearForm) → IsSoundForm n f → IsSoundForm n g → Named n (joined_form op f g)
joined-named n Add f g h k = sum_of-named n f g (named n f h) (named n g k)
joined-named n Sub f g h k = sum_of-named n f (scaled minus_one g) (named n f h) (scaled-named n minus_one g (named n g k))
joined-named n Mul f g h k = product-named n (constant_in f) (constant_in g) f g h k
joined-named n Div f g h k = known-named n (known_quotient (constant_in f) (constant_in g)) (QuotientOf f g) (h, k)

and-first : (b c : Bool) → IsTrue (b && c) → IsTrue b
and-first true c h = refl
and-first false c h = h

limited-sound : (n : Names) (f g : LinearForm) → limited f ≡ Ok g → Named n f → IsSoundForm n g
limited-sound n (Sum ts c) g h k = by (nat_lt 16 (terms_in ts)) refl (are_small ts && is_small c) refl h
  where
    P : LinearForm → Type 0
    P = IsSoundForm n

    by : (b : Bool) → nat_lt 16 (terms_in ts) ≡ b → (s : Bool) → (are_small ts && is_small c) ≡ s → cond b (Err Terms) (cond s (Ok (Sum ts c)) (Err Coefficient)) ≡ Ok g → IsSoundForm n g
    by true few s small e = absurd (cc)
    by false few true small e = let same : Sum ts c ≡ g = cc in subst P same (grind (arith, few, nat_tests), and-first (are_small ts) (is_small c) small, k)
    by false few false small e = absurd (cc)

single-sound : (n : Names) (a : LinearAtom) → IsSoundAtom n a → IsSoundForm n (single a)
single-sound n a h = (omega arith, refl, (h, tt))

scalar-sound : (n : Names) (o : Option ℕ) (s : ℕ) → s < n.scalars → IsSoundAtom n (scalar_atom o s)
scalar-sound n (Some i) s h = tt
scalar-sound n None s h = h

mutual
  -- the form of a sound expression
  pub form-sound : (n : Names) (bound : List ℕ) (e : Expression) (f : LinearForm) → form_of_expression bound e ≡ Ok f → IsSound n e → IsSoundForm n f
  form-sound n bound (Number z) f h k = limited-sound n (constant z) f h tt
  form-sound n bound (Scalar s) f h k =
      let same : single (scalar_atom (position (λ b. b == s) bound) s) ≡ f = cc in
      let P : LinearForm → Type 0 = IsSoundForm n in
      subst P same (single-sound n (scalar_atom (position (λ b. b == s) bound) s) (scalar-sound n (position (λ b. b == s) bound) s k))
  form-sound n bound (Element array subs site) f h k =
      let p = and_then-ok (forms_of_expressions bound subs) (λ fs. Ok (single (ElementOf array fs))) f h in
      let same : single (ElementOf array p.0) ≡ f = cc in
      let all = forms-sound n bound subs p.0 p.1 k.3 in
      let P : LinearForm → Type 0 = IsSoundForm n in
      subst P same (single-sound n (ElementOf array p.0) (k.0, omega (arith, all.1, k.1), omega (arith, all.1, k.2), all.0))
  form-sound n bound (Negated a) f h k =
      let p = and_then-ok (form_of_expression bound a) (λ g. limited (scaled minus_one g)) f h in
      limited-sound n (scaled minus_one p.0) f p.2 (scaled-named n minus_one p.0 (named n p.0 (form-sound n bound a p.0 p.1 k)))
  form-sound n bound (Joined op a b) f h k =
      let p = and_then-ok (form_of_expression bound a) (λ g. and_then (form_of_expression bound b) (λ m. limited (joined_form op g m))) f h in
      let q = and_then-ok (form_of_expression bound b) (λ m. limited (joined_form op p.0 m)) f p.2 in
      limited-sound n (joined_form op p.0 q.0) f q.2 (joined-named n op p.0 q.0 (form-sound n bound a p.0 p.1 k.0) (form-sound n bound b q.0 q.1 k.1))
  form-sound n bound (Applied g args) f h k =
      let p = and_then-ok (forms_of_expressions bound args) (λ fs. limited (known_or (option_map (applied g) (constants_in fs)) (FunctionOf g fs))) f h in
      let all = forms-sound n bound args p.0 p.1 k.1 in
      let T : ℕ → Type 0 = Takes g in
      limited-sound n (known_or (option_map (applied g) (constants_in p.0)) (FunctionOf g p.0)) f p.2
      (known-named n (option_map (applied g) (constants_in p.0)) (FunctionOf g p.0) (subst T (sym all.1) k.0, all.0))

  -- the forms of sound expressions, one for each
  pub forms-sound : (n : Names) (bound : List ℕ) (es : Expressions) (fs : LinearForms) → forms_of_expressions bound es ≡ Ok fs → AreSound n es → AreSoundForms n fs × (forms_in fs ≡ count_of es)
  forms-sound n bound End fs h k =
      let same : NoForms ≡ fs = cc in
      let P : LinearForms → Type 0 = λ gs. AreSoundForms n gs × (forms_in gs ≡ 0) in
      subst P same (tt, refl)
  forms-sound n bound (More e es) fs h k =
      let p = and_then-ok (form_of_expression bound e) (λ f. and_then (forms_of_expressions bound es) (λ gs. Ok (Part f gs))) fs h in
      let q = and_then-ok (forms_of_expressions bound es) (λ gs. Ok (Part p.0 gs)) fs p.2 in
      let same : Part p.0 q.0 ≡ fs = cc in
      let rest = forms-sound n bound es q.0 q.1 k.1 in
      let P : LinearForms → Type 0 = λ gs. AreSoundForms n gs × (forms_in gs ≡ count_of es + 1) in
      subst P same ((form-sound n bound e p.0 p.1 k.0, rest.0), ap (λ m. m + 1) rest.1)

-- ---- loops and homes

abbrev IsSoundCounted : Names → CountedLoop → Type 0
IsSoundCounted n l = IsSound n l.first × IsSound n l.last × IsSound n l.step

abbrev IsSoundEnclosing : Names → Enclosing → Type 0
IsSoundEnclosing n Side = Unit {0}
IsSoundEnclosing n Repeated = Unit {0}
IsSoundEnclosing n (Counted l) = IsSoundCounted n l

with_loop-sound : (n : Names) (b : Bool) (l : CountedLoop) (outer : List CountedLoop) → IsSoundCounted n l → All (IsSoundCounted n) outer → All (IsSoundCounted n) (with_loop b l outer)
with_loop-sound n true l outer h k = All-append (IsSoundCounted n) outer (l ∷ []) k (All-cons (IsSoundCounted n) l [] h (All-nil (IsSoundCounted n)))
with_loop-sound n false l outer h k = All-nil (IsSoundCounted n)

widened-sound : (p : CheckedProgram) (n : Names) (around : List Enclosing) (names : List Name) → All (IsSoundEnclosing n) around → All (IsSoundCounted n) (widened_over p around names)
widened-sound p n [] names h = All-nil (IsSoundCounted n)
widened-sound p n (Side ∷ around) names h = All-nil (IsSoundCounted n)
widened-sound p n (Repeated ∷ around) names h = All-nil (IsSoundCounted n)
widened-sound p n (Counted l ∷ around) names h = by (λ others. widened-sound p n around others (All-tail (IsSoundEnclosing n) (Counted l) around h)) (loop_forms [] l)
  where
    by : ((others : List Name) → All (IsSoundCounted n) (widened_over p around others)) → (r : Result LinearLoop FormRefusal) → All (IsSoundCounted n) (widened_past p names l r (widened_over p around))
    by rest (Err why) = All-nil (IsSoundCounted n)
    by rest (Ok m) =
        with_loop-sound n (may_widen p names l (loop_names m)) l (widened_over p around (without l.var (names ++ loop_names m)))
        (All-head (IsSoundEnclosing n) (Counted l) around h) (rest (without l.var (names ++ loop_names m)))

loop-sound : (n : Names) (bound : List ℕ) (l : CountedLoop) (m : LinearLoop) → loop_forms bound l ≡ Ok m → IsSoundCounted n l → IsSoundLoop n m
loop-sound n bound l m h k =
    let first = and_then-ok (form_of_expression bound l.first) (λ x. and_then (form_of_expression bound l.last) (λ y. and_then (form_of_expression bound l.step) (λ z. Ok (record { first = x; last = y; step = z })))) m h in
    let last = and_then-ok (form_of_expression bound l.last) (λ y. and_then (form_of_expression bound l.step) (λ z. Ok (record { first = first.0; last = y; step = z }))) m first.2 in
    let step = and_then-ok (form_of_expression bound l.step) (λ z. Ok (record { first = first.0; last = last.0; step = z })) m last.2 in
    let made : LinearLoop = record { first = first.0; last = last.0; step = step.0 } in
    let same : made ≡ m = cc in
    let P : LinearLoop → Type 0 = IsSoundLoop n in
    subst P same (record { first = form-sound n bound l.first first.0 first.1 k.0; last = form-sound n bound l.last last.0 last.1 k.1; step = form-sound n bound l.step step.0 step.1 k.2 })

loops-sound : (n : Names) (bound : List ℕ) (ls : List CountedLoop) (ms : List LinearLoop) → all_loop_forms bound ls ≡ Ok ms → All (IsSoundCounted n) ls → All (IsSoundLoop n) ms
loops-sound n bound [] ms h k =
    let none : List LinearLoop = [] in
    let same : none ≡ ms = cc in
    let P : List LinearLoop → Type 0 = All (IsSoundLoop n) in
    subst P same (All-nil (IsSoundLoop n))
loops-sound n bound (l ∷ ls) ms h k =
    let first = and_then-ok (loop_forms bound l) (λ x. and_then (all_loop_forms bound ls) (λ xs. Ok (x ∷ xs))) ms h in
    let rest = and_then-ok (all_loop_forms bound ls) (λ xs. Ok (first.0 ∷ xs)) ms first.2 in
    let same : (first.0 ∷ rest.0) ≡ ms = cc in
    let P : List LinearLoop → Type 0 = All (IsSoundLoop n) in
    subst P same (All-cons (IsSoundLoop n) first.0 rest.0 (loop-sound n bound l first.0 first.1 (All-head (IsSoundCounted n) l ls k)) (loops-sound n bound ls rest.0 rest.1 (All-tail (IsSoundCounted n) l ls k)))

constant-sound : (n : Names) (z : ℤ) → IsSoundForm n (constant z)
constant-sound n z = (omega arith, refl, tt)

plus-sound : (n : Names) (f : LinearForm) (z : ℤ) → IsSoundForm n f → IsSoundForm n (plus_number f z)
plus-sound n (Sum ts c) z h = h

form_at-sound : (n : Names) (fs : LinearForms) (dim : ℕ) → AreSoundForms n fs → IsSoundForm n (form_at fs dim)
form_at-sound n NoForms dim h = constant-sound n (pos 0)
form_at-sound n (Part f fs) zero h = h.0
form_at-sound n (Part f fs) (suc dim) h = form_at-sound n fs dim h.1

along-sound : (n : Names) (a : Along) (low : ℤ) (fs : LinearForms) → AreSoundForms n fs → IsSoundForm n (subscript_along a low fs)
along-sound n (Fixed position) low fs h = constant-sound n (pos position +ℤ low)
along-sound n (Dim dim shift) low fs h = plus-sound n (form_at fs dim) (shift +ℤ low) (form_at-sound n fs dim h)

element_home-sound : (n : Names) (d : Option Distribution) (bound : List ℕ) (subs : Expressions) (home : Executor) → element_home d bound subs ≡ Ok home → AreSound n subs → IsSoundHome n home
element_home-sound n None bound subs home h k =
    let every : Executor = EveryRank in
    let same : every ≡ home = cc in
    let P : Executor → Type 0 = IsSoundHome n in
    subst P same tt
element_home-sound n (Some d) bound subs home h k =
    let p = and_then-ok (forms_of_expressions bound subs) (λ fs. Ok (OwnerOf (location_of d fs))) home h in
    let owner : Executor = OwnerOf (location_of d p.0) in
    let same : owner ≡ home = cc in
    let all = forms-sound n bound subs p.0 p.1 k in
    let P : Executor → Type 0 = IsSoundHome n in
    subst P same (along-sound n d.along d.low p.0 all.0)

-- who executes has a sound location
abbrev IsSoundBy : Names → (List ℕ → Result Executor FormRefusal) → Type 0
IsSoundBy n home = (bound : List ℕ) (h : Executor) → home bound ≡ Ok h → IsSoundHome n h

every-sound : (n : Names) → IsSoundBy n (λ bound. Ok EveryRank)
every-sound n bound h e =
    let every : Executor = EveryRank in
    let same : every ≡ h = cc in
    let P : Executor → Type 0 = IsSoundHome n in
    subst P same tt

root-sound : (n : Names) → IsSoundBy n (λ bound. Ok RankZero)
root-sound n bound h e =
    let root : Executor = RankZero in
    let same : root ≡ h = cc in
    let P : Executor → Type 0 = IsSoundHome n in
    subst P same tt

target-sound : (p : CheckedProgram) (n : Names) (target : Target) → IsSoundTarget n target → IsSoundBy n (λ bound. target_home p bound target)
target-sound p n (ToScalar s) k = every-sound n
target-sound p n (ToElement array subs site) k = λ bound h e. element_home-sound n (distribution_at p array) bound subs h e k.3

-- ---- items of references

record IsSoundStand (n : Names) (t : Stand) : Type 0 where
  around : All (IsSoundEnclosing n) t.setting.around
  home : IsSoundBy n t.setting.home

-- a reference to an array that there is, with one or two sound subscripts
abbrev IsSoundReference : Names → ℕ → Expressions → Type 0
IsSoundReference n array subs = (array < n.arrays) × (1 ≤ count_of subs) × (count_of subs ≤ 2) × AreSound n subs

over-sound : (n : Names) (s : Setting) (array : ℕ) (subs : Expressions) (loops : List CountedLoop) (x : LinearItem) → item_over s array subs loops ≡ Ok x
    → IsSoundReference n array subs → IsSoundBy n s.home → All (IsSoundCounted n) loops → IsSoundItem n x
over-sound n s array subs loops x h k home ls =
    let bound = map (λ (l : CountedLoop). l.var) loops in
    let a = and_then-ok (forms_of_expressions bound subs) (λ fs. and_then (s.home bound) (λ who. and_then (all_loop_forms bound loops) (λ ms. Ok (record { array = array; subs = fs; loops = ms; home = who })))) x h in
    let b = and_then-ok (s.home bound) (λ who. and_then (all_loop_forms bound loops) (λ ms. Ok (record { array = array; subs = a.0; loops = ms; home = who }))) x a.2 in
    let c = and_then-ok (all_loop_forms bound loops) (λ ms. Ok (record { array = array; subs = a.0; loops = ms; home = b.0 })) x b.2 in
    let made : LinearItem = record { array = array; subs = a.0; loops = c.0; home = b.0 } in
    let same : made ≡ x = cc in
    let all = forms-sound n bound subs a.0 a.1 k.3 in
    let P : LinearItem → Type 0 = IsSoundItem n in
    subst P {x = made} same (record {
      array = k.0;
      least = omega (arith, all.1, k.1);
      most = omega (arith, all.1, k.2);
      subs = all.0;
      loops = loops-sound n bound loops c.0 c.1 ls;
      home = home bound b.0 b.1;
    })

-- the item that there may be is sound
abbrev IsSoundAnswer : Names → Result (Option LinearItem) FormRefusal → Type 0
IsSoundAnswer n (Ok (Some x)) = IsSoundItem n x
IsSoundAnswer n (Ok None) = Unit {0}
IsSoundAnswer n (Err why) = Unit {0}

some-sound : (n : Names) (r : Result LinearItem FormRefusal) → ((x : LinearItem) → r ≡ Ok x → IsSoundItem n x) → IsSoundAnswer n (and_then r (λ x. Ok (Some x)))
some-sound n (Ok x) h = h x refl
some-sound n (Err why) h = tt

then-sound : (n : Names) (r : Result LinearItem FormRefusal) (f : LinearItem → Result (Option LinearItem) FormRefusal) → ((x : LinearItem) → IsSoundAnswer n (f x)) → IsSoundAnswer n (and_then r f)
then-sound n (Ok x) f h = h x
then-sound n (Err why) f h = tt

reference-sound : (n : Names) (t : Stand) (array : ℕ) (subs : Expressions) → IsSoundStand n t → IsSoundReference n array subs → IsSoundAnswer n (item_of_reference t.program t.setting array subs)
reference-sound n t array subs h k = by (distribution_at t.program array)
  where
    unless : (d : Distribution) (plain : LinearItem) (b : Bool)
        → IsSoundAnswer n (cond b (Ok None) (and_then (item_over t.setting array subs (widened_over t.program t.setting.around (item_names t.program plain))) (λ x. Ok (Some x))))
    unless d plain true = tt
    unless d plain false =
        let loops = widened_over t.program t.setting.around (item_names t.program plain) in
        some-sound n (item_over t.setting array subs loops) (λ x e. over-sound n t.setting array subs loops x e k h.home (widened-sound t.program n t.setting.around (item_names t.program plain) h.around))

    by : (d : Option Distribution) → IsSoundAnswer n (item_by t.program t.setting array subs d)
    by None = tt
    by (Some d) = then-sound n (item_over t.setting array subs []) (item_unless_local t.program t.setting d array subs) (λ plain. unless d plain (is_local d plain.subs plain.home))

-- ---- uses

abbrev IsSoundUse : Names → Use → Type 0
IsSoundUse n u = IsSoundItem n u.item

use-sound : (n : Names) (line : Line) (site : ℕ) (r : Result (Option LinearItem) FormRefusal) → IsSoundAnswer n r → All (IsSoundUse n) (use_of line site r)
use-sound n line site (Ok (Some x)) h = All-cons (IsSoundUse n) (record { line = line; site = site; item = x }) [] h (All-nil (IsSoundUse n))
use-sound n line site (Ok None) h = All-nil (IsSoundUse n)
use-sound n line site (Err why) h = All-nil (IsSoundUse n)

mutual
  uses-sound : (n : Names) (t : Stand) → IsSoundStand n t → (e : Expression) → IsSound n e → All (IsSoundUse n) (expression_uses t e)
  uses-sound n t h (Number z) k = All-nil (IsSoundUse n)
  uses-sound n t h (Scalar s) k = All-nil (IsSoundUse n)
  uses-sound n t h (Element array subs site) k =
      All-append (IsSoundUse n) (use_of t.line site (item_of_reference t.program t.setting array subs)) (expressions_uses t subs)
      (use-sound n t.line site (item_of_reference t.program t.setting array subs) (reference-sound n t array subs h k)) (all_uses-sound n t h subs k.3)
  uses-sound n t h (Negated a) k = uses-sound n t h a k
  uses-sound n t h (Joined op a b) k = All-append (IsSoundUse n) (expression_uses t a) (expression_uses t b) (uses-sound n t h a k.0) (uses-sound n t h b k.1)
  uses-sound n t h (Applied f args) k = all_uses-sound n t h args k.1

  all_uses-sound : (n : Names) (t : Stand) → IsSoundStand n t → (es : Expressions) → AreSound n es → All (IsSoundUse n) (expressions_uses t es)
  all_uses-sound n t h End k = All-nil (IsSoundUse n)
  all_uses-sound n t h (More e es) k = All-append (IsSoundUse n) (expression_uses t e) (expressions_uses t es) (uses-sound n t h e k.0) (all_uses-sound n t h es k.1)

condition-sound : (n : Names) (t : Stand) → IsSoundStand n t → (c : Condition) → IsSoundCondition n c → All (IsSoundUse n) (condition_uses t c)
condition-sound n t h (conditions.Fixed b) k = All-nil (IsSoundUse n)
condition-sound n t h (Compared rel a b) k = All-append (IsSoundUse n) (expression_uses t a) (expression_uses t b) (uses-sound n t h a k.0) (uses-sound n t h b k.1)
condition-sound n t h (Not c) k = condition-sound n t h c k
condition-sound n t h (Both c d) k = All-append (IsSoundUse n) (condition_uses t c) (condition_uses t d) (condition-sound n t h c k.0) (condition-sound n t h d k.1)
condition-sound n t h (Either c d) k = All-append (IsSoundUse n) (condition_uses t c) (condition_uses t d) (condition-sound n t h c k.0) (condition-sound n t h d k.1)

target_uses-sound : (n : Names) (t : Stand) → IsSoundStand n t → (target : Target) → IsSoundTarget n target → All (IsSoundUse n) (target_uses t target)
target_uses-sound n t h (ToScalar s) k = All-nil (IsSoundUse n)
target_uses-sound n t h (ToElement array subs site) k = all_uses-sound n t h subs k.3

printed-sound : (n : Names) (t : Stand) → IsSoundStand n t → (items : List PrintItem) → All (IsSoundPrintItem n) items → All (IsSoundUse n) (flat_map (print_uses t) items)
printed-sound n t h [] k = All-nil (IsSoundUse n)
printed-sound n t h (Words text ∷ items) k = printed-sound n t h items (All-tail (IsSoundPrintItem n) (Words text) items k)
printed-sound n t h (Value e ∷ items) k =
    All-append (IsSoundUse n) (expression_uses t e) (flat_map (print_uses t) items)
    (uses-sound n t h e (All-head (IsSoundPrintItem n) (Value e) items k)) (printed-sound n t h items (All-tail (IsSoundPrintItem n) (Value e) items k))

-- ---- statements

all_ranks-sound : (p : CheckedProgram) (n : Names) (around : List Enclosing) (line : Line) → All (IsSoundEnclosing n) around → IsSoundStand n (for_all_ranks p around line)
all_ranks-sound p n around line h = record { around = h; home = every-sound n }

abbrev IsSoundRow : Names → List Use → Type 0
IsSoundRow n us = All (IsSoundUse n) us

row : (n : Names) (us : List Use) (uss : List (List Use)) → All (IsSoundUse n) us → All (IsSoundRow n) uss → All (IsSoundRow n) (us ∷ uss)
row n us uss h k = All-cons (IsSoundRow n) us uss h k

quiet : (n : Names) (uss : List (List Use)) → All (IsSoundRow n) uss → All (IsSoundRow n) ([] ∷ uss)
quiet n uss k = row n [] uss (All-nil (IsSoundUse n)) k

no_rows : (n : Names) → All (IsSoundRow n) []
no_rows n = All-nil (IsSoundRow n)

mutual
  statement-sound : (p : CheckedProgram) (n : Names) (around : List Enclosing) → All (IsSoundEnclosing n) around → (s : Statement) → IsSoundStatement n s → All (IsSoundRow n) (uses_in p around s)
  statement-sound p n around h (Assign line target e) k =
      let all = all_ranks-sound p n around line h in
      row n (target_uses (for_all_ranks p around line) target ++ expression_uses (for_home_of p around line (Assign line target e)) e) []
      (All-append (IsSoundUse n) (target_uses (for_all_ranks p around line) target) (expression_uses (for_home_of p around line (Assign line target e)) e)
      (target_uses-sound n (for_all_ranks p around line) all target k.0)
      (uses-sound n (for_home_of p around line (Assign line target e)) (record { around = h; home = target-sound p n target k.0 }) e k.1)) (no_rows n)
  statement-sound p n around h (If line c so otherwise) k =
      let inside = All-cons (IsSoundEnclosing n) Side around tt h in
      row n (condition_uses (for_all_ranks p around line) c) ([] ∷ (uses_among p (Side ∷ around) so ++ ([] ∷ ([] ∷ (uses_among p (Side ∷ around) otherwise ++ ([] ∷ ([] ∷ [])))))))
      (condition-sound n (for_all_ranks p around line) (all_ranks-sound p n around line h) c k.0)
      (quiet n (uses_among p (Side ∷ around) so ++ ([] ∷ ([] ∷ (uses_among p (Side ∷ around) otherwise ++ ([] ∷ ([] ∷ []))))))
      (All-append (IsSoundRow n) (uses_among p (Side ∷ around) so) ([] ∷ ([] ∷ (uses_among p (Side ∷ around) otherwise ++ ([] ∷ ([] ∷ [])))))
      (statements-sound p n (Side ∷ around) inside so k.1)
      (quiet n ([] ∷ (uses_among p (Side ∷ around) otherwise ++ ([] ∷ ([] ∷ [])))) (quiet n (uses_among p (Side ∷ around) otherwise ++ ([] ∷ ([] ∷ [])))
      (All-append (IsSoundRow n) (uses_among p (Side ∷ around) otherwise) ([] ∷ ([] ∷ [])) (statements-sound p n (Side ∷ around) inside otherwise k.2) (quiet n ([] ∷ []) (quiet n [] (no_rows n))))))))
  statement-sound p n around h (Do line var first last by body) k =
      let t = for_all_ranks p around line in let all = all_ranks-sound p n around line h in
      let loop = counted var first last by body in
      let inside = All-cons (IsSoundEnclosing n) loop around (k.1, k.2, k.3) h in
      row n (expression_uses t first ++ (expression_uses t last ++ expression_uses t by)) ([] ∷ (uses_among p (loop ∷ around) body ++ ([] ∷ [])))
      (All-append (IsSoundUse n) (expression_uses t first) (expression_uses t last ++ expression_uses t by) (uses-sound n t all first k.1)
      (All-append (IsSoundUse n) (expression_uses t last) (expression_uses t by) (uses-sound n t all last k.2) (uses-sound n t all by k.3)))
      (quiet n (uses_among p (loop ∷ around) body ++ ([] ∷ []))
      (All-append (IsSoundRow n) (uses_among p (loop ∷ around) body) ([] ∷ []) (statements-sound p n (loop ∷ around) inside body k.4) (quiet n [] (no_rows n))))
  statement-sound p n around h (While line c body) k =
      let t = for_all_ranks p around line in let all = all_ranks-sound p n around line h in
      let inside = All-cons (IsSoundEnclosing n) Repeated around tt h in
      row n (condition_uses t c) ([] ∷ (uses_among p (Repeated ∷ around) body ++ (condition_uses t c ∷ [])))
      (condition-sound n t all c k.0)
      (quiet n (uses_among p (Repeated ∷ around) body ++ (condition_uses t c ∷ []))
      (All-append (IsSoundRow n) (uses_among p (Repeated ∷ around) body) (condition_uses t c ∷ []) (statements-sound p n (Repeated ∷ around) inside body k.1)
      (row n (condition_uses t c) [] (condition-sound n t all c k.0) (no_rows n))))
  statement-sound p n around h (Read line target) k =
      row n (target_uses (for_all_ranks p around line) target) [] (target_uses-sound n (for_all_ranks p around line) (all_ranks-sound p n around line h) target k) (no_rows n)
  statement-sound p n around h (Print line items) k =
      let t = for_home_of p around line (Print line items) in
      row n (flat_map (print_uses t) items) [] (printed-sound n t (record { around = h; home = root-sound n }) items k) (no_rows n)
  statement-sound p n around h (Continue line) k = quiet n [] (no_rows n)
  statement-sound p n around h (Distribute line decomp given) k = quiet n [] (no_rows n)

  statements-sound : (p : CheckedProgram) (n : Names) (around : List Enclosing) → All (IsSoundEnclosing n) around → (ss : Statements) → AreSoundStatements n ss → All (IsSoundRow n) (uses_among p around ss)
  statements-sound p n around h Empty k = no_rows n
  statements-sound p n around h (Then s ss) k =
      All-append (IsSoundRow n) (uses_in p around s) (uses_among p around ss) (statement-sound p n around h s k.0) (statements-sound p n around h ss k.1)

-- ---- the items of a program

flat-sound : (n : Names) (uss : List (List Use)) → All (IsSoundRow n) uss → All (IsSoundUse n) (flat_map (λ us. us) uss)
flat-sound n [] h = All-nil (IsSoundUse n)
flat-sound n (us ∷ uss) h = All-append (IsSoundUse n) us (flat_map (λ vs. vs) uss) (All-head (IsSoundRow n) us uss h) (flat-sound n uss (All-tail (IsSoundRow n) us uss h))

first-sound : (n : Names) (us : List Use) → All (IsSoundUse n) us → All (IsSoundUse n) (first_uses us)
first-sound n [] h = h
first-sound n (u ∷ us) h =
    All-cons (IsSoundUse n) u (filter (λ (v : Use). not (is_same_item u.item v.item)) (first_uses us)) (All-head (IsSoundUse n) u us h)
    (All-filter (λ (v : Use). not (is_same_item u.item v.item)) (IsSoundUse n) (first_uses us) (first-sound n us (All-tail (IsSoundUse n) u us h)))

-- the items of a sound program are sound
pub items-sound : (p : CheckedProgram) → IsSoundProgram p → All (IsSoundItem (names_of p)) (items_of p)
items-sound p h =
    let n = names_of p in
    let body = statements-sound p n [] (All-nil (IsSoundEnclosing n)) p.body h.body in
    let rows = quiet n (uses_among p [] p.body ++ ([] ∷ [])) (All-append (IsSoundRow n) (uses_among p [] p.body) ([] ∷ []) body (quiet n [] (no_rows n))) in
    All-map (IsSoundItem n) (λ (u : Use). u.item) (firsts_of p) (first-sound n (uses_of p) (flat-sound n (uses_by_node p) rows))
