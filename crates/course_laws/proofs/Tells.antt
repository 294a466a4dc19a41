-- The bounds of a loop over widened variables, in a store that has the same of what they name, are those that the loop begins with.
use Rattle.std.proofs.Common.{◌≡◌, ℕ, zero, suc, ◌<◌, ◌==◌, ℤ, pos, negsuc, Bool, true, false, cond, List, [], ◌∷◌, ◌++◌, map, length, get_or, slice_index_or, All, Option, Some, None, option_map, Result, Ok, Err, refl, sym, ap, ◌∙◌, subst, arith}
use Rattle.std.specs.List.{position}
use Rattle.std.proofs.lemmas.Bool.Decides.{nat_tests}
use Rattle.std.proofs.lemmas.List.{get_or-set_same}
use Rattle.fd_base.specs.Numbers.{exact, exact_trip_count, fits_i64}
use Rattle.fd_base.specs.declared.numbers.FaultKind.TheVariants.{Overflow}
use Rattle.fd_prog.specs.declared.form.FormRefusal.{FormRefusal}
use Rattle.fd_prog.specs.declared.form.FormRefusal.TheVariants.{Coefficient}
use Rattle.fd_prog.specs.Expressions.{Expression, Number, Scalar, Element, Negated, Joined, Applied, Expressions, End, More}
use Rattle.fd_prog.specs.Forms.{ElementOf, FunctionOf, LinearForm, LinearForms, Part}
use Rattle.fd_prog.specs.FormOf.{constant, form_of_expression, forms_of_expressions, is_small, joined_form, known_or, limited, minus_one, scaled, single, constants_in, scalar_atom}
use Rattle.fd_prog.specs.FormValues.{AreWords, form_value}
use Rattle.fd_prog.specs.Items.{LinearLoop, Name, ScalarName, ArrayName, DecompName, form_names, loop_forms, loop_names, CountedLoop}
use Rattle.fd_prog.specs.Needs.{bound_value, loop_numbers}
use Rattle.fd_prog.specs.Outcomes.{and_then}
use Rattle.fd_prog.specs.Programs.{CheckedProgram}
use Rattle.fd_prog.specs.Sequence.{Bounds, bounds_of}
use Rattle.fd_prog.specs.Statements.{ToScalar}
use Rattle.fd_prog.specs.Stores.{Store, ScalarCell, assigned, put, readings_of, shape_of}
use Rattle.fd_prog.specs.Values.{Readings, applied, value_of}
use Rattle.fd_prog.specs.Words.{HasWords, HaveWords}
use Rattle.fd_prog.proofs.FormValues.{value-kept}
use Rattle.fd_prog.proofs.Runs.{and_then-ok}
use Rattle.fd_prog.proofs.StoredWords.{assigned-words}
use Rattle.rank_part.proofs.FormReading.{back, front}
use Rattle.rank_part.proofs.Images.{form-image, narrowing, put_form, widening}
use Rattle.rank_part.proofs.ItemReading.{loop-ok}
use Rattle.course_laws.proofs.Leaves.{AreSame, LeavesAtom, form-same, image-leaves}

-- ---- numbers that are written

small-fits : (z : ℤ) → is_small z ≡ true → fits_i64 z ≡ true
small-fits (pos n) h = grind (arith, nat_tests)
small-fits (negsuc n) h = grind (arith, nat_tests)

constant-fits : (z : ℤ) (f : LinearForm) → limited (constant z) ≡ Ok f → fits_i64 z ≡ true
constant-fits z f h = by (is_small z) refl h
  where
    kept_if : Bool → Result LinearForm FormRefusal
    kept_if b = cond b (Ok (constant z)) (Err Coefficient)

    by : (b : Bool) → is_small z ≡ b → kept_if b ≡ Ok f → fits_i64 z ≡ true
    by true e k = small-fits z e
    by false e k = absurd (cc)

mutual
  -- what an expression with a form writes fits 64 bits
  form-words : (e : Expression) (f : LinearForm) → form_of_expression [] e ≡ Ok f → HasWords e
  form-words (Number z) f h = constant-fits z f h
  form-words (Scalar s) f h = tt
  form-words (Element array subs site) f h = let p = and_then-ok (forms_of_expressions [] subs) (λ fs. Ok (single (ElementOf array fs))) f h in forms-words subs p.0 p.1
  form-words (Negated a) f h = let p = and_then-ok (form_of_expression [] a) (λ g. limited (scaled minus_one g)) f h in form-words a p.0 p.1
  form-words (Joined op a b) f h =
      let p = and_then-ok (form_of_expression [] a) (λ g. and_then (form_of_expression [] b) (λ m. limited (joined_form op g m))) f h in
      let q = and_then-ok (form_of_expression [] b) (λ m. limited (joined_form op p.0 m)) f p.2 in
      (form-words a p.0 p.1, form-words b q.0 q.1)
  form-words (Applied g args) f h =
      let p = and_then-ok (forms_of_expressions [] args) (λ fs. limited (known_or (option_map (applied g) (constants_in fs)) (FunctionOf g fs))) f h in
      forms-words args p.0 p.1

  forms-words : (es : Expressions) (fs : LinearForms) → forms_of_expressions [] es ≡ Ok fs → HaveWords es
  forms-words End fs h = tt
  forms-words (More e es) fs h =
      let p = and_then-ok (form_of_expression [] e) (λ f. and_then (forms_of_expressions [] es) (λ gs. Ok (Part f gs))) fs h in
      let q = and_then-ok (forms_of_expressions [] es) (λ gs. Ok (Part p.0 gs)) fs p.2 in
      (form-words e p.0 p.1, forms-words es q.0 q.1)

-- and so does its value
value-fits : (p : CheckedProgram) (s : Store) (var : ℕ) (e : Expression) (x : ℤ) → var < length s.scalars → AreWords (readings_of p s) → HasWords e → value_of (readings_of p s) e ≡ Ok x → fits_i64 x ≡ true
value-fits p s var e x lt words has h =
    let stored : assigned p (ToScalar var) e s ≡ Ok (put (ScalarCell var) x s) = ap (λ o. and_then o (λ y. Ok (put (ScalarCell var) y s))) h in
    let fine = assigned-words p (ToScalar var) e s (put (ScalarCell var) x s) words has stored in
    ap fits_i64 (sym (get_or-set_same s.scalars var x (pos 0) lt)) ∙ fine.scalars var

-- ---- stores that have the same of names

abbrev pub HasSame : CheckedProgram → Readings → Store → Name → Type 0
HasSame p r s (ScalarName k) = r.scalar k ≡ slice_index_or s.scalars k (pos 0)
HasSame p r s (ArrayName array) = (n : ℕ) → r.element array None n ≡ slice_index_or (slice_index_or s.arrays array []) n (pos 0)
HasSame p r s (DecompName decomp) = Unit {0}

-- the numbers of scalars
abbrev pub scalars_at : Store → List ℕ → List ℤ
scalars_at s vars = map (λ k. slice_index_or s.scalars k (pos 0)) vars

-- a name in a bound of the loop of this number: a variable of a loop further out, or one of some names
abbrev pub WhereAt : (Name → Type 0) → ℕ → ℕ → Option ℕ → Type 0
WhereAt N level k None = N (ScalarName k)
WhereAt N level k (Some i) = i < level

abbrev pub IsOutside : (Name → Type 0) → List ℕ → ℕ → Name → Type 0
IsOutside N bound level (ScalarName k) = WhereAt N level k (position (λ b. b == k) bound)
IsOutside N bound level (ArrayName array) = N (ArrayName array)
IsOutside N bound level (DecompName decomp) = Unit {0}

get-front : (f : ℕ → ℤ) (xs ys : List ℕ) (i : ℕ) → i < length xs → get_or (map f xs) i (pos 0) ≡ get_or (map f (xs ++ ys)) i (pos 0)
get-front f [] ys i h = absurd (omega (arith, h))
get-front f (x ∷ xs) ys zero h = refl
get-front f (x ∷ xs) ys (suc i) h = get-front f xs ys i (omega (arith, h))

-- the value of a bound
bound-tells : (p : CheckedProgram) (r : Readings) (N : Name → Type 0) (outer inner : List ℕ) (e : Expression) (f g : LinearForm) (s : Store) (var : ℕ) (x : ℤ) → ((array : ℕ) → r.shape array ≡ shape_of p array)
    → form_of_expression [] e ≡ Ok f → form_of_expression (outer ++ inner) e ≡ Ok g → All (IsOutside N (outer ++ inner) (length outer)) (form_names f)
    → var < length s.scalars → AreWords (readings_of p s) → ((n : Name) → N n → HasSame p r s n) → value_of (readings_of p s) e ≡ Ok x → bound_value r (scalars_at s outer) g ≡ Ok x
bound-tells p r N outer inner e f g s var x shapes ef eg names lt words same h =
    let bound = outer ++ inner in
    let q = readings_of p s in
    let image = form-image bound e f ef in
    let is : put_form (widening bound) f ≡ g = cc (image.0, eg) in
    let leaves = image-leaves (widening bound) (narrowing bound) (IsOutside N bound (length outer)) (λ i. i < length outer) N f image.1 (λ i. tt) (λ k. tt) (λ k. at k (position (λ b. b == k) bound)) (λ array k. k) names in
    let alike : AreSame (λ i. i < length outer) N q r (map q.scalar bound) (scalars_at s outer) = record {
      shapes = shapes;
      variables = λ i k. get-front q.scalar outer inner i k;
      scalars = λ k n. same (ScalarName k) n;
      elements = λ array n. same (ArrayName array) n;
    } in
    let value : form_value r (scalars_at s outer) g ≡ Ok x =
    ap (form_value r (scalars_at s outer)) (sym is) ∙ form-same (λ i. i < length outer) N q r (map q.scalar bound) (scalars_at s outer) alike (put_form (widening bound) f) leaves
    ∙ ap (form_value q (map q.scalar bound)) is ∙ value-kept q bound e g x words (λ array site n. refl) eg h in
    ap (λ o. and_then o exact) value ∙ ap (λ b. cond b (Ok x) (Err Overflow)) (value-fits p s var e x lt words (form-words e f ef) h)
  where
    at : (k : ℕ) (o : Option ℕ) → WhereAt N (length outer) k o → LeavesAtom (λ i. i < length outer) N (scalar_atom o k)
    at k None h = h
    at k (Some i) h = h

-- what the bounds of a loop give in a store that has the same of their names
abbrev pub LoopTells : CheckedProgram → Readings → (Name → Type 0) → List ℕ → CountedLoop → LinearLoop → Type 0
LoopTells p r N outer l m = (s : Store) (b : Bounds) → l.var < length s.scalars → AreWords (readings_of p s) → ((n : Name) → N n → HasSame p r s n) → bounds_of (readings_of p s) l.first l.last l.step ≡ Ok b
    → loop_numbers r (scalars_at s outer) m ≡ Ok (record { first = b.first; by = b.by; count = b.count })

abbrev bounds : ℤ → ℤ → ℕ → Bounds
bounds x z n = record { first = x; by = z; count = n }

numbers-by : (r : Readings) (vs : List ℤ) (m : LinearLoop) (x y z : ℤ) (n : ℕ) → bound_value r vs m.first ≡ Ok x → bound_value r vs m.last ≡ Ok y → bound_value r vs m.step ≡ Ok z → exact_trip_count x y z ≡ Ok n
    → loop_numbers r vs m ≡ Ok (record { first = x; by = z; count = n })
numbers-by r vs m x y z n first last step count = rw (first, last, step, count) refl

pub loop-tells : (p : CheckedProgram) (r : Readings) (N : Name → Type 0) (outer inner : List ℕ) (l : CountedLoop) (f m : LinearLoop) → ((array : ℕ) → r.shape array ≡ shape_of p array) → loop_forms [] l ≡ Ok f → loop_forms (outer ++ inner) l ≡ Ok m
    → All (IsOutside N (outer ++ inner) (length outer)) (loop_names f) → LoopTells p r N outer l m
loop-tells p r N outer inner l f m shapes ef em names = λ s b lt words same h.
    let q = readings_of p s in
    let plain = loop-ok [] l f ef in
    let wide = loop-ok (outer ++ inner) l m em in
    let Q : Name → Type 0 = IsOutside N (outer ++ inner) (length outer) in
    let others = back Q (form_names f.first) (form_names f.last ++ form_names f.step) names in
    let x = and_then-ok (value_of q l.first) (λ x. and_then (value_of q l.last) (λ y. and_then (value_of q l.step) (λ z. and_then (exact_trip_count x y z) (λ n. Ok (bounds x z n))))) b h in
    let y = and_then-ok (value_of q l.last) (λ y. and_then (value_of q l.step) (λ z. and_then (exact_trip_count x.0 y z) (λ n. Ok (bounds x.0 z n)))) b x.2 in
    let z = and_then-ok (value_of q l.step) (λ z. and_then (exact_trip_count x.0 y.0 z) (λ n. Ok (bounds x.0 z n))) b y.2 in
    let n = and_then-ok (exact_trip_count x.0 y.0 z.0) (λ n. Ok (bounds x.0 z.0 n)) b z.2 in
    let is : bounds x.0 z.0 n.0 ≡ b = cc in
    let P : Bounds → Type 0 = λ c. loop_numbers r (scalars_at s outer) m ≡ Ok (record { first = c.first; by = c.by; count = c.count }) in
    let first = bound-tells p r N outer inner l.first f.first m.first s l.var x.0 shapes plain.0 wide.0 (front Q (form_names f.first) (form_names f.last ++ form_names f.step) names) lt words same x.1 in
    let last = bound-tells p r N outer inner l.last f.last m.last s l.var y.0 shapes plain.1 wide.1 (front Q (form_names f.last) (form_names f.step) others) lt words same y.1 in
    let step = bound-tells p r N outer inner l.step f.step m.step s l.var z.0 shapes plain.2 wide.2 (back Q (form_names f.last) (form_names f.step) others) lt words same z.1 in
    subst P is (numbers-by r (scalars_at s outer) m x.0 y.0 z.0 n.0 first last step n.1)
