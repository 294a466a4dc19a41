-- The needs of an item are the same in two views that agree on what these are read from.
use Rattle.std.proofs.Common.{◌≡◌, ◌⊎◌, inl, inr, ℕ, zero, suc, ◌<◌, ◌==◌, cond, get_or, Contains, All, arith, Bool, true, false, not, ◌&&◌, ◌||◌, ℤ, ◌+ℤ◌, ◌*ℤ◌, List, [], ◌∷◌, ◌++◌, length, filter, flat_map, take, None, Result, Ok, Err, refl, ap, ap₂, ◌∙◌}
use Rattle.std.specs.List.{list_any, range_with_len}
use Rattle.std.proofs.lemmas.Bool.{eqb-true, eq-eqb}
use Rattle.std.proofs.lemmas.List.Elements.{All-nil, All-cons, All-head, All-tail, All-append, All-contains, filter_agree}
use Rattle.std.proofs.lemmas.List.{get_or_default}
use Rattle.std.proofs.lemmas.List.FromFn.{get_or-range_with_len, length-range_with_len}
use Rattle.std.proofs.lemmas.Map.Made.{Contains-tail}
use Rattle.fd_base.specs.declared.numbers.FaultKind.{FaultKind}
use Rattle.fd_base.specs.Numbers.{exact}
use Rattle.fd_base.specs.Places.{is_owner}
use Rattle.fd_base.specs.Shapes.{ordinal_of, size_of}
use Rattle.fd_prog.specs.declared.expression.Op2.TheVariants.{Mul, Div}
use Rattle.fd_prog.specs.Outcomes.{and_then}
use Rattle.fd_prog.specs.Programs.{CheckedProgram}
use Rattle.fd_prog.specs.Values.{Readings, element_value, joined, applied}
use Rattle.fd_prog.specs.Forms.{LinearAtom, Variable, ScalarOf, ElementOf, FunctionOf, ProductOf, QuotientOf, LinearForm, Sum, LinearTerms, NoTerms, Term, LinearForms, NoForms, Part}
use Rattle.fd_prog.specs.FormValues.{atom_value, form_value, terms_value, part_values}
use Rattle.fd_prog.specs.Stores.{shape_of}
use Rattle.fd_prog.specs.Homes.{Executor, EveryRank, RankZero, OwnerOf, distribution_at}
use Rattle.fd_prog.specs.Items.{LinearItem, LinearLoop, Name, ScalarName, ArrayName, DecompName, atom_names, form_names, terms_names, forms_names, loop_names, executor_names, decomp_names, item_names}
use Rattle.fd_prog.specs.Needs.{Sight, all_iterations, executes_at, is_needed, iterations_inside, loop_numbers, needs, numbers_in, reads_in, visited}
use Rattle.fd_prog.specs.Agreement.{AgreeOn, HaveSame, names_read}
use Rattle.fd_prog.proofs.Runs.{and_then-same}

-- ---- names of parts

before : {A : Type 0} (P : A → Type 0) (xs ys : List A) → All P (xs ++ ys) → All P xs
before P [] ys h = All-nil P
before P (x ∷ xs) ys h = All-cons P x xs (All-head P x (xs ++ ys) h) (before P xs ys (All-tail P x (xs ++ ys) h))

behind : {A : Type 0} (P : A → Type 0) (xs ys : List A) → All P (xs ++ ys) → All P ys
behind P [] ys h = h
behind P (x ∷ xs) ys h = behind P xs ys (All-tail P x (xs ++ ys) h)

-- ---- values

-- two readings have the same shapes, and the same of a name
record Alike (r q : Readings) (Same : Name → Type 0) : Type 0 where
  shapes : (array : ℕ) → q.shape array ≡ r.shape array
  scalars : (k : ℕ) → Same (ScalarName k) → q.scalar k ≡ r.scalar k
  elements : (array : ℕ) → Same (ArrayName array) → (n : ℕ) → q.element array None n ≡ r.element array None n

-- an element that a form reads
element_same : (r q : Readings) (array : ℕ) (subs : Result (List ℤ) FaultKind) → q.shape array ≡ r.shape array → ((n : ℕ) → q.element array None n ≡ r.element array None n)
    → and_then subs (element_value q array None) ≡ and_then subs (element_value r array None)
element_same r q array (Err e) shape same = refl
element_same r q array (Ok xs) shape same =
    ap (λ s. and_then (ordinal_of s xs) (λ n. Ok (q.element array None n))) shape
    ∙ and_then-same (ordinal_of (r.shape array) xs) (λ n. Ok (q.element array None n)) (λ n. Ok (r.element array None n)) (λ n e. ap Ok (same n))

mutual
  atom_same : (r q : Readings) (S : Name → Type 0) → Alike r q S → (vs : List ℤ) (a : LinearAtom) → All S (atom_names a) → atom_value q vs a ≡ atom_value r vs a
  atom_same r q S k vs (Variable i) h = refl
  atom_same r q S k vs (ScalarOf s) h = ap Ok (k.scalars s (All-head S (ScalarName s) [] h))
  atom_same r q S k vs (ElementOf array fs) h =
      ap (λ xs. and_then xs (element_value q array None)) (parts_same r q S k vs fs (All-tail S (ArrayName array) (forms_names fs) h))
      ∙ element_same r q array (part_values r vs fs) (k.shapes array) (k.elements array (All-head S (ArrayName array) (forms_names fs) h))
  atom_same r q S k vs (FunctionOf f fs) h = ap (λ xs. and_then xs (applied f)) (parts_same r q S k vs fs h)
  atom_same r q S k vs (ProductOf f g) h =
      ap (λ x. and_then (and_then x exact) (λ m. and_then (and_then (form_value q vs g) exact) (joined Mul m))) (form_same r q S k vs f (before S (form_names f) (form_names g) h))
      ∙ ap (λ y. and_then (and_then (form_value r vs f) exact) (λ m. and_then (and_then y exact) (joined Mul m))) (form_same r q S k vs g (behind S (form_names f) (form_names g) h))
  atom_same r q S k vs (QuotientOf f g) h =
      ap (λ x. and_then (and_then x exact) (λ m. and_then (and_then (form_value q vs g) exact) (joined Div m))) (form_same r q S k vs f (before S (form_names f) (form_names g) h))
      ∙ ap (λ y. and_then (and_then (form_value r vs f) exact) (λ m. and_then (and_then y exact) (joined Div m))) (form_same r q S k vs g (behind S (form_names f) (form_names g) h))

  -- a form has the same value by readings that have the same of its names
  form_same : (r q : Readings) (S : Name → Type 0) → Alike r q S → (vs : List ℤ) (f : LinearForm) → All S (form_names f) → form_value q vs f ≡ form_value r vs f
  form_same r q S k vs (Sum ts c) h = ap (λ x. and_then x (λ m. Ok (m +ℤ c))) (terms_same r q S k vs ts h)

  terms_same : (r q : Readings) (S : Name → Type 0) → Alike r q S → (vs : List ℤ) (ts : LinearTerms) → All S (terms_names ts) → terms_value q vs ts ≡ terms_value r vs ts
  terms_same r q S k vs NoTerms h = refl
  terms_same r q S k vs (Term c a ts) h =
      ap (λ x. and_then x (λ m. and_then (terms_value q vs ts) (λ n. Ok (c *ℤ m +ℤ n)))) (atom_same r q S k vs a (before S (atom_names a) (terms_names ts) h))
      ∙ ap (λ y. and_then (atom_value r vs a) (λ m. and_then y (λ n. Ok (c *ℤ m +ℤ n)))) (terms_same r q S k vs ts (behind S (atom_names a) (terms_names ts) h))

  parts_same : (r q : Readings) (S : Name → Type 0) → Alike r q S → (vs : List ℤ) (fs : LinearForms) → All S (forms_names fs) → part_values q vs fs ≡ part_values r vs fs
  parts_same r q S k vs NoForms h = refl
  parts_same r q S k vs (Part f fs) h =
      ap (λ x. and_then (and_then x exact) (λ m. and_then (part_values q vs fs) (λ ms. Ok (m ∷ ms)))) (form_same r q S k vs f (before S (form_names f) (forms_names fs) h))
      ∙ ap (λ y. and_then (and_then (form_value r vs f) exact) (λ m. and_then y (λ ms. Ok (m ∷ ms)))) (parts_same r q S k vs fs (behind S (form_names f) (forms_names fs) h))

-- ---- iterations

pub flat_map_same : {A B : Type 0} (f g : A → List B) → ((x : A) → f x ≡ g x) → (xs : List A) → flat_map f xs ≡ flat_map g xs
flat_map_same f g h [] = refl
flat_map_same f g h (x ∷ xs) = ap₂ (λ ys zs. ys ++ zs) (h x) (flat_map_same f g h xs)

pub any_same : {A : Type 0} (p q : A → Bool) → ((x : A) → p x ≡ q x) → (xs : List A) → list_any p xs ≡ list_any q xs
any_same p q h [] = refl
any_same p q h (x ∷ xs) = ap₂ (λ a b. a || b) (h x) (any_same p q h xs)

numbers_same : (r q : Readings) (S : Name → Type 0) → Alike r q S → (vs : List ℤ) (l : LinearLoop) → All S (loop_names l) → loop_numbers q vs l ≡ loop_numbers r vs l
numbers_same r q S k vs l h =
    let others = behind S (form_names l.first) (form_names l.last ++ form_names l.step) h in
    rw (
      form_same r q S k vs l.first (before S (form_names l.first) (form_names l.last ++ form_names l.step) h),
      form_same r q S k vs l.last (before S (form_names l.last) (form_names l.step) others),
      form_same r q S k vs l.step (behind S (form_names l.last) (form_names l.step) others),
    ) refl

iterations_same : (r q : Readings) (S : Name → Type 0) → Alike r q S → (ls : List LinearLoop) → All S (flat_map loop_names ls) → (vs : List ℤ) → iterations_inside q ls vs ≡ iterations_inside r ls vs
iterations_same r q S k [] h vs = refl
iterations_same r q S k (l ∷ ls) h vs =
    ap (λ n. flat_map (λ v. (vs ++ v ∷ []) ∷ iterations_inside q ls (vs ++ v ∷ [])) (numbers_in n)) (numbers_same r q S k vs l (before S (loop_names l) (flat_map loop_names ls) h))
    ∙ flat_map_same (λ v. (vs ++ v ∷ []) ∷ iterations_inside q ls (vs ++ v ∷ [])) (λ v. (vs ++ v ∷ []) ∷ iterations_inside r ls (vs ++ v ∷ []))
    (λ v. ap (λ its. (vs ++ v ∷ []) ∷ its) (iterations_same r q S k ls (behind S (loop_names l) (flat_map loop_names ls) h) (vs ++ v ∷ []))) (numbers_in (loop_numbers r vs l))

all_same : (r q : Readings) (S : Name → Type 0) → Alike r q S → (ls : List LinearLoop) → All S (flat_map loop_names ls) → all_iterations q ls ≡ all_iterations r ls
all_same r q S k [] h = refl
all_same r q S k (l ∷ ls) h = iterations_same r q S k (l ∷ ls) h []

-- ---- needs

alike : (s t : Sight) (x : LinearItem) → AgreeOn s t x → Alike s.readings t.readings (HaveSame s t)
alike s t x h = record { shapes = h.shapes; scalars = λ k same. same; elements = λ array same. same }

executes_same : (s t : Sight) (x : LinearItem) → AgreeOn s t x → (home : Executor) → All (HaveSame s t) (executor_names home) → (vs : List ℤ) (rank : ℕ) → executes_at t vs home rank ≡ executes_at s vs home rank
executes_same s t x h EveryRank names vs rank = refl
executes_same s t x h RankZero names vs rank = refl
executes_same s t x h (OwnerOf l) names vs rank =
    rw (
      All-head (HaveSame s t) (DecompName l.decomp) (form_names l.form) names,
      h.program,
      form_same s.readings t.readings (HaveSame s t) (alike s t x h) vs l.form (All-tail (HaveSame s t) (DecompName l.decomp) (form_names l.form) names),
    ) refl

reads_same : (s t : Sight) (x : LinearItem) → AgreeOn s t x → (rank element : ℕ) (vs : List ℤ) → reads_in t x rank element vs ≡ reads_in s x rank element vs
reads_same s t x h rank element vs =
    let others = behind (HaveSame s t) (forms_names x.subs) (flat_map loop_names x.loops ++ executor_names x.home) h.names in
    rw (
      executes_same s t x h x.home (behind (HaveSame s t) (flat_map loop_names x.loops) (executor_names x.home) others) vs rank,
      parts_same s.readings t.readings (HaveSame s t) (alike s t x h) vs x.subs (before (HaveSame s t) (forms_names x.subs) (flat_map loop_names x.loops ++ executor_names x.home) h.names),
      h.program,
    ) refl

needed_same : (s t : Sight) (x : LinearItem) → AgreeOn s t x → (rank limit element : ℕ) → is_needed t x rank limit element ≡ is_needed s x rank limit element
needed_same s t x h rank limit element =
    let others = behind (HaveSame s t) (forms_names x.subs) (flat_map loop_names x.loops ++ executor_names x.home) h.names in
    ap₂ (λ place b. not (is_owner place element rank) && b) h.place
    (ap (λ its. list_any (reads_in t x rank element) (take limit its))
    (all_same s.readings t.readings (HaveSame s t) (alike s t x h) x.loops (before (HaveSame s t) (flat_map loop_names x.loops) (executor_names x.home) others))
    ∙ any_same (reads_in t x rank element) (reads_in s x rank element) (reads_same s t x h rank element) (visited s.readings x limit))

pub needs_same : (s t : Sight) (x : LinearItem) (rank limit : ℕ) → AgreeOn s t x → needs t x rank limit ≡ needs s x rank limit
needs_same s t x rank limit h =
    ap (λ p. filter (is_needed t x rank limit) (range_with_len 0 (size_of (shape_of p x.array)))) h.program
    ∙ filter_agree (is_needed t x rank limit) (is_needed s x rank limit) (needed_same s t x h rank limit) (range_with_len 0 (size_of (shape_of s.program x.array)))

-- ---- the names that needs are read from are names of the item

read_names_with : (p : CheckedProgram) (x : LinearItem) (P : Name → Type 0) → All P (item_names p x) → All P (names_read x)
read_names_with p x P h =
    let inner = forms_names x.subs in let bounds = flat_map loop_names x.loops in let home = executor_names x.home in
    let rest = decomp_names (distribution_at p x.array) in
    let all = All-tail P (ArrayName x.array) (inner ++ (bounds ++ (home ++ rest))) h in
    let outer = behind P inner (bounds ++ (home ++ rest)) all in
    All-append P inner (bounds ++ home) (before P inner (bounds ++ (home ++ rest)) all)
    (All-append P bounds home (before P bounds (home ++ rest) outer) (before P home rest (behind P bounds (home ++ rest) outer)))

own_members : (names : List Name) → All (λ n. Contains names n) names
own_members names k d lt = (k, lt, get_or_default names k (get_or names k d) d lt)

pub read_names_are_own : (p : CheckedProgram) (x : LinearItem) (name : Name) → Contains (names_read x) name → Contains (item_names p x) name
read_names_are_own p x name h = All-contains (λ n. Contains (item_names p x) n) (names_read x) name (read_names_with p x (λ n. Contains (item_names p x) n) (own_members (item_names p x))) h

-- ---- what an iteration reads

or_left : (a b : Bool) → a ≡ true → (a || b) ≡ true
or_left true b h = refl
or_left false b h = absurd (cc)

or_right : (a b : Bool) → b ≡ true → (a || b) ≡ true
or_right true b h = refl
or_right false b h = h

any_has : (p : List ℤ → Bool) (its : List (List ℤ)) (k : ℕ) (vs : List ℤ) → k < length its → get_or its k vs ≡ vs → p vs ≡ true → list_any p its ≡ true
any_has p [] k vs l e h = absurd (omega (arith, l))
any_has p (w ∷ its) zero vs l e h = or_left (p w) (list_any p its) (ap p e ∙ h)
any_has p (w ∷ its) (suc k) vs l e h = or_right (p w) (list_any p its) (any_has p its k vs (omega (arith, l)) e h)

filter-has : (p : ℕ → Bool) (xs : List ℕ) (x : ℕ) → Contains xs x → p x ≡ true → Contains (filter p xs) x
filter-has p [] x k h = absurd (omega (arith, k.1))
filter-has p (y ∷ ys) x k h = by (y == x) refl (λ rest. filter-has p ys x rest h)
  where
    with_first : (b : Bool) → p y ≡ b → y ≡ x → Contains (cond b (y ∷ filter p ys) (filter p ys)) x
    with_first true e same = (0, omega arith, same)
    with_first false e same = absurd (cc (e, ap p same, h))

    later : (b : Bool) → Contains (filter p ys) x → Contains (cond b (y ∷ filter p ys) (filter p ys)) x
    later true k = (suc k.0, omega (arith, k.1), k.2)
    later false k = k

    by : (b : Bool) → (y == x) ≡ b → (Contains ys x → Contains (filter p ys) x) → Contains (filter p (y ∷ ys)) x
    by true e rest = with_first (p y) refl (eqb-true y x e)
    by false e rest = later (p y) (rest (Contains-tail y ys x (λ same. absurd (cc (eq-eqb y x same, e))) k))

-- an element that a rank reads by an item in a visited iteration is its own, or one of its needs
pub own_or_needed : (s : Sight) (x : LinearItem) (rank limit element : ℕ) (vs : List ℤ) → Contains (visited s.readings x limit) vs → reads_in s x rank element vs ≡ true → element < size_of (shape_of s.program x.array)
    → (is_owner (s.array_place x.array) element rank ≡ true) ⊎ Contains (needs s x rank limit) element
own_or_needed s x rank limit element vs k h inside = by (is_owner (s.array_place x.array) element rank) refl
  where
    read : list_any (reads_in s x rank element) (visited s.readings x limit) ≡ true
    read = any_has (reads_in s x rank element) (visited s.readings x limit) k.0 vs k.1 k.2 h

    by : (b : Bool) → is_owner (s.array_place x.array) element rank ≡ b → (is_owner (s.array_place x.array) element rank ≡ true) ⊎ Contains (needs s x rank limit) element
    by true e = inl e
    by false e =
        inr (filter-has (is_needed s x rank limit) (range_with_len 0 (size_of (shape_of s.program x.array))) element
        (element, omega (arith, inside, length-range_with_len 0 (size_of (shape_of s.program x.array))), get_or-range_with_len 0 (size_of (shape_of s.program x.array)) element element inside ∙ omega arith)
        (ap₂ (λ a b. not a && b) e read))
