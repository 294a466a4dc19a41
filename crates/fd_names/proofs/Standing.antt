-- An expression or condition without anything wrong stands for what is meant.
use Rattle.std.proofs.Common.{◌≡◌, ℕ, ◌+◌, ◌<◌, ◌≤◌, Bool, true, false, cond, not, ◌||◌, List, [], ◌∷◌, ◌++◌, refl, sym, ap, ◌∙◌, Some, slice_get, length, arith, append_assoc, add-one, add_comm, nat_eq}
use Rattle.std.proofs.lemmas.List.{append-nil}
use Rattle.std.proofs.lemmas.Bool.{eqb-true}
use Rattle.std.proofs.lemmas.Option.{slice_get_within}
use Rattle.std.specs.List.{list_any, position_or_len}
use Rattle.std.specs.Str.{bytes_eq}
use Rattle.std.specs.Cmp.Lexicographic.{same_text}
use Rattle.fd_base.specs.declared.numbering.Line.{Line}
use Rattle.fd_ast.specs.Tree.{ExprTree, ExprTrees, NoExprs, CondTree}
use Rattle.fd_ast.specs.Tree as tree
use Rattle.fd_prog.specs.declared.program.Array.{Array}
use Rattle.fd_prog.specs.Expressions.{Expressions}
use Rattle.fd_names.specs.declared.book.Seen.{Seen}
use Rattle.fd_names.specs.declared.names.Use.{Use}
use Rattle.fd_names.specs.declared.names.Use.TheVariants as as_name
use Rattle.fd_names.specs.declared.names.Callee.{Callee}
use Rattle.fd_names.specs.declared.names.Callee.TheVariants as callee
use Rattle.fd_names.specs.declared.refusal.Cause.{Cause}
use Rattle.fd_names.specs.Conditions.{condition_causes, see_condition, condition_meant}
use Rattle.fd_names.specs.Expressions.{count, takes, name_causes, call_causes, causes, all_causes, see_name, see_callee, see, see_all, name_meant, call_meant, meant, all_meant}
use Rattle.fd_names.specs.First.{given}
use Rattle.fd_names.specs.Names.{Declared, with_name, number_in, capped, use_of, callee_of}
use Rattle.fd_names.specs.Standing.{Scope, IsArrayAt, Stands, a_number, a_scalar, a_constant, an_element, a_function, a_negation, an_operation, AllStand, no_more, and_more, ConditionStands, a_truth, a_comparison, a_not, a_both, an_either}
use Rattle.fd_names.proofs.Known.{KnownCallee, IsKnown, called, still}
use Rattle.fd_names.proofs.Sound.{no_left, no_right, is_fine}

-- the scalars of the second go on from those of the first
pub record GoesOn (ns ms : List (List ℕ)) : Type 0 where
  pub extra : List (List ℕ)
  pub is : ms ≡ ns ++ extra

pub stays : (ns : List (List ℕ)) → GoesOn ns ns
stays ns = record { extra = []; is = sym (append-nil ns) }

pub on : (a b c : List (List ℕ)) → GoesOn a b → GoesOn b c → GoesOn a c
on a b c g h = record { extra = g.extra ++ h.extra; is = h.is ∙ (ap (λ x. x ++ h.extra) g.is ∙ append_assoc a g.extra h.extra) }

name_on : (ns : List (List ℕ)) (n : List ℕ) → GoesOn ns (with_name ns n)
unfolding with_name
name_on ns n = elim (list_any (bytes_eq n) ns) as (λ b. GoesOn ns (cond b ns (ns ++ n ∷ []))) [ true ↦ stays ns | false ↦ record { extra = n ∷ []; is = refl } ]

pub see_name-on : (u : Use) (n : List ℕ) (s : Seen) → GoesOn s.scalars (see_name u n s).scalars
see_name-on as_name.Scalar n s = name_on s.scalars n
see_name-on (as_name.Constant z) n s = stays s.scalars
see_name-on (as_name.Array k d) n s = stays s.scalars
see_name-on (as_name.Decomp k d) n s = stays s.scalars
see_name-on as_name.Unknown n s = stays s.scalars

see_callee-on : (c : Callee) (s : Seen) → GoesOn s.scalars (see_callee c s).scalars
see_callee-on (callee.Array k d) s = stays s.scalars
see_callee-on (callee.Function f) s = stays s.scalars
see_callee-on callee.Unknown s = stays s.scalars

mutual
  pub see-on : (d : Declared) (l : Line) (e : ExprTree) (s : Seen) → GoesOn s.scalars (see d l e s).scalars
  see-on d l (tree.Number z) s = stays s.scalars
  see-on d l (tree.Named n) s = see_name-on (use_of d l n) n s
  see-on d l (tree.Applied n es) s = on _ _ _ (see_callee-on (callee_of d l n) s) (see_all-on d l es (see_callee (callee_of d l n) s))
  see-on d l (tree.Negated e) s = see-on d l e s
  see-on d l (tree.Joined o a b) s = on _ _ _ (see-on d l a s) (see-on d l b (see d l a s))

  pub see_all-on : (d : Declared) (l : Line) (es : ExprTrees) (s : Seen) → GoesOn s.scalars (see_all d l es s).scalars
  see_all-on d l NoExprs s = stays s.scalars
  see_all-on d l (tree.Expr e es) s = on _ _ _ (see-on d l e s) (see_all-on d l es (see d l e s))

pub see_condition-on : (d : Declared) (l : Line) (c : CondTree) (s : Seen) → GoesOn s.scalars (see_condition d l c s).scalars
see_condition-on d l (tree.Fixed b) s = stays s.scalars
see_condition-on d l (tree.Compared r x y) s = on _ _ _ (see-on d l x s) (see-on d l y (see d l x s))
see_condition-on d l (tree.Inverted c) s = see_condition-on d l c s
see_condition-on d l (tree.Both c e) s = on _ _ _ (see_condition-on d l c s) (see_condition-on d l e (see_condition d l c s))
see_condition-on d l (tree.Either c e) s = on _ _ _ (see_condition-on d l c s) (see_condition-on d l e (see_condition d l c s))

-- ---- the number of a name is its place among all names

past_first : (x : List ℕ) (xs : List (List ℕ)) (p : ℕ) → slice_get (x ∷ xs) (1 + p) ≡ slice_get xs p
past_first x xs p = ap (slice_get (x ∷ xs)) (add_comm 1 p ∙ add-one p)

place_step : (n x : List ℕ) (xs : List (List ℕ)) (p : ℕ) (b c : Bool) → bytes_eq n x ≡ b → slice_get (cond c xs (xs ++ n ∷ [])) p ≡ Some n → slice_get (cond (b || c) (x ∷ xs) ((x ∷ xs) ++ n ∷ [])) (cond (not b) (1 + p) 0) ≡ Some n
place_step n x xs p true c h ih = ap Some (sym (same_text n x (sym h)))
place_step n x xs p false true h ih = past_first x xs p ∙ ih
place_step n x xs p false false h ih = past_first x (xs ++ n ∷ []) p ∙ ih

place_by : (ns : List (List ℕ)) (n : List ℕ) → slice_get (cond (list_any (bytes_eq n) ns) ns (ns ++ n ∷ [])) (position_or_len (bytes_eq n) ns) ≡ Some n
place_by [] n = refl
place_by (x ∷ xs) n = place_step n x xs (position_or_len (bytes_eq n) xs) (bytes_eq n x) (list_any (bytes_eq n) xs) refl (place_by xs n)

place : (ns : List (List ℕ)) (n : List ℕ) → slice_get (with_name ns n) (number_in ns n) ≡ Some n
unfolding with_name number_in
place ns n = place_by ns n

pub placed : (ns : List (List ℕ)) (n : List ℕ) (names : List (List ℕ)) → GoesOn (with_name ns n) names → length names ≤ 65535 → slice_get names (capped (number_in ns n)) ≡ Some n
placed ns n names g fits =
    let p = number_in ns n in
    let here : slice_get names p ≡ Some n = ap (λ ms. slice_get ms p) g.is ∙ still (with_name ns n) g.extra p n (place ns n) in
    let below : p < length names = slice_get_within names p n here in
    let same : capped p ≡ p = omega arith in
    ap (slice_get names) same ∙ here

-- ---- expressions

named_stands : (c : Scope) (l : Line) (n : List ℕ) (s : Seen) (u : Use) → use_of c.declared l n ≡ u → name_causes u ≡ [] → GoesOn (see_name u n s).scalars c.scalars → length c.scalars ≤ 65535 → Stands c l (tree.Named n) (name_meant u n s)
named_stands c l n s as_name.Scalar e ok g fits = a_scalar (record { scalar = e; place = placed s.scalars n c.scalars g fits })
named_stands c l n s (as_name.Constant z) e ok g fits = a_constant e
named_stands c l n s (as_name.Array k d) e ok g fits = absurd cc
named_stands c l n s (as_name.Decomp k d) e ok g fits = absurd cc
named_stands c l n s as_name.Unknown e ok g fits = absurd cc

pub array_at : (arrays : List Array) (k : ℕ) (n : List ℕ) (d m : ℕ) (cause : Cause) → IsArrayAt arrays k n d → given (not (nat_eq m d)) cause ≡ [] → IsArrayAt arrays k n m
array_at arrays k n d m cause i ok = record { array = i.array; place = i.place; name = i.name; shape = i.shape ∙ sym (eqb-true m d (is_fine (nat_eq m d) cause ok)) }

called_stands : (c : Scope) (l : Line) (n : List ℕ) (es : ExprTrees) (xs : Expressions) (s : Seen) (u : Callee) → callee_of c.declared l n ≡ u → KnownCallee c.arrays n u → call_causes u (count es) ≡ [] → AllStand c l es xs → Stands c l (tree.Applied n es) (call_meant u xs s)
called_stands c l n es xs s (callee.Array k d) e i ok all = an_element (array_at c.arrays k n d (count es) _ i ok) all
called_stands c l n es xs s (callee.Function f) e i ok all = a_function e (is_fine (takes f (count es)) _ ok) all
called_stands c l n es xs s callee.Unknown e i ok all = absurd cc

mutual
  pub stands : (c : Scope) (l : Line) (e : ExprTree) (s : Seen) → IsKnown c.arrays c.declared → causes c.declared l e ≡ [] → GoesOn (see c.declared l e s).scalars c.scalars → length c.scalars ≤ 65535 → Stands c l e (meant c.declared l e s)
  stands c l (tree.Number z) s i ok g fits = a_number
  stands c l (tree.Named n) s i ok g fits = named_stands c l n s (use_of c.declared l n) refl ok g fits
  stands c l (tree.Applied n es) s i ok g fits =
      let u = callee_of c.declared l n in
      called_stands c l n es (all_meant c.declared l es (see_callee u s)) s u refl (called c.arrays c.declared l n i) (no_left (call_causes u (count es)) (all_causes c.declared l es) ok)
      (all_stand c l es (see_callee u s) i (no_right (call_causes u (count es)) (all_causes c.declared l es) ok) g fits)
  stands c l (tree.Negated e) s i ok g fits = a_negation (stands c l e s i ok g fits)
  stands c l (tree.Joined o a b) s i ok g fits =
      an_operation (stands c l a s i (no_left (causes c.declared l a) (causes c.declared l b) ok) (on _ _ _ (see-on c.declared l b (see c.declared l a s)) g) fits)
      (stands c l b (see c.declared l a s) i (no_right (causes c.declared l a) (causes c.declared l b) ok) g fits)

  pub all_stand : (c : Scope) (l : Line) (es : ExprTrees) (s : Seen) → IsKnown c.arrays c.declared → all_causes c.declared l es ≡ [] → GoesOn (see_all c.declared l es s).scalars c.scalars → length c.scalars ≤ 65535 → AllStand c l es (all_meant c.declared l es s)
  all_stand c l NoExprs s i ok g fits = no_more
  all_stand c l (tree.Expr e es) s i ok g fits =
      and_more (stands c l e s i (no_left (causes c.declared l e) (all_causes c.declared l es) ok) (on _ _ _ (see_all-on c.declared l es (see c.declared l e s)) g) fits)
      (all_stand c l es (see c.declared l e s) i (no_right (causes c.declared l e) (all_causes c.declared l es) ok) g fits)

pub condition_stands : (c : Scope) (l : Line) (e : CondTree) (s : Seen) → IsKnown c.arrays c.declared → condition_causes c.declared l e ≡ [] → GoesOn (see_condition c.declared l e s).scalars c.scalars → length c.scalars ≤ 65535 → ConditionStands c l e (condition_meant c.declared l e s)
condition_stands c l (tree.Fixed b) s i ok g fits = a_truth
condition_stands c l (tree.Compared r x y) s i ok g fits =
    a_comparison (stands c l x s i (no_left (causes c.declared l x) (causes c.declared l y) ok) (on _ _ _ (see-on c.declared l y (see c.declared l x s)) g) fits)
    (stands c l y (see c.declared l x s) i (no_right (causes c.declared l x) (causes c.declared l y) ok) g fits)
condition_stands c l (tree.Inverted e) s i ok g fits = a_not (condition_stands c l e s i ok g fits)
condition_stands c l (tree.Both a b) s i ok g fits =
    a_both (condition_stands c l a s i (no_left (condition_causes c.declared l a) (condition_causes c.declared l b) ok) (on _ _ _ (see_condition-on c.declared l b (see_condition c.declared l a s)) g) fits)
    (condition_stands c l b (see_condition c.declared l a s) i (no_right (condition_causes c.declared l a) (condition_causes c.declared l b) ok) g fits)
condition_stands c l (tree.Either a b) s i ok g fits =
    an_either (condition_stands c l a s i (no_left (condition_causes c.declared l a) (condition_causes c.declared l b) ok) (on _ _ _ (see_condition-on c.declared l b (see_condition c.declared l a s)) g) fits)
    (condition_stands c l b (see_condition c.declared l a s) i (no_right (condition_causes c.declared l a) (condition_causes c.declared l b) ok) g fits)
