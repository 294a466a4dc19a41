-- What expressions and conditions without anything wrong stand for is sound.
use Rattle.std.proofs.Common.{◌≡◌, ℕ, ◌+◌, ◌<◌, ◌≤◌, Bool, true, false, cond, not, ◌||◌, List, [], ◌∷◌, ◌++◌, refl, sym, subst, length, arith, nat_eq, nat_le}
use Rattle.std.proofs.lemmas.Bool.{eqb-true}
use Rattle.std.proofs.lemmas.Bool.Decides.{nat_tests}
use Rattle.std.proofs.lemmas.List.{length-append}
use Rattle.std.specs.List.{list_any, position_or_len}
use Rattle.std.specs.Str.{bytes_eq}
use Rattle.fd_base.specs.declared.numbering.Line.{Line}
use Rattle.fd_ast.specs.Tree.{ExprTree, ExprTrees, NoExprs, CondTree}
use Rattle.fd_ast.specs.Tree as tree
use Rattle.fd_prog.specs.declared.expression.Func.{Func}
use Rattle.fd_prog.specs.declared.expression.Func.TheVariants.{Mod, Abs, Min, Max}
use Rattle.fd_prog.specs.Expressions.{Expressions}
use Rattle.fd_prog.specs.WellFormed.{Names, Takes, count_of, IsSound, AreSound, IsSoundCondition}
use Rattle.fd_names.specs.declared.book.Seen.{Seen}
use Rattle.fd_names.specs.declared.names.Use.{Use}
use Rattle.fd_names.specs.declared.names.Use.TheVariants as as_name
use Rattle.fd_names.specs.declared.names.Callee.{Callee}
use Rattle.fd_names.specs.declared.names.Callee.TheVariants as callee
use Rattle.fd_names.specs.declared.refusal.Cause.{Cause}
use Rattle.fd_names.specs.Conditions.{condition_causes, see_condition, condition_meant}
use Rattle.fd_names.specs.Expressions.{count, takes, name_causes, call_causes, causes, all_causes, see_name, see_callee, see, see_all, name_meant, call_meant, meant, all_meant}
use Rattle.fd_names.specs.First.{given}
use Rattle.fd_names.specs.Names.{Declared, with_name, number_in, capped, use_of, callee_of}
use Rattle.fd_names.proofs.Tables.{IsCallee, IsTable, called}

pub no_left : {X : Type 0} (xs ys : List X) → xs ++ ys ≡ [] → xs ≡ []
no_left [] ys h = refl
no_left (x ∷ xs) ys h = absurd cc

pub no_right : {X : Type 0} (xs ys : List X) → xs ++ ys ≡ [] → ys ≡ []
no_right [] ys h = h
no_right (x ∷ xs) ys h = absurd cc

pub is_fine : (b : Bool) (c : Cause) → given (not b) c ≡ [] → b ≡ true
is_fine true c h = refl
is_fine false c h = absurd cc

-- ---- names

name-grows : (ns : List (List ℕ)) (n : List ℕ) → length ns ≤ length (with_name ns n)
unfolding with_name
name-grows ns n = elim (list_any (bytes_eq n) ns) as (λ b. length ns ≤ length (cond b ns (ns ++ n ∷ []))) [ true ↦ omega arith | false ↦ omega (arith, length-append ns (n ∷ [])) ]

below_step : (n x : List ℕ) (xs : List (List ℕ)) (p : ℕ) (b c : Bool) → p < length (cond c xs (xs ++ n ∷ [])) → cond (not b) (1 + p) 0 < length (cond (b || c) (x ∷ xs) ((x ∷ xs) ++ n ∷ []))
below_step n x xs p true c h = omega arith
below_step n x xs p false true h = omega arith
below_step n x xs p false false h = omega arith

below_by : (ns : List (List ℕ)) (n : List ℕ) → position_or_len (bytes_eq n) ns < length (cond (list_any (bytes_eq n) ns) ns (ns ++ n ∷ []))
below_by [] n = omega arith
below_by (x ∷ xs) n = below_step n x xs (position_or_len (bytes_eq n) xs) (bytes_eq n x) (list_any (bytes_eq n) xs) (below_by xs n)

-- the number of a name is one of those there are
number-below : (ns : List (List ℕ)) (n : List ℕ) → number_in ns n < length (with_name ns n)
unfolding with_name number_in
number-below ns n = below_by ns n

pub scalar-below : (ns : List (List ℕ)) (n : List ℕ) (m : ℕ) → length (with_name ns n) ≤ m → capped (number_in ns n) < m
scalar-below ns n m h = let b : number_in ns n < length (with_name ns n) = number-below ns n in omega arith

pub see_name-grows : (u : Use) (n : List ℕ) (s : Seen) → length s.scalars ≤ length (see_name u n s).scalars
see_name-grows as_name.Scalar n s = name-grows s.scalars n
see_name-grows (as_name.Constant z) n s = omega arith
see_name-grows (as_name.Array k d) n s = omega arith
see_name-grows (as_name.Decomp k d) n s = omega arith
see_name-grows as_name.Unknown n s = omega arith

see_callee-grows : (c : Callee) (s : Seen) → length s.scalars ≤ length (see_callee c s).scalars
see_callee-grows (callee.Array k d) s = omega arith
see_callee-grows (callee.Function f) s = omega arith
see_callee-grows callee.Unknown s = omega arith

le-trans : (a b c : ℕ) → a ≤ b → b ≤ c → a ≤ c
le-trans a b c h k = omega arith

pub grows : (r s t : Seen) → length r.scalars ≤ length s.scalars → length s.scalars ≤ length t.scalars → length r.scalars ≤ length t.scalars
grows r s t h k = le-trans (length r.scalars) (length s.scalars) (length t.scalars) h k

mutual
  pub see-grows : (d : Declared) (l : Line) (e : ExprTree) (s : Seen) → length s.scalars ≤ length (see d l e s).scalars
  see-grows d l (tree.Number z) s = omega arith
  see-grows d l (tree.Named n) s = see_name-grows (use_of d l n) n s
  see-grows d l (tree.Applied n es) s = grows s (see_callee (callee_of d l n) s) (see_all d l es (see_callee (callee_of d l n) s)) (see_callee-grows (callee_of d l n) s) (see_all-grows d l es (see_callee (callee_of d l n) s))
  see-grows d l (tree.Negated e) s = see-grows d l e s
  see-grows d l (tree.Joined o a b) s = grows s (see d l a s) (see d l b (see d l a s)) (see-grows d l a s) (see-grows d l b (see d l a s))

  pub see_all-grows : (d : Declared) (l : Line) (es : ExprTrees) (s : Seen) → length s.scalars ≤ length (see_all d l es s).scalars
  see_all-grows d l NoExprs s = omega arith
  see_all-grows d l (tree.Expr e es) s = grows s (see d l e s) (see_all d l es (see d l e s)) (see-grows d l e s) (see_all-grows d l es (see d l e s))

pub see_condition-grows : (d : Declared) (l : Line) (c : CondTree) (s : Seen) → length s.scalars ≤ length (see_condition d l c s).scalars
see_condition-grows d l (tree.Fixed b) s = omega arith
see_condition-grows d l (tree.Compared r x y) s = grows s (see d l x s) (see d l y (see d l x s)) (see-grows d l x s) (see-grows d l y (see d l x s))
see_condition-grows d l (tree.Inverted c) s = see_condition-grows d l c s
see_condition-grows d l (tree.Both c e) s = grows s (see_condition d l c s) (see_condition d l e (see_condition d l c s)) (see_condition-grows d l c s) (see_condition-grows d l e (see_condition d l c s))
see_condition-grows d l (tree.Either c e) s = grows s (see_condition d l c s) (see_condition d l e (see_condition d l c s)) (see_condition-grows d l c s) (see_condition-grows d l e (see_condition d l c s))

-- ---- counts

two_or_more : (n : ℕ) → nat_le 2 n ≡ true → 2 ≤ n
two_or_more n h = grind (arith, nat_tests)

takes_is : (f : Func) (n : ℕ) → takes f n ≡ true → Takes f n
takes_is Mod n h = eqb-true n 2 h
takes_is Abs n h = eqb-true n 1 h
takes_is Min n h = two_or_more n h
takes_is Max n h = two_or_more n h

takes_as_many : (f : Func) (a b : ℕ) → a ≡ b → takes f b ≡ true → Takes f a
takes_as_many f a b e h = subst (Takes f) (sym e) (takes_is f b h)

one_more : (a b : ℕ) → a ≡ b → a + 1 ≡ 1 + b
one_more a b h = omega arith

pub counted : (d : Declared) (l : Line) (es : ExprTrees) (s : Seen) → count_of (all_meant d l es s) ≡ count es
counted d l NoExprs s = refl
counted d l (tree.Expr e es) s = one_more _ _ (counted d l es (see d l e s))

one_or_two : (a b k : ℕ) → a ≡ b → b ≡ k → 1 ≤ k → k ≤ 2 → (1 ≤ a) × (a ≤ 2)
one_or_two a b k e f lo hi = (omega arith, omega arith)

pub few_subs : (es : ExprTrees) (xs : Expressions) (k : ℕ) (c : Cause) → count_of xs ≡ count es → given (not (nat_eq (count es) k)) c ≡ [] → 1 ≤ k → k ≤ 2 → (1 ≤ count_of xs) × (count_of xs ≤ 2)
few_subs es xs k c same ok lo hi = one_or_two (count_of xs) (count es) k same (eqb-true (count es) k (is_fine (nat_eq (count es) k) c ok)) lo hi

-- ---- expressions

named_sound : (m : Names) (n : List ℕ) (s : Seen) (u : Use) → name_causes u ≡ [] → length (see_name u n s).scalars ≤ m.scalars → IsSound m (name_meant u n s)
named_sound m n s as_name.Scalar ok fits = scalar-below s.scalars n m.scalars fits
named_sound m n s (as_name.Constant z) ok fits = tt
named_sound m n s (as_name.Array k d) ok fits = absurd cc
named_sound m n s (as_name.Decomp k d) ok fits = absurd cc
named_sound m n s as_name.Unknown ok fits = absurd cc

called_sound : (m : Names) (es : ExprTrees) (xs : Expressions) (s : Seen) (c : Callee) → call_causes c (count es) ≡ [] → IsCallee m.arrays c → count_of xs ≡ count es → AreSound m xs → IsSound m (call_meant c xs s)
called_sound m es xs s (callee.Array k d) ok i same all = let few = few_subs es xs d _ same ok i.1 i.2 in (i.0, few.0, few.1, all)
called_sound m es xs s (callee.Function f) ok i same all = (takes_as_many f (count_of xs) (count es) same (is_fine (takes f (count es)) _ ok), all)
called_sound m es xs s callee.Unknown ok i same all = absurd cc

mutual
  pub sound : (m : Names) (d : Declared) (l : Line) (e : ExprTree) (s : Seen) → IsTable m.arrays d → causes d l e ≡ [] → length (see d l e s).scalars ≤ m.scalars → IsSound m (meant d l e s)
  sound m d l (tree.Number z) s t ok fits = tt
  sound m d l (tree.Named n) s t ok fits = named_sound m n s (use_of d l n) ok fits
  sound m d l (tree.Applied n es) s t ok fits =
      called_sound m es (all_meant d l es (see_callee (callee_of d l n) s)) s (callee_of d l n)
      (no_left (call_causes (callee_of d l n) (count es)) (all_causes d l es) ok) (called m.arrays d l n t) (counted d l es (see_callee (callee_of d l n) s))
      (all_sound m d l es (see_callee (callee_of d l n) s) t (no_right (call_causes (callee_of d l n) (count es)) (all_causes d l es) ok) fits)
  sound m d l (tree.Negated e) s t ok fits = sound m d l e s t ok fits
  sound m d l (tree.Joined o a b) s t ok fits = (
    sound m d l a s t (no_left (causes d l a) (causes d l b) ok) (le-trans _ _ _ (see-grows d l b (see d l a s)) fits),
    sound m d l b (see d l a s) t (no_right (causes d l a) (causes d l b) ok) fits,
  )

  pub all_sound : (m : Names) (d : Declared) (l : Line) (es : ExprTrees) (s : Seen) → IsTable m.arrays d → all_causes d l es ≡ [] → length (see_all d l es s).scalars ≤ m.scalars → AreSound m (all_meant d l es s)
  all_sound m d l NoExprs s t ok fits = tt
  all_sound m d l (tree.Expr e es) s t ok fits = (
    sound m d l e s t (no_left (causes d l e) (all_causes d l es) ok) (le-trans _ _ _ (see_all-grows d l es (see d l e s)) fits),
    all_sound m d l es (see d l e s) t (no_right (causes d l e) (all_causes d l es) ok) fits,
  )

-- ---- conditions

pub condition_sound : (m : Names) (d : Declared) (l : Line) (c : CondTree) (s : Seen) → IsTable m.arrays d → condition_causes d l c ≡ [] → length (see_condition d l c s).scalars ≤ m.scalars → IsSoundCondition m (condition_meant d l c s)
condition_sound m d l (tree.Fixed b) s t ok fits = tt
condition_sound m d l (tree.Compared r x y) s t ok fits = (
  sound m d l x s t (no_left (causes d l x) (causes d l y) ok) (le-trans _ _ _ (see-grows d l y (see d l x s)) fits),
  sound m d l y (see d l x s) t (no_right (causes d l x) (causes d l y) ok) fits,
)
condition_sound m d l (tree.Inverted c) s t ok fits = condition_sound m d l c s t ok fits
condition_sound m d l (tree.Both c e) s t ok fits = (
  condition_sound m d l c s t (no_left (condition_causes d l c) (condition_causes d l e) ok) (le-trans _ _ _ (see_condition-grows d l e (see_condition d l c s)) fits),
  condition_sound m d l e (see_condition d l c s) t (no_right (condition_causes d l c) (condition_causes d l e) ok) fits,
)
condition_sound m d l (tree.Either c e) s t ok fits = (
  condition_sound m d l c s t (no_left (condition_causes d l c) (condition_causes d l e) ok) (le-trans _ _ _ (see_condition-grows d l e (see_condition d l c s)) fits),
  condition_sound m d l e (see_condition d l c s) t (no_right (condition_causes d l c) (condition_causes d l e) ok) fits,
)
