-- Expressions that name none of the widened scalars have the forms that they have where none is widened.
use Rattle.std.proofs.Common.{◌≡◌, ℕ, suc, Bool, true, false, cond, eqb, ◌||◌, List, [], ◌∷◌, ◌++◌, Option, Some, None, refl, sym, ap, ◌∙◌, Result, Ok}
use Rattle.std.specs.Prelude.{option_map}
use Rattle.std.specs.List.{list_any, position}
use Rattle.std.proofs.lemmas.List.Folds.{list_any-append}
use Rattle.fd_prog.specs.Expressions.{Expression, Number, Scalar, Element, Negated, Joined, Applied, Expressions, End, More, expression_of}
use Rattle.fd_prog.specs.FormOf.{constants_in, form_of_expression, forms_of_expressions, joined_form, known_or, limited, minus_one, scalar_atom, scaled, single}
use Rattle.fd_prog.specs.Values.{applied}
use Rattle.fd_prog.specs.Forms.{ElementOf, FunctionOf, LinearForm, Part}
use Rattle.fd_prog.specs.Items.{LinearLoop, Name, ScalarName, is_among, is_same_name}
use Rattle.fd_prog.specs.Outcomes.{and_then}
use Rattle.fd_prog.specs.declared.expression.Func.{Func}
use Rattle.fd_prog.specs.declared.expression.Op2.{Op2}
use Rattle.fd_prog.specs.declared.expression.Expr.{Expr}
use Rattle.fd_prog.specs.declared.form.FormRefusal.{FormRefusal}
use Rattle.section_num.specs.declared.names.Name as kept
use Rattle.section_num.specs.Bounds.{all_scalars, forms_of, scalars_among, scalars_in}
use Rattle.section_num.specs.KeptNames.{name_of, names_of}
use Rattle.section_num.proofs.NameLists.{any-each, any_or, list_any-map}
use Rattle.section_num.proofs.Places.{position-cons}

none_after : (b : Bool) (r : Option ℕ) (any : Bool) → (b || any) ≡ false → (any ≡ false → r ≡ None) → cond b (Some 0) (option_map suc r) ≡ None
none_after true r any h f = absurd cc
none_after false r any h f = ap (option_map suc) (f h)

-- what none is has no place
pub no_place : {A : Type 0} (p : A → Bool) (xs : List A) → list_any p xs ≡ false → position p xs ≡ None
no_place p [] h = refl
no_place p (x ∷ xs) h = position-cons p x xs ∙ none_after (p x) (position p xs) (list_any p xs) h (no_place p xs)

pub scalar_same : (bound : List ℕ) (s : ℕ) → list_any (λ b. eqb b s) bound ≡ false → form_of_expression bound (Scalar s) ≡ form_of_expression [] (Scalar s)
scalar_same bound s h = ap (λ r. Ok (single (scalar_atom r s))) (no_place (λ b. eqb b s) bound h)

pub element_same : (bound : List ℕ) (array : ℕ) (subs : Expressions) (site : ℕ) → forms_of_expressions bound subs ≡ forms_of_expressions [] subs → form_of_expression bound (Element array subs site) ≡ form_of_expression [] (Element array subs site)
element_same bound array subs site e = ap (λ r. and_then r (λ fs. Ok (single (ElementOf array fs)))) e

pub negated_same : (bound : List ℕ) (a : Expression) → form_of_expression bound a ≡ form_of_expression [] a → form_of_expression bound (Negated a) ≡ form_of_expression [] (Negated a)
negated_same bound a e = ap (λ r. and_then r (λ f. limited (scaled minus_one f))) e

pub joined_same : (bound : List ℕ) (op : Op2) (a b : Expression) → form_of_expression bound a ≡ form_of_expression [] a → form_of_expression bound b ≡ form_of_expression [] b → form_of_expression bound (Joined op a b) ≡ form_of_expression [] (Joined op a b)
joined_same bound op a b e f =
    ap (λ r. and_then r (λ x. and_then (form_of_expression bound b) (λ y. limited (joined_form op x y)))) e
    ∙ ap (λ r. and_then (form_of_expression [] a) (λ x. and_then r (λ y. limited (joined_form op x y)))) f

pub applied_same : (bound : List ℕ) (g : Func) (args : Expressions) → forms_of_expressions bound args ≡ forms_of_expressions [] args → form_of_expression bound (Applied g args) ≡ form_of_expression [] (Applied g args)
applied_same bound g args e = ap (λ r. and_then r (λ fs. limited (known_or (option_map (applied g) (constants_in fs)) (FunctionOf g fs)))) e

pub more_same : (bound : List ℕ) (a : Expression) (list : Expressions) → form_of_expression bound a ≡ form_of_expression [] a → forms_of_expressions bound list ≡ forms_of_expressions [] list → forms_of_expressions bound (More a list) ≡ forms_of_expressions [] (More a list)
more_same bound a list e f =
    ap (λ r. and_then r (λ x. and_then (forms_of_expressions bound list) (λ xs. Ok (Part x xs)))) e
    ∙ ap (λ r. and_then (form_of_expression [] a) (λ x. and_then r (λ xs. Ok (Part x xs)))) f

-- ---- all that an expression names

-- some of these are named
abbrev names_any : List Name → List ℕ → Bool
names_any names bound = list_any (λ b. is_among names (ScalarName b)) bound

neither : (a b : Bool) → (a || b) ≡ false → (a ≡ false) × (b ≡ false)
neither true b h = absurd cc
neither false b h = (refl, h)

none_apart : (xs ys : List Name) (bound : List ℕ) → names_any (xs ++ ys) bound ≡ false → (names_any xs bound ≡ false) × (names_any ys bound ≡ false)
none_apart xs ys bound h =
    let apart : names_any (xs ++ ys) bound ≡ (names_any xs bound || names_any ys bound) =
    any-each (λ b. is_among (xs ++ ys) (ScalarName b)) (λ b. is_among xs (ScalarName b) || is_among ys (ScalarName b)) bound (λ b. list_any-append (is_same_name (ScalarName b)) xs ys)
    ∙ any_or (λ b. is_among xs (ScalarName b)) (λ b. is_among ys (ScalarName b)) bound in
    neither (names_any xs bound) (names_any ys bound) (sym apart ∙ h)

or_none : (a : Bool) → a ≡ (a || false)
or_none true = refl
or_none false = refl

mutual
  expression_same : (bound : List ℕ) (e : Expression) → names_any (scalars_in e) bound ≡ false → form_of_expression bound e ≡ form_of_expression [] e
  expression_same bound (Number x) h = refl
  expression_same bound (Scalar s) h = scalar_same bound s (any-each (λ b. eqb b s) (λ b. is_among (ScalarName s ∷ []) (ScalarName b)) bound (λ b. or_none (eqb b s)) ∙ h)
  expression_same bound (Element array subs site) h = element_same bound array subs site (expressions_same bound subs h)
  expression_same bound (Negated a) h = negated_same bound a (expression_same bound a h)
  expression_same bound (Joined op a b) h =
      let both = none_apart (scalars_in a) (scalars_in b) bound h in
      joined_same bound op a b (expression_same bound a both.0) (expression_same bound b both.1)
  expression_same bound (Applied f args) h = applied_same bound f args (expressions_same bound args h)

  expressions_same : (bound : List ℕ) (es : Expressions) → names_any (scalars_among es) bound ≡ false → forms_of_expressions bound es ≡ forms_of_expressions [] es
  expressions_same bound End h = refl
  expressions_same bound (More e es) h =
      let both = none_apart (scalars_in e) (scalars_among es) bound h in
      more_same bound e es (expression_same bound e both.0) (expressions_same bound es both.1)

abbrev all_three : Result LinearForm FormRefusal → Result LinearForm FormRefusal → Result LinearForm FormRefusal → Result LinearLoop FormRefusal
all_three a b c = and_then a (λ first. and_then b (λ last. and_then c (λ step. Ok (record { first = first; last = last; step = step }))))

-- bounds and a step that name none of these have the same forms where they are widened
pub forms_same : (bound : List ℕ) (named : List kept.Name) (e : Expr × (Expr × Expr)) → names_of named ≡ all_scalars e → list_any (λ b. list_any (λ n. is_same_name (ScalarName b) (name_of n)) named) bound ≡ false → forms_of bound e ≡ forms_of [] e
forms_same bound named e h g =
    let first = expression_of e.0 in
    let last = expression_of e.1.0 in
    let step = expression_of e.1.1 in
    let none : names_any (all_scalars e) bound ≡ false =
    ap (λ (ns : List Name). names_any ns bound) (sym h)
    ∙ (any-each (λ b. is_among (names_of named) (ScalarName b)) (λ b. list_any (λ n. is_same_name (ScalarName b) (name_of n)) named) bound (λ b. list_any-map (is_same_name (ScalarName b)) name_of named) ∙ g) in
    let some = none_apart (scalars_in first) (scalars_in last ++ scalars_in step) bound none in
    let others = none_apart (scalars_in last) (scalars_in step) bound some.1 in
    ap (λ r. all_three r (form_of_expression bound last) (form_of_expression bound step)) (expression_same bound first some.0)
    ∙ (ap (λ r. all_three (form_of_expression [] first) r (form_of_expression bound step)) (expression_same bound last others.0)
    ∙ ap (all_three (form_of_expression [] first) (form_of_expression [] last)) (expression_same bound step others.1))
