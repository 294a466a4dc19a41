-- A constant is an expression that names nothing and doesn't fault, and its value is that of the expression in every store.
use Rattle.std.proofs.Common.{◌≡◌, neg_ℤ, Bool, true, false, cond, ◌&&◌, ◌∷◌, refl, ap, ◌∙◌, Option, None, Some, Result, Ok, Err}
use Rattle.std.specs.Option.{option_and_then, option_map}
use Rattle.std.specs.Result.{result_ok}
use Rattle.fd_base.specs.declared.numbers.FaultKind.{FaultKind}
use Rattle.fd_base.specs.Numbers.{exact}
use Rattle.fd_prog.specs.Expressions.{Expression, Number, Scalar, Element, Negated, Joined, Applied, Expressions, End, More}
use Rattle.fd_prog.specs.Outcomes.{and_then}
use Rattle.fd_prog.specs.Values.{Readings, value_of, values_of, joined, applied}
use Rattle.fd_names.specs.Constants.{constant_of, constants_of, name_nothing, names_nothing}

-- a value where there is one, once a test has passed
abbrev known : {A : Type 0} → Bool → Result A FaultKind → Option A
known b o = cond b (result_ok o) None

one_by : {A B : Type 0} (b : Bool) (o : Result A FaultKind) (g : A → Result B FaultKind) → option_and_then (λ x. result_ok (g x)) (known b o) ≡ known b (and_then o g)
one_by true (Ok x) g = refl
one_by true (Err e) g = refl
one_by false o g = refl

one : {A B : Type 0} (b : Bool) (o : Result A FaultKind) (g : A → Result B FaultKind) (c : Option A) → c ≡ known b o → option_and_then (λ x. result_ok (g x)) c ≡ known b (and_then o g)
one b o g c h = ap (option_and_then (λ x. result_ok (g x))) h ∙ one_by b o g

never : {B : Type 0} (b : Bool) (n : Option B) → n ≡ cond b n n
never true n = refl
never false n = refl

two_by : {A B C : Type 0} (p q : Bool) (o : Result A FaultKind) (u : Result B FaultKind) (g : A → B → Result C FaultKind) → option_and_then (λ x. option_and_then (λ y. result_ok (g x y)) (known q u)) (known p o) ≡ known (p && q) (and_then o (λ x. and_then u (g x)))
two_by true q (Ok x) u g = one_by q u (g x)
two_by true q (Err e) u g = never q None
two_by false q o u g = refl

two : {A B C : Type 0} (p q : Bool) (o : Result A FaultKind) (u : Result B FaultKind) (g : A → B → Result C FaultKind) (c : Option A) (d : Option B) → c ≡ known p o → d ≡ known q u → option_and_then (λ x. option_and_then (λ y. result_ok (g x y)) d) c ≡ known (p && q) (and_then o (λ x. and_then u (g x)))
two p q o u g c d h k = (λ i. option_and_then (λ x. option_and_then (λ y. result_ok (g x y)) (k i)) (h i)) ∙ two_by p q o u g

abbrev fine : {A : Type 0} → A → Result A FaultKind
fine x = Ok x

mapped : {A B : Type 0} (g : A → B) (c : Option A) → option_map g c ≡ option_and_then (λ x. result_ok (fine (g x))) c
mapped g None = refl
mapped g (Some x) = refl

pub map_some : {A B P : Type 0} (g : A → B) (o : Option A) (y : B) → option_map g o ≡ Some y → ((x : A) → o ≡ Some x → g x ≡ y → P) → P
map_some g None y h k = absurd cc
map_some g (Some x) y h k = k x refl cc

mutual
  pub valued : (r : Readings) (e : Expression) → constant_of e ≡ known (names_nothing e) (value_of r e)
  valued r (Number n) = refl
  valued r (Scalar k) = refl
  valued r (Element k es site) = refl
  valued r (Negated e) = one (names_nothing e) (value_of r e) (λ x. exact (neg_ℤ x)) (constant_of e) (valued r e)
  valued r (Joined op a b) = two (names_nothing a) (names_nothing b) (value_of r a) (value_of r b) (joined op) (constant_of a) (constant_of b) (valued r a) (valued r b)
  valued r (Applied f es) = one (name_nothing es) (values_of r es) (applied f) (constants_of es) (all_valued r es)

  all_valued : (r : Readings) (es : Expressions) → constants_of es ≡ known (name_nothing es) (values_of r es)
  all_valued r End = refl
  all_valued r (More e es) =
      ap (λ g. option_and_then g (constant_of e)) (λ i x. mapped (λ xs. x ∷ xs) (constants_of es) i)
      ∙ two (names_nothing e) (name_nothing es) (value_of r e) (values_of r es) (λ x xs. fine (x ∷ xs)) (constant_of e) (constants_of es) (valued r e) (all_valued r es)
