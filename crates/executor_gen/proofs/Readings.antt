-- The references that expressions read, each with the item that it makes.
use Rattle.std.proofs.Common.{◌≡◌, ℕ, List, [], ◌∷◌, ◌++◌, map, flat_map, Option, Some, None, Result, Ok, Err, refl, sym, ap, ◌∙◌}
use Rattle.std.proofs.lemmas.Grind.{flat_map-append}
use Rattle.std.proofs.lemmas.List.{map-append}
use Rattle.fd_base.specs.declared.numbering.Line.{Line}
use Rattle.fd_prog.specs.declared.form.FormRefusal.{FormRefusal}
use Rattle.fd_prog.specs.Checked.{Reference, references_in, references_among, condition_references, item_references}
use Rattle.fd_prog.specs.Conditions.{Condition, Fixed, Compared, Not, Both, Either}
use Rattle.fd_prog.specs.Expressions.{Expression, Number, Scalar, Element, Negated, Joined, Applied, Expressions, End, More}
use Rattle.fd_prog.specs.Items.{LinearItem, item_of_reference}
use Rattle.fd_prog.specs.Statements.{Target, ToScalar, ToElement, PrintItem, Words, Value}
use Rattle.fd_prog.specs.Uses.{Use, Stand, use_of, expression_uses, expressions_uses, condition_uses, target_uses, print_uses}
use Rattle.exec_code.specs.Passing.{sites_in, sites_among, condition_sites, target_sites, print_sites}

-- a reference that is read: its line, its number, and the item that it makes, if it makes one
pub record Reading : Type 0 where
  pub line : Line
  pub site : ℕ
  pub item : Option LinearItem

abbrev pub made : Result (Option LinearItem) FormRefusal → Option LinearItem
made (Ok x) = x
made (Err why) = None

abbrev pub use_by : Line → ℕ → Option LinearItem → List Use
use_by line site None = []
use_by line site (Some x) = record { line = line; site = site; item = x } ∷ []

-- the use that it makes
abbrev pub use_in : Reading → List Use
use_in r = use_by r.line r.site r.item

abbrev pub uses_in_all : List Reading → List Use
uses_in_all rs = flat_map use_in rs

abbrev pub sites_of : List Reading → List ℕ
sites_of rs = map (λ (r : Reading). r.site) rs

abbrev pub reference_sites : List Reference → List ℕ
reference_sites rs = map (λ (r : Reference). r.site) rs

abbrev mutual
  pub expression_readings : Stand → Expression → List Reading
  expression_readings t (Number x) = []
  expression_readings t (Scalar s) = []
  expression_readings t (Element array subs site) = record { line = t.line; site = site; item = made (item_of_reference t.program t.setting array subs) } ∷ expressions_readings t subs
  expression_readings t (Negated a) = expression_readings t a
  expression_readings t (Joined op a b) = expression_readings t a ++ expression_readings t b
  expression_readings t (Applied f args) = expressions_readings t args

  pub expressions_readings : Stand → Expressions → List Reading
  expressions_readings t End = []
  expressions_readings t (More e es) = expression_readings t e ++ expressions_readings t es

abbrev pub condition_readings : Stand → Condition → List Reading
condition_readings t (Fixed b) = []
condition_readings t (Compared rel a b) = expression_readings t a ++ expression_readings t b
condition_readings t (Not c) = condition_readings t c
condition_readings t (Both c d) = condition_readings t c ++ condition_readings t d
condition_readings t (Either c d) = condition_readings t c ++ condition_readings t d

abbrev pub target_readings : Stand → Target → List Reading
target_readings t (ToScalar s) = []
target_readings t (ToElement array subs site) = expressions_readings t subs

abbrev pub print_readings : Stand → PrintItem → List Reading
print_readings t (Words text) = []
print_readings t (Value e) = expression_readings t e

-- ---- what they use

use_same : (line : Line) (site : ℕ) (r : Result (Option LinearItem) FormRefusal) → use_of line site r ≡ use_by line site (made r)
use_same line site (Ok (Some x)) = refl
use_same line site (Ok None) = refl
use_same line site (Err why) = refl

joined_uses : (xs ys : List Use) (rs ss : List Reading) → xs ≡ uses_in_all rs → ys ≡ uses_in_all ss → xs ++ ys ≡ uses_in_all (rs ++ ss)
joined_uses xs ys rs ss e f = ap (λ us. us ++ ys) e ∙ ap (λ us. uses_in_all rs ++ us) f ∙ sym (flat_map-append use_in rs ss)

mutual
  pub expression_used : (t : Stand) (e : Expression) → expression_uses t e ≡ uses_in_all (expression_readings t e)
  expression_used t (Number x) = refl
  expression_used t (Scalar s) = refl
  expression_used t (Element array subs site) =
      ap (λ us. us ++ expressions_uses t subs) (use_same t.line site (item_of_reference t.program t.setting array subs))
      ∙ ap (λ us. use_by t.line site (made (item_of_reference t.program t.setting array subs)) ++ us) (expressions_used t subs)
  expression_used t (Negated a) = expression_used t a
  expression_used t (Joined op a b) = joined_uses (expression_uses t a) (expression_uses t b) (expression_readings t a) (expression_readings t b) (expression_used t a) (expression_used t b)
  expression_used t (Applied f args) = expressions_used t args

  pub expressions_used : (t : Stand) (es : Expressions) → expressions_uses t es ≡ uses_in_all (expressions_readings t es)
  expressions_used t End = refl
  expressions_used t (More e es) = joined_uses (expression_uses t e) (expressions_uses t es) (expression_readings t e) (expressions_readings t es) (expression_used t e) (expressions_used t es)

pub condition_used : (t : Stand) (c : Condition) → condition_uses t c ≡ uses_in_all (condition_readings t c)
condition_used t (Fixed b) = refl
condition_used t (Compared rel a b) = joined_uses (expression_uses t a) (expression_uses t b) (expression_readings t a) (expression_readings t b) (expression_used t a) (expression_used t b)
condition_used t (Not c) = condition_used t c
condition_used t (Both c d) = joined_uses (condition_uses t c) (condition_uses t d) (condition_readings t c) (condition_readings t d) (condition_used t c) (condition_used t d)
condition_used t (Either c d) = joined_uses (condition_uses t c) (condition_uses t d) (condition_readings t c) (condition_readings t d) (condition_used t c) (condition_used t d)

target_used : (t : Stand) (target : Target) → target_uses t target ≡ uses_in_all (target_readings t target)
target_used t (ToScalar s) = refl
target_used t (ToElement array subs site) = expressions_used t subs

print_used : (t : Stand) (i : PrintItem) → print_uses t i ≡ uses_in_all (print_readings t i)
print_used t (Words text) = refl
print_used t (Value e) = expression_used t e

pub prints_used : (t : Stand) (is : List PrintItem) → flat_map (print_uses t) is ≡ uses_in_all (flat_map (print_readings t) is)
prints_used t [] = refl
prints_used t (i ∷ is) = joined_uses (print_uses t i) (flat_map (print_uses t) is) (print_readings t i) (flat_map (print_readings t) is) (print_used t i) (prints_used t is)

-- the subscripts of a target, and a right side or nothing
pub assign_used : (t u : Stand) (target : Target) (e : Expression) → target_uses t target ++ expression_uses u e ≡ uses_in_all (target_readings t target ++ expression_readings u e)
assign_used t u target e = joined_uses (target_uses t target) (expression_uses u e) (target_readings t target) (expression_readings u e) (target_used t target) (expression_used u e)

pub read_used : (t : Stand) (target : Target) → target_uses t target ≡ uses_in_all (target_readings t target)
read_used t target = target_used t target

pub bounds_used : (t : Stand) (first last by : Expression)
    → expression_uses t first ++ (expression_uses t last ++ expression_uses t by) ≡ uses_in_all (expression_readings t first ++ (expression_readings t last ++ expression_readings t by))
bounds_used t first last by =
    joined_uses (expression_uses t first) (expression_uses t last ++ expression_uses t by) (expression_readings t first) (expression_readings t last ++ expression_readings t by) (expression_used t first)
    (joined_uses (expression_uses t last) (expression_uses t by) (expression_readings t last) (expression_readings t by) (expression_used t last) (expression_used t by))

-- ---- their numbers

joined_sites : (xs ys : List ℕ) (rs ss : List Reading) → sites_of rs ≡ xs → sites_of ss ≡ ys → sites_of (rs ++ ss) ≡ xs ++ ys
joined_sites xs ys rs ss e f = map-append (λ (r : Reading). r.site) rs ss ∙ ap (λ zs. zs ++ sites_of ss) e ∙ ap (λ zs. xs ++ zs) f

mutual
  pub expression_told : (t : Stand) (e : Expression) → sites_of (expression_readings t e) ≡ sites_in e
  expression_told t (Number x) = refl
  expression_told t (Scalar s) = refl
  expression_told t (Element array subs site) = ap (λ xs. site ∷ xs) (expressions_told t subs)
  expression_told t (Negated a) = expression_told t a
  expression_told t (Joined op a b) = joined_sites (sites_in a) (sites_in b) (expression_readings t a) (expression_readings t b) (expression_told t a) (expression_told t b)
  expression_told t (Applied f args) = expressions_told t args

  pub expressions_told : (t : Stand) (es : Expressions) → sites_of (expressions_readings t es) ≡ sites_among es
  expressions_told t End = refl
  expressions_told t (More e es) = joined_sites (sites_in e) (sites_among es) (expression_readings t e) (expressions_readings t es) (expression_told t e) (expressions_told t es)

pub condition_told : (t : Stand) (c : Condition) → sites_of (condition_readings t c) ≡ condition_sites c
condition_told t (Fixed b) = refl
condition_told t (Compared rel a b) = joined_sites (sites_in a) (sites_in b) (expression_readings t a) (expression_readings t b) (expression_told t a) (expression_told t b)
condition_told t (Not c) = condition_told t c
condition_told t (Both c d) = joined_sites (condition_sites c) (condition_sites d) (condition_readings t c) (condition_readings t d) (condition_told t c) (condition_told t d)
condition_told t (Either c d) = joined_sites (condition_sites c) (condition_sites d) (condition_readings t c) (condition_readings t d) (condition_told t c) (condition_told t d)

pub target_told : (t : Stand) (target : Target) → sites_of (target_readings t target) ≡ target_sites target
target_told t (ToScalar s) = refl
target_told t (ToElement array subs site) = expressions_told t subs

print_told : (t : Stand) (i : PrintItem) → sites_of (print_readings t i) ≡ print_sites i
print_told t (Words text) = refl
print_told t (Value e) = expression_told t e

pub prints_told : (t : Stand) (is : List PrintItem) → sites_of (flat_map (print_readings t) is) ≡ flat_map print_sites is
prints_told t [] = refl
prints_told t (i ∷ is) = joined_sites (print_sites i) (flat_map print_sites is) (print_readings t i) (flat_map (print_readings t) is) (print_told t i) (prints_told t is)

pub assign_told : (t u : Stand) (target : Target) (e : Expression) → sites_of (target_readings t target ++ expression_readings u e) ≡ target_sites target ++ sites_in e
assign_told t u target e = joined_sites (target_sites target) (sites_in e) (target_readings t target) (expression_readings u e) (target_told t target) (expression_told u e)

pub bounds_told : (t : Stand) (first last by : Expression) → sites_of (expression_readings t first ++ (expression_readings t last ++ expression_readings t by)) ≡ sites_in first ++ (sites_in last ++ sites_in by)
bounds_told t first last by =
    joined_sites (sites_in first) (sites_in last ++ sites_in by) (expression_readings t first) (expression_readings t last ++ expression_readings t by) (expression_told t first)
    (joined_sites (sites_in last) (sites_in by) (expression_readings t last) (expression_readings t by) (expression_told t last) (expression_told t by))

-- ---- the numbers of the program's references

joined_references : (xs ys : List ℕ) (rs ss : List Reference) → reference_sites rs ≡ xs → reference_sites ss ≡ ys → reference_sites (rs ++ ss) ≡ xs ++ ys
joined_references xs ys rs ss e f = map-append (λ (r : Reference). r.site) rs ss ∙ ap (λ zs. zs ++ reference_sites ss) e ∙ ap (λ zs. xs ++ zs) f

mutual
  pub expression_referred : (e : Expression) → reference_sites (references_in e) ≡ sites_in e
  expression_referred (Number x) = refl
  expression_referred (Scalar s) = refl
  expression_referred (Element array subs site) = ap (λ xs. site ∷ xs) (expressions_referred subs)
  expression_referred (Negated a) = expression_referred a
  expression_referred (Joined op a b) = joined_references (sites_in a) (sites_in b) (references_in a) (references_in b) (expression_referred a) (expression_referred b)
  expression_referred (Applied f args) = expressions_referred args

  pub expressions_referred : (es : Expressions) → reference_sites (references_among es) ≡ sites_among es
  expressions_referred End = refl
  expressions_referred (More e es) = joined_references (sites_in e) (sites_among es) (references_in e) (references_among es) (expression_referred e) (expressions_referred es)

pub condition_referred : (c : Condition) → reference_sites (condition_references c) ≡ condition_sites c
condition_referred (Fixed b) = refl
condition_referred (Compared rel a b) = joined_references (sites_in a) (sites_in b) (references_in a) (references_in b) (expression_referred a) (expression_referred b)
condition_referred (Not c) = condition_referred c
condition_referred (Both c d) = joined_references (condition_sites c) (condition_sites d) (condition_references c) (condition_references d) (condition_referred c) (condition_referred d)
condition_referred (Either c d) = joined_references (condition_sites c) (condition_sites d) (condition_references c) (condition_references d) (condition_referred c) (condition_referred d)

print_referred : (i : PrintItem) → reference_sites (item_references i) ≡ print_sites i
print_referred (Words text) = refl
print_referred (Value e) = expression_referred e

pub prints_referred : (is : List PrintItem) → reference_sites (flat_map item_references is) ≡ flat_map print_sites is
prints_referred [] = refl
prints_referred (i ∷ is) = joined_references (print_sites i) (flat_map print_sites is) (item_references i) (flat_map item_references is) (print_referred i) (prints_referred is)
