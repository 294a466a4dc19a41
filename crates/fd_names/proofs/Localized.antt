-- The subscripts of a program's distributed references, where the rules on them refuse nothing.
use Rattle.std.proofs.Common.{◌≡◌, ℕ, zero, suc, Bool, true, false, cond, not, ◌||◌, ◌&&◌, nat_lt, List, [], ◌∷◌, ◌++◌, refl, sym, ap, ◌∙◌, subst, Option, None, Some, is_none, is_some, option_map, slice_get, get_or, map, length, flat_map, Result, Ok, Err, arith}
use Rattle.std.specs.Option.{option_and_then}
use Rattle.std.specs.Result.{IsOk}
use Rattle.std.specs.List.{All}
use Rattle.std.proofs.lemmas.List.Elements.{All-nil, All-cons}
use Rattle.fd_ast.specs.Tree.{ProgramTree}
use Rattle.fd_base.specs.declared.numbering.Line.{Line}
use Rattle.fd_base.specs.declared.shapes.Along.{Along}
use Rattle.fd_base.specs.declared.shapes.Dist.{Dist}
use Rattle.fd_prog.specs.declared.form.FormRefusal.{FormRefusal}
use Rattle.fd_prog.specs.declared.form.FormRefusal.TheVariants as refused
use Rattle.fd_prog.specs.declared.program.Array.{Array}
use Rattle.fd_prog.specs.declared.program.Decomp.{Decomp}
use Rattle.fd_prog.specs.Checked.{Reference, references_in, references_among}
use Rattle.fd_prog.specs.Conditions.{Condition, Fixed, Compared, Not, Both, Either}
use Rattle.fd_prog.specs.Expressions.{Expression, Number, Scalar, Element, Negated, Joined, Applied, Expressions, End, More}
use Rattle.fd_prog.specs.FormOf.{form_of_expression, forms_of_expressions, limited, constant, scaled, minus_one, joined_form, known_or, constants_in, are_small, is_small}
use Rattle.fd_prog.specs.Forms.{LinearForm, Sum, LinearForms, Part, FunctionOf, terms_in}
use Rattle.fd_prog.specs.Values.{applied}
use Rattle.fd_prog.specs.Homes.{distribution_of, distribution_over}
use Rattle.fd_prog.specs.Outcomes.{and_then}
use Rattle.fd_prog.specs.Programs.{CheckedProgram}
use Rattle.fd_prog.specs.Statements.{Target, ToScalar, ToElement, PrintItem, Words, Value, Statement, Assign, If, Do, While, Read, Print, Continue, Distribute, Statements, Empty, Then}
use Rattle.fd_names.specs.declared.declarations.Alignment.{Alignment}
use Rattle.fd_names.specs.declared.declarations.Size.{Size}
use Rattle.fd_names.specs.declared.declarations.Spread.{Spread}
use Rattle.fd_names.specs.declared.refusal.Cause.{Cause}
use Rattle.fd_names.specs.declared.refusal.Cause.TheVariants.{IndexNotLocal}
use Rattle.fd_names.specs.Checked.{nothing_seen, base_of, body_of, refusals_of, meaning_of}
use Rattle.fd_names.specs.Declarations.{dealt_arrays, finished_array, finished_arrays, is_dealt_by, is_spread_at, nothing_declared}
use Rattle.fd_names.specs.Distributed.{AreLocal, IsLocal, is_distributed, chosen, subscripts_in, subscripts_among, condition_subscripts, target_subscripts, item_subscripts, statement_subscripts, statements_subscripts}
use Rattle.fd_names.specs.First.{at_line, given}
use Rattle.fd_names.specs.Locality.{Dealt, is_dealt, mentions, mention, form_causes, subscript_causes, reference_causes, index_causes, all_index_causes, index_in_condition, index_in_target, index_in_item, index_in_items, index_refusals, all_index_refusals}
use Rattle.fd_names.proofs.DecompsCounted.{decls_counted}
use Rattle.fd_names.proofs.Parts.{parted}
use Rattle.fd_names.proofs.Sound.{no_left, no_right}
use Rattle.fd_names.proofs.StatementsSound.{clean}
use Rattle.fd_names.proofs.Totalled.{AreAlone, IsFinished, all_alone, dist_at, finished}

abbrev Each : {X : Type 0} → (X → Type 0) → List X → Type 0
Each P [] = Unit {0}
Each P (x ∷ xs) = P x × Each P xs

join : {X : Type 0} (P : X → Type 0) (xs ys : List X) → Each P xs → Each P ys → Each P (xs ++ ys)
join P [] ys h k = k
join P (x ∷ xs) ys h k = (h.0, join P xs ys h.1 k)

pub each : {X : Type 0} (P : X → Type 0) (xs : List X) → Each P xs → All P xs
each P [] h = All-nil P
each P (x ∷ xs) h = All-cons P x xs h.0 (each P xs h.1)

-- ---- the arrays in subscripts

abbrev Alone : Dealt → Reference → Type 0
Alone ds r = is_dealt ds r.array ≡ false

or_left : (a b : Bool) → (a || b) ≡ false → a ≡ false
or_left true b h = h
or_left false b h = refl

or_right : (a b : Bool) → (a || b) ≡ false → b ≡ false
or_right true b h = absurd cc
or_right false b h = h

mutual
  apart : (ds : Dealt) (e : Expression) → mentions ds e ≡ false → Each (Alone ds) (references_in e)
  apart ds (Number z) h = tt
  apart ds (Scalar k) h = tt
  apart ds (Element k es site) h = (or_left (is_dealt ds k) (mention ds es) h, all_apart ds es (or_right (is_dealt ds k) (mention ds es) h))
  apart ds (Negated e) h = apart ds e h
  apart ds (Joined o a b) h = join (Alone ds) (references_in a) (references_in b) (apart ds a (or_left (mentions ds a) (mentions ds b) h)) (apart ds b (or_right (mentions ds a) (mentions ds b) h))
  apart ds (Applied f es) h = all_apart ds es h

  all_apart : (ds : Dealt) (es : Expressions) → mention ds es ≡ false → Each (Alone ds) (references_among es)
  all_apart ds End h = tt
  all_apart ds (More e es) h = join (Alone ds) (references_in e) (references_among es) (apart ds e (or_left (mentions ds e) (mention ds es) h)) (all_apart ds es (or_right (mentions ds e) (mention ds es) h))

-- ---- the subscripts of a reference

-- a form, or a limit that it passes
abbrev NotMemory : {A : Type 0} → Result A FormRefusal → Type 0
NotMemory (Ok x) = Unit {0}
NotMemory (Err refused.Terms) = Unit {0}
NotMemory (Err refused.Coefficient) = Unit {0}
NotMemory (Err refused.Memory) = ⊥

then_not : {A B : Type 0} (r : Result A FormRefusal) (go : A → Result B FormRefusal) → NotMemory r → ((x : A) → NotMemory (go x)) → NotMemory (and_then r go)
then_not (Ok x) go h k = k x
then_not (Err refused.Terms) go h k = tt
then_not (Err refused.Coefficient) go h k = tt
then_not (Err refused.Memory) go h k = absurd h

limited_by : (b c : Bool) (f : LinearForm) → NotMemory {A = LinearForm} (cond b (Err refused.Terms) (cond c (Ok f) (Err refused.Coefficient)))
limited_by true c f = tt
limited_by false true f = tt
limited_by false false f = tt

limited_not : (f : LinearForm) → NotMemory (limited f)
limited_not (Sum ts c) = limited_by (nat_lt 16 (terms_in ts)) (are_small ts && is_small c) (Sum ts c)

mutual
  form_not : (e : Expression) → NotMemory (form_of_expression [] e)
  form_not (Number n) = limited_not (constant n)
  form_not (Scalar k) = tt
  form_not (Element k es site) = then_not (forms_of_expressions [] es) _ (forms_not es) (λ fs. tt)
  form_not (Negated a) = then_not (form_of_expression [] a) _ (form_not a) (λ f. limited_not (scaled minus_one f))
  form_not (Joined op a b) = then_not (form_of_expression [] a) _ (form_not a) (λ f. then_not (form_of_expression [] b) _ (form_not b) (λ g. limited_not (joined_form op f g)))
  form_not (Applied f es) = then_not (forms_of_expressions [] es) _ (forms_not es) (λ fs. limited_not (known_or (option_map (applied f) (constants_in fs)) (FunctionOf f fs)))

  forms_not : (es : Expressions) → NotMemory (forms_of_expressions [] es)
  forms_not End = tt
  forms_not (More e es) = then_not (form_of_expression [] e) _ (form_not e) (λ f. then_not (forms_of_expressions [] es) _ (forms_not es) (λ fs. tt))

record IsAnswer (r : Result LinearForm FormRefusal) : Type 0 where
  form : LinearForm
  is : r ≡ Ok form

ok_by : (r : Result LinearForm FormRefusal) → NotMemory r → form_causes r ≡ [] → IsAnswer r
ok_by (Ok f) n h = record { form = f; is = refl }
ok_by (Err refused.Terms) n h = absurd cc
ok_by (Err refused.Coefficient) n h = absurd cc
ok_by (Err refused.Memory) n h = absurd n

formed : (r : Result LinearForm FormRefusal) (q : Result LinearForms FormRefusal) → IsAnswer r → IsOk q → IsOk (and_then r (λ f. and_then q (λ fs. Ok (Part f fs))))
formed (Ok f) (Ok fs) a k = refl
formed (Ok f) (Err e) a k = absurd cc
formed (Err e) q a k = let i = a.is in absurd cc

-- what is to be said of the subscripts of each distributed reference
record AreFit (ds : Dealt) (es : Expressions) : Type 0 where
  forms : IsOk (forms_of_expressions [] es)
  alone : Each (Alone ds) (references_among es)

not_given : (b : Bool) (c : Cause) → given b c ≡ [] → b ≡ false
not_given true c h = absurd cc
not_given false c h = refl

subscripts_fit : (ds : Dealt) (es : Expressions) → subscript_causes ds es ≡ [] → AreFit ds es
subscripts_fit ds End ok = record { forms = refl; alone = tt }
subscripts_fit ds (More e es) ok =
    let own = given (mentions ds e) IndexNotLocal in
    let form = form_causes (form_of_expression [] e) in
    let rest = no_right own (form ++ subscript_causes ds es) ok in
    let k = subscripts_fit ds es (no_right form (subscript_causes ds es) rest) in
    let a = ok_by (form_of_expression [] e) (form_not e) (no_left form (subscript_causes ds es) rest) in
    record {
      forms = formed (form_of_expression [] e) (forms_of_expressions [] es) a k.forms;
      alone = join (Alone ds) (references_in e) (references_among es) (apart ds e (not_given (mentions ds e) IndexNotLocal (no_left own (form ++ subscript_causes ds es) ok))) k.alone;
    }

reference_fit : (b : Bool) (ds : Dealt) (es : Expressions) → reference_causes b ds es ≡ [] → Each (AreFit ds) (chosen b es)
reference_fit true ds es ok = (subscripts_fit ds es ok, tt)
reference_fit false ds es ok = tt

-- ---- all references

mutual
  fit : (ds : Dealt) (e : Expression) → index_causes ds e ≡ [] → Each (AreFit ds) (subscripts_in (is_dealt ds) e)
  fit ds (Number z) ok = tt
  fit ds (Scalar k) ok = tt
  fit ds (Element k es site) ok =
      let own = reference_causes (is_dealt ds k) ds es in
      join (AreFit ds) (chosen (is_dealt ds k) es) (subscripts_among (is_dealt ds) es) (reference_fit (is_dealt ds k) ds es (no_left own (all_index_causes ds es) ok)) (all_fit ds es (no_right own (all_index_causes ds es) ok))
  fit ds (Negated e) ok = fit ds e ok
  fit ds (Joined o a b) ok =
      join (AreFit ds) (subscripts_in (is_dealt ds) a) (subscripts_in (is_dealt ds) b) (fit ds a (no_left (index_causes ds a) (index_causes ds b) ok)) (fit ds b (no_right (index_causes ds a) (index_causes ds b) ok))
  fit ds (Applied f es) ok = all_fit ds es ok

  all_fit : (ds : Dealt) (es : Expressions) → all_index_causes ds es ≡ [] → Each (AreFit ds) (subscripts_among (is_dealt ds) es)
  all_fit ds End ok = tt
  all_fit ds (More e es) ok =
      join (AreFit ds) (subscripts_in (is_dealt ds) e) (subscripts_among (is_dealt ds) es) (fit ds e (no_left (index_causes ds e) (all_index_causes ds es) ok)) (all_fit ds es (no_right (index_causes ds e) (all_index_causes ds es) ok))

condition_fit : (ds : Dealt) (c : Condition) → index_in_condition ds c ≡ [] → Each (AreFit ds) (condition_subscripts (is_dealt ds) c)
condition_fit ds (Fixed b) ok = tt
condition_fit ds (Compared r a b) ok =
    join (AreFit ds) (subscripts_in (is_dealt ds) a) (subscripts_in (is_dealt ds) b) (fit ds a (no_left (index_causes ds a) (index_causes ds b) ok)) (fit ds b (no_right (index_causes ds a) (index_causes ds b) ok))
condition_fit ds (Not c) ok = condition_fit ds c ok
condition_fit ds (Both a b) ok =
    join (AreFit ds) (condition_subscripts (is_dealt ds) a) (condition_subscripts (is_dealt ds) b) (condition_fit ds a (no_left (index_in_condition ds a) (index_in_condition ds b) ok)) (condition_fit ds b (no_right (index_in_condition ds a) (index_in_condition ds b) ok))
condition_fit ds (Either a b) ok =
    join (AreFit ds) (condition_subscripts (is_dealt ds) a) (condition_subscripts (is_dealt ds) b) (condition_fit ds a (no_left (index_in_condition ds a) (index_in_condition ds b) ok)) (condition_fit ds b (no_right (index_in_condition ds a) (index_in_condition ds b) ok))

target_fit : (ds : Dealt) (t : Target) → index_in_target ds t ≡ [] → Each (AreFit ds) (target_subscripts (is_dealt ds) t)
target_fit ds (ToScalar k) ok = tt
target_fit ds (ToElement k es site) ok =
    let own = reference_causes (is_dealt ds k) ds es in
    join (AreFit ds) (chosen (is_dealt ds k) es) (subscripts_among (is_dealt ds) es) (reference_fit (is_dealt ds k) ds es (no_left own (all_index_causes ds es) ok)) (all_fit ds es (no_right own (all_index_causes ds es) ok))

item_fit : (ds : Dealt) (x : PrintItem) → index_in_item ds x ≡ [] → Each (AreFit ds) (item_subscripts (is_dealt ds) x)
item_fit ds (Words text) ok = tt
item_fit ds (Value e) ok = fit ds e ok

items_fit : (ds : Dealt) (xs : List PrintItem) → index_in_items ds xs ≡ [] → Each (AreFit ds) (flat_map (item_subscripts (is_dealt ds)) xs)
items_fit ds [] ok = tt
items_fit ds (x ∷ xs) ok =
    join (AreFit ds) (item_subscripts (is_dealt ds) x) (flat_map (item_subscripts (is_dealt ds)) xs) (item_fit ds x (no_left (index_in_item ds x) (index_in_items ds xs) ok)) (items_fit ds xs (no_right (index_in_item ds x) (index_in_items ds xs) ok))

mutual
  statement_fit : (ds : Dealt) (x : Statement) → index_refusals ds x ≡ [] → Each (AreFit ds) (statement_subscripts (is_dealt ds) x)
  statement_fit ds (Assign l t e) ok =
      let h = clean l (index_in_target ds t ++ index_causes ds e) ok in
      join (AreFit ds) (target_subscripts (is_dealt ds) t) (subscripts_in (is_dealt ds) e) (target_fit ds t (no_left (index_in_target ds t) (index_causes ds e) h)) (fit ds e (no_right (index_in_target ds t) (index_causes ds e) h))
  statement_fit ds (If l c so otherwise) ok =
      let own = at_line l (index_in_condition ds c) in
      let rest = no_right own (all_index_refusals ds so ++ all_index_refusals ds otherwise) ok in
      join (AreFit ds) (condition_subscripts (is_dealt ds) c) (statements_subscripts (is_dealt ds) so ++ statements_subscripts (is_dealt ds) otherwise)
      (condition_fit ds c (clean l (index_in_condition ds c) (no_left own (all_index_refusals ds so ++ all_index_refusals ds otherwise) ok)))
      (join (AreFit ds) (statements_subscripts (is_dealt ds) so) (statements_subscripts (is_dealt ds) otherwise)
      (statements_fit ds so (no_left (all_index_refusals ds so) (all_index_refusals ds otherwise) rest)) (statements_fit ds otherwise (no_right (all_index_refusals ds so) (all_index_refusals ds otherwise) rest)))
  statement_fit ds (Do l k a b by body) ok =
      let causes = index_causes ds a ++ (index_causes ds b ++ index_causes ds by) in
      let h = clean l causes (no_left (at_line l causes) (all_index_refusals ds body) ok) in
      let h2 = no_right (index_causes ds a) (index_causes ds b ++ index_causes ds by) h in
      join (AreFit ds) (subscripts_in (is_dealt ds) a) (subscripts_in (is_dealt ds) b ++ (subscripts_in (is_dealt ds) by ++ statements_subscripts (is_dealt ds) body))
      (fit ds a (no_left (index_causes ds a) (index_causes ds b ++ index_causes ds by) h))
      (join (AreFit ds) (subscripts_in (is_dealt ds) b) (subscripts_in (is_dealt ds) by ++ statements_subscripts (is_dealt ds) body)
      (fit ds b (no_left (index_causes ds b) (index_causes ds by) h2))
      (join (AreFit ds) (subscripts_in (is_dealt ds) by) (statements_subscripts (is_dealt ds) body)
      (fit ds by (no_right (index_causes ds b) (index_causes ds by) h2))
      (statements_fit ds body (no_right (at_line l causes) (all_index_refusals ds body) ok))))
  statement_fit ds (While l c body) ok =
      let own = at_line l (index_in_condition ds c) in
      join (AreFit ds) (condition_subscripts (is_dealt ds) c) (statements_subscripts (is_dealt ds) body)
      (condition_fit ds c (clean l (index_in_condition ds c) (no_left own (all_index_refusals ds body) ok))) (statements_fit ds body (no_right own (all_index_refusals ds body) ok))
  statement_fit ds (Read l t) ok = target_fit ds t (clean l (index_in_target ds t) ok)
  statement_fit ds (Print l xs) ok = items_fit ds xs (clean l (index_in_items ds xs) ok)
  statement_fit ds (Continue l) ok = tt
  statement_fit ds (Distribute l d given_) ok = tt

  statements_fit : (ds : Dealt) (xs : Statements) → all_index_refusals ds xs ≡ [] → Each (AreFit ds) (statements_subscripts (is_dealt ds) xs)
  statements_fit ds Empty ok = tt
  statements_fit ds (Then x rest) ok =
      join (AreFit ds) (statement_subscripts (is_dealt ds) x) (statements_subscripts (is_dealt ds) rest) (statement_fit ds x (no_left (index_refusals ds x) (all_index_refusals ds rest) ok)) (statements_fit ds rest (no_right (index_refusals ds x) (all_index_refusals ds rest) ok))

-- ---- the distributed arrays of a program

some_map : {A B : Type 0} (f : A → B) (o : Option A) → is_some (option_map f o) ≡ is_some o
some_map f None = refl
some_map f (Some x) = refl

some_over : (n : ℕ) (along : Along) (o : Option Decomp) → is_some (option_and_then (distribution_over n along) o) ≡ is_some (option_and_then (λ (x : Decomp). x.dist) o)
some_over n along None = refl
some_over n along (Some x) = some_map _ x.dist

turned : (o : Option Dist) (b : Bool) → is_none o ≡ not b → is_some o ≡ b
turned None true h = absurd cc
turned None false h = refl
turned (Some x) true h = refl
turned (Some x) false h = absurd cc

distributed_is : (p : CheckedProgram) (sps : List Spread) (a : Array) (g : Option Alignment) → IsFinished p sps → a.decomp ≡ None → is_some (distribution_of p (finished_array sps a g)) ≡ is_dealt_by sps g
distributed_is p sps a None f e = ap (λ o. is_some (option_and_then (λ n. option_and_then (distribution_over n a.along) (slice_get p.decomps n)) o)) e
distributed_is p sps a (Some g) f e = some_over g.decomp (finished_array sps a (Some g)).along (slice_get p.decomps g.decomp) ∙ turned (dist_at p.decomps g.decomp) (is_spread_at (slice_get sps g.decomp)) (f.at g.decomp)

dealt_at : (p : CheckedProgram) (sps : List Spread) (xs : List Array) (zs : List Size) (gs : List (Option Alignment)) (k : ℕ) → IsFinished p sps → AreAlone xs zs → length gs ≡ length xs → is_some (option_and_then (distribution_of p) (slice_get (finished_arrays sps xs gs) k)) ≡ get_or (map (is_dealt_by sps) gs) k false
dealt_at p sps [] zs [] k f h e = refl
dealt_at p sps [] zs (g ∷ gs) k f h e = absurd (omega (arith, e))
dealt_at p sps (a ∷ xs) zs [] k f h e = absurd (omega (arith, e))
dealt_at p sps (a ∷ xs) [] (g ∷ gs) k f h e = absurd h
dealt_at p sps (a ∷ xs) (z ∷ zs) (g ∷ gs) zero f h e = distributed_is p sps a g f h.0
dealt_at p sps (a ∷ xs) (z ∷ zs) (g ∷ gs) (suc k) f h e = dealt_at p sps xs zs gs k f h.2 (omega (arith, e))

all_local : (p : CheckedProgram) (ds : Dealt) (es : Expressions) → is_distributed p ≡ is_dealt ds → AreFit ds es → AreLocal p es
all_local p ds es e h =
    let test : (ℕ → Bool) → Type 0 = λ f. All (λ (r : Reference). f r.array ≡ false) (references_among es) in
    record { forms = h.forms; replicated = subst test (sym e) (each (Alone ds) (references_among es) h.alone) }

each_local : (p : CheckedProgram) (ds : Dealt) (xs : List Expressions) → is_distributed p ≡ is_dealt ds → Each (AreFit ds) xs → Each (AreLocal p) xs
each_local p ds [] e h = tt
each_local p ds (x ∷ xs) e h = (all_local p ds x e h.0, each_local p ds xs e h.1)

pub program_local : (t : ProgramTree) (end_line : Line) (at : ℕ) → refusals_of t ≡ [] → IsLocal (meaning_of t end_line at)
program_local t end_line at ok =
    let b = base_of t in
    let p = meaning_of t end_line at in
    let ds = dealt_arrays b in
    let counts = decls_counted t.decls nothing_seen (nothing_declared t.decls) (record { decomps = refl; spreads = refl; alignments = refl }) in
    let alone = all_alone t.decls nothing_seen (nothing_declared t.decls) tt in
    let f = finished p b.decomps b.spreads refl counts.spreads in
    let same : is_distributed p ≡ is_dealt ds = λ i k. dealt_at p b.spreads b.arrays b.sizes b.alignments k f alone counts.alignments i in
    let Q : (ℕ → Bool) → Type 0 = λ test. All (AreLocal p) (statements_subscripts test p.body) in
    subst Q (sym same) (each (AreLocal p) (statements_subscripts (is_dealt ds) p.body) (each_local p ds (statements_subscripts (is_dealt ds) p.body) same (statements_fit ds (body_of t) (parted t ok).index)))
