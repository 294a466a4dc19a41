-- Where no distributed array stands in a subscript of a distributed reference, index arrays are local to whoever values them.
use Rattle.std.proofs.Common.{◌≡◌, ℕ, Bool, true, false, List, [], ◌∷◌, ◌++◌, refl, Option, None, Some, is_some, flat_map}
use Rattle.std.specs.List.{AllByRecursion}
use Rattle.std.proofs.lemmas.List.Elements.{All-from_recursion, recursion_from_All}
use Rattle.fd_prog.specs.Checked.{Reference, references_in, references_among}
use Rattle.fd_prog.specs.Conditions.{Condition, Fixed, Compared, Not, Both, Either}
use Rattle.fd_prog.specs.Expressions.{Expression, Number, Scalar, Element, Negated, Joined, Applied, Expressions, End, More}
use Rattle.fd_prog.specs.Homes.{Distribution, Executor, EveryRank, RankZero, distribution_at}
use Rattle.fd_prog.specs.Programs.{CheckedProgram}
use Rattle.fd_prog.specs.Statements.{Target, ToScalar, ToElement, PrintItem, Words, Value, Statement, Assign, If, Do, While, Read, Print, Continue, Distribute, Statements, Empty, Then}
use Rattle.program_laws.specs.Indexing.{Indexed, IsLocalTo, IsIndexed, AreIndexed, elements_in, elements_among, condition_elements, target_elements, item_elements, IsIndexedStatement, AreIndexedStatements}
use Rattle.fd_names.specs.Distributed.{AreLocal, IsLocal, is_distributed, chosen, subscripts_in, subscripts_among, condition_subscripts, target_subscripts, item_subscripts, statement_subscripts, statements_subscripts}

join : {X : Type 0} (P : X → Type 0) (xs ys : List X) → AllByRecursion P xs → AllByRecursion P ys → AllByRecursion P (xs ++ ys)
join P [] ys h k = k
join P (x ∷ xs) ys h k = (h.0, join P xs ys h.1 k)

front : {X : Type 0} (P : X → Type 0) (xs ys : List X) → AllByRecursion P (xs ++ ys) → AllByRecursion P xs
front P [] ys h = tt
front P (x ∷ xs) ys h = (h.0, front P xs ys h.1)

behind : {X : Type 0} (P : X → Type 0) (xs ys : List X) → AllByRecursion P (xs ++ ys) → AllByRecursion P ys
behind P [] ys h = h
behind P (x ∷ xs) ys h = behind P xs ys h.1

never : {X : Type 0} {P : Type 0} (o : Option X) (d : X) → o ≡ Some d → is_some o ≡ false → P
never None d e h = absurd cc
never (Some x) d e h = absurd cc

-- ---- references in subscripts are to replicated arrays

abbrev IsAlone : CheckedProgram → Reference → Type 0
IsAlone p r = is_distributed p r.array ≡ false

mutual
  local_in : (p : CheckedProgram) (home : Executor) (e : Expression) → AllByRecursion (IsAlone p) (references_in e) → AllByRecursion (IsLocalTo p home) (elements_in e)
  local_in p home (Number x) h = tt
  local_in p home (Scalar s) h = tt
  local_in p home (Element k es site) h = ((λ d e fs f. never (distribution_at p k) d e h.0), local_among p home es h.1)
  local_in p home (Negated a) h = local_in p home a h
  local_in p home (Joined op a b) h =
      join (IsLocalTo p home) (elements_in a) (elements_in b) (local_in p home a (front (IsAlone p) (references_in a) (references_in b) h)) (local_in p home b (behind (IsAlone p) (references_in a) (references_in b) h))
  local_in p home (Applied f es) h = local_among p home es h

  local_among : (p : CheckedProgram) (home : Executor) (es : Expressions) → AllByRecursion (IsAlone p) (references_among es) → AllByRecursion (IsLocalTo p home) (elements_among es)
  local_among p home End h = tt
  local_among p home (More e es) h =
      join (IsLocalTo p home) (elements_in e) (elements_among es) (local_in p home e (front (IsAlone p) (references_in e) (references_among es) h)) (local_among p home es (behind (IsAlone p) (references_in e) (references_among es) h))

-- ---- distributed references

abbrev IsFit : CheckedProgram → Executor → Indexed → Type 0
IsFit p home x = (d : Distribution) → distribution_at p x.array ≡ Some d → IsIndexed p home x

one_fit : (p : CheckedProgram) (home : Executor) (k : ℕ) (es : Expressions) (b : Bool) → is_distributed p k ≡ b → AllByRecursion (AreLocal p) (chosen b es) → IsFit p home (record { array = k; subs = es })
one_fit p home k es true q h d e =
    record { forms = h.0.forms; inner = All-from_recursion (IsLocalTo p home) (elements_among es) (local_among p home es (recursion_from_All (IsAlone p) (references_among es) h.0.replicated)) }
one_fit p home k es false q h d e = never (distribution_at p k) d e q

mutual
  fit : (p : CheckedProgram) (home : Executor) (e : Expression) → AllByRecursion (AreLocal p) (subscripts_in (is_distributed p) e) → AllByRecursion (IsFit p home) (elements_in e)
  fit p home (Number x) h = tt
  fit p home (Scalar s) h = tt
  fit p home (Element k es site) h =
      let own = chosen (is_distributed p k) es in
      let inner = subscripts_among (is_distributed p) es in
      (one_fit p home k es (is_distributed p k) refl (front (AreLocal p) own inner h), all_fit p home es (behind (AreLocal p) own inner h))
  fit p home (Negated a) h = fit p home a h
  fit p home (Joined op a b) h =
      let xs = subscripts_in (is_distributed p) a in
      let ys = subscripts_in (is_distributed p) b in
      join (IsFit p home) (elements_in a) (elements_in b) (fit p home a (front (AreLocal p) xs ys h)) (fit p home b (behind (AreLocal p) xs ys h))
  fit p home (Applied f es) h = all_fit p home es h

  all_fit : (p : CheckedProgram) (home : Executor) (es : Expressions) → AllByRecursion (AreLocal p) (subscripts_among (is_distributed p) es) → AllByRecursion (IsFit p home) (elements_among es)
  all_fit p home End h = tt
  all_fit p home (More e es) h =
      let xs = subscripts_in (is_distributed p) e in
      let ys = subscripts_among (is_distributed p) es in
      join (IsFit p home) (elements_in e) (elements_among es) (fit p home e (front (AreLocal p) xs ys h)) (all_fit p home es (behind (AreLocal p) xs ys h))

condition_fit : (p : CheckedProgram) (home : Executor) (c : Condition) → AllByRecursion (AreLocal p) (condition_subscripts (is_distributed p) c) → AllByRecursion (IsFit p home) (condition_elements c)
condition_fit p home (Fixed b) h = tt
condition_fit p home (Compared rel a b) h =
    let xs = subscripts_in (is_distributed p) a in
    let ys = subscripts_in (is_distributed p) b in
    join (IsFit p home) (elements_in a) (elements_in b) (fit p home a (front (AreLocal p) xs ys h)) (fit p home b (behind (AreLocal p) xs ys h))
condition_fit p home (Not c) h = condition_fit p home c h
condition_fit p home (Both c d) h =
    let xs = condition_subscripts (is_distributed p) c in
    let ys = condition_subscripts (is_distributed p) d in
    join (IsFit p home) (condition_elements c) (condition_elements d) (condition_fit p home c (front (AreLocal p) xs ys h)) (condition_fit p home d (behind (AreLocal p) xs ys h))
condition_fit p home (Either c d) h =
    let xs = condition_subscripts (is_distributed p) c in
    let ys = condition_subscripts (is_distributed p) d in
    join (IsFit p home) (condition_elements c) (condition_elements d) (condition_fit p home c (front (AreLocal p) xs ys h)) (condition_fit p home d (behind (AreLocal p) xs ys h))

target_fit : (p : CheckedProgram) (home : Executor) (t : Target) → AllByRecursion (AreLocal p) (target_subscripts (is_distributed p) t) → AllByRecursion (IsFit p home) (target_elements t)
target_fit p home (ToScalar s) h = tt
target_fit p home (ToElement k es site) h =
    let own = chosen (is_distributed p k) es in
    let inner = subscripts_among (is_distributed p) es in
    (one_fit p home k es (is_distributed p k) refl (front (AreLocal p) own inner h), all_fit p home es (behind (AreLocal p) own inner h))

item_fit : (p : CheckedProgram) (home : Executor) (x : PrintItem) → AllByRecursion (AreLocal p) (item_subscripts (is_distributed p) x) → AllByRecursion (IsFit p home) (item_elements x)
item_fit p home (Words text) h = tt
item_fit p home (Value e) h = fit p home e h

items_fit : (p : CheckedProgram) (home : Executor) (xs : List PrintItem) → AllByRecursion (AreLocal p) (flat_map (item_subscripts (is_distributed p)) xs) → AllByRecursion (IsFit p home) (flat_map item_elements xs)
items_fit p home [] h = tt
items_fit p home (x ∷ xs) h =
    let own = item_subscripts (is_distributed p) x in
    let rest = flat_map (item_subscripts (is_distributed p)) xs in
    join (IsFit p home) (item_elements x) (flat_map item_elements xs) (item_fit p home x (front (AreLocal p) own rest h)) (items_fit p home xs (behind (AreLocal p) own rest h))

-- ---- statements

all_of : (p : CheckedProgram) (home : Executor) (xs : List Indexed) → AllByRecursion (IsFit p home) xs → AreIndexed p home xs
all_of p home xs h = All-from_recursion (IsFit p home) xs h

mutual
  statement_fit : (p : CheckedProgram) (x : Statement) → AllByRecursion (AreLocal p) (statement_subscripts (is_distributed p) x) → IsIndexedStatement p x
  statement_fit p (Assign l t e) h =
      let xs = target_subscripts (is_distributed p) t in
      let ys = subscripts_in (is_distributed p) e in
      (all_of p EveryRank (target_elements t) (target_fit p EveryRank t (front (AreLocal p) xs ys h)), λ home q. all_of p home (elements_in e) (fit p home e (behind (AreLocal p) xs ys h)))
  statement_fit p (If l c so otherwise) h =
      let xs = condition_subscripts (is_distributed p) c in
      let ys = statements_subscripts (is_distributed p) so in
      let zs = statements_subscripts (is_distributed p) otherwise in
      let rest = behind (AreLocal p) xs (ys ++ zs) h in
      (all_of p EveryRank (condition_elements c) (condition_fit p EveryRank c (front (AreLocal p) xs (ys ++ zs) h)), statements_fit p so (front (AreLocal p) ys zs rest), statements_fit p otherwise (behind (AreLocal p) ys zs rest))
  statement_fit p (Do l k a b by body) h =
      let xs = subscripts_in (is_distributed p) a in
      let ys = subscripts_in (is_distributed p) b in
      let zs = subscripts_in (is_distributed p) by in
      let us = statements_subscripts (is_distributed p) body in
      let h1 = behind (AreLocal p) xs (ys ++ (zs ++ us)) h in
      let h2 = behind (AreLocal p) ys (zs ++ us) h1 in (
        all_of p EveryRank (elements_in a) (fit p EveryRank a (front (AreLocal p) xs (ys ++ (zs ++ us)) h)),
        all_of p EveryRank (elements_in b) (fit p EveryRank b (front (AreLocal p) ys (zs ++ us) h1)),
        all_of p EveryRank (elements_in by) (fit p EveryRank by (front (AreLocal p) zs us h2)),
        statements_fit p body (behind (AreLocal p) zs us h2),
      )
  statement_fit p (While l c body) h =
      let xs = condition_subscripts (is_distributed p) c in
      let ys = statements_subscripts (is_distributed p) body in
      (all_of p EveryRank (condition_elements c) (condition_fit p EveryRank c (front (AreLocal p) xs ys h)), statements_fit p body (behind (AreLocal p) xs ys h))
  statement_fit p (Read l t) h = all_of p EveryRank (target_elements t) (target_fit p EveryRank t h)
  statement_fit p (Print l xs) h = all_of p RankZero (flat_map item_elements xs) (items_fit p RankZero xs h)
  statement_fit p (Continue l) h = tt
  statement_fit p (Distribute l decomp given) h = tt

  statements_fit : (p : CheckedProgram) (xs : Statements) → AllByRecursion (AreLocal p) (statements_subscripts (is_distributed p) xs) → AreIndexedStatements p xs
  statements_fit p Empty h = tt
  statements_fit p (Then x rest) h =
      let xs = statement_subscripts (is_distributed p) x in
      let ys = statements_subscripts (is_distributed p) rest in
      (statement_fit p x (front (AreLocal p) xs ys h), statements_fit p rest (behind (AreLocal p) xs ys h))

pub local_indexed : (p : CheckedProgram) → IsLocal p → AreIndexedStatements p p.body
local_indexed p h = statements_fit p p.body (recursion_from_All (AreLocal p) (statements_subscripts (is_distributed p) p.body) h)
