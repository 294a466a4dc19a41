-- A program of a tree has no DISTRIBUTE among its statements, and none of its decompositions waits for a map.
use Rattle.std.proofs.Common.{◌≡◌, ℕ, zero, suc, List, [], ◌∷◌, ◌++◌, refl, ap, ◌∙◌, subst, Option, None, Some, slice_get, flat_map}
use Rattle.std.specs.List.{AllByRecursion}
use Rattle.std.specs.Option.{IfSome}
use Rattle.std.proofs.lemmas.List.Elements.{recursion_from_All}
use Rattle.fd_base.specs.declared.shapes.Dist.{Dist}
use Rattle.fd_base.specs.declared.shapes.Dist.TheVariants.{Block, Cyclic, BlockCyclic, Irregular, Later}
use Rattle.fd_base.specs.Places.{IsRegular}
use Rattle.fd_ast.specs.Tree.{StmtTree, StmtTrees}
use Rattle.fd_prog.specs.declared.program.Decomp.{Decomp}
use Rattle.fd_prog.specs.Mappings.{given_in, given_among}
use Rattle.fd_prog.specs.Programs.{CheckedProgram}
use Rattle.fd_prog.specs.Statements.{Statement, Statements}
use Rattle.program_laws.specs.Maps.{HasMaps, IsGiven, IsPlacedBehind, ArePlacedBehind, distributes, top_statements}
use Rattle.fd_names.specs.Distributed.{AreRegular}
use Rattle.fd_names.specs.Standing.{Scope, StatementStands, an_assignment, an_if, a_do, a_while, a_read, a_print, a_continue, StatementsStand, no_statements, and_statements}

both_empty : {X : Type 0} (xs ys : List X) → xs ≡ [] → ys ≡ [] → xs ++ ys ≡ []
both_empty xs ys e f = ap (λ zs. zs ++ ys) e ∙ f

mutual
  none_given : {c : Scope} {x : StmtTree} {s : Statement} → StatementStands c x s → given_in s ≡ []
  none_given (an_assignment t e) = refl
  none_given (an_if {us = us} {vs = vs} k a b) = both_empty (given_among us) (given_among vs) (none_among a) (none_among b)
  none_given (a_do i a b by body) = none_among body
  none_given (a_while k body) = none_among body
  none_given (a_read t) = refl
  none_given (a_print xs) = refl
  none_given a_continue = refl

  none_among : {c : Scope} {xs : StmtTrees} {ss : Statements} → StatementsStand c xs ss → given_among ss ≡ []
  none_among no_statements = refl
  none_among (and_statements {x = x} {xs = xs} h k) = both_empty (given_in x) (given_among xs) (none_given h) (none_among k)

placed_one : {c : Scope} {x : StmtTree} {s : Statement} → StatementStands c x s → (p : CheckedProgram) (before : List Statement) → IsPlacedBehind p before s
placed_one (an_assignment t e) p before = tt
placed_one (an_if k a b) p before = none_given (an_if k a b)
placed_one (a_do i a b by body) p before = none_among body
placed_one (a_while k body) p before = none_among body
placed_one (a_read t) p before = tt
placed_one (a_print xs) p before = tt
placed_one a_continue p before = tt

placed : {c : Scope} {xs : StmtTrees} {ss : Statements} → StatementsStand c xs ss → (p : CheckedProgram) (before : List Statement) → ArePlacedBehind p before ss
placed no_statements p before = tt
placed (and_statements {x = x} h k) p before = (placed_one h p before, placed k p (before ++ x ∷ []))

regular_given : (given : List ℕ) (decomp : ℕ) (o : Option Dist) → IfSome o IsRegular → IfSome o (IsGiven given decomp)
regular_given given decomp None h = tt
regular_given given decomp (Some Block) h = ((λ e. absurd cc), λ e. absurd cc)
regular_given given decomp (Some Cyclic) h = ((λ e. absurd cc), λ e. absurd cc)
regular_given given decomp (Some (BlockCyclic size)) h = ((λ e. absurd cc), λ e. absurd cc)
regular_given given decomp (Some Irregular) h = absurd h
regular_given given decomp (Some Later) h = absurd h

at_place : {X : Type 0} (P : X → Type 0) (xs : List X) (k : ℕ) (x : X) → AllByRecursion P xs → slice_get xs k ≡ Some x → P x
at_place P [] k x h e = absurd cc
at_place P (y ∷ xs) zero x h e = let same : y ≡ x = cc in subst P same h.0
at_place P (y ∷ xs) (suc k) x h e = at_place P xs k x h.1 e

pub maps_given : (p : CheckedProgram) (c : Scope) (xs : StmtTrees) → StatementsStand c xs p.body → AreRegular p → HasMaps p
maps_given p c xs h r =
    let IsOne : Decomp → Type 0 = λ d. IfSome d.dist IsRegular in
    record {
      placed = placed h p [];
      given = λ decomp d e. regular_given (flat_map distributes (top_statements p.body)) decomp d.dist (at_place IsOne p.decomps decomp d (recursion_from_All IsOne p.decomps r) e);
    }
