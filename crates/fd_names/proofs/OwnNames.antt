-- What the mapping of a program names is the program's own.
use Rattle.std.proofs.Common.{◌≡◌, ℕ, zero, suc, ◌<◌, List, [], ◌∷◌, refl, Option, None, Some, slice_get, length, arith}
use Rattle.std.specs.List.{All}
use Rattle.std.specs.Option.{IfSome}
use Rattle.std.proofs.lemmas.List.Elements.{All-weaker}
use Rattle.fd_ast.specs.Tree.{StmtTree, StmtTrees}
use Rattle.fd_prog.specs.declared.program.Array.{Array}
use Rattle.fd_prog.specs.declared.program.Decomp.{Decomp}
use Rattle.fd_prog.specs.Mapped.{IsInside, IsMapped, IsMappedArray, LiesInside}
use Rattle.fd_prog.specs.Programs.{CheckedProgram}
use Rattle.fd_prog.specs.Statements.{Statement, Statements}
use Rattle.program_laws.specs.Own.{HasOwn, HasOwnMaps, HaveOwnMaps}
use Rattle.fd_names.specs.Standing.{Scope, StatementStands, an_assignment, an_if, a_do, a_while, a_read, a_print, a_continue, StatementsStand, no_statements, and_statements}

placed : {X : Type 0} (xs : List X) (k : ℕ) (x : X) → slice_get xs k ≡ Some x → k < length xs
placed [] k x e = absurd cc
placed (y ∷ xs) zero x e = omega arith
placed (y ∷ xs) (suc k) x e = let h = placed xs k x e in omega (arith, h)

found_own : (ds : List Decomp) (a : Array) (k : ℕ) (o : Option Decomp) → slice_get ds k ≡ o → LiesInside a o → k < length ds
found_own ds a k None e h = absurd h
found_own ds a k (Some d) e h = placed ds k d e

inside_own : (p : CheckedProgram) (a : Array) (o : Option ℕ) → IsInside p a o → IfSome o (λ number. number < length p.decomps)
inside_own p a None h = tt
inside_own p a (Some k) h = found_own p.decomps a k (slice_get p.decomps k) refl h

mutual
  own_maps : {c : Scope} {x : StmtTree} {s : Statement} → StatementStands c x s → (p : CheckedProgram) → HasOwnMaps p s
  own_maps (an_assignment t e) p = tt
  own_maps (an_if k a b) p = (all_own_maps a p, all_own_maps b p)
  own_maps (a_do i a b by body) p = all_own_maps body p
  own_maps (a_while k body) p = all_own_maps body p
  own_maps (a_read t) p = tt
  own_maps (a_print xs) p = tt
  own_maps a_continue p = tt

  all_own_maps : {c : Scope} {xs : StmtTrees} {ss : Statements} → StatementsStand c xs ss → (p : CheckedProgram) → HaveOwnMaps p ss
  all_own_maps no_statements p = tt
  all_own_maps (and_statements h k) p = (own_maps h p, all_own_maps k p)

pub has_own : (p : CheckedProgram) (c : Scope) (xs : StmtTrees) → StatementsStand c xs p.body → IsMapped p → HasOwn p
has_own p c xs h m =
    record {
      aligned = All-weaker (IsMappedArray p) (λ (a : Array). IfSome a.decomp (λ number. number < length p.decomps)) (λ a k. inside_own p a a.decomp k.inside) p.arrays m.arrays;
      distributed = all_own_maps h p;
    }
