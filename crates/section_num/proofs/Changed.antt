-- What the nodes of a program change is what its statements say, and how many nodes there are.
use Rattle.std.proofs.Common.{◌≡◌, ℕ, zero, suc, ◌+◌, List, [], ◌∷◌, ◌++◌, length, get_or, Option, Some, None, refl, sym, ap, ◌∙◌, arith}
use Rattle.std.specs.Prelude.{map}
use Rattle.std.proofs.Math.ListN.{get_or-map}
use Rattle.std.proofs.lemmas.List.{append_assoc, length-append, map-append}
use Rattle.fd_base.specs.declared.numbering.Line.{Line}
use Rattle.fd_prog.specs.Conditions.{Condition}
use Rattle.fd_prog.specs.Items.{Enclosing, Name, ScalarName, Side, Repeated}
use Rattle.fd_prog.specs.Nodes as nodes
use Rattle.fd_prog.specs.Nodes.{Node, all_nodes_from, fork_from, loop_from, node_at, node_count, nodes_among, nodes_from, nodes_in, nodes_of}
use Rattle.fd_prog.specs.Programs.{CheckedProgram}
use Rattle.fd_prog.specs.Statements.{Statement, Assign, If, Do, While, Read, Print, Continue, Distribute, Statements, Empty, Then}
use Rattle.fd_prog.specs.Uses.{Use, counted, name_stolen, uses_among, uses_by_node, uses_in}
use Rattle.section_num.specs.Changes.{changes_among, changes_in, changes_of, loop_changes, side_changes}

abbrev pub change_at : Node → Option Name
change_at node = name_stolen node.role

fork_changes : (a : ℕ) (line : Line) (c : Condition) (m n : ℕ) (so otherwise : ℕ → List Node) (xs ys : List (Option Name)) → ((b : ℕ) → map change_at (so b) ≡ xs) → ((b : ℕ) → map change_at (otherwise b) ≡ ys)
    → map change_at (fork_from a line c m so n otherwise) ≡ None ∷ (side_changes xs ++ (side_changes ys ++ (None ∷ [])))
fork_changes a line c m n so otherwise xs ys h i =
    let x : map change_at (so (a + 2)) ≡ xs = h (a + 2) in
    let y : map change_at (otherwise (a + m + 4)) ≡ ys = i (a + m + 4) in
    simp (map-append, append_assoc, x, y)

loop_changes_are : (a : ℕ) (line : Line) (s : Statement) (m : ℕ) (body : ℕ → List Node) (var : Option Name) (xs : List (Option Name)) → change_at (nodes.at_line line (nodes.Loop s (a + m + 2))) ≡ var
    → change_at (nodes.at_line line (nodes.Latch s a)) ≡ var → ((b : ℕ) → map change_at (body b) ≡ xs) → map change_at (loop_from a line s m body) ≡ loop_changes var xs
loop_changes_are a line s m body var xs e f h =
    let x : map change_at (body (a + 2)) ≡ xs = h (a + 2) in
    ap (λ v. v ∷ (None ∷ map change_at (body (a + 2) ++ (nodes.at_line line (nodes.Latch s a) ∷ [])))) e
    ∙ ap (λ ys. var ∷ (None ∷ ys)) (map-append change_at (body (a + 2)) (nodes.at_line line (nodes.Latch s a) ∷ []) ∙ (ap (λ ys. ys ++ (change_at (nodes.at_line line (nodes.Latch s a)) ∷ [])) x ∙ ap (λ v. xs ++ (v ∷ [])) f))

mutual
  changes_are : (a : ℕ) (s : Statement) → map change_at (nodes_from a s) ≡ changes_in s
  changes_are a (Assign line target e) = refl
  changes_are a (If line c so otherwise) =
      fork_changes a line c (nodes_among so) (nodes_among otherwise) (λ b. all_nodes_from b so) (λ b. all_nodes_from b otherwise) (changes_among so) (changes_among otherwise) (λ b. all_changes_are b so) (λ b. all_changes_are b otherwise)
  changes_are a (Do line var first last by body) =
      loop_changes_are a line (Do line var first last by body) (nodes_among body) (λ b. all_nodes_from b body) (Some (ScalarName var)) (changes_among body) refl refl (λ b. all_changes_are b body)
  changes_are a (While line c body) = loop_changes_are a line (While line c body) (nodes_among body) (λ b. all_nodes_from b body) None (changes_among body) refl refl (λ b. all_changes_are b body)
  changes_are a (Read line target) = refl
  changes_are a (Print line items) = refl
  changes_are a (Continue line) = refl
  changes_are a (Distribute line decomp given) = refl

  all_changes_are : (a : ℕ) (ss : Statements) → map change_at (all_nodes_from a ss) ≡ changes_among ss
  all_changes_are a Empty = refl
  all_changes_are a (Then s ss) =
      map-append change_at (nodes_from a s) (all_nodes_from (a + nodes_in s) ss)
      ∙ (ap (λ xs. xs ++ map change_at (all_nodes_from (a + nodes_in s) ss)) (changes_are a s) ∙ ap (λ xs. changes_in s ++ xs) (all_changes_are (a + nodes_in s) ss))

program_changes : (p : CheckedProgram) → map change_at (nodes_of p) ≡ changes_of p
program_changes p =
    ap (λ xs. None ∷ xs) (map-append change_at (all_nodes_from 1 p.body) (nodes.at_line p.end_line nodes.End ∷ []) ∙ ap (λ xs. xs ++ (None ∷ [])) (all_changes_are 1 p.body))

-- what a node changes
pub change_is : (p : CheckedProgram) (n : ℕ) → get_or (changes_of p) n None ≡ name_stolen (node_at (nodes_of p) n).role
change_is p n = ap (λ xs. get_or xs n None) (sym (program_changes p)) ∙ get_or-map change_at (nodes_of p) n (nodes.at_line (record { 0 = 0 }) nodes.End)

-- ---- how many nodes there are

mutual
  length_changes : (s : Statement) → length (changes_in s) ≡ nodes_in s
  length_changes (Assign line target e) = refl
  length_changes (If line c so otherwise) = let x = length_all_changes so in let y = length_all_changes otherwise in simp length-append (omega (arith, x, y))
  length_changes (Do line var first last by body) = let x = length_all_changes body in simp length-append (omega (arith, x))
  length_changes (While line c body) = let x = length_all_changes body in simp length-append (omega (arith, x))
  length_changes (Read line target) = refl
  length_changes (Print line items) = refl
  length_changes (Continue line) = refl
  length_changes (Distribute line decomp given) = refl

  length_all_changes : (ss : Statements) → length (changes_among ss) ≡ nodes_among ss
  length_all_changes Empty = refl
  length_all_changes (Then s ss) = let x = length_changes s in let y = length_all_changes ss in simp length-append (omega (arith, x, y))

pub changes_count : (p : CheckedProgram) → length (changes_of p) ≡ node_count p
changes_count p = let x = length_all_changes p.body in simp length-append (omega (arith, x))

mutual
  length_uses : (p : CheckedProgram) (around : List Enclosing) (s : Statement) → length (uses_in p around s) ≡ nodes_in s
  length_uses p around (Assign line target e) = refl
  length_uses p around (If line c so otherwise) =
      let x = length_all_uses p (Side ∷ around) so in let y = length_all_uses p (Side ∷ around) otherwise in simp length-append (omega (arith, x, y))
  length_uses p around (Do line var first last by body) = let x = length_all_uses p (counted var first last by body ∷ around) body in simp length-append (omega (arith, x))
  length_uses p around (While line c body) = let x = length_all_uses p (Repeated ∷ around) body in simp length-append (omega (arith, x))
  length_uses p around (Read line target) = refl
  length_uses p around (Print line items) = refl
  length_uses p around (Continue line) = refl
  length_uses p around (Distribute line decomp given) = refl

  length_all_uses : (p : CheckedProgram) (around : List Enclosing) (ss : Statements) → length (uses_among p around ss) ≡ nodes_among ss
  length_all_uses p around Empty = refl
  length_all_uses p around (Then s ss) = let x = length_uses p around s in let y = length_all_uses p around ss in simp length-append (omega (arith, x, y))

pub uses_count : (p : CheckedProgram) → length (uses_by_node p) ≡ node_count p
uses_count p = let x = length_all_uses p [] p.body in simp length-append (omega (arith, x))
