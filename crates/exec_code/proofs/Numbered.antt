-- The number of an executed DISTRIBUTE is the one by which the mapping behind it is looked up.
use Rattle.std.proofs.Common.{◌≡◌, ℕ, zero, suc, ◌+◌, List, [], ◌∷◌, ◌++◌, slice_get, Some, refl, sym, ap, ◌∙◌, arith, append_assoc}
use Rattle.fd_base.specs.declared.numbering.Line.{Line}
use Rattle.fd_prog.specs.declared.statement.Remapped.{Remapped}
use Rattle.fd_prog.specs.Mappings.{given_among, given_in}
use Rattle.fd_prog.specs.Nodes as nodes
use Rattle.fd_prog.specs.Nodes.{Role, Node, all_nodes_from, at_line, node_at, nodes_among, nodes_from, nodes_in, nodes_of}
use Rattle.fd_prog.specs.Programs.{CheckedProgram}
use Rattle.fd_prog.specs.Statements.{Statement, Assign, If, Do, While, Read, Print, Continue, Distribute, Statements, Empty, Then}
use Rattle.exec_code.specs.Trails.{distributes_before, is_distribute}

-- what a node gives
abbrev given_of : Role → List Remapped
given_of (nodes.Simple (Distribute line decomp given)) = given ∷ []
given_of role = []

abbrev given_at : List Node → List Remapped
given_at [] = []
given_at (n ∷ ns) = given_of n.role ++ given_at ns

given_append : (ns ms : List Node) → given_at (ns ++ ms) ≡ given_at ns ++ given_at ms
given_append [] ms = refl
given_append (n ∷ ns) ms = ap (λ gs. given_of n.role ++ gs) (given_append ns ms) ∙ sym (append_assoc (given_of n.role) (given_at ns) (given_at ms))

-- ---- the nodes of statements give what the statements do, in order

append_none : (gs : List Remapped) → gs ++ [] ≡ gs
append_none [] = refl
append_none (g ∷ gs) = ap (λ hs. g ∷ hs) (append_none gs)

-- some nodes between those that give nothing
between : (so rest : List Node) (gs hs : List Remapped) → given_at so ≡ gs → given_at rest ≡ hs → given_at (so ++ rest) ≡ gs ++ hs
between so rest gs hs e f = given_append so rest ∙ (ap (λ x. x ++ given_at rest) e ∙ ap (λ y. gs ++ y) f)

mutual
  statement_gives : (a : ℕ) (s : Statement) → given_at (nodes_from a s) ≡ given_in s
  statement_gives a (Assign line target e) = refl
  statement_gives a (If line c so otherwise) =
      between (all_nodes_from (a + 2) so) (at_line line (nodes.YesEnd (a + nodes_among so + nodes_among otherwise + 5)) ∷ (at_line line nodes.Pad ∷ (all_nodes_from (a + nodes_among so + 4) otherwise ++ (at_line line nodes.Pad ∷ (at_line line nodes.Join ∷ [])))))
      (given_among so) (given_among otherwise) (statements_give (a + 2) so)
      (between (all_nodes_from (a + nodes_among so + 4) otherwise) (at_line line nodes.Pad ∷ (at_line line nodes.Join ∷ [])) (given_among otherwise) [] (statements_give (a + nodes_among so + 4) otherwise) refl ∙ append_none (given_among otherwise))
  statement_gives a (Do line var first last by body) =
      between (all_nodes_from (a + 2) body) (at_line line (nodes.Latch (Do line var first last by body) a) ∷ []) (given_among body) [] (statements_give (a + 2) body) refl ∙ append_none (given_among body)
  statement_gives a (While line c body) =
      between (all_nodes_from (a + 2) body) (at_line line (nodes.Latch (While line c body) a) ∷ []) (given_among body) [] (statements_give (a + 2) body) refl ∙ append_none (given_among body)
  statement_gives a (Read line target) = refl
  statement_gives a (Print line items) = refl
  statement_gives a (Continue line) = refl
  statement_gives a (Distribute line decomp given) = refl

  statements_give : (a : ℕ) (ss : Statements) → given_at (all_nodes_from a ss) ≡ given_among ss
  statements_give a Empty = refl
  statements_give a (Then s ss) = between (nodes_from a s) (all_nodes_from (a + nodes_in s) ss) (given_in s) (given_among ss) (statement_gives a s) (statements_give (a + nodes_in s) ss)

program_gives : (p : CheckedProgram) → given_at (nodes_of p) ≡ given_among p.body
program_gives p = between (all_nodes_from 1 p.body) (at_line p.end_line nodes.End ∷ []) (given_among p.body) [] (statements_give 1 p.body) refl ∙ append_none (given_among p.body)

-- ---- numbers

-- behind a first node
before_more : (m : Node) (ns : List Node) (n : ℕ) → distributes_before (m ∷ ns) (suc n) ≡ is_distribute m.role + distributes_before ns n
before_more m ns zero = omega arith
before_more m ns (suc n) = ap (λ k. k + is_distribute (node_at ns n).role) (before_more m ns n) ∙ regroup (is_distribute m.role) (distributes_before ns n) (is_distribute (node_at ns n).role)
  where
    regroup : (x y z : ℕ) → x + y + z ≡ x + (y + z)
    regroup x y z = omega arith

past : (role : Role) (gs : List Remapped) (k : ℕ) → slice_get (given_of role ++ gs) (is_distribute role + k) ≡ slice_get gs k
past (nodes.Simple (Distribute line decomp given)) gs k = ap (slice_get (given ∷ gs)) (next k)
  where
    next : (k : ℕ) → 1 + k ≡ suc k
    next k = omega arith
past role gs k = ap (slice_get gs) (none k)
  where
    none : (k : ℕ) → 0 + k ≡ k
    none k = omega arith

given_first : (role : Role) (line : Line) (decomp : ℕ) (given : Remapped) (gs : List Remapped) → role ≡ nodes.Simple (Distribute line decomp given) → slice_get (given_of role ++ gs) 0 ≡ Some given
given_first role line decomp given gs e = ap (λ r. slice_get (given_of r ++ gs) 0) e

found : (ns : List Node) (n : ℕ) (line : Line) (decomp : ℕ) (given : Remapped) → (node_at ns n).role ≡ nodes.Simple (Distribute line decomp given) → slice_get (given_at ns) (distributes_before ns n) ≡ Some given
found [] n line decomp given e = absurd cc
found (m ∷ ns) zero line decomp given e = given_first m.role line decomp given (given_at ns) e
found (m ∷ ns) (suc n) line decomp given e = ap (slice_get (given_of m.role ++ given_at ns)) (before_more m ns n) ∙ (past m.role (given_at ns) (distributes_before ns n) ∙ found ns n line decomp given e)

-- the executed DISTRIBUTE of a node stands under its number among those of the program
pub install-numbered : (p : CheckedProgram) (n : ℕ) (line : Line) (decomp : ℕ) (given : Remapped) → (node_at (nodes_of p) n).role ≡ nodes.Simple (Distribute line decomp given)
    → slice_get (given_among p.body) (distributes_before (nodes_of p) n) ≡ Some given
install-numbered p n line decomp given e = ap (λ gs. slice_get gs (distributes_before (nodes_of p) n)) (sym (program_gives p)) ∙ found (nodes_of p) n line decomp given e
