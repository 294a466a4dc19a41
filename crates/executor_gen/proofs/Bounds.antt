-- The code has at most three instructions for each node and two for each operation.
use Rattle.std.proofs.Common.{◌≡◌, ℕ, zero, suc, ◌+◌, ◌*◌, ◌≤◌, List, [], ◌∷◌, ◌++◌, length, refl, sym, ap, ◌∙◌, subst, arith, length-append}
use Rattle.fd_base.specs.declared.numbering.Line.{Line}
use Rattle.fd_prog.specs.Conditions.{Condition}
use Rattle.fd_prog.specs.Nodes as nodes
use Rattle.fd_prog.specs.Nodes.{Role, Node, at_line, fork_from, loop_from, nodes_in, nodes_among, nodes_from, all_nodes_from, nodes_of}
use Rattle.fd_prog.specs.Paths.{Plan}
use Rattle.fd_prog.specs.Programs.{CheckedProgram}
use Rattle.fd_prog.specs.Statements.{Statement, Assign, If, Do, While, Read, Print, Continue, Distribute, Statements, Empty, Then}
use Rattle.exec_code.specs.Instructions.{Instruction, Stop, FlatCode}
use Rattle.exec_code.specs.Trails.{is_distribute}
use Rattle.executor_gen.specs.Layout.{Spots, spots_of, node_block, node_size}
use Rattle.executor_gen.specs.Blocks.{blocks_from, total_size, operations_among, IsLaid}
use Rattle.executor_gen.proofs.Laid.{block_size}
use Rattle.executor_gen.proofs.Measuring.{total_append}
use Rattle.interval_graph.proofs.Laid.{length_nodes, length_all}

-- the blocks of these nodes are small
abbrev Small : Spots → ℕ → List Node → Type 0
Small o a ns = total_size o a ns ≤ 3 * length ns + 2 * operations_among o a (length ns)

among_append : (o : Spots) (a m n : ℕ) → operations_among o a (m + n) ≡ operations_among o a m + operations_among o (a + m) n
among_append o a zero n = let e : 0 + n ≡ n = omega arith in let f : a ≡ a + 0 = omega arith in ap (operations_among o a) e ∙ ap (λ k. operations_among o k n) f ∙ omega arith
among_append o a (suc m) n =
    let e : suc m + n ≡ suc (m + n) = omega arith in
    let f : suc a + m ≡ a + suc m = omega arith in
    let g = among_append o (suc a) m n ∙ ap (λ k. operations_among o (suc a) m + operations_among o k n) f in
    ap (operations_among o a) e ∙ omega (arith, g)

small_append : (o : Spots) (a b : ℕ) (xs ys : List Node) → a + length xs ≡ b → Small o a xs → Small o b ys → Small o a (xs ++ ys)
small_append o a b xs ys e h k =
    let k' : Small o (a + length xs) ys = subst (λ n. Small o n ys) (sym e) k in
    let t = total_append o xs ys a in
    let l = length-append xs ys in
    let m = ap (operations_among o a) l ∙ among_append o a (length xs) (length ys) in
    omega (arith, h, k', t, l, m)

small_node : (o : Spots) (a b : ℕ) (line : Line) (role : Role) (ns : List Node) → suc a ≡ b → node_size o a role ≤ 3 + 2 * (length (o.ins a) + length (o.outs a)) → Small o b ns → Small o a (at_line line role ∷ ns)
small_node o a b line role ns e h k = let k' : Small o (suc a) ns = subst (λ n. Small o n ns) (sym e) k in omega (arith, h, k')

small_none : (o : Spots) (a : ℕ) → Small o a []
small_none o a = omega arith

both_small : (o : Spots) (a : ℕ) → length (o.ins a ++ o.outs a) ≤ 3 + 2 * (length (o.ins a) + length (o.outs a))
both_small o a = omega (arith, length-append (o.ins a) (o.outs a))

simple_small : (o : Spots) (a : ℕ) (i : Instruction) → length (o.ins a ++ (i ∷ o.outs a)) ≤ 3 + 2 * (length (o.ins a) + length (o.outs a))
simple_small o a i = omega (arith, length-append (o.ins a) (i ∷ o.outs a))

-- a side of an IF, with its two pads
side_small : (o : Spots) (a b last : ℕ) (line : Line) (side : List Node) (role : Role) → suc a ≡ b → b + length side ≡ last → Small o b side → node_size o last role ≤ 3 + 2 * (length (o.ins last) + length (o.outs last))
    → (rest : List Node) → Small o (suc last) rest → Small o a (at_line line nodes.Pad ∷ (side ++ (at_line line role ∷ rest)))
side_small o a b last line side role e f h k rest more =
    small_node o a b line nodes.Pad (side ++ (at_line line role ∷ rest)) e (both_small o a)
    (small_append o b last side (at_line line role ∷ rest) f h (small_node o last (suc last) line role rest refl k more))

yes_small : (o : Spots) (a join : ℕ) → node_size o a (nodes.YesEnd join) ≤ 3 + 2 * (length (o.ins a) + length (o.outs a))
yes_small o a join = simp length-append (omega arith)

branch_small : (o : Spots) (a : ℕ) (c : Condition) (no_side : ℕ) → node_size o a (nodes.Branch c no_side) ≤ 3 + 2 * (length (o.ins a) + length (o.outs a))
branch_small o a c no_side = simp length-append (omega arith)

fork_small : (o : Spots) (a m k : ℕ) (line : Line) (c : Condition) (so otherwise : ℕ → List Node) → length (so (a + 2)) ≡ m → length (otherwise (a + m + 4)) ≡ k → Small o (a + 2) (so (a + 2)) → Small o (a + m + 4) (otherwise (a + m + 4))
    → Small o a (fork_from a line c m so k otherwise)
fork_small o a m k line c so otherwise x y h g =
    let no_side = a + m + 3 in
    let join = a + m + k + 5 in
    let last = a + m + 4 + k in
    let ends = a + m + 2 in
    let joins : Small o (suc last) (at_line line nodes.Join ∷ []) = small_node o (suc last) (suc (suc last)) line nodes.Join [] refl (both_small o (suc last)) (small_none o (suc (suc last))) in
    let no_part = side_small o no_side (a + m + 4) last line (otherwise (a + m + 4)) nodes.Pad (omega arith) (ap (λ n. a + m + 4 + n) y) g (both_small o last) (at_line line nodes.Join ∷ []) joins in
    let no_at : suc ends ≡ no_side = omega arith in
    let join_list : List Node = at_line line nodes.Join ∷ [] in
    let no_list : List Node = at_line line nodes.Pad ∷ (otherwise (a + m + 4) ++ (at_line line nodes.Pad ∷ join_list)) in
    let yes_list : List Node = at_line line nodes.Pad ∷ (so (a + 2) ++ (at_line line (nodes.YesEnd join) ∷ no_list)) in
    let no_moved : Small o (suc ends) no_list = subst (λ n. Small o n no_list) (sym no_at) no_part in
    let yes_part : Small o (suc a) yes_list = side_small o (suc a) (a + 2) ends line (so (a + 2)) (nodes.YesEnd join) (omega arith) (omega (arith, x)) h (yes_small o ends join) no_list no_moved in
    small_node o a (suc a) line (nodes.Branch c no_side) yes_list refl (branch_small o a c no_side) yes_part

round_small : (o : Spots) (a m : ℕ) (line : Line) (s : Statement) (body : ℕ → List Node) → length (body (a + 2)) ≡ m → ((latch : ℕ) → node_size o a (nodes.Loop s latch) ≤ length (o.ins a) + 2) → Small o (a + 2) (body (a + 2)) → Small o a (loop_from a line s m body)
round_small o a m line s body x begin h =
    let latch = a + m + 2 in
    let inner = body (a + 2) in
    let size = begin latch in
    let after : node_size o (a + 2 + length inner) (nodes.Latch s a) ≡ length (o.ins (a + 2 + length inner)) + (length (o.outs a) + 1) = simp length-append (omega arith) in
    let pad = both_small o (suc a) in
    let e : suc (suc a) ≡ a + 2 = omega arith in
    let t = ap (λ n. total_size o n (inner ++ (at_line line (nodes.Latch s a) ∷ []))) e ∙ total_append o inner (at_line line (nodes.Latch s a) ∷ []) (a + 2) in
    let l = length-append inner (at_line line (nodes.Latch s a) ∷ []) in
    let m' = ap (operations_among o (suc (suc a))) l ∙ ap (λ n. operations_among o n (length inner + 1)) e ∙ among_append o (a + 2) (length inner) 1 in
    omega (arith, size, after, pad, t, l, m', h)

mutual
  statement_small : (o : Spots) (s : Statement) (a : ℕ) → Small o a (nodes_from a s)
  statement_small o (Assign line target e) a = small_node o a (suc a) line (nodes.Simple (Assign line target e)) [] refl (simple_small o a _) (small_none o (suc a))
  statement_small o (If line c so otherwise) a =
      fork_small o a (nodes_among so) (nodes_among otherwise) line c (λ b. all_nodes_from b so) (λ b. all_nodes_from b otherwise) (length_all (a + 2) so) (length_all (a + nodes_among so + 4) otherwise)
      (all_small o so (a + 2)) (all_small o otherwise (a + nodes_among so + 4))
  statement_small o (Do line var first last by body) a =
      round_small o a (nodes_among body) line (Do line var first last by body) (λ b. all_nodes_from b body) (length_all (a + 2) body) (λ latch. simp length-append (omega arith)) (all_small o body (a + 2))
  statement_small o (While line c body) a =
      round_small o a (nodes_among body) line (While line c body) (λ b. all_nodes_from b body) (length_all (a + 2) body) (λ latch. simp length-append (omega arith)) (all_small o body (a + 2))
  statement_small o (Read line target) a = small_node o a (suc a) line (nodes.Simple (Read line target)) [] refl (simple_small o a _) (small_none o (suc a))
  statement_small o (Print line items) a = small_node o a (suc a) line (nodes.Simple (Print line items)) [] refl (simple_small o a _) (small_none o (suc a))
  statement_small o (Continue line) a = small_node o a (suc a) line (nodes.Simple (Continue line)) [] refl (simple_small o a _) (small_none o (suc a))
  statement_small o (Distribute line decomp given) a = small_node o a (suc a) line (nodes.Simple (Distribute line decomp given)) [] refl (simple_small o a _) (small_none o (suc a))

  all_small : (o : Spots) (ss : Statements) (a : ℕ) → Small o a (all_nodes_from a ss)
  all_small o Empty a = omega arith
  all_small o (Then s ss) a = small_append o a (a + nodes_in s) (nodes_from a s) (all_nodes_from (a + nodes_in s) ss) (ap (λ n. a + n) (length_nodes a s)) (statement_small o s a) (all_small o ss (a + nodes_in s))

blocks_size : (o : Spots) (place : ℕ → ℕ) (p : Plan) → o ≡ spots_of p → (ns : List Node) (k a : ℕ) → length (blocks_from (spots_of p) place k a ns) ≡ total_size (spots_of p) a ns
blocks_size o place p e [] k a = refl
blocks_size o place p e (x ∷ xs) k a =
    length-append (node_block (spots_of p) place k a x.role) _ ∙ ap (λ n. n + length (blocks_from (spots_of p) place (k + is_distribute x.role) (suc a) xs)) (block_size p place k a x.role)
    ∙ ap (λ n. node_size (spots_of p) a x.role + n) (blocks_size o place p e xs (k + is_distribute x.role) (suc a))

pub code_small : (p : Plan) (prog : CheckedProgram) (code : FlatCode) → IsLaid p (nodes_of prog) code
    → length code.instructions ≤ 3 * length (nodes_of prog) + 2 * operations_among (spots_of p) 0 (length (nodes_of prog))
code_small p prog code h =
    let o = spots_of p in
    let body = all_nodes_from 1 prog.body in
    let last = at_line prog.end_line nodes.End in
    let end_small : node_size o (1 + length body) nodes.End ≤ 3 + 2 * (length (o.ins (1 + length body)) + length (o.outs (1 + length body))) = omega (arith, length-append (o.ins (1 + length body)) (Stop ∷ [])) in
    let small : Small o 0 (nodes_of prog) =
    small_node o 0 1 (record { 0 = 0 }) nodes.Start (body ++ (last ∷ [])) (omega arith) (both_small o 0)
    (small_append o 1 (1 + length body) body (last ∷ []) refl (all_small o prog.body 1)
    (small_node o (1 + length body) (suc (1 + length body)) prog.end_line nodes.End [] refl end_small (small_none o (suc (1 + length body))))) in
    let size = ap length h.instructions ∙ blocks_size o h.place p refl (nodes_of prog) 0 0 in
    omega (arith, small, size)
