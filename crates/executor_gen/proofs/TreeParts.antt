-- The nodes of statements, as their blocks are written.
use Rattle.std.proofs.Common.{◌≡◌, ℕ, suc, ◌+◌, List, [], ◌∷◌, ◌++◌, length, refl, sym, ap, ◌∙◌, subst, arith, append_assoc, length-append}
use Rattle.fd_base.specs.declared.numbering.Line.{Line}
use Rattle.fd_prog.specs.Conditions.{Condition}
use Rattle.fd_prog.specs.Expressions.{Expression}
use Rattle.fd_prog.specs.Nodes as nodes
use Rattle.fd_prog.specs.Nodes.{Role, Node, at_line, fork_from, nodes_in, nodes_among, nodes_from, all_nodes_from}
use Rattle.fd_prog.specs.Statements.{Statement, If, Do, While, Statements, Then}
use Rattle.exec_code.specs.Instructions.{Jump, Test, Start, Turn}
use Rattle.exec_code.specs.Trails.{is_distribute}
use Rattle.exec_code.specs.declared.code.Instr.{Instr}
use Rattle.executor_gen.specs.Layout.{Spots, node_block, test_offset}
use Rattle.executor_gen.specs.Blocks.{Wrote, Adds}
use Rattle.interval_graph.proofs.Laid.{length_nodes, length_all}
use Rattle.executor_gen.proofs.Writing.{adds_none, adds_node, adds_other, adds_then, adds_same, one_node}

-- statements between two nodes
pub side_adds : (o : Spots) (place : ℕ → ℕ) (k next a b last : ℕ) (line : Line) (side : Statements) (role : Role) (i0 i1 i2 i3 : List Instr) (l0 l1 l2 l3 : List Line) → is_distribute role ≡ 0 → suc a ≡ b → b + nodes_among side ≡ last
    → Wrote (node_block o place k a nodes.Pad) line i0 l0 i1 l1 → Adds o place k b (all_nodes_from b side) i1 l1 i2 l2 next → Wrote (node_block o place next last role) line i2 l2 i3 l3
    → Adds o place k a (at_line line nodes.Pad ∷ (all_nodes_from b side ++ (at_line line role ∷ []))) i0 l0 i3 l3 next
side_adds o place k next a b last line side role i0 i1 i2 i3 l0 l1 l2 l3 e f g w x v =
    let n : b + length (all_nodes_from b side) ≡ last = ap (λ m. b + m) (length_all b side) ∙ g in
    adds_other o place k a b line nodes.Pad (all_nodes_from b side ++ (at_line line role ∷ [])) i0 i1 i3 l0 l1 l3 next refl f w
    (adds_then o place k next b last (all_nodes_from b side) (at_line line role ∷ []) i1 i2 i3 l1 l2 l3 next n x (one_node o place next last line role i2 i3 l2 l3 e v))

-- what follows the beginning of a loop
pub round_adds : (o : Spots) (place : ℕ → ℕ) (k next a latch offset : ℕ) (line : Line) (body : Statements) (i0 i1 i2 i3 : List Instr) (l0 l1 l2 l3 : List Line) → a + 2 + nodes_among body ≡ latch
    → Wrote (node_block o place k (a + 1) nodes.Pad) line i0 l0 i1 l1 → Adds o place k (a + 2) (all_nodes_from (a + 2) body) i1 l1 i2 l2 next
    → Wrote (o.ins latch ++ (Jump (place a + length (o.ins a) + offset) ∷ o.outs a)) line i2 l2 i3 l3
    → (s : Statement) → test_offset s ≡ offset → Adds o place k (a + 1) (at_line line nodes.Pad ∷ (all_nodes_from (a + 2) body ++ (at_line line (nodes.Latch s a) ∷ []))) i0 l0 i3 l3 next
round_adds o place k next a latch offset line body i0 i1 i2 i3 l0 l1 l2 l3 g w x v s e =
    side_adds o place k next (a + 1) (a + 2) latch line body (nodes.Latch s a) i0 i1 i2 i3 l0 l1 l2 l3 refl (omega arith) g w x
    (subst (λ n. Wrote (o.ins latch ++ (Jump (place a + length (o.ins a) + n) ∷ o.outs a)) line i2 l2 i3 l3) (sym e) v)

-- a loop
loop_adds : (o : Spots) (place : ℕ → ℕ) (k next a latch : ℕ) (line : Line) (s : Statement) (body : Statements) (i0 i1 i2 : List Instr) (l0 l1 l2 : List Line) → latch ≡ a + 2 + nodes_among body
    → Wrote (node_block o place k a (nodes.Loop s latch)) line i0 l0 i1 l1
    → Adds o place k (a + 1) (at_line line nodes.Pad ∷ (all_nodes_from (a + 2) body ++ (at_line line (nodes.Latch s a) ∷ []))) i1 l1 i2 l2 next
    → Adds o place k a (nodes.loop_from a line s (nodes_among body) (λ b. all_nodes_from b body)) i0 l0 i2 l2 next
loop_adds o place k next a latch line s body i0 i1 i2 l0 l1 l2 e w x =
    let f : latch ≡ a + nodes_among body + 2 = omega (arith, e) in
    adds_other o place k a (a + 1) line (nodes.Loop s (a + nodes_among body + 2)) (at_line line nodes.Pad ∷ (all_nodes_from (a + 2) body ++ (at_line line (nodes.Latch s a) ∷ []))) i0 i1 i2 l0 l1 l2 next refl (omega arith)
    (subst (λ n. Wrote (node_block o place k a (nodes.Loop s n)) line i0 l0 i1 l1) f w) x

pub do_adds : (o : Spots) (place : ℕ → ℕ) (k next a latch : ℕ) (line : Line) (var : ℕ) (first last by : Expression) (body : Statements) (i0 i1 i2 : List Instr) (l0 l1 l2 : List Line)
    → latch ≡ a + 2 + nodes_among body → Wrote (o.ins a ++ (Start var first last by ∷ (Turn var (place latch + length (o.ins latch) + 1) ∷ []))) line i0 l0 i1 l1
    → ((s : Statement) → test_offset s ≡ 1 → Adds o place k (a + 1) (at_line line nodes.Pad ∷ (all_nodes_from (a + 2) body ++ (at_line line (nodes.Latch s a) ∷ []))) i1 l1 i2 l2 next)
    → Adds o place k a (nodes_from a (Do line var first last by body)) i0 l0 i2 l2 next
do_adds o place k next a latch line var first last by body i0 i1 i2 l0 l1 l2 e w x =
    let s = Do line var first last by body in
    loop_adds o place k next a latch line s body i0 i1 i2 l0 l1 l2 e w (x s refl)

pub while_adds : (o : Spots) (place : ℕ → ℕ) (k next a latch : ℕ) (line : Line) (c : Condition) (body : Statements) (i0 i1 i2 : List Instr) (l0 l1 l2 : List Line)
    → latch ≡ a + 2 + nodes_among body → Wrote (o.ins a ++ (Test c (place latch + length (o.ins latch) + 1) ∷ [])) line i0 l0 i1 l1
    → ((s : Statement) → test_offset s ≡ 0 → Adds o place k (a + 1) (at_line line nodes.Pad ∷ (all_nodes_from (a + 2) body ++ (at_line line (nodes.Latch s a) ∷ []))) i1 l1 i2 l2 next)
    → Adds o place k a (nodes_from a (While line c body)) i0 l0 i2 l2 next
while_adds o place k next a latch line c body i0 i1 i2 l0 l1 l2 e w x =
    let s = While line c body in
    loop_adds o place k next a latch line s body i0 i1 i2 l0 l1 l2 e w (x s refl)

-- the nodes of an IF by its two sides
pub fork_list : (a m n : ℕ) (line : Line) (c : Condition) (so otherwise : ℕ → List Node) (first no_side second join : ℕ) → first ≡ a + 2 → no_side ≡ a + m + 3 → second ≡ a + m + 4 → join ≡ a + m + n + 5
    → at_line line (nodes.Branch c no_side) ∷ ((at_line line nodes.Pad ∷ (so first ++ (at_line line (nodes.YesEnd join) ∷ []))) ++ ((at_line line nodes.Pad ∷ (otherwise second ++ (at_line line nodes.Pad ∷ []))) ++ (at_line line nodes.Join ∷ [])))
    ≡ fork_from a line c m so n otherwise
fork_list a m n line c so otherwise first no_side second join e1 e2 e3 e4 =
    let pad = at_line line nodes.Pad in
    let ends = at_line line (nodes.YesEnd join) in
    let joins = at_line line nodes.Join in
    let head = at_line line (nodes.Branch c no_side) in
    let z : (pad ∷ (otherwise second ++ (pad ∷ []))) ++ (joins ∷ []) ≡ pad ∷ (otherwise second ++ (pad ∷ (joins ∷ []))) = ap (λ t. pad ∷ t) (append_assoc (otherwise second) (pad ∷ []) (joins ∷ [])) in
    ap (λ t. head ∷ ((pad ∷ (so first ++ (ends ∷ []))) ++ t)) z
    ∙ ap (λ t. head ∷ (pad ∷ t)) (append_assoc (so first) (ends ∷ []) (pad ∷ (otherwise second ++ (pad ∷ (joins ∷ [])))))
    ∙ ap (λ k. at_line line (nodes.Branch c k) ∷ (pad ∷ (so first ++ (ends ∷ (pad ∷ (otherwise second ++ (pad ∷ (joins ∷ [])))))))) e2
    ∙ ap (λ k. at_line line (nodes.Branch c (a + m + 3)) ∷ (pad ∷ (so k ++ (ends ∷ (pad ∷ (otherwise second ++ (pad ∷ (joins ∷ [])))))))) e1
    ∙ ap (λ k. at_line line (nodes.Branch c (a + m + 3)) ∷ (pad ∷ (so (a + 2) ++ (at_line line (nodes.YesEnd k) ∷ (pad ∷ (otherwise second ++ (pad ∷ (joins ∷ [])))))))) e4
    ∙ ap (λ k. at_line line (nodes.Branch c (a + m + 3)) ∷ (pad ∷ (so (a + 2) ++ (at_line line (nodes.YesEnd (a + m + n + 5)) ∷ (pad ∷ (otherwise k ++ (pad ∷ (joins ∷ [])))))))) e3

pub if_adds : (o : Spots) (place : ℕ → ℕ) (k k1 k2 a no_side join : ℕ) (line : Line) (c : Condition) (so otherwise : Statements) (i0 i1 i2 i3 i4 : List Instr) (l0 l1 l2 l3 l4 : List Line)
    → no_side ≡ a + 3 + nodes_among so → join ≡ no_side + 2 + nodes_among otherwise
    → Wrote (o.ins a ++ (Test c (place a + length (o.ins a) + length (o.outs a) + 2) ∷ (o.outs a ++ (Jump (place (a + 1)) ∷ (o.outs a ++ (Jump (place no_side) ∷ [])))))) line i0 l0 i1 l1
    → Adds o place k (a + 1) (at_line line nodes.Pad ∷ (all_nodes_from (a + 1 + 1) so ++ (at_line line (nodes.YesEnd join) ∷ []))) i1 l1 i2 l2 k1
    → Adds o place k1 no_side (at_line line nodes.Pad ∷ (all_nodes_from (no_side + 1) otherwise ++ (at_line line nodes.Pad ∷ []))) i2 l2 i3 l3 k2
    → Wrote (node_block o place k2 join nodes.Join) line i3 l3 i4 l4 → Adds o place k a (nodes_from a (If line c so otherwise)) i0 l0 i4 l4 k2
if_adds o place k k1 k2 a no_side join line c so otherwise i0 i1 i2 i3 i4 l0 l1 l2 l3 l4 e f w x y v =
    let m = nodes_among so in
    let n = nodes_among otherwise in
    let g : a + 1 ≡ suc a = omega arith in
    let test = place a + length (o.ins a) + length (o.outs a) + 2 in
    let w1 = subst (λ (p : ℕ). Wrote (o.ins a ++ (Test c test ∷ (o.outs a ++ (Jump (place p) ∷ (o.outs a ++ (Jump (place no_side) ∷ [])))))) line i0 l0 i1 l1) g w in
    let yes_nodes = at_line line nodes.Pad ∷ (all_nodes_from (a + 1 + 1) so ++ (at_line line (nodes.YesEnd join) ∷ [])) in
    let no_nodes = at_line line nodes.Pad ∷ (all_nodes_from (no_side + 1) otherwise ++ (at_line line nodes.Pad ∷ [])) in
    let joins = at_line line nodes.Join ∷ [] in
    let yes_size : a + 1 + length yes_nodes ≡ no_side = omega (arith, e, length-append (all_nodes_from (a + 1 + 1) so) (at_line line (nodes.YesEnd join) ∷ []), length_all (a + 1 + 1) so) in
    let no_size : no_side + length no_nodes ≡ join = omega (arith, f, length-append (all_nodes_from (no_side + 1) otherwise) (at_line line nodes.Pad ∷ []), length_all (no_side + 1) otherwise) in
    adds_same o place k a (at_line line (nodes.Branch c no_side) ∷ (yes_nodes ++ (no_nodes ++ joins))) (nodes_from a (If line c so otherwise)) i0 i4 l0 l4 k2
    (fork_list a m n line c (λ b. all_nodes_from b so) (λ b. all_nodes_from b otherwise) (a + 1 + 1) no_side (no_side + 1) join (omega arith) (omega (arith, e)) (omega (arith, e)) (omega (arith, e, f)))
    (adds_other o place k a (a + 1) line (nodes.Branch c no_side) (yes_nodes ++ (no_nodes ++ joins)) i0 i1 i4 l0 l1 l4 k2 refl (omega arith) w1
    (adds_then o place k k1 (a + 1) no_side yes_nodes (no_nodes ++ joins) i1 i2 i4 l1 l2 l4 k2 yes_size x
    (adds_then o place k1 k2 no_side join no_nodes joins i2 i3 i4 l2 l3 l4 k2 no_size y (one_node o place k2 join line nodes.Join i3 i4 l3 l4 refl v))))

-- a statement before others
pub list_adds : (o : Spots) (place : ℕ → ℕ) (k k1 k2 a b : ℕ) (s : Statement) (ss : Statements) (i0 i1 i2 : List Instr) (l0 l1 l2 : List Line) → b ≡ a + nodes_in s → Adds o place k a (nodes_from a s) i0 l0 i1 l1 k1
    → Adds o place k1 b (all_nodes_from b ss) i1 l1 i2 l2 k2 → Adds o place k a (all_nodes_from a (Then s ss)) i0 l0 i2 l2 k2
list_adds o place k k1 k2 a b s ss i0 i1 i2 l0 l1 l2 e x y =
    let z = subst (λ (n : ℕ). Adds o place k1 n (all_nodes_from n ss) i1 l1 i2 l2 k2) e y in
    adds_then o place k k1 a (a + nodes_in s) (nodes_from a s) (all_nodes_from (a + nodes_in s) ss) i0 i1 i2 l0 l1 l2 k2 (ap (λ n. a + n) (length_nodes a s)) x z

-- a simple statement
pub plain_adds : (o : Spots) (place : ℕ → ℕ) (k a next : ℕ) (line : Line) (t s : Statement) (i0 i1 : List Instr) (l0 l1 : List Line) → next ≡ k + is_distribute (nodes.Simple t) → t ≡ s
    → Wrote (node_block o place k a (nodes.Simple t)) line i0 l0 i1 l1 → Adds o place k a (at_line line (nodes.Simple s) ∷ []) i0 l0 i1 l1 next
plain_adds o place k a next line t s i0 i1 l0 l1 e same w =
    let d = is_distribute (nodes.Simple t) in
    let one = adds_node o place k a line (nodes.Simple t) [] i0 i1 i1 l0 l1 l1 (k + d) w (adds_none o place (k + d) (suc a) i1 l1) in
    subst (λ (x : Statement). Adds o place k a (at_line line (nodes.Simple x) ∷ []) i0 l0 i1 l1 next) same
    (subst (λ n. Adds o place k a (at_line line (nodes.Simple t) ∷ []) i0 l0 i1 l1 n) (sym e) one)
