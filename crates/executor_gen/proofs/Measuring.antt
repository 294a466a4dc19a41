-- Ends of blocks that are put one behind the other.
use Rattle.std.proofs.Common.{◌≡◌, ℕ, suc, ◌+◌, ◌*◌, List, [], ◌∷◌, ◌++◌, length, refl, sym, ap, ◌∙◌, subst, arith, append_assoc, length-append}
use Rattle.fd_base.specs.declared.numbering.Line.{Line}
use Rattle.fd_prog.specs.Conditions.{Condition}
use Rattle.fd_prog.specs.Nodes as nodes
use Rattle.fd_prog.specs.Nodes.{Role, Node, at_line, nodes_in, nodes_among, nodes_from, all_nodes_from}
use Rattle.fd_prog.specs.Statements.{Statement, If, Statements, Then}
use Rattle.executor_gen.specs.Layout.{Spots, node_size}
use Rattle.executor_gen.specs.Blocks.{ends_from, total_size, Measures}
use Rattle.interval_graph.proofs.Laid.{length_nodes, length_all}
use Rattle.executor_gen.proofs.TreeParts.{fork_list}

append_none : (xs : List ℕ) → xs ++ [] ≡ xs
append_none [] = refl
append_none (x ∷ xs) = ap (λ t. x ∷ t) (append_none xs)

pub measures_none : (o : Spots) (start a : ℕ) (ps : List ℕ) → Measures o start a [] ps ps start
measures_none o start a ps = record { ends = sym (append_none ps); total = omega arith }

-- a node before others
pub measures_node : (o : Spots) (start a b size : ℕ) (line : Line) (role : Role) (ns : List Node) (ps qs rs : List ℕ) (end : ℕ) → node_size o a role ≡ size → suc a ≡ b
    → qs ≡ ps ++ (start + size) ∷ [] → Measures o (start + size) b ns qs rs end → Measures o start a (at_line line role ∷ ns) ps rs end
measures_node o start a b size line role ns ps qs rs end e f g x =
    let y : Measures o (start + node_size o a role) (suc a) ns qs rs end = subst (λ n. Measures o (start + node_size o a role) n ns qs rs end) (sym f) (subst (λ n. Measures o (start + n) b ns qs rs end) (sym e) x) in
    let h : qs ≡ ps ++ (start + node_size o a role) ∷ [] = g ∙ ap (λ n. ps ++ (start + n) ∷ []) (sym e) in
    record {
      ends = y.ends ∙ ap (λ t. t ++ ends_from o (start + node_size o a role) (suc a) ns) h ∙ append_assoc ps ((start + node_size o a role) ∷ []) (ends_from o (start + node_size o a role) (suc a) ns);
      total = omega (arith, y.total);
    }

pub one_measure : (o : Spots) (start a size : ℕ) (line : Line) (role : Role) (ps qs : List ℕ) → node_size o a role ≡ size → qs ≡ ps ++ (start + size) ∷ [] → Measures o start a (at_line line role ∷ []) ps qs (start + size)
one_measure o start a size line role ps qs e g = measures_node o start a (suc a) size line role [] ps qs qs (start + size) e refl g (measures_none o (start + size) (suc a) qs)

ends_append : (o : Spots) (xs ys : List Node) (start a : ℕ) → ends_from o start a (xs ++ ys) ≡ ends_from o start a xs ++ ends_from o (start + total_size o a xs) (a + length xs) ys
ends_append o [] ys start a = let e : start ≡ start + 0 = omega arith in let f : a ≡ a + 0 = omega arith in ap (λ n. ends_from o n a ys) e ∙ ap (λ n. ends_from o (start + 0) n ys) f
ends_append o (x ∷ xs) ys start a =
    let d = node_size o a x.role in
    let e : start + d + total_size o (suc a) xs ≡ start + total_size o a (x ∷ xs) = omega arith in
    let f : suc a + length xs ≡ a + length (x ∷ xs) = omega arith in
    ap (λ t. (start + d) ∷ t) (ends_append o xs ys (start + d) (suc a)
    ∙ ap (λ n. ends_from o (start + d) (suc a) xs ++ ends_from o n (suc a + length xs) ys) e ∙ ap (λ n. ends_from o (start + d) (suc a) xs ++ ends_from o (start + total_size o a (x ∷ xs)) n ys) f)

pub total_append : (o : Spots) (xs ys : List Node) (a : ℕ) → total_size o a (xs ++ ys) ≡ total_size o a xs + total_size o (a + length xs) ys
total_append o [] ys a = let f : a ≡ a + 0 = omega arith in ap (λ n. total_size o n ys) f ∙ omega arith
total_append o (x ∷ xs) ys a =
    let f : suc a + length xs ≡ a + length (x ∷ xs) = omega arith in
    let g = total_append o xs ys (suc a) ∙ ap (λ n. total_size o (suc a) xs + total_size o n ys) f in
    omega (arith, g)

-- nodes before others
pub measures_then : (o : Spots) (start mid a b : ℕ) (xs ys : List Node) (ps qs rs : List ℕ) (end : ℕ) → a + length xs ≡ b → Measures o start a xs ps qs mid → Measures o mid b ys qs rs end → Measures o start a (xs ++ ys) ps rs end
measures_then o start mid a b xs ys ps qs rs end e x y =
    let z : Measures o (start + total_size o a xs) (a + length xs) ys qs rs end = subst (λ n. Measures o n (a + length xs) ys qs rs end) x.total (subst (λ n. Measures o mid n ys qs rs end) (sym e) y) in
    record {
      ends = z.ends ∙ ap (λ t. t ++ ends_from o (start + total_size o a xs) (a + length xs) ys) x.ends
          ∙ append_assoc ps (ends_from o start a xs) (ends_from o (start + total_size o a xs) (a + length xs) ys) ∙ ap (λ t. ps ++ t) (sym (ends_append o xs ys start a));
      total = omega (arith, z.total, total_append o xs ys a);
    }

-- statements between two nodes
pub side_measures : (o : Spots) (start mid a b last first size : ℕ) (line : Line) (side : Statements) (role : Role) (ps qs rs ts : List ℕ) → suc a ≡ b → b + nodes_among side ≡ last → node_size o a nodes.Pad ≡ first → node_size o last role ≡ size
    → qs ≡ ps ++ (start + first) ∷ [] → Measures o (start + first) b (all_nodes_from b side) qs rs mid → ts ≡ rs ++ (mid + size) ∷ []
    → Measures o start a (at_line line nodes.Pad ∷ (all_nodes_from b side ++ (at_line line role ∷ []))) ps ts (mid + size)
side_measures o start mid a b last first size line side role ps qs rs ts f g u v e x h =
    measures_node o start a b first line nodes.Pad (all_nodes_from b side ++ (at_line line role ∷ [])) ps qs ts (mid + size) u f e
    (measures_then o (start + first) mid b last (all_nodes_from b side) (at_line line role ∷ []) qs rs ts (mid + size) (ap (λ m. b + m) (length_all b side) ∙ g) x (one_measure o mid last size line role rs ts v h))

pub measures_same : (o : Spots) (start a : ℕ) (xs ys : List Node) (ps qs : List ℕ) (end : ℕ) → xs ≡ ys → Measures o start a xs ps qs end → Measures o start a ys ps qs end
measures_same o start a xs ys ps qs end e x = subst (λ (zs : List Node). Measures o start a zs ps qs end) e x

-- what follows the beginning of a loop
pub round_measures : (o : Spots) (start mid a latch first size : ℕ) (body : Statements) (ps qs rs ts : List ℕ) → a + 2 + nodes_among body ≡ latch → length (o.ins (a + 1)) + length (o.outs (a + 1)) ≡ first → length (o.ins latch) + length (o.outs a) + 1 ≡ size
    → qs ≡ ps ++ (start + first) ∷ [] → Measures o (start + first) (a + 2) (all_nodes_from (a + 2) body) qs rs mid → ts ≡ rs ++ (mid + size) ∷ []
    → (line : Line) (s : Statement) → Measures o start (a + 1) (at_line line nodes.Pad ∷ (all_nodes_from (a + 2) body ++ (at_line line (nodes.Latch s a) ∷ []))) ps ts (mid + size)
round_measures o start mid a latch first size body ps qs rs ts g u v e x h line s =
    side_measures o start mid (a + 1) (a + 2) latch first size line body (nodes.Latch s a) ps qs rs ts (omega arith) g (length-append (o.ins (a + 1)) (o.outs (a + 1)) ∙ u)
    (simp length-append (omega (arith, v))) e x h

-- a loop
pub loop_measures : (o : Spots) (start end a size : ℕ) (line : Line) (s : Statement) (body : Statements) (ps qs rs : List ℕ) → node_size o a (nodes.Loop s (a + nodes_among body + 2)) ≡ size → qs ≡ ps ++ (start + size) ∷ []
    → Measures o (start + size) (a + 1) (at_line line nodes.Pad ∷ (all_nodes_from (a + 2) body ++ (at_line line (nodes.Latch s a) ∷ []))) qs rs end
    → Measures o start a (nodes.loop_from a line s (nodes_among body) (λ b. all_nodes_from b body)) ps rs end
loop_measures o start end a size line s body ps qs rs e g x =
    measures_node o start a (a + 1) size line (nodes.Loop s (a + nodes_among body + 2)) (at_line line nodes.Pad ∷ (all_nodes_from (a + 2) body ++ (at_line line (nodes.Latch s a) ∷ []))) ps qs rs end e (omega arith) g x

-- an IF
pub if_measures : (o : Spots) (start mid1 mid2 a no_side join first last : ℕ) (line : Line) (c : Condition) (so otherwise : Statements) (ps qs rs ts us : List ℕ)
    → no_side ≡ a + 3 + nodes_among so → join ≡ no_side + 2 + nodes_among otherwise → length (o.ins a) + 3 + 2 * length (o.outs a) ≡ first → length (o.ins join) + length (o.outs join) ≡ last
    → qs ≡ ps ++ (start + first) ∷ []
    → Measures o (start + first) (a + 1) (at_line line nodes.Pad ∷ (all_nodes_from (a + 1 + 1) so ++ (at_line line (nodes.YesEnd join) ∷ []))) qs rs mid1
    → Measures o mid1 no_side (at_line line nodes.Pad ∷ (all_nodes_from (no_side + 1) otherwise ++ (at_line line nodes.Pad ∷ []))) rs ts mid2
    → us ≡ ts ++ (mid2 + last) ∷ [] → Measures o start a (nodes_from a (If line c so otherwise)) ps us (mid2 + last)
if_measures o start mid1 mid2 a no_side join first last line c so otherwise ps qs rs ts us e f u v g x y h =
    let yes_nodes = at_line line nodes.Pad ∷ (all_nodes_from (a + 1 + 1) so ++ (at_line line (nodes.YesEnd join) ∷ [])) in
    let no_nodes = at_line line nodes.Pad ∷ (all_nodes_from (no_side + 1) otherwise ++ (at_line line nodes.Pad ∷ [])) in
    let joins = at_line line nodes.Join ∷ [] in
    let yes_size : a + 1 + length yes_nodes ≡ no_side = omega (arith, e, length-append (all_nodes_from (a + 1 + 1) so) (at_line line (nodes.YesEnd join) ∷ []), length_all (a + 1 + 1) so) in
    let no_size : no_side + length no_nodes ≡ join = omega (arith, f, length-append (all_nodes_from (no_side + 1) otherwise) (at_line line nodes.Pad ∷ []), length_all (no_side + 1) otherwise) in
    let branch_size : node_size o a (nodes.Branch c no_side) ≡ first = simp length-append (omega (arith, u)) in
    let join_size : node_size o join nodes.Join ≡ last = length-append (o.ins join) (o.outs join) ∙ v in
    measures_same o start a (at_line line (nodes.Branch c no_side) ∷ (yes_nodes ++ (no_nodes ++ joins))) (nodes_from a (If line c so otherwise)) ps us (mid2 + last)
    (fork_list a (nodes_among so) (nodes_among otherwise) line c (λ b. all_nodes_from b so) (λ b. all_nodes_from b otherwise) (a + 1 + 1) no_side (no_side + 1) join (omega arith) (omega (arith, e)) (omega (arith, e)) (omega (arith, e, f)))
    (measures_node o start a (a + 1) first line (nodes.Branch c no_side) (yes_nodes ++ (no_nodes ++ joins)) ps qs us (mid2 + last) branch_size (omega arith) g
    (measures_then o (start + first) mid1 (a + 1) no_side yes_nodes (no_nodes ++ joins) qs rs us (mid2 + last) yes_size x
    (measures_then o mid1 mid2 no_side join no_nodes joins rs ts us (mid2 + last) no_size y (one_measure o mid2 join last line nodes.Join ts us join_size h))))

-- a statement before others
pub list_measures : (o : Spots) (start mid end a b : ℕ) (s : Statement) (ss : Statements) (ps qs rs : List ℕ) → b ≡ a + nodes_in s → Measures o start a (nodes_from a s) ps qs mid
    → Measures o mid b (all_nodes_from b ss) qs rs end → Measures o start a (all_nodes_from a (Then s ss)) ps rs end
list_measures o start mid end a b s ss ps qs rs e x y =
    let z = subst (λ (n : ℕ). Measures o mid n (all_nodes_from n ss) qs rs end) e y in
    measures_then o start mid a (a + nodes_in s) (nodes_from a s) (all_nodes_from (a + nodes_in s) ss) ps qs rs end (ap (λ n. a + n) (length_nodes a s)) x z

-- the same positions by other names
pub measures_at : (o : Spots) (start other a : ℕ) (ns : List Node) (ps qs : List ℕ) (end last : ℕ) → start ≡ other → end ≡ last → Measures o start a ns ps qs end → Measures o other a ns ps qs last
measures_at o start other a ns ps qs end last e f x = subst (λ n. Measures o other a ns ps qs n) f (subst (λ n. Measures o n a ns ps qs end) e x)

pub yes_size : (o : Spots) (n join : ℕ) → node_size o n (nodes.YesEnd join) ≡ length (o.ins n) + length (o.outs n) + 1
yes_size o n join = simp length-append (omega arith)

pub pad_size : (o : Spots) (n : ℕ) → node_size o n nodes.Pad ≡ length (o.ins n) + length (o.outs n) + 0
pad_size o n = length-append (o.ins n) (o.outs n) ∙ omega arith
