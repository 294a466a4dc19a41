-- The code that is put together is laid out node by node.
use Rattle.std.proofs.Common.{◌≡◌, ℕ, zero, suc, ◌+◌, ◌<◌, ◌≤◌, List, [], ◌∷◌, ◌++◌, map, length, get_or, refl, sym, ap, ◌∙◌, subst, arith, length-append}
use Rattle.fd_base.specs.declared.numbering.Line.{Line}
use Rattle.fd_prog.specs.Nodes as nodes
use Rattle.fd_prog.specs.Nodes.{Node, at_line, node_at, nodes_of, nodes_among, all_nodes_from}
use Rattle.fd_prog.specs.Paths.{Plan}
use Rattle.fd_prog.specs.Programs.{CheckedProgram}
use Rattle.exec_code.specs.Instructions.{Stop, instruction_of}
use Rattle.exec_code.specs.declared.code.Instr.{Instr}
use Rattle.executor_gen.specs.declared.operations.Operations.{Operations}
use Rattle.executor_gen.specs.Layout.{Spots, spots_of, node_size}
use Rattle.executor_gen.specs.Blocks.{spots_in, place_at, AreOperations, Adds, Wrote, Measures, ends_from, total_size, IsLaid}
use Rattle.interval_graph.proofs.Laid.{length_all}
use Rattle.executor_gen.proofs.Writing.{adds_other, adds_then, one_node}
use Rattle.executor_gen.proofs.Measuring.{measures_node, measures_then, one_measure, measures_at}

-- operations that are told for each node alike are the same
spots_same : (p : Plan) (os : List Operations) → AreOperations p os → spots_in os ≡ spots_of p
spots_same p os h = λ i. record { ins = λ n. h.ins n i; outs = λ n. h.outs n i }

-- each block begins where the one before it ends
ends_next : (o : Spots) (ns : List Node) (start a n : ℕ) → n < length ns → get_or (start ∷ ends_from o start a ns) (suc n) 0 ≡ get_or (start ∷ ends_from o start a ns) n 0 + node_size o (a + n) (node_at ns n).role
ends_next o [] start a n h = absurd (omega arith)
ends_next o (x ∷ xs) start a zero h = let e : a ≡ a + 0 = omega arith in ap (λ k. start + node_size o k x.role) e
ends_next o (x ∷ xs) start a (suc n) h =
    let e : suc a + n ≡ a + suc n = omega arith in
    ends_next o xs (start + node_size o a x.role) (suc a) n (omega arith) ∙ ap (λ k. get_or ((start + node_size o a x.role) ∷ ends_from o (start + node_size o a x.role) (suc a) xs) n 0 + node_size o k (node_at xs n).role) e

-- no block ends behind the last
ends_low : (o : Spots) (ns : List Node) (start a n : ℕ) → get_or (start ∷ ends_from o start a ns) n 0 ≤ start + total_size o a ns
ends_low o [] start a zero = omega arith
ends_low o [] start a (suc n) = omega arith
ends_low o (x ∷ xs) start a zero = omega arith
ends_low o (x ∷ xs) start a (suc n) = let h = ends_low o xs (start + node_size o a x.role) (suc a) n in omega (arith, h)

pub places_low : (o : Spots) (ns : List Node) (places : List ℕ) → places ≡ 0 ∷ ends_from o 0 0 ns → total_size o 0 ns ≤ 100000000 → (n : ℕ) → place_at places n ≤ 100000000
places_low o ns places e h n = let low = ends_low o ns 0 0 n in let same = ap (λ l. get_or l n 0) e in omega (arith, low, same)

-- the positions of a program's blocks
pub program_places : (o : Spots) (p : CheckedProgram) (p0 p1 p2 p3 : List ℕ) (first mid last : ℕ) → p0 ≡ 0 ∷ [] → length (o.ins 0) + length (o.outs 0) ≡ first → p1 ≡ p0 ++ (0 + first) ∷ []
    → Measures o first 1 (all_nodes_from 1 p.body) p1 p2 mid → length (o.ins (nodes_among p.body + 1)) + 1 ≡ last → p3 ≡ p2 ++ (mid + last) ∷ []
    → Measures o 0 0 (nodes_of p) (0 ∷ []) p3 (mid + last)
program_places o p p0 p1 p2 p3 first mid last e u f x v g =
    let zero_first : 0 + first ≡ first = omega arith in
    let size : node_size o (nodes_among p.body + 1) nodes.End ≡ last = length-append (o.ins (nodes_among p.body + 1)) (Stop ∷ []) ∙ v in
    let at : 1 + length (all_nodes_from 1 p.body) ≡ nodes_among p.body + 1 = omega (arith, length_all 1 p.body) in
    measures_node o 0 0 1 first (record { 0 = 0 }) nodes.Start (all_nodes_from 1 p.body ++ (at_line p.end_line nodes.End ∷ [])) (0 ∷ []) p1 p3 (mid + last) (length-append (o.ins 0) (o.outs 0) ∙ u) (omega arith)
    (f ∙ ap (λ l. l ++ (0 + first) ∷ []) e)
    (measures_then o (0 + first) mid 1 (nodes_among p.body + 1) (all_nodes_from 1 p.body) (at_line p.end_line nodes.End ∷ []) p1 p2 p3 (mid + last) at
    (measures_at o first (0 + first) 1 (all_nodes_from 1 p.body) p1 p2 mid mid (sym zero_first) refl x)
    (one_measure o mid (nodes_among p.body + 1) last p.end_line nodes.End p2 p3 size g))

-- the code of a program's nodes
pub program_adds : (o : Spots) (place : ℕ → ℕ) (p : CheckedProgram) (line : Line) (i0 i1 i2 i3 : List Instr) (l0 l1 l2 l3 : List Line) (last next : ℕ) → line ≡ record { 0 = 0 } → nodes_among p.body + 1 ≡ last → i0 ≡ [] → l0 ≡ []
    → Wrote (o.ins 0 ++ o.outs 0) line i0 l0 i1 l1 → Adds o place 0 1 (all_nodes_from 1 p.body) i1 l1 i2 l2 next → Wrote (o.ins last ++ (Stop ∷ [])) p.end_line i2 l2 i3 l3 → Adds o place 0 0 (nodes_of p) [] [] i3 l3 next
program_adds o place p line i0 i1 i2 i3 l0 l1 l2 l3 last next e f g h w x v =
    let w1 = subst (λ (m : Line). Wrote (o.ins 0 ++ o.outs 0) m i0 l0 i1 l1) e w in
    let w2 = subst (λ (m : List Instr). Wrote (o.ins 0 ++ o.outs 0) (record { 0 = 0 }) m l0 i1 l1) g w1 in
    let w3 = subst (λ (m : List Line). Wrote (o.ins 0 ++ o.outs 0) (record { 0 = 0 }) [] m i1 l1) h w2 in
    let at : 1 + length (all_nodes_from 1 p.body) ≡ last = omega (arith, length_all 1 p.body, f) in
    adds_other o place 0 0 1 (record { 0 = 0 }) nodes.Start (all_nodes_from 1 p.body ++ (at_line p.end_line nodes.End ∷ [])) [] i1 i3 [] l1 l3 next refl (omega arith) w3
    (adds_then o place 0 next 1 last (all_nodes_from 1 p.body) (at_line p.end_line nodes.End ∷ []) i1 i2 i3 l1 l2 l3 next at x (one_node o place next last p.end_line nodes.End i2 i3 l2 l3 refl v))

pub laid_by : (p : Plan) (os : List Operations) (prog : CheckedProgram) (places : List ℕ) (is : List Instr) (ls : List Line) (next : ℕ) → AreOperations p os → places ≡ 0 ∷ ends_from (spots_in os) 0 0 (nodes_of prog)
    → Adds (spots_in os) (place_at places) 0 0 (nodes_of prog) [] [] is ls next → IsLaid p (nodes_of prog) (record { instructions = map instruction_of is; lines = ls })
laid_by p os prog places is ls next h e x =
    let ns = nodes_of prog in
    let same = spots_same p os h in
    let y : Adds (spots_of p) (place_at places) 0 0 ns [] [] is ls next = subst (λ (o : Spots). Adds o (place_at places) 0 0 ns [] [] is ls next) same x in
    let f : places ≡ 0 ∷ ends_from (spots_of p) 0 0 ns = e ∙ ap (λ (o : Spots). 0 ∷ ends_from o 0 0 ns) same in
    record {
      place = place_at places;
      begins = ap (λ l. get_or l 0 0) f;
      next = λ n within. ap (λ l. get_or l (suc n) 0) f ∙ ends_next (spots_of p) ns 0 0 n within ∙ ap (λ k. get_or (0 ∷ ends_from (spots_of p) 0 0 ns) n 0 + node_size (spots_of p) k (node_at ns n).role) (plus_zero n)
          ∙ ap (λ l. get_or l n 0 + node_size (spots_of p) n (node_at ns n).role) (sym f);
      instructions = y.instructions;
      lines = y.lines;
    }
  where
    plus_zero : (n : ℕ) → 0 + n ≡ n
    plus_zero n = omega arith
