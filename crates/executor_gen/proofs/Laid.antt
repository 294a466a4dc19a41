-- The blocks of a program's nodes stand in its code.
use Rattle.std.proofs.Common.{◌≡◌, ℕ, zero, suc, ◌+◌, ◌<◌, List, [], ◌∷◌, ◌++◌, length, Some, refl, sym, ap, ◌∙◌, arith, length-append, append_assoc}
use Rattle.std.specs.Prelude.{slice_get, slice_index_or, replicate}
use Rattle.std.proofs.Math.Seq.{get_or-append_seam}
use Rattle.fd_base.specs.declared.numbering.Line.{Line}
use Rattle.fd_prog.specs.Nodes as nodes
use Rattle.fd_prog.specs.Nodes.{Role, Node, node_at, at_line}
use Rattle.fd_prog.specs.Paths.{Plan}
use Rattle.fd_prog.specs.Statements as statements
use Rattle.fd_prog.specs.Statements.{Statement}
use Rattle.exec_code.specs.Instructions.{Instruction, FlatJob}
use Rattle.exec_code.specs.Machine.{instruction_at, line_at}
use Rattle.executor_gen.specs.Layout.{spots_of, node_block, node_size, at_in, beginning, block, size}
use Rattle.executor_gen.specs.Blocks.{blocks_from, lines_from, IsLaid}
use Rattle.exec_code.specs.Trails.{is_distribute, distributes_before}
use Rattle.executor_gen.specs.Uses.{IsPlanOf}
use Rattle.executor_gen.proofs.Trailing.{Lay}
use Rattle.executor_gen.proofs.Skipping.{Has}
use Rattle.executor_gen.proofs.Standing.{StandAll}

beginning_size : (s : Statement) (x y : ℕ) → length (beginning s x) ≡ length (beginning s y)
beginning_size (statements.Assign line target e) x y = refl
beginning_size (statements.If line c so otherwise) x y = refl
beginning_size (statements.Do line var first last by body) x y = refl
beginning_size (statements.While line c body) x y = refl
beginning_size (statements.Read line target) x y = refl
beginning_size (statements.Print line items) x y = refl
beginning_size (statements.Continue line) x y = refl
beginning_size (statements.Distribute line decomp given) x y = refl

-- a block has as many instructions wherever the blocks are
pub block_size : (p : Plan) (f : ℕ → ℕ) (number n : ℕ) (role : Role) → length (block p f number n role) ≡ size p n role
block_size p f number n nodes.Start = refl
block_size p f number n (nodes.Simple s) = simp length-append
block_size p f number n (nodes.Branch c no_side) = simp length-append
block_size p f number n nodes.Pad = refl
block_size p f number n (nodes.YesEnd join) = simp length-append
block_size p f number n nodes.Join = refl
block_size p f number n (nodes.Loop s latch) =
    let ins = at_in p n in
    let here = beginning s (f latch + length (at_in p latch) + 1) in
    let there = beginning s (0 + length (at_in p latch) + 1) in
    length-append ins here ∙ ap (λ x. length ins + x) (beginning_size s (f latch + length (at_in p latch) + 1) (0 + length (at_in p latch) + 1)) ∙ sym (length-append ins there)
block_size p f number n (nodes.Latch s loop) = simp length-append
block_size p f number n nodes.End = refl

pub length_replicate : (n : ℕ) (line : Line) → length (replicate n line) ≡ n
length_replicate zero line = refl
length_replicate (suc n) line = ap suc (length_replicate n line)

-- what stands in a list in front of other parts
get_seam : {A : Type 0} (pre : List A) (x : A) (post : List A) → slice_get (pre ++ (x ∷ post)) (length pre) ≡ Some x
get_seam [] x post = refl
get_seam (y ∷ pre) x post = get_seam pre x post

index_seam : {A : Type 0} (pre : List A) (x d : A) (post : List A) → slice_index_or (pre ++ (x ∷ post)) (length pre) d ≡ x
index_seam [] x d post = refl
index_seam (y ∷ pre) x d post = index_seam pre x d post

-- a block between what stands before it and behind it
has_between : (j : FlatJob) (line : Line) (is pre post : List Instruction) (ls ms : List Line) (a : ℕ) → j.code.instructions ≡ pre ++ (is ++ post) → j.code.lines ≡ ls ++ (replicate (length is) line ++ ms)
    → length pre ≡ a → length ls ≡ a → Has j a line is
has_between j line [] pre post ls ms a e f m n = tt
has_between j line (i ∷ is) pre post ls ms a e f m n =
    let here : instruction_at j a ≡ Some i = ap (λ xs. slice_get xs a) e ∙ ap (λ k. slice_get (pre ++ (i ∷ (is ++ post))) k) (sym m) ∙ get_seam pre i (is ++ post) in
    let of_line : line_at j a ≡ line = ap (λ xs. slice_index_or xs a (record { 0 = 0 })) f
    ∙ ap (λ k. slice_index_or (ls ++ (line ∷ (replicate (length is) line ++ ms))) k (record { 0 = 0 })) (sym n) ∙ index_seam ls line (record { 0 = 0 }) (replicate (length is) line ++ ms) in
    let e' : j.code.instructions ≡ (pre ++ (i ∷ [])) ++ (is ++ post) = e ∙ sym (append_assoc pre (i ∷ []) (is ++ post)) in
    let f' : j.code.lines ≡ (ls ++ (line ∷ [])) ++ (replicate (length is) line ++ ms) = f ∙ sym (append_assoc ls (line ∷ []) (replicate (length is) line ++ ms)) in
    let m' : length (pre ++ (i ∷ [])) ≡ suc a = omega (arith, length-append pre (i ∷ []), m) in
    let n' : length (ls ++ (line ∷ [])) ≡ suc a = omega (arith, length-append ls (line ∷ []), n) in
    (here, of_line, has_between j line is (pre ++ (i ∷ [])) post (ls ++ (line ∷ [])) ms (suc a) e' f' m' n')

-- the lay of the code of nodes
abbrev pub lay_of : FlatJob → Plan → List Node → (ℕ → ℕ) → Lay
lay_of j p ns place = record { job = j; nodes = ns; plan = p; place = place }

-- the nodes from a number on stand
stand_from : (j : FlatJob) (p : Plan) (ns : List Node) (place : ℕ → ℕ) → ((n : ℕ) → n < length ns → place (suc n) ≡ place n + node_size (spots_of p) n (node_at ns n).role) → IsPlanOf j ns p
    → (pre xs : List Node) (is : List Instruction) (ls : List Line) (a : ℕ) → ns ≡ pre ++ xs → length pre ≡ a
    → j.code.instructions ≡ is ++ blocks_from (spots_of p) place (distributes_before ns a) a xs → j.code.lines ≡ ls ++ lines_from (spots_of p) place (distributes_before ns a) a xs → length is ≡ place a → length ls ≡ place a
    → StandAll (lay_of j p ns place) a xs
stand_from j p ns place next fits pre [] is ls a e m f g u v = tt
stand_from j p ns place next fits pre (x ∷ xs) is ls a e m f g u v =
    let o = spots_of p in
    let k = distributes_before ns a in
    let size_of_all = ap length e ∙ length-append pre (x ∷ xs) in
    let within : a < length ns = omega (arith, size_of_all, m) in
    let here : node_at ns a ≡ x = ap (λ l. node_at l a) e ∙ ap (λ n. node_at (pre ++ (x ∷ xs)) n) (sym m) ∙ get_or-append_seam pre x xs (at_line (record { 0 = 0 }) nodes.End) in
    let block = node_block o place k a x.role in
    let size_is : length block ≡ node_size o a x.role = block_size p place k a x.role in
    let step : place (suc a) ≡ place a + length block = next a within ∙ ap (λ (node : Node). place a + node_size o a node.role) here ∙ ap (λ n. place a + n) (sym size_is) in
    let count : k + is_distribute x.role ≡ distributes_before ns (suc a) = ap (λ (node : Node). k + is_distribute node.role) (sym here) in
    let rest = blocks_from o place (k + is_distribute x.role) (suc a) xs in
    let more = lines_from o place (k + is_distribute x.role) (suc a) xs in
    let f' : j.code.instructions ≡ (is ++ block) ++ blocks_from o place (distributes_before ns (suc a)) (suc a) xs = f ∙ sym (append_assoc is block rest) ∙ ap (λ n. (is ++ block) ++ blocks_from o place n (suc a) xs) count in
    let g' : j.code.lines ≡ (ls ++ replicate (length block) x.line) ++ lines_from o place (distributes_before ns (suc a)) (suc a) xs =
    g ∙ sym (append_assoc ls (replicate (length block) x.line) more) ∙ ap (λ n. (ls ++ replicate (length block) x.line) ++ lines_from o place n (suc a) xs) count in
    let e' : ns ≡ (pre ++ (x ∷ [])) ++ xs = e ∙ sym (append_assoc pre (x ∷ []) xs) in
    let m' : length (pre ++ (x ∷ [])) ≡ suc a = omega (arith, length-append pre (x ∷ []), m) in
    let u' : length (is ++ block) ≡ place (suc a) = omega (arith, length-append is block, u, step) in
    let v' : length (ls ++ replicate (length block) x.line) ≡ place (suc a) = omega (arith, length-append ls (replicate (length block) x.line), length_replicate (length block) x.line, v, step) in (
      record { is = here; fits = fits; has = has_between j x.line block is rest ls more (place a) f g u v; next = step },
      stand_from j p ns place next fits (pre ++ (x ∷ [])) xs (is ++ block) (ls ++ replicate (length block) x.line) (suc a) e' m' f' g' u' v',
    )

-- all nodes stand
pub code_stands : (j : FlatJob) (p : Plan) (ns : List Node) (h : IsLaid p ns j.code) → IsPlanOf j ns p → StandAll (lay_of j p ns h.place) 0 ns
code_stands j p ns h fits = stand_from j p ns h.place h.next fits [] ns [] [] 0 refl refl h.instructions h.lines (sym h.begins) (sym h.begins)
