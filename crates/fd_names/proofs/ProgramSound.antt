-- The program of a tree without refusals is sound.
use Rattle.std.proofs.Common.{◌≡◌, ℕ, ◌+◌, ◌^◌, ◌<◌, ◌≤◌, Bool, true, false, pos, List, [], ◌∷◌, ◌++◌, Option, None, Some, suc, refl, sym, ap, length, arith}
use Rattle.std.proofs.lemmas.List.{length-append}
use Rattle.std.specs.List.{All}
use Rattle.std.proofs.lemmas.List.Elements.{All-nil, All-cons}
use Rattle.fd_base.specs.declared.numbering.Line.{Line}
use Rattle.fd_base.specs.declared.shapes.Shape.{Shape}
use Rattle.fd_base.specs.Shapes.{IsShape, size_of, low_of, extent_of}
use Rattle.fd_ast.specs.Tree.{DeclTree, ConstantDecl, IntegerDecl, DecompDecl, AlignDecl, DistributeDecl, ProgramTree}
use Rattle.fd_prog.specs.declared.program.Array.{Array}
use Rattle.fd_prog.specs.WellFormed.{IsSoundProgram, names_of}
use Rattle.fd_names.specs.declared.book.Seen.{Seen}
use Rattle.fd_names.specs.declared.declarations.Alignment.{Alignment}
use Rattle.fd_names.specs.declared.declarations.Base.{Base}
use Rattle.fd_names.specs.declared.declarations.Size.{Size}
use Rattle.fd_names.specs.declared.declarations.Spread.{Spread}
use Rattle.fd_names.specs.declared.declarations.Subscripts.{Subscripts}
use Rattle.fd_names.specs.declared.totals.Total.{Total}
use Rattle.fd_names.specs.declared.names.Kind.TheVariants as kind
use Rattle.fd_names.specs.Checked.{nothing_seen, no_elements, base_of, seen_in_decls, seen_in, refusals_of, meaning_of}
use Rattle.fd_names.specs.Declarations.{finished_array, finished_arrays, dealt_arrays, nothing_declared, shape_from, array_of, integer_kind, with_integer, see_decl, declare, declare_all, dims_meant}
use Rattle.fd_names.specs.First.{at_line}
use Rattle.fd_names.specs.Names.{find_name, capped}
use Rattle.fd_names.specs.Totals.{added, total_causes, total_refusals}
use Rattle.fd_names.proofs.Kept.{Keeps, align_keeps, distribute_keeps}
use Rattle.fd_names.proofs.Parts.{parted}
use Rattle.fd_names.proofs.Sound.{no_left, no_right}
use Rattle.fd_names.proofs.StatementsSound.{clean, stmts_sound}
use Rattle.fd_names.proofs.Tables.{IsKind, IsTable, put_new, put_value, more}
use Rattle.fd_names.proofs.Totalled.{few_distributed, few_replicated}

-- ---- shapes

record IsMade (shape : Shape) : Type 0 where
  dims : (1 ≤ shape.dims) × (shape.dims ≤ 2)
  single : shape.dims ≡ 1 → (low_of shape 1 ≡ pos 0) × (extent_of shape 1 ≡ 1)

made : (rs : List Subscripts) → IsMade (shape_from rs)
made [] = record { dims = (omega arith, omega arith); single = λ e. (refl, refl) }
made (r ∷ []) = record { dims = (omega arith, omega arith); single = λ e. (refl, refl) }
made (r ∷ (q ∷ rs)) = record { dims = (omega arith, omega arith); single = λ e. absurd (omega (arith, e)) }

-- arrays beside their sizes
abbrev AreMade : List Array → List Size → Type 0
AreMade [] [] = Unit {0}
AreMade [] (z ∷ zs) = ⊥
AreMade (a ∷ xs) [] = ⊥
AreMade (a ∷ xs) (z ∷ zs) = IsMade a.shape × (size_of a.shape ≡ z.elements) × AreMade xs zs

made_more : (xs : List Array) (zs : List Size) (a : Array) (z : Size) → AreMade xs zs → IsMade a.shape → size_of a.shape ≡ z.elements → AreMade (xs ++ a ∷ []) (zs ++ z ∷ [])
made_more [] [] a z h i e = (i, e, tt)
made_more [] (y ∷ ys) a z h i e = absurd h
made_more (b ∷ xs) [] a z h i e = absurd h
made_more (b ∷ xs) (y ∷ ys) a z h i e = (h.0, h.1, made_more xs ys a z h.2 i e)

small_is : (size z n m : ℕ) → size ≡ z → n + z ≤ m → m ≤ 262144 → size < 2 ^ 32
small_is size z n m e h k = omega arith

-- an array whose elements are within the limit has a shape
shape_is : (shape : Shape) (z n m : ℕ) → IsMade shape → size_of shape ≡ z → n + z ≤ m → m ≤ 262144 → IsShape shape
shape_is shape z n m i e h k = record { dims = i.dims; single = i.single; small = small_is (size_of shape) z n m e h k }

more_enough : 65536 ≤ 262144
more_enough = omega arith

all_enough : 262144 ≤ 262144
all_enough = omega arith

-- whichever sum the elements are added to
counted_is : (shape : Shape) (y : Size) (d : Bool) (t : Total) → IsMade shape → size_of shape ≡ y.elements → at_line y.line (total_causes d (added d y.elements t)) ≡ [] → IsShape shape
counted_is shape y true t i e h = shape_is shape y.elements t.distributed 262144 i e (few_distributed (t.distributed + y.elements) (clean y.line (total_causes true (added true y.elements t)) h)) all_enough
counted_is shape y false t i e h = shape_is shape y.elements t.replicated 65536 i e (few_replicated (t.replicated + y.elements) (clean y.line (total_causes false (added false y.elements t)) h)) more_enough

finished_is : (sps : List Spread) (a : Array) (g : Option Alignment) → IsShape a.shape → IsShape (finished_array sps a g).shape
finished_is sps a None h = h
finished_is sps a (Some g) h = h

abbrev pub HasShape : Array → Type 0
HasShape a = IsShape a.shape

finished_more : (sps : List Spread) (b : Array) (xs : List Array) (gs : List (Option Alignment)) → IsShape b.shape → ((hs : List (Option Alignment)) → All HasShape (finished_arrays sps xs hs)) → All HasShape (finished_arrays sps (b ∷ xs) gs)
finished_more sps b xs [] h k = All-cons HasShape b (finished_arrays sps xs []) h (k [])
finished_more sps b xs (g ∷ gs) h k = All-cons HasShape (finished_array sps b g) (finished_arrays sps xs gs) (finished_is sps b g h) (k gs)

shapes_sound : (sps : List Spread) (xs : List Array) (zs : List Size) (ds : List Bool) (t : Total) → AreMade xs zs → total_refusals zs ds t ≡ [] → (gs : List (Option Alignment)) → All HasShape (finished_arrays sps xs gs)
shapes_sound sps [] [] ds t h ok gs = All-nil HasShape
shapes_sound sps [] (y ∷ ys) ds t h ok gs = absurd h
shapes_sound sps (b ∷ xs) [] ds t h ok gs = absurd h
shapes_sound sps (b ∷ xs) (y ∷ ys) [] t h ok gs =
    let own = at_line y.line (total_causes false (added false y.elements t)) in
    let rest = total_refusals ys [] (added false y.elements t) in
    finished_more sps b xs gs (counted_is b.shape y false t h.0 h.1 (no_left own rest ok)) (shapes_sound sps xs ys [] (added false y.elements t) h.2 (no_right own rest ok))
shapes_sound sps (b ∷ xs) (y ∷ ys) (d ∷ ds) t h ok gs =
    let own = at_line y.line (total_causes d (added d y.elements t)) in
    let rest = total_refusals ys ds (added d y.elements t) in
    finished_more sps b xs gs (counted_is b.shape y d t h.0 h.1 (no_left own rest ok)) (shapes_sound sps xs ys ds (added d y.elements t) h.2 (no_right own rest ok))

-- ---- declarations

-- the table knows of no other arrays, and each has its size
record IsBase (b : Base) : Type 0 where
  table : IsTable (length b.arrays) b.table
  arrays : AreMade b.arrays b.sizes

capped_below : (k n : ℕ) → n ≡ k + 1 → capped k < n
capped_below k n e = omega arith

kind_is : (r : Subscripts) (rs : List Subscripts) (k n : ℕ) → n ≡ k + 1 → IsKind n (integer_kind (r ∷ rs) k)
kind_is r [] k n e = (capped_below k n e, omega arith, omega arith)
kind_is r (q ∷ rs) k n e = (capped_below k n e, omega arith, omega arith)

grown : (m n : ℕ) → n ≡ m + 1 → m ≤ n
grown m n e = omega arith

integer_base : (l : Line) (n : List ℕ) (rs : List Subscripts) (b : Base) → IsBase b → IsBase (with_integer l n rs b)
integer_base l n [] b h = record { table = put_new (length b.arrays) b.table n (record { line = l; kind = kind.Scalar }) h.table tt; arrays = h.arrays }
integer_base l n (r ∷ rs) b h =
    let a = array_of n (r ∷ rs) in
    let e : length (b.arrays ++ a ∷ []) ≡ length b.arrays + 1 = length-append b.arrays (a ∷ []) in
    record {
      table = put_new (length (b.arrays ++ a ∷ [])) b.table n (record { line = l; kind = integer_kind (r ∷ rs) (length b.arrays) }) (more (length b.arrays) (length (b.arrays ++ a ∷ [])) b.table (grown (length b.arrays) (length (b.arrays ++ a ∷ [])) e) h.table) (kind_is r rs (length b.arrays) (length (b.arrays ++ a ∷ [])) e);
      arrays = made_more b.arrays b.sizes a (record { line = l; elements = size_of (shape_from (r ∷ rs)) }) h.arrays (made (r ∷ rs)) refl;
    }

still_base : (b c : Base) → Keeps b c → IsBase b → IsBase c
still_base b c k h = record { table = rw (k.arrays, k.table) h.table; arrays = rw (k.arrays, k.sizes) h.arrays }

declared : (x : DeclTree) (s : Seen) (b : Base) → IsBase b → IsBase (declare x s b)
declared (ConstantDecl l n e) s b h = record { table = put_value (length b.arrays) b.table n _ (find_name b.table n) h.table tt; arrays = h.arrays }
declared (IntegerDecl l n xs) s b h = integer_base l n (dims_meant b.table l xs s) b h
declared (DecompDecl l n xs) s b h = record { table = put_new (length b.arrays) b.table n _ h.table tt; arrays = h.arrays }
declared (AlignDecl l n dummies target es) s b h = still_base b (declare (AlignDecl l n dummies target es) s b) (align_keeps l n dummies target es s b) h
declared (DistributeDecl l n xs) s b h = still_base b (declare (DistributeDecl l n xs) s b) (distribute_keeps l n xs s b) h

all_declared : (xs : List DeclTree) (s : Seen) (b : Base) → IsBase b → IsBase (declare_all xs s b)
all_declared [] s b h = h
all_declared (x ∷ xs) s b h = all_declared xs (see_decl b x s) (declare x s b) (declared x s b h)

-- ---- the whole

same_length : (m n : ℕ) → m ≡ n → m ≤ n
same_length m n e = omega arith

pub finished_length : (sps : List Spread) (xs : List Array) (gs : List (Option Alignment)) → length (finished_arrays sps xs gs) ≡ length xs
finished_length sps [] gs = refl
finished_length sps (x ∷ xs) [] = ap suc (finished_length sps xs [])
finished_length sps (x ∷ xs) (g ∷ gs) = ap suc (finished_length sps xs gs)

pub program_sound : (t : ProgramTree) (end_line : Line) (at : ℕ) → refusals_of t ≡ [] → IsSoundProgram (meaning_of t end_line at)
program_sound t end_line at ok =
    let clean = parted t ok in
    let c = base_of t in
    let b = all_declared t.decls nothing_seen (nothing_declared t.decls) (record { table = tt; arrays = tt }) in
    record {
      shapes = shapes_sound c.spreads c.arrays c.sizes (dealt_arrays c) no_elements b.arrays clean.totals c.alignments;
      body = stmts_sound (names_of (meaning_of t end_line at)) c.table [] t.body (seen_in_decls t) (more (length c.arrays) (length (finished_arrays c.spreads c.arrays c.alignments)) c.table (same_length (length c.arrays) (length (finished_arrays c.spreads c.arrays c.alignments)) (sym (finished_length c.spreads c.arrays c.alignments))) b.table) clean.body (same_length (length (seen_in t).scalars) (length (seen_in t).scalars) refl);
    }
