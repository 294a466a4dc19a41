-- The arrays of a program are those that INTEGER declares, in order.
use Rattle.std.proofs.Common.{◌≡◌, ℕ, List, [], ◌∷◌, ◌++◌, refl, sym, ap, ◌∙◌, map, Option, None, Some, append_assoc}
use Rattle.std.proofs.lemmas.List.{append-nil, map-append}
use Rattle.fd_base.specs.declared.numbering.Line.{Line}
use Rattle.fd_ast.specs.Tree.{DeclTree, ConstantDecl, IntegerDecl, DecompDecl, AlignDecl, DistributeDecl, ProgramTree}
use Rattle.fd_prog.specs.declared.program.Array.{Array}
use Rattle.fd_names.specs.declared.book.Seen.{Seen}
use Rattle.fd_names.specs.declared.declarations.Alignment.{Alignment}
use Rattle.fd_names.specs.declared.declarations.Base.{Base}
use Rattle.fd_names.specs.declared.declarations.Spread.{Spread}
use Rattle.fd_names.specs.Checked.{base_of, meaning_of, nothing_seen}
use Rattle.fd_names.specs.Declarations.{array_of, declare, declare_all, dims_meant, finished_arrays, nothing_declared, see_decl}
use Rattle.fd_names.specs.Scope.{arrays_declared}
use Rattle.fd_names.proofs.Kept.{align_keeps, distribute_keeps}

abbrev pub names : List Array → List (List ℕ)
names xs = map (λ a. a.name) xs

pub finished_names : (sps : List Spread) (xs : List Array) (gs : List (Option Alignment)) → names (finished_arrays sps xs gs) ≡ names xs
finished_names sps [] gs = refl
finished_names sps (a ∷ xs) [] = ap (λ r. a.name ∷ r) (finished_names sps xs [])
finished_names sps (a ∷ xs) (None ∷ gs) = ap (λ r. a.name ∷ r) (finished_names sps xs gs)
finished_names sps (a ∷ xs) (Some g ∷ gs) = ap (λ r. a.name ∷ r) (finished_names sps xs gs)

one_names : (x : DeclTree) (s : Seen) (b : Base) → names (declare x s b).arrays ≡ names b.arrays ++ arrays_declared (x ∷ [])
one_names (ConstantDecl l n e) s b = sym (append-nil (names b.arrays))
one_names (IntegerDecl l n []) s b = sym (append-nil (names b.arrays))
one_names (IntegerDecl l n (d ∷ ds)) s b = map-append (λ a. a.name) b.arrays (array_of n (dims_meant b.table l (d ∷ ds) s) ∷ [])
one_names (DecompDecl l n ds) s b = sym (append-nil (names b.arrays))
one_names (AlignDecl l n dummies target es) s b = ap names (align_keeps l n dummies target es s b).arrays ∙ sym (append-nil (names b.arrays))
one_names (DistributeDecl l n ds) s b = ap names (distribute_keeps l n ds s b).arrays ∙ sym (append-nil (names b.arrays))

one_more : (x : DeclTree) (xs : List DeclTree) → arrays_declared (x ∷ []) ++ arrays_declared xs ≡ arrays_declared (x ∷ xs)
one_more (ConstantDecl l n e) xs = refl
one_more (IntegerDecl l n []) xs = refl
one_more (IntegerDecl l n (d ∷ ds)) xs = refl
one_more (DecompDecl l n ds) xs = refl
one_more (AlignDecl l n dummies target es) xs = refl
one_more (DistributeDecl l n ds) xs = refl

all_names : (xs : List DeclTree) (s : Seen) (b : Base) → names (declare_all xs s b).arrays ≡ names b.arrays ++ arrays_declared xs
all_names [] s b = sym (append-nil (names b.arrays))
all_names (x ∷ xs) s b =
    all_names xs (see_decl b x s) (declare x s b)
    ∙ (ap (λ r. r ++ arrays_declared xs) (one_names x s b)
    ∙ (append_assoc (names b.arrays) (arrays_declared (x ∷ [])) (arrays_declared xs) ∙ ap (λ r. names b.arrays ++ r) (one_more x xs)))

pub arrays_are_declared : (t : ProgramTree) (end_line : Line) (rest : ℕ) → map (λ a. a.name) (meaning_of t end_line rest).arrays ≡ arrays_declared t.decls
arrays_are_declared t end_line rest = finished_names (base_of t).spreads (base_of t).arrays (base_of t).alignments ∙ all_names t.decls nothing_seen (nothing_declared t.decls)
