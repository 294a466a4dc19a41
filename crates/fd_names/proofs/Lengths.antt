-- The views of dimensions are as many as these.
use Rattle.std.proofs.Common.{◌≡◌, List, [], ◌∷◌, ◌++◌, map, length, append_assoc}
use Rattle.std.proofs.lemmas.List.{length-map}
use Rattle.fd_ast.specs.declared.declaration.TDim.{TDim}
use Rattle.fd_ast.specs.Tree.{dim_tree}

pub length_dims : (xs : List TDim) → length (map dim_tree xs) ≡ length xs
length_dims xs = length-map xs dim_tree

pub append_last : {X : Type 0} (xs ys : List X) (x : X) → (xs ++ x ∷ []) ++ ys ≡ xs ++ x ∷ ys
append_last xs ys x = append_assoc xs (x ∷ []) ys
