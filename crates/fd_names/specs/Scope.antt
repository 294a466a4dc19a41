-- Which declarations make a name known on a line.
use Rattle.std.specs.Prelude.{◌≡◌, ℕ, ◌<◌, Bool, true, false, ◌&&◌, ◌||◌, nat_eq, nat_lt, ◌++◌, List, [], ◌∷◌}
use Rattle.std.specs.List.{list_any}
use Rattle.std.specs.Str.{bytes_eq}
use Rattle.fd_base.specs.declared.numbering.Line.{Line}
use Rattle.fd_ast.specs.Tree.{DeclTree, ConstantDecl, IntegerDecl, DecompDecl, AlignDecl, DistributeDecl}
use Rattle.fd_names.specs.declared.names.Use.{Use}
use Rattle.fd_names.specs.declared.names.Use.TheVariants as as_name
use Rattle.fd_names.specs.Checked.{nothing_seen}
use Rattle.fd_names.specs.Declarations.{declare_all, line_of, nothing_declared}
use Rattle.fd_names.specs.Names.{Declared, is_implicit}

-- a declaration declares a name
abbrev pub declares : List ℕ → DeclTree → Bool
declares n (ConstantDecl l m e) = bytes_eq n m
declares n (IntegerDecl l m xs) = bytes_eq n m
declares n (DecompDecl l m xs) = bytes_eq n m
declares n (AlignDecl l m dummies target es) = false
declares n (DistributeDecl l m xs) = false

-- a declaration makes a name an array, a decomposition or a constant
abbrev pub makes : List ℕ → DeclTree → Bool
makes n (ConstantDecl l m e) = bytes_eq n m
makes n (IntegerDecl l m []) = false
makes n (IntegerDecl l m (x ∷ xs)) = bytes_eq n m
makes n (DecompDecl l m xs) = bytes_eq n m
makes n (AlignDecl l m dummies target es) = false
makes n (DistributeDecl l m xs) = false

-- a declaration makes a name an array
abbrev pub makes_array : List ℕ → DeclTree → Bool
makes_array n (ConstantDecl l m e) = false
makes_array n (IntegerDecl l m []) = false
makes_array n (IntegerDecl l m (x ∷ xs)) = bytes_eq n m
makes_array n (DecompDecl l m xs) = false
makes_array n (AlignDecl l m dummies target es) = false
makes_array n (DistributeDecl l m xs) = false

-- one of these declarations makes a name an array, a decomposition or a constant on this line
abbrev pub is_made_on : List DeclTree → Line → List ℕ → Bool
is_made_on xs l n = list_any (λ x. makes n x && nat_eq l.0 (line_of x).0) xs

-- one of these declarations makes a name an array on this line
abbrev pub is_array_made_on : List DeclTree → Line → List ℕ → Bool
is_array_made_on xs l n = list_any (λ x. makes_array n x && nat_eq l.0 (line_of x).0) xs

-- one of these declarations declares a name on an earlier line
abbrev pub is_declared_before : List DeclTree → Line → List ℕ → Bool
is_declared_before xs l n = list_any (λ x. declares n x && nat_lt (line_of x).0 l.0) xs

-- all of these declarations stand on lines before this one
abbrev pub AreBefore : Line → List DeclTree → Type 0
AreBefore l [] = Unit {0}
AreBefore l (x ∷ xs) = ((line_of x).0 < l.0) × AreBefore l xs

-- all of these declarations stand on this line
abbrev pub AreOn : Line → List DeclTree → Type 0
AreOn l [] = Unit {0}
AreOn l (x ∷ xs) = (line_of x ≡ l) × AreOn l xs

-- what is declared between these declarations and the ones behind
abbrev pub declared_between : List DeclTree → List DeclTree → Declared
declared_between before after = (declare_all before nothing_seen (nothing_declared (before ++ after))).table

-- a name is known on a line: as a scalar by its initial or by a declaration on an earlier line, as anything else by a declaration on an earlier line
abbrev pub IsKnownBy : Use → List DeclTree → Line → List ℕ → Type 0
IsKnownBy as_name.Unknown xs l n = Unit {0}
IsKnownBy as_name.Scalar xs l n = (is_implicit n || is_declared_before xs l n) ≡ true
IsKnownBy (as_name.Constant z) xs l n = is_declared_before xs l n ≡ true
IsKnownBy (as_name.Array k d) xs l n = is_declared_before xs l n ≡ true
IsKnownBy (as_name.Decomp k d) xs l n = is_declared_before xs l n ≡ true

-- the names of INTEGER with dimensions, in order
abbrev pub arrays_declared : List DeclTree → List (List ℕ)
arrays_declared [] = []
arrays_declared (ConstantDecl l n e ∷ xs) = arrays_declared xs
arrays_declared (IntegerDecl l n [] ∷ xs) = arrays_declared xs
arrays_declared (IntegerDecl l n (d ∷ ds) ∷ xs) = n ∷ arrays_declared xs
arrays_declared (DecompDecl l n ds ∷ xs) = arrays_declared xs
arrays_declared (AlignDecl l n dummies target es ∷ xs) = arrays_declared xs
arrays_declared (DistributeDecl l n ds ∷ xs) = arrays_declared xs
