-- What a name stands for where it is read.
use Rattle.std.specs.Prelude.{ℕ, ◌++◌, Bool, false, ◌&&◌, nat_eq, nat_le, nat_lt, min, if◌then◌else◌, List, [], ◌∷◌, Option, None, Some, codes}
use Rattle.std.specs.List.{list_any, position_or_len}
use Rattle.std.specs.Map.{lookup}
use Rattle.std.specs.Str.{bytes_eq}
use Rattle.indexmap.specs.IndexMap.{insert_entry}
use Rattle.indexmap.specs.IndexSet.{insert_key}
use Rattle.fd_base.specs.declared.numbering.Line.{Line}
use Rattle.fd_prog.specs.declared.expression.Func.{Func}
use Rattle.fd_prog.specs.declared.expression.Func.TheVariants.{Mod, Abs, Min, Max}
use Rattle.fd_names.specs.declared.names.Entry.{Entry}
use Rattle.fd_names.specs.declared.names.Kind.{Kind}
use Rattle.fd_names.specs.declared.names.Kind.TheVariants as kind
use Rattle.fd_names.specs.declared.names.Use.{Use}
use Rattle.fd_names.specs.declared.names.Use.TheVariants as as_name
use Rattle.fd_names.specs.declared.names.Callee.{Callee}
use Rattle.fd_names.specs.declared.names.Callee.TheVariants as callee

-- the declared names in order, each with what it was declared as and on which line
abbrev pub Entries : Type 0
Entries = List (List ℕ × Entry)

-- names, each with lines
abbrev pub Lines : Type 0
Lines = List (List ℕ × List ℕ)

-- what is declared up to some place; each name that a declaration anywhere makes an array, a decomposition or a
-- constant, with all lines on which one does; and of these the arrays alone
pub record Declared : Type 0 where
  pub entries : Entries
  pub made : Lines
  pub made_arrays : Lines

-- numbers of scalars and arrays have 16 bits; within the limits on a program this changes nothing
abbrev pub capped : ℕ → ℕ
capped k = min k 65535

-- the names, and this one last if it is none of them
unfoldable pub with_name : List (List ℕ) → List ℕ → List (List ℕ)
with_name ns n = if list_any (bytes_eq n) ns then ns else ns ++ n ∷ []

-- the place of a name once it is among the names
unfoldable pub number_in : List (List ℕ) → List ℕ → ℕ
number_in ns n = position_or_len (bytes_eq n) ns

unfoldable pub has_name : List (List ℕ) → List ℕ → Bool
has_name ns n = list_any (bytes_eq n) ns

-- what a name was declared as
unfoldable pub find_name : Declared → List ℕ → Option Entry
find_name d n = lookup (bytes_eq n) d.entries

-- the names, with this entry in the place of the name's old one, or last
unfoldable pub with_entry : Declared → List ℕ → Entry → Declared
with_entry d n e = record d { entries = insert_entry bytes_eq d.entries n e }

abbrev pub or_no_lines : Option (List ℕ) → List ℕ
or_no_lines None = []
or_no_lines (Some ls) = ls

-- the lines of a name
abbrev pub lines_of : Lines → List ℕ → List ℕ
lines_of ms n = or_no_lines (lookup (bytes_eq n) ms)

-- a name has this line
unfoldable pub is_made : Lines → Line → List ℕ → Bool
is_made ms l n = list_any (nat_eq l.0) (lines_of ms n)

-- the names with their lines, and this line at this name
unfoldable pub with_made : Lines → List ℕ → Line → Lines
with_made ms n l = insert_entry bytes_eq ms n (insert_key nat_eq (lines_of ms n) l.0)

-- an initial from I to N, whose names are scalars without a declaration (ANSI X3.9-1978, 4.1.2)
unfoldable pub is_implicit : List ℕ → Bool
is_implicit [] = false
is_implicit (b ∷ bs) = nat_le 73 b && nat_le b 78

-- a name that nothing declares
abbrev pub implied : List ℕ → Use
implied n = if is_implicit n then as_name.Scalar else as_name.Unknown

-- a name that an earlier line declares
abbrev pub use_of_kind : Kind → Use
use_of_kind kind.Scalar = as_name.Scalar
use_of_kind (kind.Constant z) = as_name.Constant z
use_of_kind (kind.Array k d) = as_name.Array k d
use_of_kind (kind.Decomp k d) = as_name.Decomp k d

-- a name that no earlier line declares is as if nothing declared it
abbrev pub use_of_entry : Option Entry → Line → List ℕ → Use
use_of_entry None l n = implied n
use_of_entry (Some e) l n = if nat_lt e.line.0 l.0 then use_of_kind e.kind else implied n

-- what a name alone stands for on a line; one that a declaration on this line makes an array, a decomposition or a constant isn't known on it
unfoldable pub use_of : Declared → Line → List ℕ → Use
use_of d l n = if is_made d.made l n then as_name.Unknown else use_of_entry (find_name d n) l n

-- the function of a name
unfoldable pub func_of : List ℕ → Option Func
func_of n =
    if bytes_eq n (codes "MOD") then Some Mod
    else (if bytes_eq n (codes "ABS") then Some Abs
    else (if bytes_eq n (codes "MIN") then Some Min
    else (if bytes_eq n (codes "MAX") then Some Max
    else None)))

abbrev pub callee_of_func : Option Func → Callee
callee_of_func None = callee.Unknown
callee_of_func (Some f) = callee.Function f

-- a name with parentheses is a declared array, and otherwise a function
abbrev pub callee_of_use : Use → List ℕ → Callee
callee_of_use (as_name.Array k d) n = callee.Array k d
callee_of_use _ n = callee_of_func (func_of n)

-- what a name with parentheses stands for in an expression on a line; one that a declaration on this line makes an array isn't known on it, as a function either
unfoldable pub callee_of : Declared → Line → List ℕ → Callee
callee_of d l n = if is_made d.made_arrays l n then callee.Unknown else callee_of_use (use_of d l n) n
