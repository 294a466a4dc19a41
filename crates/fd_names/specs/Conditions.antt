-- Conditions: what is wrong in them, what they name, and what they stand for.
use Rattle.std.specs.Prelude.{◌++◌, List, []}
use Rattle.fd_base.specs.declared.numbering.Line.{Line}
use Rattle.fd_ast.specs.Tree.{CondTree}
use Rattle.fd_ast.specs.Tree as tree
use Rattle.fd_prog.specs.Conditions.{Condition, Fixed, Compared, Not, Both, Either}
use Rattle.fd_names.specs.declared.book.Seen.{Seen}
use Rattle.fd_names.specs.declared.refusal.Cause.{Cause}
use Rattle.fd_names.specs.Expressions.{causes, see, meant}
use Rattle.fd_names.specs.Names.{Declared}

abbrev pub condition_causes : Declared → Line → CondTree → List Cause
condition_causes d l (tree.Fixed b) = []
condition_causes d l (tree.Compared r x y) = causes d l x ++ causes d l y
condition_causes d l (tree.Inverted c) = condition_causes d l c
condition_causes d l (tree.Both c e) = condition_causes d l c ++ condition_causes d l e
condition_causes d l (tree.Either c e) = condition_causes d l c ++ condition_causes d l e

abbrev pub see_condition : Declared → Line → CondTree → Seen → Seen
see_condition d l (tree.Fixed b) s = s
see_condition d l (tree.Compared r x y) s = see d l y (see d l x s)
see_condition d l (tree.Inverted c) s = see_condition d l c s
see_condition d l (tree.Both c e) s = see_condition d l e (see_condition d l c s)
see_condition d l (tree.Either c e) s = see_condition d l e (see_condition d l c s)

abbrev pub condition_meant : Declared → Line → CondTree → Seen → Condition
condition_meant d l (tree.Fixed b) s = Fixed b
condition_meant d l (tree.Compared r x y) s = Compared r (meant d l x s) (meant d l y (see d l x s))
condition_meant d l (tree.Inverted c) s = Not (condition_meant d l c s)
condition_meant d l (tree.Both c e) s = Both (condition_meant d l c s) (condition_meant d l e (see_condition d l c s))
condition_meant d l (tree.Either c e) s = Either (condition_meant d l c s) (condition_meant d l e (see_condition d l c s))
