-- Statements without where they lie in memory.
use Rattle.std.specs.Prelude.{ℕ, List, map}
use Rattle.fd_base.specs.declared.numbering.Line.{Line}
use Rattle.fd_prog.specs.declared.statement.Ref2.{Ref2}
use Rattle.fd_prog.specs.declared.statement.Ref2.TheVariants as stored_target
use Rattle.fd_prog.specs.declared.statement.Part.{Part}
use Rattle.fd_prog.specs.declared.statement.Part.TheVariants as stored_part
use Rattle.fd_prog.specs.declared.statement.Remapped.{Remapped}
use Rattle.fd_prog.specs.declared.statement.Stmt.{Stmt}
use Rattle.fd_prog.specs.declared.statement.Stmt.TheVariants as stored
use Rattle.fd_prog.specs.declared.statement.StmtList.{StmtList}
use Rattle.fd_prog.specs.declared.statement.StmtList.TheVariants as stored_list
use Rattle.fd_prog.specs.Expressions.{Expression, Expressions, expression_of, expressions_of}
use Rattle.fd_prog.specs.Conditions.{Condition, condition_of}

-- what an assignment or a READ sets: a scalar, or an element by its array, subscripts and the number of the reference
pub data Target : Type 0 where
  ToScalar : ℕ → Target
  ToElement : ℕ → Expressions → ℕ → Target

-- what a PRINT prints: the bytes of a text, or a value
pub data PrintItem : Type 0 where
  Words : List ℕ → PrintItem
  Value : Expression → PrintItem

mutual
  -- a statement with its line
  pub data Statement : Type 0 where
    Assign : Line → Target → Expression → Statement
    -- the condition, the statements where it holds, and those where it doesn't
    If : Line → Condition → Statements → Statements → Statement
    -- the variable, the first and the last bound, the step and the body
    Do : Line → ℕ → Expression → Expression → Expression → Statements → Statement
    While : Line → Condition → Statements → Statement
    Read : Line → Target → Statement
    Print : Line → List PrintItem → Statement
    Continue : Line → Statement
    -- the decomposition, and what it is given
    Distribute : Line → ℕ → Remapped → Statement

  -- statements, one after the other
  pub data Statements : Type 0 where
    Empty : Statements
    Then : Statement → Statements → Statements

abbrev pub target_of : Ref2 → Target
target_of (stored_target.Scalar s) = ToScalar s
target_of (stored_target.Elem r) = ToElement r.array (expressions_of r.subs) r.site

abbrev pub print_item_of : Part → PrintItem
print_item_of (stored_part.Words text) = Words text
print_item_of (stored_part.Value e) = Value (expression_of e)

abbrev mutual
  pub statement_of : Stmt → Statement
  statement_of (stored.Assign line target e) = Assign line (target_of target) (expression_of e)
  statement_of (stored.If line c so otherwise) = If line (condition_of c) (statements_of so) (statements_of otherwise)
  statement_of (stored.Do line var first last step body) = Do line var (expression_of first) (expression_of last) (expression_of step) (statements_of body)
  statement_of (stored.While line c body) = While line (condition_of c) (statements_of body)
  statement_of (stored.Read line target) = Read line (target_of target)
  statement_of (stored.Print line parts) = Print line (map print_item_of parts)
  statement_of (stored.Skip line) = Continue line
  statement_of (stored.Remap line decomp given) = Distribute line decomp given

  pub statements_of : StmtList → Statements
  statements_of stored_list.End = Empty
  statements_of (stored_list.More' p s q rest) = Then (statement_of s) (statements_of rest)
