-- The tree of a source text, from its bytes: the bytes form logical lines, each logical line forms one list of tokens,
-- and these lists form a tree.
use Rattle.std.specs.Prelude.{◌≡◌, ℕ, List, ◌∷◌, ◌++◌}
use Rattle.std.specs.List.{AllByRecursion}
use Rattle.fd_base.specs.declared.numbering.Line.{Line}
use Rattle.fd_lexer.specs.View.{TokenLine}
use Rattle.fd_lexer.specs.Physical.{Physical}
use Rattle.fd_lexer.specs.Logical as logical
use Rattle.fd_lexer.specs.Logical.{logical_lines, number_of, next_of}
use Rattle.fd_lexer.specs.Text.{IsPlainLine, IsEndLine}
use Rattle.fd_lexer.specs.Said.{AreSaid}
use Rattle.fd_ast.specs.Tree.{ProgramTree}
use Rattle.fd_parser.specs.Text.{IsText}

-- The bytes are a source with this tree. Its END line has this number, and the bytes behind it begin at this offset.
pub record IsSource (bytes : List ℕ) (tree : ProgramTree) (end_line : Line) (rest : ℕ) : Type 0 where
  -- the logical lines before the END line, that line, and those behind it, of which nothing is said
  pub before : List (List Physical)
  pub last : List Physical
  pub behind : List (List Physical)
  pub lines : logical_lines bytes ≡ before ++ last ∷ behind
  -- nothing is wrong with the bytes and tokens of those before, and none of them is an END line
  pub plain : AllByRecursion (IsPlainLine bytes) before
  pub ends : IsEndLine bytes last
  pub fine : logical.IsFine last
  -- the tokens of those before
  pub tokens : List TokenLine
  pub said : AreSaid bytes before tokens
  pub text : IsText tokens tree
  pub line_is : end_line ≡ number_of last
  pub rest_is : rest ≡ next_of last
