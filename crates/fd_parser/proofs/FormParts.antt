-- The form of a line where its kind is known.
use Rattle.std.proofs.Common.{◌≡◌, List, refl}
use Rattle.fd_base.specs.declared.numbering.Line.{Line}
use Rattle.fd_lexer.specs.View.{Tok}
use Rattle.fd_ast.specs.Tree.{DeclTree, StmtTree}
use Rattle.fd_parser.specs.Forms.{LineForm, DeclLine, SimpleLine, IsSimple, IsDeclared, IsChoice, IsOther, IsForm, declared, choice, other, simple}
use Rattle.fd_parser.proofs.Apart.{declared_no_simple, declared_no_choice, declared_no_other, choice_no_simple, choice_no_other, other_no_simple}

pub record DeclaredParts (l : Line) (ts : List Tok) (f : LineForm) : Type 0 where
  pub decls : List DeclTree
  pub is : DeclLine decls ≡ f
  pub declared : IsDeclared l ts decls

pub declared_form : {l : Line} {ts : List Tok} {xs : List DeclTree} {f : LineForm} → IsDeclared l ts xs → IsForm l ts f → DeclaredParts l ts f
declared_form d (declared {ds = ds} e) = record { decls = ds; is = refl; declared = e }
declared_form d (choice c) = absurd (declared_no_choice d c)
declared_form d (other o) = absurd (declared_no_other d o)
declared_form d (simple s) = absurd (declared_no_simple d s)

pub choice_form : {l : Line} {ts : List Tok} {f g : LineForm} → ((xs : List DeclTree) → IsDeclared l ts xs → ⊥) → IsChoice l ts g → IsForm l ts f → IsChoice l ts f
choice_form n c (declared {ds = ds} e) = absurd (n ds e)
choice_form n c (choice e) = e
choice_form n c (other o) = absurd (choice_no_other c o)
choice_form n c (simple s) = absurd (choice_no_simple c s)

pub other_form : {l : Line} {ts : List Tok} {f g : LineForm} → ((xs : List DeclTree) → IsDeclared l ts xs → ⊥) → ((h : LineForm) → IsChoice l ts h → ⊥) → IsOther l ts g → IsForm l ts f → IsOther l ts f
other_form n m o (declared {ds = ds} e) = absurd (n ds e)
other_form {f = f} n m o (choice e) = absurd (m f e)
other_form n m o (other e) = e
other_form n m o (simple s) = absurd (other_no_simple o s)

pub record SimpleParts (l : Line) (ts : List Tok) (f : LineForm) : Type 0 where
  pub stmts : List StmtTree
  pub is : SimpleLine stmts ≡ f
  pub simple : IsSimple l ts stmts

pub simple_form : {l : Line} {ts : List Tok} {f : LineForm} → ((xs : List DeclTree) → IsDeclared l ts xs → ⊥) → ((h : LineForm) → IsChoice l ts h → ⊥) → ((h : LineForm) → IsOther l ts h → ⊥) → IsForm l ts f → SimpleParts l ts f
simple_form n m k (declared {ds = ds} e) = absurd (n ds e)
simple_form {f = f} n m k (choice e) = absurd (m f e)
simple_form {f = f} n m k (other e) = absurd (k f e)
simple_form n m k (simple {xs = xs} s) = record { stmts = xs; is = refl; simple = s }
