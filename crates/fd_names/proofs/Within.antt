-- A program without refusals keeps the limit on names.
use Rattle.std.proofs.Common.{◌≡◌, ℕ, ◌+◌, Bool, true, false, List, [], ◌∷◌, ◌++◌, length, ◌≤◌, nat_lt, arith, refl}
use Rattle.std.proofs.lemmas.Bool.Decides.{nat_tests}
use Rattle.fd_base.specs.declared.numbering.Line.{Line}
use Rattle.fd_ast.specs.Tree.{StmtTree, AssignStmt, IfStmt, DoStmt, WhileStmt, ReadStmt, PrintStmt, SkipStmt, RemapStmt, StmtTrees, NoStmts, Stmt, DeclTree, ConstantDecl, IntegerDecl, DecompDecl, AlignDecl, DistributeDecl}
use Rattle.fd_names.specs.declared.book.Seen.{Seen}
use Rattle.fd_names.specs.declared.declarations.Base.{Base}
use Rattle.fd_names.specs.declared.refusal.Cause.{Cause}
use Rattle.fd_names.specs.Declarations.{declare, see_decl, see_decls, array_limit, decl_causes, limit_causes, decl_refusals, decls_refusals, line_of}
use Rattle.fd_names.specs.First.{at_line, given}
use Rattle.fd_names.specs.Names.{Declared}
use Rattle.fd_names.specs.Statements.{statement_limit, name_limit, see_head, see_stmt, see_stmts, head_causes, own_causes, refusals, all_refusals}
use Rattle.fd_names.proofs.Sound.{no_left, no_right}
use Rattle.fd_names.proofs.StatementsSound.{clean}

not_above : (n : ℕ) → nat_lt 16384 n ≡ false → n ≤ 16384
not_above n h = grind (arith, nat_tests)

within_by : (n : ℕ) (b : Bool) (c : Cause) → nat_lt 16384 n ≡ b → given b c ≡ [] → n ≤ 16384
within_by n true c e h = absurd cc
within_by n false c e h = not_above n e

pub within : (s : Seen) → name_limit s ≡ [] → length s.scalars + s.decomps ≤ 16384
within s h = within_by (length s.scalars + s.decomps) (nat_lt 16384 (length s.scalars + s.decomps)) _ refl h

head_within : (d : Declared) (around : List (List ℕ)) (x : StmtTree) (s : Seen) (l : Line) → at_line l (own_causes d around x s) ≡ [] → length (see_head d x s).scalars + (see_head d x s).decomps ≤ 16384
head_within d around x s l h = within (see_head d x s) (no_right (head_causes d around x) (name_limit (see_head d x s)) (no_right (statement_limit s) (head_causes d around x ++ name_limit (see_head d x s)) (clean l (own_causes d around x s) h)))

mutual
  stmt_within : (d : Declared) (around : List (List ℕ)) (x : StmtTree) (s : Seen) → refusals d around x s ≡ [] → length (see_stmt d x s).scalars + (see_stmt d x s).decomps ≤ 16384
  stmt_within d around (AssignStmt l t e) s h = head_within d around (AssignStmt l t e) s l h
  stmt_within d around (IfStmt l c so otherwise) s h =
      let r = see_head d (IfStmt l c so otherwise) s in
      let own = at_line l (own_causes d around (IfStmt l c so otherwise) s) in
      let rest = no_right own (all_refusals d around so r ++ all_refusals d around otherwise (see_stmts d so r)) h in
      stmts_within d around otherwise (see_stmts d so r) (no_right (all_refusals d around so r) (all_refusals d around otherwise (see_stmts d so r)) rest)
      (stmts_within d around so r (no_left (all_refusals d around so r) (all_refusals d around otherwise (see_stmts d so r)) rest)
      (head_within d around (IfStmt l c so otherwise) s l (no_left own (all_refusals d around so r ++ all_refusals d around otherwise (see_stmts d so r)) h)))
  stmt_within d around (DoStmt l n a b by body) s h =
      let r = see_head d (DoStmt l n a b by body) s in
      let own = at_line l (own_causes d around (DoStmt l n a b by body) s) in
      stmts_within d (around ++ n ∷ []) body r (no_right own (all_refusals d (around ++ n ∷ []) body r) h) (head_within d around (DoStmt l n a b by body) s l (no_left own (all_refusals d (around ++ n ∷ []) body r) h))
  stmt_within d around (WhileStmt l c body) s h =
      let r = see_head d (WhileStmt l c body) s in
      let own = at_line l (own_causes d around (WhileStmt l c body) s) in
      stmts_within d around body r (no_right own (all_refusals d around body r) h) (head_within d around (WhileStmt l c body) s l (no_left own (all_refusals d around body r) h))
  stmt_within d around (ReadStmt l t) s h = head_within d around (ReadStmt l t) s l h
  stmt_within d around (PrintStmt l xs) s h = head_within d around (PrintStmt l xs) s l h
  stmt_within d around (SkipStmt l) s h = head_within d around (SkipStmt l) s l h
  stmt_within d around (RemapStmt l n xs) s h = absurd cc

  pub stmts_within : (d : Declared) (around : List (List ℕ)) (list : StmtTrees) (s : Seen) → all_refusals d around list s ≡ [] → length s.scalars + s.decomps ≤ 16384 → length (see_stmts d list s).scalars + (see_stmts d list s).decomps ≤ 16384
  stmts_within d around NoStmts s h fits = fits
  stmts_within d around (Stmt x rest) s h fits = stmts_within d around rest (see_stmt d x s) (no_right (refusals d around x s) (all_refusals d around rest (see_stmt d x s)) h) (stmt_within d around x s (no_left (refusals d around x s) (all_refusals d around rest (see_stmt d x s)) h))

decl_within : (x : DeclTree) (s : Seen) (b : Base) → limit_causes x s b ≡ [] → length s.scalars + s.decomps ≤ 16384 → length (see_decl b x s).scalars + (see_decl b x s).decomps ≤ 16384
decl_within (ConstantDecl l n e) s b h fits = within (see_decl b (ConstantDecl l n e) s) h
decl_within (IntegerDecl l n xs) s b h fits = within (see_decl b (IntegerDecl l n xs) s) (no_right (array_limit (declare (IntegerDecl l n xs) s b)) (name_limit (see_decl b (IntegerDecl l n xs) s)) h)
decl_within (DecompDecl l n xs) s b h fits = within (see_decl b (DecompDecl l n xs) s) h
decl_within (AlignDecl l n dummies target es) s b h fits = within (see_decl b (AlignDecl l n dummies target es) s) h
decl_within (DistributeDecl l n xs) s b h fits = within (see_decl b (DistributeDecl l n xs) s) h

pub decls_within : (xs : List DeclTree) (s : Seen) (b : Base) → decls_refusals xs s b ≡ [] → length s.scalars + s.decomps ≤ 16384 → length (see_decls xs s b).scalars + (see_decls xs s b).decomps ≤ 16384
decls_within [] s b h fits = fits
decls_within (x ∷ xs) s b h fits =
    let rest = decls_refusals xs (see_decl b x s) (declare x s b) in
    let own = clean (line_of x) (decl_causes b x s ++ limit_causes x s b) (no_left (decl_refusals x s b) rest h) in
    decls_within xs (see_decl b x s) (declare x s b) (no_right (decl_refusals x s b) rest h) (decl_within x s b (no_right (decl_causes b x s) (limit_causes x s b) own) fits)
