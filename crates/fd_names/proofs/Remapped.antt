-- What statements distribute by a map array, and that a body without refusals does nothing so.
use Rattle.std.proofs.Common.{◌≡◌, ℕ, refl, sym, ap, ◌∙◌, List, [], ◌∷◌, ◌++◌}
use Rattle.fd_ast.specs.Tree.{ProgramTree, StmtTree, AssignStmt, IfStmt, DoStmt, WhileStmt, ReadStmt, PrintStmt, SkipStmt, RemapStmt, StmtTrees, NoStmts, Stmt}
use Rattle.fd_names.specs.declared.book.Seen.{Seen}
use Rattle.fd_names.specs.declared.declarations.Base.{Base}
use Rattle.fd_names.specs.Checked.{base_of, mapped_base_of, seen_in_decls}
use Rattle.fd_names.specs.First.{at_line}
use Rattle.fd_names.specs.Irregular.{remapped, all_remapped}
use Rattle.fd_names.specs.Names.{Declared}
use Rattle.fd_names.specs.Statements.{own_causes, refusals, all_refusals, see_head, see_stmt, see_stmts}
use Rattle.fd_names.proofs.Sound.{no_left, no_right}

-- what all statements distribute is what those distribute that a walk over them has before it
pub record AreRemapped (all : StmtTrees) (a : Base) (rest : StmtTrees) (b : Base) : Type 0 where
  pub base : all_remapped all a ≡ all_remapped rest b

-- one statement of the walk
pub remapped_one : (all rest more : StmtTrees) (x : StmtTree) (a b c : Base) → AreRemapped all a rest b → rest ≡ Stmt x more → c ≡ remapped x b → AreRemapped all a more c
remapped_one all rest more x a b c h e is = record { base = h.base ∙ (ap (λ y. all_remapped y b) e ∙ ap (all_remapped more) (sym is)) }

mutual
  stmt_unmapped : (d : Declared) (around : List (List ℕ)) (x : StmtTree) (s : Seen) (b : Base) → refusals d around x s ≡ [] → remapped x b ≡ b
  stmt_unmapped d around (AssignStmt l t e) s b h = refl
  stmt_unmapped d around (IfStmt l c so otherwise) s b h =
      let own = at_line l (own_causes d around (IfStmt l c so otherwise) s) in
      let r = see_head d (IfStmt l c so otherwise) s in
      let ys = all_refusals d around so r in
      let ns = all_refusals d around otherwise (see_stmts d so r) in
      let both = no_right own (ys ++ ns) h in
      ap (all_remapped otherwise) (stmts_unmapped d around so r b (no_left ys ns both)) ∙ stmts_unmapped d around otherwise (see_stmts d so r) b (no_right ys ns both)
  stmt_unmapped d around (DoStmt l n a e by body) s b h =
      let r = see_head d (DoStmt l n a e by body) s in
      stmts_unmapped d (around ++ n ∷ []) body r b (no_right (at_line l (own_causes d around (DoStmt l n a e by body) s)) (all_refusals d (around ++ n ∷ []) body r) h)
  stmt_unmapped d around (WhileStmt l c body) s b h =
      let r = see_head d (WhileStmt l c body) s in
      stmts_unmapped d around body r b (no_right (at_line l (own_causes d around (WhileStmt l c body) s)) (all_refusals d around body r) h)
  stmt_unmapped d around (ReadStmt l t) s b h = refl
  stmt_unmapped d around (PrintStmt l xs) s b h = refl
  stmt_unmapped d around (SkipStmt l) s b h = refl
  stmt_unmapped d around (RemapStmt l n xs) s b h = absurd cc

  stmts_unmapped : (d : Declared) (around : List (List ℕ)) (xs : StmtTrees) (s : Seen) (b : Base) → all_refusals d around xs s ≡ [] → all_remapped xs b ≡ b
  stmts_unmapped d around NoStmts s b h = refl
  stmts_unmapped d around (Stmt x rest) s b h =
      let own = refusals d around x s in
      let more = all_refusals d around rest (see_stmt d x s) in
      ap (all_remapped rest) (stmt_unmapped d around x s b (no_left own more h)) ∙ stmts_unmapped d around rest (see_stmt d x s) b (no_right own more h)

-- where nothing is wrong in the body, no statement distributes by a map array
pub unmapped : (t : ProgramTree) → all_refusals (base_of t).table [] t.body (seen_in_decls t) ≡ [] → mapped_base_of t ≡ base_of t
unmapped t h = stmts_unmapped (base_of t).table [] t.body (seen_in_decls t) (base_of t) h
