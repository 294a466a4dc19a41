-- Lists of statements, and walks over them.
use Rattle.std.proofs.Common.{◌≡◌, ℕ, List, [], ◌∷◌, ◌++◌, refl, sym, ap, ◌∙◌, Option, map}
use Rattle.std.proofs.lemmas.List.{map-append}
use Rattle.fd_ast.specs.Tree.{StmtTree, StmtTrees, Stmt}
use Rattle.fd_prog.specs.declared.statement.Stmt as stored
use Rattle.fd_prog.specs.declared.statement.StmtList as stored_list
use Rattle.fd_prog.specs.Statements.{Statement, Statements, Then, statement_of, statements_of}
use Rattle.fd_names.specs.declared.book.Seen.{Seen}
use Rattle.fd_names.specs.declared.refusal.Refusal.{Refusal}
use Rattle.fd_names.specs.First.{met}
use Rattle.fd_names.specs.Names.{Declared}
use Rattle.fd_names.specs.Statements.{all_refusals, in_front, refusals, see_stmt, see_stmts, stmt_meant, stmts_meant}
use Rattle.fd_names.proofs.Noted.{met-append}

in_front-last : (xs : List Statement) (x : Statement) (rest : Statements) → in_front (xs ++ x ∷ []) rest ≡ in_front xs (Then x rest)
in_front-last [] x rest = refl
in_front-last (y ∷ ys) x rest = ap (Then y) (in_front-last ys x rest)

-- the last of the vector goes to the front of the list
pub chained : (old new : List stored.Stmt) (last x : stored.Stmt) (list y : stored_list.StmtList) (whole : Statements) → old ≡ new ++ last ∷ [] → x ≡ last → y ≡ list →
    in_front (map statement_of old) (statements_of list) ≡ whole → in_front (map statement_of new) (Then (statement_of x) (statements_of y)) ≡ whole
chained old new last x list y whole e p q h =
    rw (p, q) (sym (ap (λ z. in_front (map statement_of z) (statements_of list)) e ∙ (ap (λ z. in_front z (statements_of list)) (map-append statement_of new (last ∷ [])) ∙ in_front-last (map statement_of new) (statement_of last) (statements_of list))) ∙ h)

-- what the walk over all statements gives is what the walk over these gives from here on
pub record IsDone (d : Declared) (around : List (List ℕ)) (all : StmtTrees) (s0 : Seen) (w0 : Option Refusal) (rest : StmtTrees) (s : Seen) (w : Option Refusal) (ms : List Statement) : Type 0 where
  pub seen : see_stmts d all s0 ≡ see_stmts d rest s
  pub worst : met (all_refusals d around all s0) w0 ≡ met (all_refusals d around rest s) w
  pub made : stmts_meant d all s0 ≡ in_front ms (stmts_meant d rest s)

pub done_one : (d : Declared) (around : List (List ℕ)) (all : StmtTrees) (s0 : Seen) (w0 : Option Refusal) (rest more : StmtTrees) (x : StmtTree) (s : Seen) (w : Option Refusal) (ms : List Statement) (t : Seen) (v : Option Refusal) (p : Statement) (ns : List Statement) →
    IsDone d around all s0 w0 rest s w ms → rest ≡ Stmt x more → t ≡ see_stmt d x s → v ≡ met (refusals d around x s) w → p ≡ stmt_meant d x s → ns ≡ ms ++ p ∷ [] → IsDone d around all s0 w0 more t v ns
done_one d around all s0 w0 rest more x s w ms t v p ns h e ts vs made is = rw (is, made, ts, vs) (record {
  seen = h.seen ∙ ap (λ r. see_stmts d r s) e;
  worst = h.worst ∙ (ap (λ r. met (all_refusals d around r s) w) e ∙ met-append (refusals d around x s) (all_refusals d around more (see_stmt d x s)) w);
  made = h.made ∙ (ap (λ r. in_front ms (stmts_meant d r s)) e ∙ sym (in_front-last ms (stmt_meant d x s) (stmts_meant d more (see_stmt d x s))));
})
