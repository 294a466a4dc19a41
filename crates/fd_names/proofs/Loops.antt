-- No loop of a program without refusals sets its own variable.
use Rattle.std.proofs.Common.{◌≡◌, ℕ, zero, suc, ◌<◌, ◌≤◌, Bool, true, false, ◌||◌, List, [], ◌∷◌, ◌++◌, refl, subst, Some, slice_get, slice_index_or, length, arith}
use Rattle.std.specs.List.{list_any, Contains}
use Rattle.std.specs.Str.{bytes_eq}
use Rattle.std.proofs.lemmas.Slice.Eq.{bytes_eq-Decides}
use Rattle.fd_base.specs.declared.numbering.Line.{Line}
use Rattle.fd_ast.specs.Tree.{ExprTree, ExprTrees, StmtTree, AssignStmt, IfStmt, DoStmt, WhileStmt, ReadStmt, PrintStmt, SkipStmt, RemapStmt, StmtTrees, NoStmts, Stmt}
use Rattle.fd_ast.specs.Tree as tree
use Rattle.fd_prog.specs.Checked.{KeepsVariables, KeepVariables}
use Rattle.fd_prog.specs.Items.{Name, ScalarName, ArrayName, DecompName, target_name, names_set, all_names_set}
use Rattle.fd_prog.specs.Expressions.{Expressions}
use Rattle.fd_names.specs.declared.book.Seen.{Seen}
use Rattle.fd_names.specs.declared.names.Use.{Use}
use Rattle.fd_names.specs.declared.names.Use.TheVariants as as_name
use Rattle.fd_names.specs.declared.refusal.Cause.{Cause}
use Rattle.fd_names.specs.Expressions.{causes, all_causes, see_name, see, all_meant}
use Rattle.fd_names.specs.First.{at_line, given}
use Rattle.fd_names.specs.Names.{has_name, use_of}
use Rattle.fd_names.specs.Standing.{Scope}
use Rattle.fd_names.specs.Statements.{set_causes, element_causes, target_causes, see_element, see_target, scalar_meant, element_meant, target_meant, begun, see_head, see_stmt, see_stmts, own_causes, refusals, all_refusals, stmt_meant, stmts_meant}
use Rattle.fd_names.proofs.Sound.{no_left, no_right}
use Rattle.fd_names.proofs.Standing.{GoesOn, on, see-on, placed}
use Rattle.fd_names.proofs.StatementsSound.{own_clean}
use Rattle.fd_names.proofs.StatementsStanding.{see_stmts-on}

-- ---- names

or_left : (a b : Bool) → (a || b) ≡ false → a ≡ false
or_left true b h = h
or_left false b h = refl

or_right : (a b : Bool) → (a || b) ≡ false → b ≡ false
or_right true b h = absurd cc
or_right false b h = h

neither : (a b : Bool) → a ≡ false → b ≡ false → (a || b) ≡ false
neither true b h k = h
neither false b h k = k

any_left : (p : List ℕ → Bool) (xs ys : List (List ℕ)) → list_any p (xs ++ ys) ≡ false → list_any p xs ≡ false
any_left p [] ys h = refl
any_left p (x ∷ xs) ys h = neither (p x) (list_any p xs) (or_left (p x) (list_any p (xs ++ ys)) h) (any_left p xs ys (or_right (p x) (list_any p (xs ++ ys)) h))

any_last : (p : List ℕ → Bool) (xs : List (List ℕ)) (y : List ℕ) → list_any p (xs ++ y ∷ []) ≡ false → p y ≡ false
any_last p [] y h = or_left (p y) false h
any_last p (x ∷ xs) y h = any_last p xs y (or_right (p x) (list_any p (xs ++ y ∷ [])) h)

has_left : (ns : List (List ℕ)) (m n : List ℕ) → has_name (ns ++ m ∷ []) n ≡ false → has_name ns n ≡ false
unfolding has_name
has_left ns m n h = any_left (bytes_eq n) ns (m ∷ []) h

absurd_alike : (n : List ℕ) → bytes_eq n n ≡ false → ⊥
absurd_alike n h = let k : bytes_eq n n ≡ true = (bytes_eq-Decides n n).1 refl in cc

-- a name is among the names that end with it
has_last : (ns : List (List ℕ)) (n : List ℕ) → has_name (ns ++ n ∷ []) n ≡ false → ⊥
unfolding has_name
has_last ns n h = absurd_alike n (any_last (bytes_eq n) ns n h)

-- ---- what is set

-- the scalar of this number is of none of these names
record Free (scalars around : List (List ℕ)) (k : ℕ) : Type 0 where
  name : List ℕ
  place : slice_get scalars k ≡ Some name
  other : has_name around name ≡ false

-- a name that is set is no such scalar
abbrev FreeName : (scalars around : List (List ℕ)) → Name → Type 0
FreeName scalars around (ScalarName k) = Free scalars around k
FreeName scalars around (ArrayName k) = Unit {0}
FreeName scalars around (DecompName k) = Unit {0}

abbrev Each : (Name → Type 0) → List Name → Type 0
Each P [] = Unit {0}
Each P (x ∷ xs) = P x × Each P xs

join : (P : Name → Type 0) (xs ys : List Name) → Each P xs → Each P ys → Each P (xs ++ ys)
join P [] ys h k = k
join P (x ∷ xs) ys h k = (h.0, join P xs ys h.1 k)

less_name : (scalars around : List (List ℕ)) (n : List ℕ) (x : Name) → FreeName scalars (around ++ n ∷ []) x → FreeName scalars around x
less_name scalars around n (ScalarName k) h = record { name = h.name; place = h.place; other = has_left around n h.name h.other }
less_name scalars around n (ArrayName k) h = tt
less_name scalars around n (DecompName k) h = tt

less_free : (scalars around : List (List ℕ)) (n : List ℕ) (xs : List Name) → Each (FreeName scalars (around ++ n ∷ [])) xs → Each (FreeName scalars around) xs
less_free scalars around n [] h = tt
less_free scalars around n (x ∷ xs) h = (less_name scalars around n x h.0, less_free scalars around n xs h.1)

each_at : (P : Name → Type 0) (xs : List Name) (x : Name) (k : ℕ) → Each P xs → k < length xs → slice_index_or xs k x ≡ x → P x
each_at P [] x k h less e = absurd (omega (arith, less))
each_at P (y ∷ ys) x zero h less e = subst P e h.0
each_at P (y ∷ ys) x (suc k) h less e = each_at P ys x k h.1 (omega (arith, less)) e

not_given : (b : Bool) (c : Cause) → given b c ≡ [] → b ≡ false
not_given true c h = absurd cc
not_given false c h = refl

set_free : (c : Scope) (n : List ℕ) (around : List (List ℕ)) (s : Seen) (u : Use) → set_causes u (has_name around n) ≡ [] → GoesOn (see_name u n s).scalars c.scalars → length c.scalars ≤ 65535 → (slice_get c.scalars (scalar_meant u n s) ≡ Some n) × (has_name around n ≡ false)
set_free c n around s as_name.Scalar ok g fits = (placed s.scalars n c.scalars g fits, not_given (has_name around n) _ ok)
set_free c n around s (as_name.Constant z) ok g fits = absurd cc
set_free c n around s (as_name.Array k d) ok g fits = absurd cc
set_free c n around s (as_name.Decomp k d) ok g fits = absurd cc
set_free c n around s as_name.Unknown ok g fits = absurd cc

element_free : (scalars around : List (List ℕ)) (es : ExprTrees) (xs : Expressions) (s : Seen) (u : Use) → element_causes u es ≡ [] → FreeName scalars around (target_name (element_meant u xs s))
element_free scalars around es xs s (as_name.Array k d) ok = tt
element_free scalars around es xs s (as_name.Decomp k d) ok = absurd cc
element_free scalars around es xs s as_name.Scalar ok = absurd cc
element_free scalars around es xs s (as_name.Constant z) ok = absurd cc
element_free scalars around es xs s as_name.Unknown ok = absurd cc

target_free : (c : Scope) (around : List (List ℕ)) (l : Line) (t : ExprTree) (s : Seen) → target_causes c.declared around l t ≡ [] → GoesOn (see_target c.declared l t s).scalars c.scalars → length c.scalars ≤ 65535 → FreeName c.scalars around (target_name (target_meant c.declared l t s))
target_free c around l (tree.Number z) s ok g fits = absurd cc
target_free c around l (tree.Named n) s ok g fits = let f = set_free c n around s (use_of c.declared l n) ok g fits in record { name = n; place = f.0; other = f.1 }
target_free c around l (tree.Applied n es) s ok g fits = element_free c.scalars around es (all_meant c.declared l es (see_element (use_of c.declared l n) s)) s (use_of c.declared l n) (no_left (element_causes (use_of c.declared l n) es) (all_causes c.declared l es) ok)
target_free c around l (tree.Negated e) s ok g fits = absurd cc
target_free c around l (tree.Joined o a b) s ok g fits = absurd cc

-- the variable of a DO, behind which its bounds, step and body may name more
do_free : (c : Scope) (around : List (List ℕ)) (l : Line) (n : List ℕ) (a b by : ExprTree) (body : StmtTrees) (s : Seen) → refusals c.declared around (DoStmt l n a b by body) s ≡ [] → GoesOn (see_stmt c.declared (DoStmt l n a b by body) s).scalars c.scalars → length c.scalars ≤ 65535 → (slice_get c.scalars (scalar_meant (use_of c.declared l n) n (begun s)) ≡ Some n) × (has_name around n ≡ false)
do_free c around l n a b by body s ok g fits =
    let d = c.declared in
    let own = at_line l (own_causes d around (DoStmt l n a b by body) s) in
    let v = see_name (use_of d l n) n (begun s) in
    let va = see d l a v in
    let vb = see d l b va in
    let r = see d l by vb in
    let h = own_clean d around (DoStmt l n a b by body) s l (no_left own (all_refusals d (around ++ n ∷ []) body r) ok) in
    let g3 = on r.scalars (see_stmts d body r).scalars c.scalars (see_stmts-on d body r) g in
    let g2 = on vb.scalars r.scalars c.scalars (see-on d l by vb) g3 in
    let g1 = on va.scalars vb.scalars c.scalars (see-on d l b va) g2 in
    set_free c n around (begun s) (use_of d l n) (no_left (set_causes (use_of d l n) (has_name around n)) (causes d l a ++ (causes d l b ++ causes d l by)) h) (on v.scalars va.scalars c.scalars (see-on d l a v) g1) fits

-- the variable of a loop isn't set where its name is around
not_inside : (scalars around : List (List ℕ)) (n : List ℕ) (var : ℕ) (set : List Name) → slice_get scalars var ≡ Some n → Each (FreeName scalars (around ++ n ∷ [])) set → Contains set (ScalarName var) → ⊥
not_inside scalars around n var set at free m =
    let f = each_at (FreeName scalars (around ++ n ∷ [])) set (ScalarName var) m.0 free m.1 m.2 in
    let place : slice_get scalars var ≡ Some f.name = f.place in
    let same : f.name ≡ n = cc in
    has_last around n (subst (λ x. has_name (around ++ n ∷ []) x ≡ false) same f.other)

mutual
  stmt_free : (c : Scope) (around : List (List ℕ)) (x : StmtTree) (s : Seen) → refusals c.declared around x s ≡ [] → GoesOn (see_stmt c.declared x s).scalars c.scalars → length c.scalars ≤ 65535 → Each (FreeName c.scalars around) (names_set (stmt_meant c.declared x s))
  stmt_free c around (AssignStmt l t e) s ok g fits =
      let d = c.declared in
      let r = see_target d l t (begun s) in
      (target_free c around l t (begun s) (no_left (target_causes d around l t) (causes d l e) (own_clean d around (AssignStmt l t e) s l ok)) (on r.scalars (see d l e r).scalars c.scalars (see-on d l e r) g) fits, tt)
  stmt_free c around (IfStmt l e so otherwise) s ok g fits =
      let d = c.declared in
      let own = at_line l (own_causes d around (IfStmt l e so otherwise) s) in
      let r = see_head d (IfStmt l e so otherwise) s in
      let q = see_stmts d so r in
      let rest = no_right own (all_refusals d around so r ++ all_refusals d around otherwise q) ok in
      join (FreeName c.scalars around) (all_names_set (stmts_meant d so r)) (all_names_set (stmts_meant d otherwise q))
      (stmts_free c around so r (no_left (all_refusals d around so r) (all_refusals d around otherwise q) rest) (on q.scalars (see_stmts d otherwise q).scalars c.scalars (see_stmts-on d otherwise q) g) fits)
      (stmts_free c around otherwise q (no_right (all_refusals d around so r) (all_refusals d around otherwise q) rest) g fits)
  stmt_free c around (DoStmt l n a b by body) s ok g fits =
      let d = c.declared in
      let own = at_line l (own_causes d around (DoStmt l n a b by body) s) in
      let r = see_head d (DoStmt l n a b by body) s in
      let f = do_free c around l n a b by body s ok g fits in (
        record { name = n; place = f.0; other = f.1 },
        less_free c.scalars around n (all_names_set (stmts_meant d body r)) (stmts_free c (around ++ n ∷ []) body r (no_right own (all_refusals d (around ++ n ∷ []) body r) ok) g fits),
      )
  stmt_free c around (WhileStmt l e body) s ok g fits =
      let d = c.declared in
      let own = at_line l (own_causes d around (WhileStmt l e body) s) in
      let r = see_head d (WhileStmt l e body) s in
      stmts_free c around body r (no_right own (all_refusals d around body r) ok) g fits
  stmt_free c around (ReadStmt l t) s ok g fits = (target_free c around l t (begun s) (own_clean c.declared around (ReadStmt l t) s l ok) g fits, tt)
  stmt_free c around (PrintStmt l xs) s ok g fits = tt
  stmt_free c around (SkipStmt l) s ok g fits = tt
  stmt_free c around (RemapStmt l n xs) s ok g fits = tt

  stmts_free : (c : Scope) (around : List (List ℕ)) (xs : StmtTrees) (s : Seen) → all_refusals c.declared around xs s ≡ [] → GoesOn (see_stmts c.declared xs s).scalars c.scalars → length c.scalars ≤ 65535 → Each (FreeName c.scalars around) (all_names_set (stmts_meant c.declared xs s))
  stmts_free c around NoStmts s ok g fits = tt
  stmts_free c around (Stmt x rest) s ok g fits =
      let t = see_stmt c.declared x s in
      join (FreeName c.scalars around) (names_set (stmt_meant c.declared x s)) (all_names_set (stmts_meant c.declared rest t))
      (stmt_free c around x s (no_left (refusals c.declared around x s) (all_refusals c.declared around rest t) ok) (on t.scalars (see_stmts c.declared rest t).scalars c.scalars (see_stmts-on c.declared rest t) g) fits)
      (stmts_free c around rest t (no_right (refusals c.declared around x s) (all_refusals c.declared around rest t) ok) g fits)

mutual
  stmt_keeps : (c : Scope) (around : List (List ℕ)) (x : StmtTree) (s : Seen) → refusals c.declared around x s ≡ [] → GoesOn (see_stmt c.declared x s).scalars c.scalars → length c.scalars ≤ 65535 → KeepsVariables (stmt_meant c.declared x s)
  stmt_keeps c around (AssignStmt l t e) s ok g fits = tt
  stmt_keeps c around (IfStmt l e so otherwise) s ok g fits =
      let d = c.declared in
      let own = at_line l (own_causes d around (IfStmt l e so otherwise) s) in
      let r = see_head d (IfStmt l e so otherwise) s in
      let q = see_stmts d so r in
      let rest = no_right own (all_refusals d around so r ++ all_refusals d around otherwise q) ok in (
        stmts_keep c around so r (no_left (all_refusals d around so r) (all_refusals d around otherwise q) rest) (on q.scalars (see_stmts d otherwise q).scalars c.scalars (see_stmts-on d otherwise q) g) fits,
        stmts_keep c around otherwise q (no_right (all_refusals d around so r) (all_refusals d around otherwise q) rest) g fits,
      )
  stmt_keeps c around (DoStmt l n a b by body) s ok g fits =
      let d = c.declared in
      let own = at_line l (own_causes d around (DoStmt l n a b by body) s) in
      let r = see_head d (DoStmt l n a b by body) s in
      let f = do_free c around l n a b by body s ok g fits in
      let inside = no_right own (all_refusals d (around ++ n ∷ []) body r) ok in (
        not_inside c.scalars around n (scalar_meant (use_of d l n) n (begun s)) (all_names_set (stmts_meant d body r)) f.0 (stmts_free c (around ++ n ∷ []) body r inside g fits),
        stmts_keep c (around ++ n ∷ []) body r inside g fits,
      )
  stmt_keeps c around (WhileStmt l e body) s ok g fits =
      let d = c.declared in
      let own = at_line l (own_causes d around (WhileStmt l e body) s) in
      let r = see_head d (WhileStmt l e body) s in
      stmts_keep c around body r (no_right own (all_refusals d around body r) ok) g fits
  stmt_keeps c around (ReadStmt l t) s ok g fits = tt
  stmt_keeps c around (PrintStmt l xs) s ok g fits = tt
  stmt_keeps c around (SkipStmt l) s ok g fits = tt
  stmt_keeps c around (RemapStmt l n xs) s ok g fits = tt

  pub stmts_keep : (c : Scope) (around : List (List ℕ)) (xs : StmtTrees) (s : Seen) → all_refusals c.declared around xs s ≡ [] → GoesOn (see_stmts c.declared xs s).scalars c.scalars → length c.scalars ≤ 65535 → KeepVariables (stmts_meant c.declared xs s)
  stmts_keep c around NoStmts s ok g fits = tt
  stmts_keep c around (Stmt x rest) s ok g fits =
      let t = see_stmt c.declared x s in (
        stmt_keeps c around x s (no_left (refusals c.declared around x s) (all_refusals c.declared around rest t) ok) (on t.scalars (see_stmts c.declared rest t).scalars c.scalars (see_stmts-on c.declared rest t) g) fits,
        stmts_keep c around rest t (no_right (refusals c.declared around x s) (all_refusals c.declared around rest t) ok) g fits,
      )
