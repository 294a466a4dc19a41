-- Walks over lists, from the front.
use Rattle.std.proofs.Common.{◌≡◌, ℕ, ◌+◌, ◌<◌, suc, List, [], ◌∷◌, ◌++◌, refl, sym, ap, ◌∙◌, Option, None, drop, length, get_or, add-one, append_assoc}
use Rattle.std.proofs.Math.Seq.{drop-cons}
use Rattle.fd_base.specs.declared.numbering.Line.{Line}
use Rattle.fd_ast.specs.Tree.{DeclTree, DimTree, ItemTree, ProgramTree}
use Rattle.fd_prog.specs.Statements.{PrintItem, Statements}
use Rattle.fd_names.specs.declared.book.Book.{Book}
use Rattle.fd_names.specs.declared.book.Seen.{Seen}
use Rattle.fd_names.specs.declared.declarations.Base.{Base}
use Rattle.fd_names.specs.declared.declarations.Subscripts.{Subscripts}
use Rattle.fd_names.specs.declared.refusal.Refusal.{Refusal}
use Rattle.fd_names.specs.Checked.{nothing_seen, base_of, mapped_base_of, body_of, seen_in, seen_in_decls, refusals_of, whole_refusals}
use Rattle.fd_names.specs.Declarations.{dim_causes, dim_meant, dims_causes, dims_meant, nothing_declared, see_dim, see_dims, declare, see_decl, decl_refusals, declare_all, see_decls, decls_refusals}
use Rattle.fd_names.specs.First.{met, noted}
use Rattle.fd_names.specs.Irregular.{all_remapped}
use Rattle.fd_names.specs.Names.{Declared}
use Rattle.fd_names.specs.Statements.{stmts_meant, see_stmts, all_refusals, item_causes, item_meant, items_causes, items_meant, see_item, see_items}
use Rattle.fd_names.proofs.Noted.{met-append, noted-append}

pub drop-item : {X : Type 0} (xs : List X) (i : ℕ) (item : X) → i < length xs → item ≡ get_or xs i item → drop i xs ≡ item ∷ drop (i + 1) xs
drop-item xs i item within is = rw (add-one, drop-cons xs i item) (ap (λ y. y ∷ drop (suc i) xs) (sym is))

-- ---- items of a PRINT

-- what the walk over all items gives is what the walk over these gives from here on
pub record IsPrinted (d : Declared) (l : Line) (all : List ItemTree) (s0 : Seen) (w0 : Option Refusal) (rest : List ItemTree) (s : Seen) (w : Option Refusal) (ps : List PrintItem) : Type 0 where
  pub seen : see_items d l all s0 ≡ see_items d l rest s
  pub worst : noted l (items_causes d l all) w0 ≡ noted l (items_causes d l rest) w
  pub made : items_meant d l all s0 ≡ ps ++ items_meant d l rest s

pub printed_one : (d : Declared) (l : Line) (all : List ItemTree) (s0 : Seen) (w0 : Option Refusal) (rest more : List ItemTree) (x : ItemTree) (s : Seen) (w : Option Refusal) (ps : List PrintItem) (t : Seen) (v : Option Refusal) (p : PrintItem) (qs : List PrintItem) →
    IsPrinted d l all s0 w0 rest s w ps → rest ≡ x ∷ more → t ≡ see_item d l x s → v ≡ noted l (item_causes d l x) w → p ≡ item_meant d l x s → qs ≡ ps ++ p ∷ [] → IsPrinted d l all s0 w0 more t v qs
printed_one d l all s0 w0 rest more x s w ps t v p qs h e ts vs made is = rw (is, made, ts, vs) (record {
  seen = h.seen ∙ ap (λ r. see_items d l r s) e;
  worst = h.worst ∙ (ap (λ r. noted l (items_causes d l r) w) e ∙ noted-append l (item_causes d l x) (items_causes d l more) w);
  made = h.made ∙ (ap (λ r. ps ++ items_meant d l r s) e ∙ sym (append_assoc ps (item_meant d l x s ∷ []) (items_meant d l more (see_item d l x s))));
})

-- ---- dimensions

pub record IsMeasured (d : Declared) (l : Line) (all : List DimTree) (s0 : Seen) (w0 : Option Refusal) (rest : List DimTree) (s : Seen) (w : Option Refusal) (rs : List Subscripts) : Type 0 where
  pub seen : see_dims d l all s0 ≡ see_dims d l rest s
  pub worst : noted l (dims_causes d l all s0) w0 ≡ noted l (dims_causes d l rest s) w
  pub made : dims_meant d l all s0 ≡ rs ++ dims_meant d l rest s

pub measured_one : (d : Declared) (l : Line) (all : List DimTree) (s0 : Seen) (w0 : Option Refusal) (rest more : List DimTree) (x : DimTree) (s : Seen) (w : Option Refusal) (rs : List Subscripts) (t : Seen) (v : Option Refusal) (r : Subscripts) (qs : List Subscripts) →
    IsMeasured d l all s0 w0 rest s w rs → rest ≡ x ∷ more → t ≡ see_dim d l x s → v ≡ noted l (dim_causes d l x s) w → r ≡ dim_meant d l x s → qs ≡ rs ++ r ∷ [] → IsMeasured d l all s0 w0 more t v qs
measured_one d l all s0 w0 rest more x s w rs t v r qs h e ts vs made is = rw (is, made, ts, vs) (record {
  seen = h.seen ∙ ap (λ y. see_dims d l y s) e;
  worst = h.worst ∙ (ap (λ y. noted l (dims_causes d l y s) w) e ∙ noted-append l (dim_causes d l x s) (dims_causes d l more (see_dim d l x s)) w);
  made = h.made ∙ (ap (λ y. rs ++ dims_meant d l y s) e ∙ sym (append_assoc rs (dim_meant d l x s ∷ []) (dims_meant d l more (see_dim d l x s))));
})

-- ---- declarations

pub record IsWalked (all : List DeclTree) (s0 : Seen) (b0 : Base) (w0 : Option Refusal) (rest : List DeclTree) (s : Seen) (b : Base) (w : Option Refusal) : Type 0 where
  pub base : declare_all all s0 b0 ≡ declare_all rest s b
  pub seen : see_decls all s0 b0 ≡ see_decls rest s b
  pub worst : met (decls_refusals all s0 b0) w0 ≡ met (decls_refusals rest s b) w

pub walked_one : (all : List DeclTree) (s0 : Seen) (b0 : Base) (w0 : Option Refusal) (rest more : List DeclTree) (x : DeclTree) (s : Seen) (b : Base) (w : Option Refusal) (t : Seen) (c : Base) (v : Option Refusal) → IsWalked all s0 b0 w0 rest s b w → rest ≡ x ∷ more → t ≡ see_decl b x s → c ≡ declare x s b → v ≡ met (decl_refusals x s b) w → IsWalked all s0 b0 w0 more t c v
walked_one all s0 b0 w0 rest more x s b w t c v h e ts cs vs = rw (ts, cs, vs) (record {
  base = h.base ∙ ap (λ r. declare_all r s b) e;
  seen = h.seen ∙ ap (λ r. see_decls r s b) e;
  worst = h.worst ∙ (ap (λ r. met (decls_refusals r s b) w) e ∙ met-append (decl_refusals x s b) (decls_refusals more (see_decl b x s) (declare x s b)) w);
})

three : (a b c : List Refusal) (w : Option Refusal) → met c (met b (met a w)) ≡ met (a ++ (b ++ c)) w
three a b c w = rw (met-append a (b ++ c) w, met-append b c (met a w)) refl

-- all walks together, from where nothing is seen or declared
pub whole_worst : (t : ProgramTree) (ds es : List DeclTree) (a b c : Base) (k : Book) (around : List (List ℕ)) (s : Seen) (v w x : Option Refusal) (body : Statements) →
    ds ≡ t.decls → es ≡ t.decls → a ≡ nothing_declared ds → k ≡ record { seen = nothing_seen; around = []; worst = None } →
    around ≡ k.around →
    b ≡ declare_all es k.seen a → s ≡ see_decls es k.seen a → v ≡ met (decls_refusals es k.seen a) k.worst →
    w ≡ met (all_refusals b.table around t.body s) v → body ≡ stmts_meant b.table t.body s → c ≡ all_remapped t.body b →
    x ≡ met (whole_refusals c body) w → x ≡ met (refusals_of t) None
whole_worst t ds es a b c k around s v w x body e0 e1 ea ek er eb f ev ew ey ec ex =
    rw (ex, ew, ec, ey, ev, eb, f, er, ek, ea, e1, e0) (three (decls_refusals t.decls nothing_seen (nothing_declared t.decls)) (all_refusals (base_of t).table [] t.body (seen_in_decls t)) (whole_refusals (mapped_base_of t) (body_of t)) None)

pub whole_base : (t : ProgramTree) (ds es : List DeclTree) (a b c : Base) (k : Book) →
    ds ≡ t.decls → es ≡ t.decls → a ≡ nothing_declared ds → k ≡ record { seen = nothing_seen; around = []; worst = None } →
    b ≡ declare_all es k.seen a → c ≡ all_remapped t.body b → c ≡ mapped_base_of t
whole_base t ds es a b c k e0 e1 ea ek eb ec = rw (ec, eb, ek, ea, e1, e0) refl

pub whole_seen : (t : ProgramTree) (ds es : List DeclTree) (a b : Base) (k : Book) (s r q : Seen) →
    ds ≡ t.decls → es ≡ t.decls → a ≡ nothing_declared ds → k ≡ record { seen = nothing_seen; around = []; worst = None } →
    b ≡ declare_all es k.seen a → s ≡ see_decls es k.seen a → r ≡ see_stmts b.table t.body s → q ≡ r → q ≡ seen_in t
whole_seen t ds es a b k s r q e0 e1 ea ek eb f er eq = rw (eq, er, eb, f, ek, ea, e1, e0) refl

pub whole_body : (t : ProgramTree) (ds es : List DeclTree) (a b : Base) (k : Book) (s : Seen) (body : Statements) →
    ds ≡ t.decls → es ≡ t.decls → a ≡ nothing_declared ds → k ≡ record { seen = nothing_seen; around = []; worst = None } →
    b ≡ declare_all es k.seen a → s ≡ see_decls es k.seen a → body ≡ stmts_meant b.table t.body s → body ≡ body_of t
whole_body t ds es a b k s body e0 e1 ea ek eb f ey = rw (ey, eb, f, ek, ea, e1, e0) refl
