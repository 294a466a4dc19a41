-- What a table of names tells of the arrays by their numbers.
use Rattle.std.proofs.Common.{◌≡◌, ℕ, zero, suc, ◌+◌, ◌≤◌, Bool, true, false, cond, List, [], ◌∷◌, ◌++◌, refl, sym, ap, ◌∙◌, subst, Option, None, Some, is_some, slice_get, length, arith, nat_lt}
use Rattle.std.proofs.lemmas.Bool.Decides.{nat_tests}
use Rattle.std.proofs.lemmas.List.{length-append}
use Rattle.std.specs.Map.{lookup}
use Rattle.std.specs.Str.{bytes_eq}
use Rattle.std.specs.Cmp.Lexicographic.{same_text}
use Rattle.indexmap.specs.IndexMap.{insert_entry}
use Rattle.fd_base.specs.declared.numbering.Line.{Line}
use Rattle.fd_ast.specs.Tree.{DeclTree, ConstantDecl, IntegerDecl, DecompDecl, AlignDecl, DistributeDecl}
use Rattle.fd_prog.specs.declared.expression.Func.{Func}
use Rattle.fd_prog.specs.declared.program.Array.{Array}
use Rattle.fd_names.specs.declared.book.Seen.{Seen}
use Rattle.fd_names.specs.declared.declarations.Base.{Base}
use Rattle.fd_names.specs.declared.declarations.Subscripts.{Subscripts}
use Rattle.fd_names.specs.declared.names.Entry.{Entry}
use Rattle.fd_names.specs.declared.names.Kind.{Kind}
use Rattle.fd_names.specs.declared.names.Kind.TheVariants as kind
use Rattle.fd_names.specs.declared.names.Use.{Use}
use Rattle.fd_names.specs.declared.names.Use.TheVariants as as_name
use Rattle.fd_names.specs.declared.names.Callee.{Callee}
use Rattle.fd_names.specs.declared.names.Callee.TheVariants as callee
use Rattle.fd_names.specs.declared.refusal.Cause.{Cause}
use Rattle.fd_names.specs.Declarations.{with_new, constant_over, with_value, shape_from, array_of, integer_kind, with_integer, see_decl, declare, declare_all, dims_meant, array_limit, decl_causes, limit_causes, decl_refusals, decls_refusals, line_of}
use Rattle.fd_names.specs.First.{given}
use Rattle.fd_names.specs.Names.{Declared, Entries, find_name, with_entry, is_implicit, is_made, implied, use_of_kind, use_of_entry, use_of, func_of, callee_of_func, callee_of_use, callee_of, capped}
use Rattle.fd_names.specs.Standing.{IsArrayAt}
use Rattle.fd_names.specs.Statements.{name_limit}
use Rattle.fd_names.proofs.Kept.{Keeps, align_keeps, distribute_keeps}
use Rattle.fd_names.proofs.Sound.{no_left, no_right}
use Rattle.fd_names.proofs.StatementsSound.{clean}

abbrev pub KnownKind : List Array → List ℕ → Kind → Type 0
KnownKind arrays n kind.Scalar = Unit {0}
KnownKind arrays n (kind.Constant z) = Unit {0}
KnownKind arrays n (kind.Array k d) = IsArrayAt arrays k n d
KnownKind arrays n (kind.Decomp k d) = Unit {0}

abbrev pub KnownUse : List Array → List ℕ → Use → Type 0
KnownUse arrays n as_name.Scalar = Unit {0}
KnownUse arrays n (as_name.Constant z) = Unit {0}
KnownUse arrays n (as_name.Array k d) = IsArrayAt arrays k n d
KnownUse arrays n (as_name.Decomp k d) = Unit {0}
KnownUse arrays n as_name.Unknown = Unit {0}

abbrev pub KnownCallee : List Array → List ℕ → Callee → Type 0
KnownCallee arrays n (callee.Array k d) = IsArrayAt arrays k n d
KnownCallee arrays n (callee.Function f) = Unit {0}
KnownCallee arrays n callee.Unknown = Unit {0}

abbrev AreKnown : List Array → Entries → Type 0
AreKnown arrays [] = Unit {0}
AreKnown arrays (e ∷ es) = KnownKind arrays e.0 e.1.kind × AreKnown arrays es

abbrev pub IsKnown : List Array → Declared → Type 0
IsKnown arrays d = AreKnown arrays d.entries

same_name : (n m : List ℕ) → bytes_eq n m ≡ true → n ≡ m
same_name n m h = same_text n m (sym h)

-- ---- reading

found_step : (arrays : List Array) (n : List ℕ) (x : List ℕ × Entry) (rest : Option Entry) (e : Entry) (b : Bool) → bytes_eq n x.0 ≡ b → KnownKind arrays x.0 x.1.kind → (rest ≡ Some e → KnownKind arrays n e.kind) → cond b (Some x.1) rest ≡ Some e → KnownKind arrays n e.kind
found_step arrays n x rest e true q h more f =
    let same : x.1 ≡ e = cc in
    let P : Entry → Type 0 = λ y. KnownKind arrays n y.kind in
    let Q : List ℕ → Type 0 = λ m. KnownKind arrays m x.1.kind in
    subst P same (subst Q (sym (same_name n x.0 q)) h)
found_step arrays n x rest e false q h more f = more f

found_by : (arrays : List Array) (es : Entries) (n : List ℕ) (e : Entry) → AreKnown arrays es → lookup (bytes_eq n) es ≡ Some e → KnownKind arrays n e.kind
found_by arrays [] n e h f = absurd cc
found_by arrays (x ∷ es) n e h f = found_step arrays n x (lookup (bytes_eq n) es) e (bytes_eq n x.0) refl h.0 (found_by arrays es n e h.1) f

found : (arrays : List Array) (d : Declared) (n : List ℕ) (e : Entry) → IsKnown arrays d → find_name d n ≡ Some e → KnownKind arrays n e.kind
unfolding find_name
found arrays d n e h f = found_by arrays d.entries n e h f

implied_use : (arrays : List Array) (n : List ℕ) → KnownUse arrays n (implied n)
implied_use arrays n = elim (is_implicit n) as (λ b. KnownUse arrays n (cond b as_name.Scalar as_name.Unknown)) [ true ↦ tt | false ↦ tt ]

old_use : (arrays : List Array) (n : List ℕ) (k : Kind) → KnownKind arrays n k → KnownUse arrays n (use_of_kind k)
old_use arrays n kind.Scalar h = tt
old_use arrays n (kind.Constant z) h = tt
old_use arrays n (kind.Array k d) h = h
old_use arrays n (kind.Decomp k d) h = tt

entry_use : (arrays : List Array) (l : Line) (n : List ℕ) (o : Option Entry) → ((e : Entry) → o ≡ Some e → KnownKind arrays n e.kind) → KnownUse arrays n (use_of_entry o l n)
entry_use arrays l n None h = implied_use arrays n
entry_use arrays l n (Some e) h = elim (nat_lt e.line.0 l.0) as (λ b. KnownUse arrays n (cond b (use_of_kind e.kind) (implied n))) [ true ↦ old_use arrays n e.kind (h e refl) | false ↦ implied_use arrays n ]

pub used : (arrays : List Array) (d : Declared) (l : Line) (n : List ℕ) → IsKnown arrays d → KnownUse arrays n (use_of d l n)
unfolding use_of
used arrays d l n t = elim (is_made d.made l n) as (λ b. KnownUse arrays n (cond b as_name.Unknown (use_of_entry (find_name d n) l n))) [ true ↦ tt | false ↦ entry_use arrays l n (find_name d n) (λ e f. found arrays d n e t f) ]

func_callee : (arrays : List Array) (n : List ℕ) (o : Option Func) → KnownCallee arrays n (callee_of_func o)
func_callee arrays n None = tt
func_callee arrays n (Some f) = tt

use_callee : (arrays : List Array) (u : Use) (n : List ℕ) → KnownUse arrays n u → KnownCallee arrays n (callee_of_use u n)
use_callee arrays as_name.Scalar n h = func_callee arrays n (func_of n)
use_callee arrays (as_name.Constant z) n h = func_callee arrays n (func_of n)
use_callee arrays (as_name.Array k d) n h = h
use_callee arrays (as_name.Decomp k d) n h = func_callee arrays n (func_of n)
use_callee arrays as_name.Unknown n h = func_callee arrays n (func_of n)

pub called : (arrays : List Array) (es : Declared) (l : Line) (n : List ℕ) → IsKnown arrays es → KnownCallee arrays n (callee_of es l n)
unfolding callee_of
called arrays es l n t = elim (is_made es.made_arrays l n) as (λ b. KnownCallee arrays n (cond b callee.Unknown (callee_of_use (use_of es l n) n))) [ true ↦ tt | false ↦ use_callee arrays (use_of es l n) n (used arrays es l n t) ]

-- ---- writing

put_step : (arrays : List Array) (x : List ℕ × Entry) (es rest : Entries) (n : List ℕ) (e : Entry) (b : Bool) → bytes_eq n x.0 ≡ b → AreKnown arrays (x ∷ es) → KnownKind arrays n e.kind → AreKnown arrays rest → AreKnown arrays (cond b ((x.0, e) ∷ es) (x ∷ rest))
put_step arrays x es rest n e true q t h r = let Q : List ℕ → Type 0 = λ m. KnownKind arrays m e.kind in (subst Q (same_name n x.0 q) h, t.1)
put_step arrays x es rest n e false q t h r = (t.0, r)

put_by : (arrays : List Array) (es : Entries) (n : List ℕ) (e : Entry) → AreKnown arrays es → KnownKind arrays n e.kind → AreKnown arrays (insert_entry bytes_eq es n e)
put_by arrays [] n e t h = (h, tt)
put_by arrays (x ∷ es) n e t h = put_step arrays x es (insert_entry bytes_eq es n e) n e (bytes_eq n x.0) refl t h (put_by arrays es n e t.1 h)

put : (arrays : List Array) (d : Declared) (n : List ℕ) (e : Entry) → IsKnown arrays d → KnownKind arrays n e.kind → IsKnown arrays (with_entry d n e)
unfolding with_entry
put arrays d n e t h = put_by arrays d.entries n e t h

put_new : (arrays : List Array) (d : Declared) (n : List ℕ) (e : Entry) → IsKnown arrays d → KnownKind arrays n e.kind → IsKnown arrays (with_new d n e)
put_new arrays d n e t h = elim (is_some (find_name d n)) as (λ b. IsKnown arrays (cond b d (with_entry d n e))) [ true ↦ t | false ↦ put arrays d n e t h ]

put_over : (arrays : List Array) (d : Declared) (n : List ℕ) (e : Entry) (k : Kind) → IsKnown arrays d → KnownKind arrays n e.kind → IsKnown arrays (constant_over k d n e)
put_over arrays d n e kind.Scalar t h = put arrays d n e t h
put_over arrays d n e (kind.Constant z) t h = t
put_over arrays d n e (kind.Array k a) t h = t
put_over arrays d n e (kind.Decomp k a) t h = t

put_value : (arrays : List Array) (d : Declared) (n : List ℕ) (e : Entry) (old : Option Entry) → IsKnown arrays d → KnownKind arrays n e.kind → IsKnown arrays (with_value old d n e)
put_value arrays d n e None t h = put arrays d n e t h
put_value arrays d n e (Some old) t h = put_over arrays d n e old.kind t h

pub still : {X : Type 0} (xs ys : List X) (k : ℕ) (v : X) → slice_get xs k ≡ Some v → slice_get (xs ++ ys) k ≡ Some v
still [] ys k v h = absurd cc
still (x ∷ xs) ys zero v h = h
still (x ∷ xs) ys (suc k) v h = still xs ys k v h

pub at_end : {X : Type 0} (xs : List X) (a : X) → slice_get (xs ++ a ∷ []) (length xs) ≡ Some a
at_end [] a = refl
at_end (x ∷ xs) a = at_end xs a

more_kind : (arrays : List Array) (a : Array) (n : List ℕ) (k : Kind) → KnownKind arrays n k → KnownKind (arrays ++ a ∷ []) n k
more_kind arrays a n kind.Scalar h = tt
more_kind arrays a n (kind.Constant z) h = tt
more_kind arrays a n (kind.Array k d) h = record { array = h.array; place = still arrays (a ∷ []) k h.array h.place; name = h.name; shape = h.shape }
more_kind arrays a n (kind.Decomp k d) h = tt

all_more : (arrays : List Array) (a : Array) (es : Entries) → AreKnown arrays es → AreKnown (arrays ++ a ∷ []) es
all_more arrays a [] t = tt
all_more arrays a (x ∷ es) t = (more_kind arrays a x.0 x.1.kind t.0, all_more arrays a es t.1)

more : (arrays : List Array) (a : Array) (d : Declared) → IsKnown arrays d → IsKnown (arrays ++ a ∷ []) d
more arrays a d t = all_more arrays a d.entries t

not_above : (n : ℕ) → nat_lt 128 n ≡ false → n ≤ 128
not_above n h = grind (arith, nat_tests)

pub few_by : (n : ℕ) (b : Bool) (c : Cause) → nat_lt 128 n ≡ b → given b c ≡ [] → n ≤ 128
few_by n true c e h = absurd cc
few_by n false c e h = not_above n e

uncapped : (k n : ℕ) → n ≡ k + 1 → n ≤ 128 → capped k ≡ k
uncapped k n e h = omega arith

new_array : (n : List ℕ) (rs : List Subscripts) (arrays : List Array) → length (arrays ++ array_of n rs ∷ []) ≤ 128 → IsArrayAt (arrays ++ array_of n rs ∷ []) (capped (length arrays)) n (shape_from rs).dims
new_array n rs arrays few = record {
  array = array_of n rs;
  place = ap (slice_get (arrays ++ array_of n rs ∷ [])) (uncapped (length arrays) (length (arrays ++ array_of n rs ∷ [])) (length-append arrays (array_of n rs ∷ [])) few) ∙ at_end arrays (array_of n rs);
  name = refl;
  shape = refl;
}

integer_known : (l : Line) (n : List ℕ) (rs : List Subscripts) (b : Base) → IsKnown b.arrays b.table → array_limit (with_integer l n rs b) ≡ [] → IsKnown (with_integer l n rs b).arrays (with_integer l n rs b).table
integer_known l n [] b h ok = put_new b.arrays b.table n (record { line = l; kind = kind.Scalar }) h tt
integer_known l n (r ∷ rs) b h ok =
    let a = array_of n (r ∷ rs) in
    let few = few_by (length (b.arrays ++ a ∷ [])) (nat_lt 128 (length (b.arrays ++ a ∷ []))) _ refl ok in
    put_new (b.arrays ++ a ∷ []) b.table n (record { line = l; kind = integer_kind (r ∷ rs) (length b.arrays) }) (more b.arrays a b.table h) (new_array n (r ∷ rs) b.arrays few)

still_known : (b c : Base) → Keeps b c → IsKnown b.arrays b.table → IsKnown c.arrays c.table
still_known b c k h = rw (k.arrays, k.table) h

pub declared : (x : DeclTree) (s : Seen) (b : Base) → IsKnown b.arrays b.table → limit_causes x s b ≡ [] → IsKnown (declare x s b).arrays (declare x s b).table
declared (ConstantDecl l n e) s b h ok = put_value b.arrays b.table n _ (find_name b.table n) h tt
declared (IntegerDecl l n xs) s b h ok = integer_known l n (dims_meant b.table l xs s) b h (no_left (array_limit (declare (IntegerDecl l n xs) s b)) (name_limit (see_decl b (IntegerDecl l n xs) s)) ok)
declared (DecompDecl l n xs) s b h ok = put_new b.arrays b.table n _ h tt
declared (AlignDecl l n dummies target es) s b h ok = still_known b (declare (AlignDecl l n dummies target es) s b) (align_keeps l n dummies target es s b) h
declared (DistributeDecl l n xs) s b h ok = still_known b (declare (DistributeDecl l n xs) s b) (distribute_keeps l n xs s b) h

pub all_declared : (xs : List DeclTree) (s : Seen) (b : Base) → IsKnown b.arrays b.table → decls_refusals xs s b ≡ [] → IsKnown (declare_all xs s b).arrays (declare_all xs s b).table
all_declared [] s b h ok = h
all_declared (x ∷ xs) s b h ok =
    let rest = decls_refusals xs (see_decl b x s) (declare x s b) in
    let own = clean (line_of x) (decl_causes b x s ++ limit_causes x s b) (no_left (decl_refusals x s b) rest ok) in
    all_declared xs (see_decl b x s) (declare x s b) (declared x s b h (no_right (decl_causes b x s) (limit_causes x s b) own)) (no_right (decl_refusals x s b) rest ok)
