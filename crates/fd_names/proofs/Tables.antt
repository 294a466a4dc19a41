-- What a table of names tells of its arrays.
use Rattle.std.proofs.Common.{◌≡◌, ℕ, ◌<◌, ◌≤◌, Bool, true, false, cond, List, [], ◌∷◌, refl, subst, Option, None, Some, is_some, arith, nat_lt}
use Rattle.std.specs.Map.{lookup}
use Rattle.std.specs.Str.{bytes_eq}
use Rattle.indexmap.specs.IndexMap.{insert_entry}
use Rattle.fd_base.specs.declared.numbering.Line.{Line}
use Rattle.fd_prog.specs.declared.expression.Func.{Func}
use Rattle.fd_names.specs.declared.names.Entry.{Entry}
use Rattle.fd_names.specs.declared.names.Kind.{Kind}
use Rattle.fd_names.specs.declared.names.Kind.TheVariants as kind
use Rattle.fd_names.specs.declared.names.Use.{Use}
use Rattle.fd_names.specs.declared.names.Use.TheVariants as as_name
use Rattle.fd_names.specs.declared.names.Callee.{Callee}
use Rattle.fd_names.specs.declared.names.Callee.TheVariants as callee
use Rattle.fd_names.specs.Declarations.{with_new, constant_over, with_value}
use Rattle.fd_names.specs.Names.{Declared, Entries, find_name, with_entry, is_implicit, is_made, implied, use_of_kind, use_of_entry, use_of, func_of, callee_of_func, callee_of_use, callee_of}

-- an array has one of these many numbers, and one or two dimensions
abbrev pub IsArray : ℕ → ℕ → ℕ → Type 0
IsArray m k d = (k < m) × (1 ≤ d) × (d ≤ 2)

abbrev pub IsKind : ℕ → Kind → Type 0
IsKind m kind.Scalar = Unit {0}
IsKind m (kind.Constant z) = Unit {0}
IsKind m (kind.Array k d) = IsArray m k d
IsKind m (kind.Decomp k d) = Unit {0}

abbrev pub IsUse : ℕ → Use → Type 0
IsUse m as_name.Scalar = Unit {0}
IsUse m (as_name.Constant z) = Unit {0}
IsUse m (as_name.Array k d) = IsArray m k d
IsUse m (as_name.Decomp k d) = Unit {0}
IsUse m as_name.Unknown = Unit {0}

abbrev pub IsCallee : ℕ → Callee → Type 0
IsCallee m (callee.Array k d) = IsArray m k d
IsCallee m (callee.Function f) = Unit {0}
IsCallee m callee.Unknown = Unit {0}

abbrev AreKinds : ℕ → Entries → Type 0
AreKinds m [] = Unit {0}
AreKinds m (e ∷ es) = IsKind m e.1.kind × AreKinds m es

abbrev pub IsTable : ℕ → Declared → Type 0
IsTable m d = AreKinds m d.entries

-- ---- reading

found_step : (m : ℕ) (x : List ℕ × Entry) (rest : Option Entry) (e : Entry) (b : Bool) → IsKind m x.1.kind → (rest ≡ Some e → IsKind m e.kind) → cond b (Some x.1) rest ≡ Some e → IsKind m e.kind
found_step m x rest e true h more f = let same : x.1 ≡ e = cc in let P : Entry → Type 0 = λ y. IsKind m y.kind in subst P same h
found_step m x rest e false h more f = more f

found_by : (m : ℕ) (es : Entries) (n : List ℕ) (e : Entry) → AreKinds m es → lookup (bytes_eq n) es ≡ Some e → IsKind m e.kind
found_by m [] n e h f = absurd cc
found_by m (x ∷ es) n e h f = found_step m x (lookup (bytes_eq n) es) e (bytes_eq n x.0) h.0 (found_by m es n e h.1) f

found : (m : ℕ) (d : Declared) (n : List ℕ) (e : Entry) → IsTable m d → find_name d n ≡ Some e → IsKind m e.kind
unfolding find_name
found m d n e h f = found_by m d.entries n e h f

implied_use : (m : ℕ) (n : List ℕ) → IsUse m (implied n)
implied_use m n = elim (is_implicit n) as (λ b. IsUse m (cond b as_name.Scalar as_name.Unknown)) [ true ↦ tt | false ↦ tt ]

old_use : (m : ℕ) (k : Kind) → IsKind m k → IsUse m (use_of_kind k)
old_use m kind.Scalar h = tt
old_use m (kind.Constant z) h = tt
old_use m (kind.Array k d) h = h
old_use m (kind.Decomp k d) h = tt

entry_use : (m : ℕ) (l : Line) (n : List ℕ) (o : Option Entry) → ((e : Entry) → o ≡ Some e → IsKind m e.kind) → IsUse m (use_of_entry o l n)
entry_use m l n None h = implied_use m n
entry_use m l n (Some e) h = elim (nat_lt e.line.0 l.0) as (λ b. IsUse m (cond b (use_of_kind e.kind) (implied n))) [ true ↦ old_use m e.kind (h e refl) | false ↦ implied_use m n ]

pub used : (m : ℕ) (d : Declared) (l : Line) (n : List ℕ) → IsTable m d → IsUse m (use_of d l n)
unfolding use_of
used m d l n t = elim (is_made d.made l n) as (λ b. IsUse m (cond b as_name.Unknown (use_of_entry (find_name d n) l n))) [ true ↦ tt | false ↦ entry_use m l n (find_name d n) (λ e f. found m d n e t f) ]

func_callee : (m : ℕ) (o : Option Func) → IsCallee m (callee_of_func o)
func_callee m None = tt
func_callee m (Some f) = tt

use_callee : (m : ℕ) (u : Use) (n : List ℕ) → IsUse m u → IsCallee m (callee_of_use u n)
use_callee m as_name.Scalar n h = func_callee m (func_of n)
use_callee m (as_name.Constant z) n h = func_callee m (func_of n)
use_callee m (as_name.Array k d) n h = h
use_callee m (as_name.Decomp k d) n h = func_callee m (func_of n)
use_callee m as_name.Unknown n h = func_callee m (func_of n)

pub called : (m : ℕ) (es : Declared) (l : Line) (n : List ℕ) → IsTable m es → IsCallee m (callee_of es l n)
unfolding callee_of
called m es l n t = elim (is_made es.made_arrays l n) as (λ b. IsCallee m (cond b callee.Unknown (callee_of_use (use_of es l n) n))) [ true ↦ tt | false ↦ use_callee m (use_of es l n) n (used m es l n t) ]

-- ---- writing

put_by : (m : ℕ) (es : Entries) (n : List ℕ) (e : Entry) → AreKinds m es → IsKind m e.kind → AreKinds m (insert_entry bytes_eq es n e)
put_by m [] n e t h = (h, tt)
put_by m (x ∷ es) n e t h = elim (bytes_eq n x.0) as (λ b. AreKinds m (cond b ((x.0, e) ∷ es) (x ∷ insert_entry bytes_eq es n e))) [ true ↦ (h, t.1) | false ↦ (t.0, put_by m es n e t.1 h) ]

put : (m : ℕ) (d : Declared) (n : List ℕ) (e : Entry) → IsTable m d → IsKind m e.kind → IsTable m (with_entry d n e)
unfolding with_entry
put m d n e t h = put_by m d.entries n e t h

pub put_new : (m : ℕ) (d : Declared) (n : List ℕ) (e : Entry) → IsTable m d → IsKind m e.kind → IsTable m (with_new d n e)
put_new m d n e t h = elim (is_some (find_name d n)) as (λ b. IsTable m (cond b d (with_entry d n e))) [ true ↦ t | false ↦ put m d n e t h ]

put_over : (m : ℕ) (d : Declared) (n : List ℕ) (e : Entry) (k : Kind) → IsTable m d → IsKind m e.kind → IsTable m (constant_over k d n e)
put_over m d n e kind.Scalar t h = put m d n e t h
put_over m d n e (kind.Constant z) t h = t
put_over m d n e (kind.Array k a) t h = t
put_over m d n e (kind.Decomp k a) t h = t

pub put_value : (m : ℕ) (d : Declared) (n : List ℕ) (e : Entry) (old : Option Entry) → IsTable m d → IsKind m e.kind → IsTable m (with_value old d n e)
put_value m d n e None t h = put m d n e t h
put_value m d n e (Some old) t h = put_over m d n e old.kind t h

more_kind : (m p : ℕ) (k : Kind) → m ≤ p → IsKind m k → IsKind p k
more_kind m p kind.Scalar le h = tt
more_kind m p (kind.Constant z) le h = tt
more_kind m p (kind.Array k d) le h = (omega (arith, h.0), h.1, h.2)
more_kind m p (kind.Decomp k d) le h = tt

more_kinds : (m p : ℕ) (es : Entries) → m ≤ p → AreKinds m es → AreKinds p es
more_kinds m p [] le t = tt
more_kinds m p (x ∷ es) le t = (more_kind m p x.1.kind le t.0, more_kinds m p es le t.1)

pub more : (m p : ℕ) (d : Declared) → m ≤ p → IsTable m d → IsTable p d
more m p d le t = more_kinds m p d.entries le t
