-- What a table of names tells of its decompositions.
use Rattle.std.proofs.Common.{◌≡◌, ℕ, Bool, true, false, cond, List, [], ◌∷◌, ◌++◌, refl, subst, Option, None, Some, is_some, slice_get, nat_lt}
use Rattle.std.specs.Map.{lookup}
use Rattle.std.specs.Str.{bytes_eq}
use Rattle.indexmap.specs.IndexMap.{insert_entry}
use Rattle.fd_base.specs.declared.numbering.Line.{Line}
use Rattle.fd_prog.specs.declared.program.Decomp.{Decomp}
use Rattle.fd_names.specs.declared.names.Entry.{Entry}
use Rattle.fd_names.specs.declared.names.Kind.{Kind}
use Rattle.fd_names.specs.declared.names.Kind.TheVariants as kind
use Rattle.fd_names.specs.declared.names.Use.{Use}
use Rattle.fd_names.specs.declared.names.Use.TheVariants as as_name
use Rattle.fd_names.specs.Declarations.{with_new, constant_over, with_value}
use Rattle.fd_names.specs.Names.{Declared, Entries, find_name, with_entry, is_implicit, is_made, implied, use_of_kind, use_of_entry, use_of}
use Rattle.fd_names.proofs.Known.{still}

-- the decomposition of this number has so many dimensions
pub record IsDecompAt (ds : List Decomp) (k dims : ℕ) : Type 0 where
  pub decomp : Decomp
  pub place : slice_get ds k ≡ Some decomp
  pub shape : decomp.shape.dims ≡ dims

abbrev pub KindIn : List Decomp → Kind → Type 0
KindIn ds kind.Scalar = Unit {0}
KindIn ds (kind.Constant z) = Unit {0}
KindIn ds (kind.Array k d) = Unit {0}
KindIn ds (kind.Decomp k d) = IsDecompAt ds k d

abbrev pub UseIn : List Decomp → Use → Type 0
UseIn ds as_name.Scalar = Unit {0}
UseIn ds (as_name.Constant z) = Unit {0}
UseIn ds (as_name.Array k d) = Unit {0}
UseIn ds (as_name.Decomp k d) = IsDecompAt ds k d
UseIn ds as_name.Unknown = Unit {0}

abbrev AreKindsIn : List Decomp → Entries → Type 0
AreKindsIn ds [] = Unit {0}
AreKindsIn ds (e ∷ es) = KindIn ds e.1.kind × AreKindsIn ds es

abbrev pub TableIn : List Decomp → Declared → Type 0
TableIn ds d = AreKindsIn ds d.entries

-- ---- reading

found_step : (ds : List Decomp) (x : List ℕ × Entry) (rest : Option Entry) (e : Entry) (b : Bool) → KindIn ds x.1.kind → (rest ≡ Some e → KindIn ds e.kind) → cond b (Some x.1) rest ≡ Some e → KindIn ds e.kind
found_step ds x rest e true h more f = let same : x.1 ≡ e = cc in let P : Entry → Type 0 = λ y. KindIn ds y.kind in subst P same h
found_step ds x rest e false h more f = more f

found_by : (ds : List Decomp) (es : Entries) (n : List ℕ) (e : Entry) → AreKindsIn ds es → lookup (bytes_eq n) es ≡ Some e → KindIn ds e.kind
found_by ds [] n e h f = absurd cc
found_by ds (x ∷ es) n e h f = found_step ds x (lookup (bytes_eq n) es) e (bytes_eq n x.0) h.0 (found_by ds es n e h.1) f

found : (ds : List Decomp) (d : Declared) (n : List ℕ) (e : Entry) → TableIn ds d → find_name d n ≡ Some e → KindIn ds e.kind
unfolding find_name
found ds d n e h f = found_by ds d.entries n e h f

implied_use : (ds : List Decomp) (n : List ℕ) → UseIn ds (implied n)
implied_use ds n = elim (is_implicit n) as (λ b. UseIn ds (cond b as_name.Scalar as_name.Unknown)) [ true ↦ tt | false ↦ tt ]

old_use : (ds : List Decomp) (k : Kind) → KindIn ds k → UseIn ds (use_of_kind k)
old_use ds kind.Scalar h = tt
old_use ds (kind.Constant z) h = tt
old_use ds (kind.Array k d) h = tt
old_use ds (kind.Decomp k d) h = h

entry_use : (ds : List Decomp) (l : Line) (n : List ℕ) (o : Option Entry) → ((e : Entry) → o ≡ Some e → KindIn ds e.kind) → UseIn ds (use_of_entry o l n)
entry_use ds l n None h = implied_use ds n
entry_use ds l n (Some e) h = elim (nat_lt e.line.0 l.0) as (λ b. UseIn ds (cond b (use_of_kind e.kind) (implied n))) [ true ↦ old_use ds e.kind (h e refl) | false ↦ implied_use ds n ]

pub used_in : (ds : List Decomp) (d : Declared) (l : Line) (n : List ℕ) → TableIn ds d → UseIn ds (use_of d l n)
unfolding use_of
used_in ds d l n t = elim (is_made d.made l n) as (λ b. UseIn ds (cond b as_name.Unknown (use_of_entry (find_name d n) l n))) [ true ↦ tt | false ↦ entry_use ds l n (find_name d n) (λ e f. found ds d n e t f) ]

-- ---- writing

put_by : (ds : List Decomp) (es : Entries) (n : List ℕ) (e : Entry) → AreKindsIn ds es → KindIn ds e.kind → AreKindsIn ds (insert_entry bytes_eq es n e)
put_by ds [] n e t h = (h, tt)
put_by ds (x ∷ es) n e t h = elim (bytes_eq n x.0) as (λ b. AreKindsIn ds (cond b ((x.0, e) ∷ es) (x ∷ insert_entry bytes_eq es n e))) [ true ↦ (h, t.1) | false ↦ (t.0, put_by ds es n e t.1 h) ]

put : (ds : List Decomp) (d : Declared) (n : List ℕ) (e : Entry) → TableIn ds d → KindIn ds e.kind → TableIn ds (with_entry d n e)
unfolding with_entry
put ds d n e t h = put_by ds d.entries n e t h

pub put_new_in : (ds : List Decomp) (d : Declared) (n : List ℕ) (e : Entry) → TableIn ds d → KindIn ds e.kind → TableIn ds (with_new d n e)
put_new_in ds d n e t h = elim (is_some (find_name d n)) as (λ b. TableIn ds (cond b d (with_entry d n e))) [ true ↦ t | false ↦ put ds d n e t h ]

put_over : (ds : List Decomp) (d : Declared) (n : List ℕ) (e : Entry) (k : Kind) → TableIn ds d → KindIn ds e.kind → TableIn ds (constant_over k d n e)
put_over ds d n e kind.Scalar t h = put ds d n e t h
put_over ds d n e (kind.Constant z) t h = t
put_over ds d n e (kind.Array k a) t h = t
put_over ds d n e (kind.Decomp k a) t h = t

pub put_value_in : (ds : List Decomp) (d : Declared) (n : List ℕ) (e : Entry) (old : Option Entry) → TableIn ds d → KindIn ds e.kind → TableIn ds (with_value old d n e)
put_value_in ds d n e None t h = put ds d n e t h
put_value_in ds d n e (Some old) t h = put_over ds d n e old.kind t h

more_kind : (ds : List Decomp) (x : Decomp) (k : Kind) → KindIn ds k → KindIn (ds ++ x ∷ []) k
more_kind ds x kind.Scalar h = tt
more_kind ds x (kind.Constant z) h = tt
more_kind ds x (kind.Array k d) h = tt
more_kind ds x (kind.Decomp k d) h = record { decomp = h.decomp; place = still ds (x ∷ []) k h.decomp h.place; shape = h.shape }

more_kinds : (ds : List Decomp) (x : Decomp) (es : Entries) → AreKindsIn ds es → AreKindsIn (ds ++ x ∷ []) es
more_kinds ds x [] t = tt
more_kinds ds x (e ∷ es) t = (more_kind ds x e.1.kind t.0, more_kinds ds x es t.1)

pub more_in : (ds : List Decomp) (x : Decomp) (d : Declared) → TableIn ds d → TableIn (ds ++ x ∷ []) d
more_in ds x d t = more_kinds ds x d.entries t
