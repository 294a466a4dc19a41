-- What declarations without refusals declare has plain names that differ.
use Rattle.std.proofs.Common.{◌≡◌, ◌≢◌, ℕ, zero, suc, pos, Bool, true, false, cond, not, ◌||◌, ◌&&◌, List, [], ◌∷◌, ◌++◌, refl, sym, ap, ◌∙◌, subst, Option, None, Some, is_some, unwrap_or, map, slice_get, slice_set, length, arith, nat_eq, nat_lt}
use Rattle.std.proofs.lemmas.Bool.{false≢true, eq-eqb, and_from, or_left, or_right}
use Rattle.std.proofs.lemmas.List.{map-append}
use Rattle.std.proofs.lemmas.List.Elements.{All-push, All-weaker, All-head, All-tail}
use Rattle.std.proofs.lemmas.List.Quantifiers.{all_pairs_push}
use Rattle.std.specs.List.{All, AllPairs, list_any}
use Rattle.std.specs.Str.{bytes_eq}
use Rattle.fd_base.specs.declared.numbering.Line.{Line}
use Rattle.fd_ast.specs.Tree.{ExprTree, ExprTrees, DimTree, DeclTree, ConstantDecl, IntegerDecl, DecompDecl, AlignDecl, DistributeDecl}
use Rattle.fd_prog.specs.declared.program.Array.{Array}
use Rattle.fd_prog.specs.declared.program.Decomp.{Decomp}
use Rattle.program_laws.specs.Named.{IsPlain}
use Rattle.fd_names.specs.declared.alignments.Aim.{Aim}
use Rattle.fd_names.specs.declared.book.Seen.{Seen}
use Rattle.fd_names.specs.declared.declarations.Alignment.{Alignment}
use Rattle.fd_names.specs.declared.declarations.Base.{Base}
use Rattle.fd_names.specs.declared.declarations.Spread.{Spread}
use Rattle.fd_names.specs.declared.names.Entry.{Entry}
use Rattle.fd_names.specs.declared.names.Kind.{Kind}
use Rattle.fd_names.specs.declared.names.Kind.TheVariants as kind
use Rattle.fd_names.specs.declared.names.Use.{Use}
use Rattle.fd_names.specs.declared.names.Use.TheVariants as as_name
use Rattle.fd_names.specs.declared.refusal.Cause.TheVariants.{DeclaredTwice, WrongShape}
use Rattle.fd_names.specs.Alignments.{aims_causes, aims_of, aligned_causes, onto_causes, identity_aims, is_short}
use Rattle.fd_names.specs.Constants.{constant_of}
use Rattle.fd_names.specs.Declarations.{aligned_onto, alignment_onto, alignment_over, array_of, array_shape, constant_causes, constant_over, decl_causes, decl_refusals, declare, declare_all, decls_refusals, decomp_dims, decomp_from, dims_causes, dims_meant, integer_kind, is_aligned, is_aligned_at, is_spread, limit_causes, line_of, own_decomp, place_causes, see_decl, see_decls, see_own_decomp, shape_from, spread_over, value_causes, with_alignment, with_new, with_spread, with_value}
use Rattle.fd_names.specs.Distributions.{attrs_causes, attrs_meant, see_attrs, spread_causes, spread_from}
use Rattle.fd_names.specs.Expressions.{causes, meant}
use Rattle.fd_names.specs.First.{given}
use Rattle.fd_names.specs.Names.{Declared, find_name, implied, is_implicit, is_made, use_of, use_of_entry, use_of_kind, with_entry, with_name}
use Rattle.fd_names.specs.Scope.{is_made_on}
use Rattle.fd_names.specs.Written.{name_of}
use Rattle.fd_names.proofs.Arrayed.{names}
use Rattle.fd_names.proofs.DecompsCounted.{AreCounted, decl_counted}
use Rattle.fd_names.proofs.Early.{entry_found}
use Rattle.fd_names.proofs.FirstSpread.{set_here}
use Rattle.fd_names.proofs.Kept.{Keeps, align_keeps, with_own}
use Rattle.fd_names.proofs.Known.{IsKnown, KnownUse, declared, used}
use Rattle.fd_names.proofs.Scoped.{same_bytes, same_name}
use Rattle.fd_names.proofs.Sound.{no_left, no_right}
use Rattle.fd_names.proofs.StatementsSound.{clean}
use Rattle.fd_names.proofs.Unnamed.{aims_unnamed, attrs_unnamed, constant_unnamed, dims_unnamed}

abbrev pub decomp_names : List Decomp → List (List ℕ)
decomp_names xs = map (λ (d : Decomp). d.name) xs

-- ---- what is found by a name

-- there is an entry, and it is so
abbrev pub HasEntry : (Entry → Type 0) → Option Entry → Type 0
HasEntry Q None = ⊥
HasEntry Q (Some e) = Q e

has_weaker : (Q R : Entry → Type 0) (o : Option Entry) → ((e : Entry) → Q e → R e) → HasEntry Q o → HasEntry R o
has_weaker Q R None f h = h
has_weaker Q R (Some e) f h = f e h

-- a scalar, or a constant that was one
abbrev pub IsOfScalar : Kind → Type 0
IsOfScalar kind.Scalar = Unit {0}
IsOfScalar (kind.Constant z) = Unit {0}
IsOfScalar (kind.Array k d) = ⊥
IsOfScalar (kind.Decomp k d) = ⊥

abbrev pub IsScalarEntry : List ℕ → Entry → Type 0
IsScalarEntry n e = IsOfScalar e.kind

abbrev pub IsOfArray : Kind → Type 0
IsOfArray kind.Scalar = ⊥
IsOfArray (kind.Constant z) = ⊥
IsOfArray (kind.Array k d) = Unit {0}
IsOfArray (kind.Decomp k d) = ⊥

-- an array, that one of these declarations makes on the entry's line
abbrev pub IsArrayEntry : List DeclTree → List ℕ → Entry → Type 0
IsArrayEntry xs n e = IsOfArray e.kind × (is_made_on xs e.line n ≡ true)

-- a decomposition, or an array that is aligned with one
abbrev pub IsOfDecomp : List (Option Alignment) → Kind → Type 0
IsOfDecomp gs kind.Scalar = ⊥
IsOfDecomp gs (kind.Constant z) = ⊥
IsOfDecomp gs (kind.Array k d) = is_aligned_at (slice_get gs k) ≡ true
IsOfDecomp gs (kind.Decomp k d) = Unit {0}

abbrev pub IsDecompEntry : List (Option Alignment) → List ℕ → Entry → Type 0
IsDecompEntry gs n e = IsOfDecomp gs e.kind

-- a plain name with an entry of this sort
abbrev pub IsNamedAs : (List ℕ → Entry → Type 0) → Declared → List ℕ → Type 0
IsNamedAs Q d n = IsPlain n × HasEntry (Q n) (find_name d n)

-- names that differ, each with an entry of this sort
pub record AreApart (Q : List ℕ → Entry → Type 0) (d : Declared) (ns : List (List ℕ)) : Type 0 where
  pub apart : AllPairs (λ (m n : List ℕ). m ≢ n) ns
  pub each : All (IsNamedAs Q d) ns

kept : (Q R : List ℕ → Entry → Type 0) (d c : Declared) (ns : List (List ℕ)) → ((n : List ℕ) → HasEntry (Q n) (find_name d n) → HasEntry (R n) (find_name c n)) → AreApart Q d ns → AreApart R c ns
kept Q R d c ns f h = record { apart = h.apart; each = All-weaker (IsNamedAs Q d) (IsNamedAs R c) (λ n k. (k.0, f n k.1)) ns h.each }

one_more : (Q : List ℕ → Entry → Type 0) (d : Declared) (ns : List (List ℕ)) (n : List ℕ) → AreApart Q d ns → All (λ (m : List ℕ). m ≢ n) ns → IsNamedAs Q d n → AreApart Q d (ns ++ n ∷ [])
one_more Q d ns n h others own = record { apart = all_pairs_push (λ (a b : List ℕ). a ≢ b) ns n h.apart others; each = All-push (IsNamedAs Q d) ns n h.each own }

-- ---- one entry more

put_entry : (Q : Entry → Type 0) (d : Declared) (m n : List ℕ) (e : Entry) → (n ≡ m → Q e) → HasEntry Q (find_name d n) → HasEntry Q (find_name (with_entry d m e) n)
put_entry Q d m n e own h = subst (HasEntry Q) (sym (entry_found d m n e)) (by (bytes_eq n m) refl)
  where
    by : (b : Bool) → bytes_eq n m ≡ b → HasEntry Q (cond b (Some e) (find_name d n))
    by true q = own (same_name n m q)
    by false q = h

not_unknown : (Q : Entry → Type 0) (d : Declared) (m n : List ℕ) → find_name d m ≡ None → HasEntry Q (find_name d n) → n ≡ m → ⊥
not_unknown Q d m n f h same = subst (HasEntry Q) (ap (find_name d) same ∙ f) h

-- a name without an entry is none of those that have one
others : (Q : List ℕ → Entry → Type 0) (d : Declared) (ns : List (List ℕ)) (n : List ℕ) → find_name d n ≡ None → AreApart Q d ns → All (λ (m : List ℕ). m ≢ n) ns
others Q d ns n f h = All-weaker (IsNamedAs Q d) (λ (m : List ℕ). m ≢ n) (λ m k. not_unknown (Q m) d n m f k.1) ns h.each

new_keeps : (Q : Entry → Type 0) (d : Declared) (m n : List ℕ) (e : Entry) → find_name d m ≡ None → HasEntry Q (find_name d n) → HasEntry Q (find_name (with_new d m e) n)
new_keeps Q d m n e f h = by (is_some (find_name d m))
  where
    by : (b : Bool) → HasEntry Q (find_name (cond b d (with_entry d m e)) n)
    by true = h
    by false = put_entry Q d m n e (λ same. absurd (not_unknown Q d m n f h same)) h

new_made : (Q : Entry → Type 0) (d : Declared) (m : List ℕ) (e : Entry) → find_name d m ≡ None → Q e → HasEntry Q (find_name (with_new d m e) m)
new_made Q d m e f q =
    let here : HasEntry Q (cond (bytes_eq m m) (Some e) (find_name d m)) = subst (λ (b : Bool). HasEntry Q (cond b (Some e) (find_name d m))) (sym (same_bytes m)) q in
    let put : HasEntry Q (find_name (with_entry d m e) m) = subst (HasEntry Q) (sym (entry_found d m m e)) here in
    subst (λ (o : Option Entry). HasEntry Q (find_name (cond (is_some o) d (with_entry d m e)) m)) (sym f) put

-- where a scalar becomes a constant
abbrev Turns : (Entry → Type 0) → Entry → Type 0
Turns Q e = (old : Entry) → Q old → old.kind ≡ kind.Scalar → Q e

over_keeps : (Q : Entry → Type 0) (d : Declared) (m n : List ℕ) (e : Entry) (k : Kind) (old : Entry) → find_name d m ≡ Some old → old.kind ≡ k → Turns Q e → HasEntry Q (find_name d n) → HasEntry Q (find_name (constant_over k d m e) n)
over_keeps Q d m n e kind.Scalar old f q turns h = put_entry Q d m n e (λ same. turns old (subst (HasEntry Q) (ap (find_name d) same ∙ f) h) q) h
over_keeps Q d m n e (kind.Constant z) old f q turns h = h
over_keeps Q d m n e (kind.Array k a) old f q turns h = h
over_keeps Q d m n e (kind.Decomp k a) old f q turns h = h

value_keeps : (Q : Entry → Type 0) (d : Declared) (m n : List ℕ) (e : Entry) (o : Option Entry) → find_name d m ≡ o → Turns Q e → HasEntry Q (find_name d n) → HasEntry Q (find_name (with_value o d m e) n)
value_keeps Q d m n e None f turns h = put_entry Q d m n e (λ same. absurd (not_unknown Q d m n f h same)) h
value_keeps Q d m n e (Some old) f turns h = over_keeps Q d m n e old.kind old f refl turns h

-- ---- what a use tells of the entry

kind_back : Use → Kind
kind_back (as_name.Array k d) = kind.Array k d
kind_back as_name.Scalar = kind.Scalar
kind_back (as_name.Constant z) = kind.Scalar
kind_back (as_name.Decomp k d) = kind.Scalar
kind_back as_name.Unknown = kind.Scalar

kind_is : (q : Kind) (k a : ℕ) → use_of_kind q ≡ as_name.Array k a → q ≡ kind.Array k a
unfolding kind_back
kind_is kind.Scalar k a e = absurd cc
kind_is (kind.Constant z) k a e = absurd cc
kind_is (kind.Array j c) k a e = ap kind_back e
kind_is (kind.Decomp j c) k a e = absurd cc

implied_not : (b : Bool) (k a : ℕ) → cond b as_name.Scalar as_name.Unknown ≡ as_name.Array k a → ⊥
implied_not true k a e = absurd cc
implied_not false k a e = absurd cc

entry_is : (b : Bool) (x : Entry) (n : List ℕ) (k a : ℕ) → cond b (use_of_kind x.kind) (implied n) ≡ as_name.Array k a → x.kind ≡ kind.Array k a
entry_is true x n k a e = kind_is x.kind k a e
entry_is false x n k a e = absurd (implied_not (is_implicit n) k a e)

used_by : (b : Bool) (o : Option Entry) (l : Line) (n : List ℕ) (k a : ℕ) → cond b as_name.Unknown (use_of_entry o l n) ≡ as_name.Array k a → HasEntry (λ x. x.kind ≡ kind.Array k a) o
used_by true o l n k a e = absurd cc
used_by false None l n k a e = absurd (implied_not (is_implicit n) k a e)
used_by false (Some x) l n k a e = entry_is (nat_lt x.line.0 l.0) x n k a e

used_array : (d : Declared) (l : Line) (n : List ℕ) (k a : ℕ) → use_of d l n ≡ as_name.Array k a → HasEntry (λ x. x.kind ≡ kind.Array k a) (find_name d n)
unfolding use_of
used_array d l n k a e = used_by (is_made d.made l n) (find_name d n) l n k a e

-- ---- alignments are added alone

abbrev Gains : List (Option Alignment) → List (Option Alignment) → Type 0
Gains gs hs = (k : ℕ) → is_aligned_at (slice_get gs k) ≡ true → is_aligned_at (slice_get hs k) ≡ true

gained : (gs hs : List (Option Alignment)) → Gains gs hs → (q : Kind) → IsOfDecomp gs q → IsOfDecomp hs q
gained gs hs g kind.Scalar h = h
gained gs hs g (kind.Constant z) h = h
gained gs hs g (kind.Array k d) h = g k h
gained gs hs g (kind.Decomp k d) h = h

none_gained : (gs : List (Option Alignment)) → Gains gs (gs ++ None ∷ [])
none_gained [] k h = absurd cc
none_gained (g ∷ gs) zero h = h
none_gained (g ∷ gs) (suc k) h = none_gained gs k h

set_gained : (gs : List (Option Alignment)) (j : ℕ) (g : Alignment) → Gains gs (slice_set gs j (Some g))
set_gained [] j g k h = h
set_gained (x ∷ gs) zero g zero h = refl
set_gained (x ∷ gs) zero g (suc k) h = h
set_gained (x ∷ gs) (suc j) g zero h = h
set_gained (x ∷ gs) (suc j) g (suc k) h = set_gained gs j g k h

all_gained : (d : Declared) (gs hs : List (Option Alignment)) (ns : List (List ℕ)) → Gains gs hs → AreApart (IsDecompEntry gs) d ns → AreApart (IsDecompEntry hs) d ns
all_gained d gs hs ns g h = kept (IsDecompEntry gs) (IsDecompEntry hs) d d ns (λ n k. has_weaker (IsDecompEntry gs n) (IsDecompEntry hs n) (find_name d n) (λ e q. gained gs hs g e.kind q) k) h

-- ---- what is declared

-- the scalars, the arrays and the decompositions have names that differ among their own kind
pub record HaveNames (all : List DeclTree) (s : Seen) (b : Base) : Type 0 where
  pub scalars : AreApart IsScalarEntry b.table s.scalars
  pub arrays : AreApart (IsArrayEntry all) b.table (names b.arrays)
  pub decomps : AreApart (IsDecompEntry b.alignments) b.table (decomp_names b.decomps)

constant_named : (all : List DeclTree) (l : Line) (n : List ℕ) (e : ExprTree) (s : Seen) (b : Base) → decl_causes b (ConstantDecl l n e) s ≡ [] → HaveNames all s b → HaveNames all (see_decl b (ConstantDecl l n e) s) (declare (ConstantDecl l n e) s b)
constant_named all l n e s b ok h =
    let c = declare (ConstantDecl l n e) s b in
    let value = value_causes (constant_of (meant b.table l e s)) in
    let made : Entry = record { line = l; kind = kind.Constant (unwrap_or (constant_of (meant b.table l e s)) (pos 0)) } in
    let same = constant_unnamed b.table l e s (no_right (causes b.table l e) value (no_right (constant_causes (find_name b.table n) n) (causes b.table l e ++ value) ok)) in
    let scalars = kept IsScalarEntry IsScalarEntry b.table c.table s.scalars (λ m k. value_keeps (IsScalarEntry m) b.table n m made (find_name b.table n) refl (λ old q t. tt) k) h.scalars in
    record {
      scalars = subst (AreApart IsScalarEntry c.table) (sym same) scalars;
      arrays = kept (IsArrayEntry all) (IsArrayEntry all) b.table c.table (names b.arrays) (λ m k. value_keeps (IsArrayEntry all m) b.table n m made (find_name b.table n) refl (λ old q t. absurd (subst IsOfArray t q.0)) k) h.arrays;
      decomps = kept (IsDecompEntry b.alignments) (IsDecompEntry b.alignments) b.table c.table (decomp_names b.decomps) (λ m k. value_keeps (IsDecompEntry b.alignments m) b.table n m made (find_name b.table n) refl (λ old q t. absurd (subst (IsOfDecomp b.alignments) t q)) k) h.decomps;
    }

none_found : (o : Option Entry) → given (is_some o) DeclaredTwice ≡ [] → o ≡ None
none_found None h = refl
none_found (Some e) h = absurd cc

-- a name that is none of those is put last
named_last : (P : List (List ℕ) → Type 0) (ns : List (List ℕ)) (n : List ℕ) → P ns → P (ns ++ n ∷ []) → P (with_name ns n)
unfolding with_name
named_last P ns n h k = elim (list_any (bytes_eq n) ns) as (λ b. P (cond b ns (ns ++ n ∷ []))) [ true ↦ h | false ↦ k ]

scalar_named : (all : List DeclTree) (l : Line) (n : List ℕ) (s : Seen) (b : Base) → IsPlain n → find_name b.table n ≡ None → HaveNames all s b → HaveNames all (see_decl b (IntegerDecl l n []) s) (declare (IntegerDecl l n []) s b)
scalar_named all l n s b plain none h =
    let c = declare (IntegerDecl l n []) s b in
    let e : Entry = record { line = l; kind = kind.Scalar } in
    let scalars = kept IsScalarEntry IsScalarEntry b.table c.table s.scalars (λ m k. new_keeps (IsScalarEntry m) b.table n m e none k) h.scalars in
    let more = one_more IsScalarEntry c.table s.scalars n scalars (others IsScalarEntry b.table s.scalars n none h.scalars) (plain, new_made (IsScalarEntry n) b.table n e none tt) in
    record {
      scalars = named_last (AreApart IsScalarEntry c.table) s.scalars n scalars more;
      arrays = kept (IsArrayEntry all) (IsArrayEntry all) b.table c.table (names b.arrays) (λ m k. new_keeps (IsArrayEntry all m) b.table n m e none k) h.arrays;
      decomps = kept (IsDecompEntry b.alignments) (IsDecompEntry b.alignments) b.table c.table (decomp_names b.decomps) (λ m k. new_keeps (IsDecompEntry b.alignments m) b.table n m e none k) h.decomps;
    }

array_named : (all : List DeclTree) (l : Line) (n : List ℕ) (x : DimTree) (xs : List DimTree) (s : Seen) (b : Base) → IsPlain n → is_made_on all l n ≡ true → find_name b.table n ≡ None → dims_causes b.table l (x ∷ xs) s ≡ [] → HaveNames all s b → HaveNames all (see_decl b (IntegerDecl l n (x ∷ xs)) s) (declare (IntegerDecl l n (x ∷ xs)) s b)
array_named all l n x xs s b plain made none fine h =
    let c = declare (IntegerDecl l n (x ∷ xs)) s b in
    let rs = dims_meant b.table l (x ∷ xs) s in
    let e : Entry = record { line = l; kind = integer_kind rs (length b.arrays) } in
    let scalars = kept IsScalarEntry IsScalarEntry b.table c.table s.scalars (λ m k. new_keeps (IsScalarEntry m) b.table n m e none k) h.scalars in
    let arrays = kept (IsArrayEntry all) (IsArrayEntry all) b.table c.table (names b.arrays) (λ m k. new_keeps (IsArrayEntry all m) b.table n m e none k) h.arrays in
    let more = one_more (IsArrayEntry all) c.table (names b.arrays) n arrays (others (IsArrayEntry all) b.table (names b.arrays) n none h.arrays) (plain, new_made (IsArrayEntry all n) b.table n e none (tt, made)) in
    let decomps = kept (IsDecompEntry b.alignments) (IsDecompEntry b.alignments) b.table c.table (decomp_names b.decomps) (λ m k. new_keeps (IsDecompEntry b.alignments m) b.table n m e none k) h.decomps in
    record {
      scalars = subst (AreApart IsScalarEntry c.table) (sym (dims_unnamed b.table l (x ∷ xs) s fine)) scalars;
      arrays = subst (AreApart (IsArrayEntry all) c.table) (sym (map-append (λ (a : Array). a.name) b.arrays (array_of n rs ∷ []))) more;
      decomps = all_gained c.table b.alignments (b.alignments ++ None ∷ []) (decomp_names b.decomps) (none_gained b.alignments) decomps;
    }

decomp_named : (all : List DeclTree) (l : Line) (n : List ℕ) (xs : List DimTree) (s : Seen) (b : Base) → IsPlain n → find_name b.table n ≡ None → dims_causes b.table l xs s ≡ [] → HaveNames all s b → HaveNames all (see_decl b (DecompDecl l n xs) s) (declare (DecompDecl l n xs) s b)
decomp_named all l n xs s b plain none fine h =
    let c = declare (DecompDecl l n xs) s b in
    let shape = shape_from (dims_meant b.table l xs s) in
    let e : Entry = record { line = l; kind = kind.Decomp (length b.decomps) shape.dims } in
    let scalars = kept IsScalarEntry IsScalarEntry b.table c.table s.scalars (λ m k. new_keeps (IsScalarEntry m) b.table n m e none k) h.scalars in
    let decomps = kept (IsDecompEntry b.alignments) (IsDecompEntry b.alignments) b.table c.table (decomp_names b.decomps) (λ m k. new_keeps (IsDecompEntry b.alignments m) b.table n m e none k) h.decomps in
    let more = one_more (IsDecompEntry b.alignments) c.table (decomp_names b.decomps) n decomps (others (IsDecompEntry b.alignments) b.table (decomp_names b.decomps) n none h.decomps) (plain, new_made (IsDecompEntry b.alignments n) b.table n e none tt) in
    record {
      scalars = subst (AreApart IsScalarEntry c.table) (sym (dims_unnamed b.table l xs s fine)) scalars;
      arrays = kept (IsArrayEntry all) (IsArrayEntry all) b.table c.table (names b.arrays) (λ m k. new_keeps (IsArrayEntry all m) b.table n m e none k) h.arrays;
      decomps = subst (AreApart (IsDecompEntry b.alignments) c.table) (sym (map-append (λ (d : Decomp). d.name) b.decomps (decomp_from n shape ∷ []))) more;
    }

-- ---- ALIGN and DISTRIBUTE

-- no decomposition more, and no alignment less
record Lays (b c : Base) : Type 0 where
  decomps : c.decomps ≡ b.decomps
  gains : Gains b.alignments c.alignments

lays_itself : (b : Base) → Lays b b
lays_itself b = record { decomps = refl; gains = λ k h. h }

over_lays : (o : Option (Option Alignment)) (k : ℕ) (g : Alignment) (b : Base) → Lays b (alignment_over o k g b)
over_lays None k g b = lays_itself b
over_lays (Some None) k g b = record { decomps = refl; gains = set_gained b.alignments k g }
over_lays (Some (Some old)) k g b = lays_itself b

onto_lays : (k : ℕ) (v : Use) (short : Bool) (as_ : List Aim) (b : Base) → Lays b (aligned_onto k v short as_ b)
onto_lays k (as_name.Decomp j d) short as_ b = over_lays (slice_get b.alignments k) k _ b
onto_lays k as_name.Scalar short as_ b = lays_itself b
onto_lays k (as_name.Constant z) short as_ b = lays_itself b
onto_lays k (as_name.Array j d) short as_ b = lays_itself b
onto_lays k as_name.Unknown short as_ b = lays_itself b

align_lays : (u v : Use) (short : Bool) (as_ : List Aim) (b : Base) → Lays b (with_alignment u v short as_ b)
align_lays (as_name.Array k d) v short as_ b = onto_lays k v short as_ b
align_lays as_name.Scalar v short as_ b = lays_itself b
align_lays (as_name.Constant z) v short as_ b = lays_itself b
align_lays (as_name.Decomp j d) v short as_ b = lays_itself b
align_lays as_name.Unknown v short as_ b = lays_itself b

still_named : (all : List DeclTree) (s t : Seen) (b c : Base) → Keeps b c → Lays b c → t.scalars ≡ s.scalars → HaveNames all s b → HaveNames all t c
still_named all s t b c k l e h =
    let decomps = all_gained b.table b.alignments c.alignments (decomp_names b.decomps) l.gains h.decomps in
    record {
      scalars = rw (k.table, e) h.scalars;
      arrays = rw (k.table, k.arrays) h.arrays;
      decomps = rw (k.table, l.decomps) decomps;
    }

align_named : (all : List DeclTree) (l : Line) (n : List ℕ) (dummies : List (List ℕ)) (target : List ℕ) (es : ExprTrees) (s : Seen) (b : Base) → decl_causes b (AlignDecl l n dummies target es) s ≡ [] → HaveNames all s b → HaveNames all (see_decl b (AlignDecl l n dummies target es) s) (declare (AlignDecl l n dummies target es) s b)
align_named all l n dummies target es s b ok h =
    let u = use_of b.table l n in
    let v = use_of b.table l target in
    let as_ = aims_of b.table l dummies es s in
    let aims = aims_causes b.table l dummies es s in
    let place = place_causes u v b (is_short dummies es) dummies as_ in
    let fine = no_left aims place (no_right (onto_causes v) (aims ++ place) (no_right (aligned_causes u (is_aligned b u)) (onto_causes v ++ (aims ++ place)) ok)) in
    still_named all s (see_decl b (AlignDecl l n dummies target es) s) b (declare (AlignDecl l n dummies target es) s b) (align_keeps l n dummies target es s b) (align_lays u v (is_short dummies es) as_ b) (aims_unnamed b.table l dummies es s fine) h

spread_named : (all : List DeclTree) (o : Option Spread) (j : ℕ) (x : Spread) (s : Seen) (b : Base) → HaveNames all s b → HaveNames all s (spread_over o j x b)
spread_named all None j x s b h = h
spread_named all (Some old) j x s b h = elim (is_some old.dist) as (λ q. HaveNames all s (cond q b (record b { spreads = slice_set b.spreads j x }))) [ true ↦ h | false ↦ record { scalars = h.scalars; arrays = h.arrays; decomps = h.decomps } ]

-- an array that isn't aligned has no decomposition of its name
clash : (gs : List (Option Alignment)) (k d : ℕ) (o : Option Entry) → slice_get gs k ≡ Some None → HasEntry (λ x. x.kind ≡ kind.Array k d) o → HasEntry (λ x. IsOfDecomp gs x.kind) o → ⊥
clash gs k d None at h q = h
clash gs k d (Some e) at h q = let aligned : is_aligned_at (slice_get gs k) ≡ true = subst (IsOfDecomp gs) h q in false≢true (sym (ap is_aligned_at at) ∙ aligned)

own_named : (all : List DeclTree) (n : List ℕ) (k d : ℕ) (x : Spread) (s : Seen) (b : Base) → IsPlain n → HasEntry (λ e. e.kind ≡ kind.Array k d) (find_name b.table n) → slice_get b.alignments k ≡ Some None → HaveNames all s b → HaveNames all s (own_decomp n k x b)
own_named all n k d x s b plain found at h =
    let gs = b.alignments in
    let shape = array_shape (slice_get b.arrays k) in
    let g = alignment_onto (length b.decomps) shape shape (identity_aims shape.dims) in
    let hs = slice_set gs k (Some g) in
    let aligned : is_aligned_at (slice_get hs k) ≡ true = ap is_aligned_at (set_here gs k (Some g) None at) in
    let decomps = all_gained b.table gs hs (decomp_names b.decomps) (set_gained gs k g) h.decomps in
    let Differs : List ℕ → Type 0 = λ m. m ≢ n in
    let apart : All Differs (decomp_names b.decomps) = All-weaker (IsNamedAs (IsDecompEntry gs) b.table) Differs (λ m q same. clash gs k d (find_name b.table n) at found (subst (λ (i : List ℕ). HasEntry (λ e. IsOfDecomp gs e.kind) (find_name b.table i)) same q.1)) (decomp_names b.decomps) h.decomps.each in
    let own = has_weaker (λ e. e.kind ≡ kind.Array k d) (IsDecompEntry hs n) (find_name b.table n) (λ e q. subst (IsOfDecomp hs) (sym q) aligned) found in
    let more = one_more (IsDecompEntry hs) b.table (decomp_names b.decomps) n decomps apart (plain, own) in
    let c : Base = record (with_own n k x b) { alignments = hs } in
    let made : HaveNames all s c = record { scalars = h.scalars; arrays = h.arrays; decomps = subst (AreApart (IsDecompEntry hs) b.table) (sym (map-append (λ (y : Decomp). y.name) b.decomps (decomp_from n shape ∷ []))) more } in
    subst (λ (o : Option (Option Alignment)). HaveNames all s (alignment_over o k g (with_own n k x b))) (sym at) made

-- an array of the program that isn't aligned yet
unaligned : (gs : List (Option Alignment)) (xs : List Array) (k : ℕ) (a : Array) → length gs ≡ length xs → slice_get xs k ≡ Some a → is_aligned_at (slice_get gs k) ≡ false → slice_get gs k ≡ Some None
unaligned [] [] k a e h q = absurd cc
unaligned [] (x ∷ xs) k a e h q = absurd (omega (arith, e))
unaligned (g ∷ gs) [] k a e h q = absurd cc
unaligned (None ∷ gs) (x ∷ xs) zero a e h q = refl
unaligned (Some g ∷ gs) (x ∷ xs) zero a e h q = absurd cc
unaligned (g ∷ gs) (x ∷ xs) (suc k) a e h q = unaligned gs xs k a (omega (arith, e)) h q

distributed_named : (all : List DeclTree) (l : Line) (n : List ℕ) (x : Spread) (s : Seen) (b : Base) (u : Use) → use_of b.table l n ≡ u → IsPlain n → KnownUse b.arrays n u → length b.alignments ≡ length b.arrays → HaveNames all s b → HaveNames all s (with_spread u n x b)
distributed_named all l n x s b (as_name.Decomp j d) e plain known counts h = spread_named all (slice_get b.spreads j) j x s b h
distributed_named all l n x s b (as_name.Array k d) e plain known counts h = by (is_aligned_at (slice_get b.alignments k)) refl
  where
    by : (q : Bool) → is_aligned_at (slice_get b.alignments k) ≡ q → HaveNames all s (cond q b (own_decomp n k x b))
    by true q = h
    by false q = own_named all n k d x s b plain (used_array b.table l n k d e) (unaligned b.alignments b.arrays k known.array counts known.place q) h
distributed_named all l n x s b as_name.Scalar e plain known counts h = h
distributed_named all l n x s b (as_name.Constant z) e plain known counts h = h
distributed_named all l n x s b as_name.Unknown e plain known counts h = h

own_same : (u : Use) (aligned : Bool) (s : Seen) → (see_own_decomp u aligned s).scalars ≡ s.scalars
own_same (as_name.Array k d) true s = refl
own_same (as_name.Array k d) false s = refl
own_same (as_name.Decomp k d) aligned s = refl
own_same as_name.Scalar aligned s = refl
own_same (as_name.Constant z) aligned s = refl
own_same as_name.Unknown aligned s = refl

seen_as : (all : List DeclTree) (s t : Seen) (b : Base) → t.scalars ≡ s.scalars → HaveNames all s b → HaveNames all t b
seen_as all s t b e h = record { scalars = rw e h.scalars; arrays = h.arrays; decomps = h.decomps }

-- ---- declarations

-- what some declarations make on a line is made by all of them
abbrev pub AreAmong : List DeclTree → List DeclTree → Type 0
AreAmong xs all = (l : Line) (n : List ℕ) → is_made_on xs l n ≡ true → is_made_on all l n ≡ true

decl_named : (all : List DeclTree) (x : DeclTree) (s : Seen) (b : Base) → IsPlain (name_of x) → AreAmong (x ∷ []) all → IsKnown b.arrays b.table → length b.alignments ≡ length b.arrays → decl_causes b x s ≡ [] → HaveNames all s b → HaveNames all (see_decl b x s) (declare x s b)
decl_named all (ConstantDecl l n e) s b plain among known counts ok h = constant_named all l n e s b ok h
decl_named all (IntegerDecl l n []) s b plain among known counts ok h =
    let twice = given (is_some (find_name b.table n)) DeclaredTwice in
    scalar_named all l n s b plain (none_found (find_name b.table n) (no_left twice _ ok)) h
decl_named all (IntegerDecl l n (x ∷ xs)) s b plain among known counts ok h =
    let twice = given (is_some (find_name b.table n)) DeclaredTwice in
    let long = given (nat_lt 2 (length (x ∷ xs))) WrongShape in
    let dims = dims_causes b.table l (x ∷ xs) s in
    let made = or_left (bytes_eq n n && nat_eq l.0 l.0) false (and_from (bytes_eq n n) (nat_eq l.0 l.0) (same_bytes n) (eq-eqb l.0 l.0 refl)) in
    array_named all l n x xs s b plain (among l n made) (none_found (find_name b.table n) (no_left twice (long ++ dims) ok)) (no_right long dims (no_right twice (long ++ dims) ok)) h
decl_named all (DecompDecl l n xs) s b plain among known counts ok h =
    let twice = given (is_some (find_name b.table n)) DeclaredTwice in
    let long = given (not (decomp_dims (length xs))) WrongShape in
    let dims = dims_causes b.table l xs s in
    decomp_named all l n xs s b plain (none_found (find_name b.table n) (no_left twice (long ++ dims) ok)) (no_right long dims (no_right twice (long ++ dims) ok)) h
decl_named all (AlignDecl l n dummies target es) s b plain among known counts ok h = align_named all l n dummies target es s b ok h
decl_named all (DistributeDecl l n xs) s b plain among known counts ok h =
    let u = use_of b.table l n in
    let r = see_attrs b.table l xs s in
    let attrs = attrs_meant b.table l xs s in
    let c = with_spread u n (spread_from attrs) b in
    let fine = no_left (attrs_causes b.table l xs s) (spread_causes u (is_aligned b u) (is_spread b u) attrs) ok in
    seen_as all s (see_own_decomp u (is_aligned b u) r) c (own_same u (is_aligned b u) r ∙ attrs_unnamed b.table l xs s fine)
    (distributed_named all l n (spread_from attrs) s b u refl plain (used b.arrays b.table l n known) counts h)

made_first : (p q : Bool) → (p || false) ≡ true → (p || q) ≡ true
made_first true q h = refl
made_first false q h = absurd cc

first_among : (x : DeclTree) (xs all : List DeclTree) → AreAmong (x ∷ xs) all → AreAmong (x ∷ []) all
first_among x xs all h = λ l n k. h l n (made_first _ (is_made_on xs l n) k)

rest_among : (x : DeclTree) (xs all : List DeclTree) → AreAmong (x ∷ xs) all → AreAmong xs all
rest_among x xs all h = λ l n k. h l n (or_right _ (is_made_on xs l n) k)

pub decls_named : (all xs : List DeclTree) (s : Seen) (b : Base) → All (λ (x : DeclTree). IsPlain (name_of x)) xs → AreAmong xs all → IsKnown b.arrays b.table → AreCounted s b → decls_refusals xs s b ≡ [] → HaveNames all s b → HaveNames all (see_decls xs s b) (declare_all xs s b)
decls_named all [] s b plain among known counted ok h = h
decls_named all (x ∷ xs) s b plain among known counted ok h =
    let IsFine : DeclTree → Type 0 = λ y. IsPlain (name_of y) in
    let t = see_decl b x s in
    let c = declare x s b in
    let rest = decls_refusals xs t c in
    let own = clean (line_of x) (decl_causes b x s ++ limit_causes x s b) (no_left (decl_refusals x s b) rest ok) in
    let one = decl_named all x s b (All-head IsFine x xs plain) (first_among x xs all among) known counted.alignments (no_left (decl_causes b x s) (limit_causes x s b) own) h in
    decls_named all xs t c (All-tail IsFine x xs plain) (rest_among x xs all among) (declared x s b known (no_right (decl_causes b x s) (limit_causes x s b) own)) (decl_counted x s b counted) (no_right (decl_refusals x s b) rest ok) one
