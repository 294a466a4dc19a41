-- The arrays of a program without refusals lie inside their decompositions, and each decomposition is distributed regularly where it is at all.
use Rattle.std.proofs.Common.{◌≡◌, ℕ, zero, suc, ◌+◌, ◌^◌, ◌<◌, ◌≤◌, ℤ, pos, negsuc, ◌+ℤ◌, ◌-ℤ◌, Bool, true, false, cond, not, ◌&&◌, List, [], ◌∷◌, ◌++◌, refl, sym, ap, ◌∙◌, subst, Option, None, Some, is_some, option_map, unwrap_or, unsigned_abs, slice_get, slice_set, get_or, length, arith, nat_eq, nat_le, nat_lt}
use Rattle.std.proofs.lemmas.Bool.{eqb-true}
use Rattle.std.proofs.lemmas.Bool.Decides.{nat_tests}
use Rattle.std.proofs.lemmas.Float.{T_from_true}
use Rattle.std.proofs.lemmas.List.{length-append}
use Rattle.std.proofs.lemmas.List.Elements.{All-nil, All-cons, All-head, All-tail}
use Rattle.std.specs.Prelude.{int_le, int_lt}
use Rattle.std.specs.List.{All}
use Rattle.std.specs.Option.{IfSome}
use lib.Signed.{◌≤ℤ◌, le_z_yes}
use Rattle.fd_base.specs.Numbers.{fits_i64}
use Rattle.fd_base.specs.Places.{IsAligned, IsRegular}
use Rattle.fd_base.specs.Shapes.{IsShape, extent_of}
use Rattle.fd_base.specs.declared.numbering.Line.{Line}
use Rattle.fd_base.specs.declared.shapes.Along.{Along}
use Rattle.fd_base.specs.declared.shapes.Along.TheVariants.{Fixed}
use Rattle.fd_base.specs.declared.shapes.Dist.{Dist}
use Rattle.fd_base.specs.declared.shapes.Dist.TheVariants.{Block, Cyclic, BlockCyclic, Irregular, Later}
use Rattle.fd_base.specs.declared.shapes.Shape.{Shape}
use Rattle.fd_ast.specs.Tree.{AttrTree, WholeAttr, BlockAttr, CyclicAttr, BlockCyclicAttr, MapAttr, DimTree, DeclTree, ConstantDecl, IntegerDecl, DecompDecl, AlignDecl, DistributeDecl, ProgramTree}
use Rattle.fd_prog.specs.Mapped.{IsBounded, HasAttribute, IsDecomp, IsInside, LiesInside, IsMappedArray, IsMapped}
use Rattle.fd_prog.specs.Programs.{CheckedProgram}
use Rattle.fd_prog.specs.declared.program.Array.{Array}
use Rattle.fd_prog.specs.declared.program.Decomp.{Decomp}
use Rattle.fd_names.specs.Alignments.{aims_of, inside_by, is_inside, along_by, along_at, shift_at, two_alongs, identity_aims, is_short}
use Rattle.fd_names.specs.Checked.{nothing_seen, base_of, refusals_of, meaning_of}
use Rattle.fd_names.specs.Constants.{constant_of}
use Rattle.fd_names.specs.Declarations.{alignment_onto, alignment_over, aligned_onto, all_aims, array_of, array_shape, decl_causes, decl_refusals, declare, declare_all, decls_refusals, decomp_dims, decomp_from, decomp_shape, dim_causes, dims_causes, dims_meant, extent_from, finished_array, finished_arrays, finished_decomp, finished_decomps, is_aligned, is_aligned_at, is_bound, is_spread, limit_causes, line_of, no_range, nothing_declared, own_decomp, range_causes, range_of, see_decl, see_decomp, see_dim, see_dims, see_own_decomp, shape_from, spread_dim, spread_over, unspread, with_alignment, with_decomp, with_integer, with_spread}
use Rattle.fd_names.specs.Distributions.{attr_meant, attrs_causes, attrs_meant, block_meant, count_causes, dealt, dims_of_use, or_block, see_attr, see_attrs, spread_causes, spread_from, subject_causes}
use Rattle.fd_names.specs.Expressions.{causes, meant, see}
use Rattle.fd_names.specs.First.{given}
use Rattle.fd_names.specs.Names.{Declared, find_name, use_of}
use Rattle.fd_names.specs.Standing.{IsArrayAt}
use Rattle.fd_names.specs.Statements.{name_limit}
use Rattle.fd_names.specs.declared.alignments.Aim.{Aim}
use Rattle.fd_names.specs.declared.book.Seen.{Seen}
use Rattle.fd_names.specs.declared.declarations.Alignment.{Alignment}
use Rattle.fd_names.specs.declared.declarations.Base.{Base}
use Rattle.fd_names.specs.declared.declarations.Size.{Size}
use Rattle.fd_names.specs.declared.declarations.Spread.{Spread}
use Rattle.fd_names.specs.declared.declarations.Subscripts.{Subscripts}
use Rattle.fd_names.specs.declared.names.Use.{Use}
use Rattle.fd_names.specs.declared.names.Use.TheVariants as as_name
use Rattle.fd_names.specs.declared.refusal.Cause.TheVariants.{BadBounds, DeclaredTwice, DistributeBad, WrongShape}
use Rattle.fd_names.proofs.Decomposed.{UseIn, TableIn, used_in, put_new_in, put_value_in, more_in}
use Rattle.fd_names.proofs.DecompsCounted.{AreCounted, attrs_same, decl_counted, dims_same}
use Rattle.fd_names.proofs.Known.{KnownUse, IsKnown, declared, used, still, at_end}
use Rattle.fd_names.proofs.Parts.{parted}
use Rattle.fd_names.proofs.ProgramSound.{HasShape, program_sound}
use Rattle.fd_names.proofs.Sound.{no_left, no_right, is_fine}
use Rattle.fd_names.proofs.StatementsSound.{clean}
use Rattle.fd_names.proofs.Totalled.{AreAlone, all_alone}
use Rattle.fd_names.proofs.Within.{within}

-- ---- bounds

-- a dimension's bounds are within limits
pub record InBounds (r : Subscripts) : Type 0 where
  pub low : unsigned_abs r.low ≤ 2 ^ 31
  pub least : 1 ≤ r.extent
  pub most : r.extent ≤ 262144

at_most : (a b : ℕ) → nat_le a b ≡ true → a ≤ b
at_most a b h = grind (arith, nat_tests)

below : (a b : ℕ) → nat_lt a b ≡ true → a < b
below a b h = grind (arith, nat_tests)

and_first : (a b : Bool) → (a && b) ≡ true → a ≡ true
and_first true b h = refl
and_first false b h = absurd cc

and_second : (a b : Bool) → (a && b) ≡ true → b ≡ true
and_second true b h = h
and_second false b h = absurd cc

bound_is : (x : ℤ) → is_bound x ≡ true → unsigned_abs x ≤ 2 ^ 31
bound_is (pos n) h = at_most n (2 ^ 31) h
bound_is (negsuc n) h = let k : n < 2 ^ 31 = below n (2 ^ 31) h in omega arith

abbrev subscripts : ℤ → ℕ → Subscripts
subscripts low n = record { low = low; extent = n }

extent_by : (low : ℤ) (n : ℕ) (b : Bool) → (nat_le 1 n && nat_le n 262144) ≡ b → unsigned_abs low ≤ 2 ^ 31 → given (not (is_some (option_map (subscripts low) (cond b (Some n) None)))) BadBounds ≡ [] → InBounds (unwrap_or (option_map (subscripts low) (cond b (Some n) None)) no_range)
extent_by low n true e h ok = record { low = h; least = at_most 1 n (and_first (nat_le 1 n) (nat_le n 262144) e); most = at_most n 262144 (and_second (nat_le 1 n) (nat_le n 262144) e) }
extent_by low n false e h ok = absurd cc

extent_is : (low z : ℤ) → unsigned_abs low ≤ 2 ^ 31 → given (not (is_some (option_map (subscripts low) (extent_from z)))) BadBounds ≡ [] → InBounds (unwrap_or (option_map (subscripts low) (extent_from z)) no_range)
extent_is low (pos n) h ok = extent_by low n (nat_le 1 n && nat_le n 262144) refl h ok
extent_is low (negsuc n) h ok = absurd cc

between_by : (low z : ℤ) (b : Bool) → (b ≡ true → unsigned_abs low ≤ 2 ^ 31) → given (not (is_some (cond b (option_map (subscripts low) (extent_from z)) None))) BadBounds ≡ [] → InBounds (unwrap_or (cond b (option_map (subscripts low) (extent_from z)) None) no_range)
between_by low z true h ok = extent_is low z (h refl) ok
between_by low z false h ok = absurd cc

ranged : (a b : Option ℤ) → range_causes a b ≡ [] → InBounds (unwrap_or (range_of a b) no_range)
ranged None b ok = absurd cc
ranged (Some x) None ok = absurd cc
ranged (Some x) (Some y) ok = between_by x (y -ℤ x +ℤ pos 1) (is_bound x && is_bound y) (λ e. bound_is x (and_first (is_bound x) (is_bound y) e)) ok

abbrev Each : {X : Type 0} → (X → Type 0) → List X → Type 0
Each P [] = Unit {0}
Each P (x ∷ xs) = P x × Each P xs

dims_bounded : (d : Declared) (l : Line) (xs : List DimTree) (s : Seen) → dims_causes d l xs s ≡ [] → Each InBounds (dims_meant d l xs s)
dims_bounded d l [] s ok = tt
dims_bounded d l (x ∷ xs) s ok =
    let own = no_left (dim_causes d l x s) (dims_causes d l xs (see_dim d l x s)) ok in
    let low = constant_of (meant d l x.low s) in
    let high = constant_of (meant d l x.high (see d l x.low s)) in (
      ranged low high (no_right (causes d l x.high) (range_causes low high) (no_right (causes d l x.low) (causes d l x.high ++ range_causes low high) own)),
      dims_bounded d l xs (see_dim d l x s) (no_right (dim_causes d l x s) (dims_causes d l xs (see_dim d l x s)) ok),
    )

dims_length : (d : Declared) (l : Line) (xs : List DimTree) (s : Seen) → length (dims_meant d l xs s) ≡ length xs
dims_length d l [] s = refl
dims_length d l (x ∷ xs) s = ap suc (dims_length d l xs (see_dim d l x s))

-- one or two dimensions, each within the limits
pub record IsMeasured (shape : Shape) : Type 0 where
  pub dims : (1 ≤ shape.dims) × (shape.dims ≤ 2)
  pub first : IsBounded shape 0
  pub second : IsBounded shape 1

one_low : unsigned_abs (pos 0) ≤ 2 ^ 31
one_low = omega arith

one_least : 1 ≤ 1
one_least = omega arith

one_most : 1 ≤ 262144
one_most = omega arith

one_two : (1 ≤ 1) × (1 ≤ 2)
one_two = (omega arith, omega arith)

two_two : (1 ≤ 2) × (2 ≤ 2)
two_two = (omega arith, omega arith)

shape_measured : (r : Subscripts) (rs : List Subscripts) → Each InBounds (r ∷ rs) → IsMeasured (shape_from (r ∷ rs))
shape_measured r [] h = record { dims = one_two; first = record { low = h.0.low; least = h.0.least; most = h.0.most }; second = record { low = one_low; least = one_least; most = one_most } }
shape_measured r (q ∷ rs) h = record { dims = two_two; first = record { low = h.0.low; least = h.0.least; most = h.0.most }; second = record { low = h.1.0.low; least = h.1.0.least; most = h.1.0.most } }

shape_with : (rs : List Subscripts) → Each InBounds rs → 1 ≤ length rs → IsMeasured (shape_from rs)
shape_with [] h some = absurd (omega (arith, some))
shape_with (r ∷ rs) h some = shape_measured r rs h

-- ---- alignments

five : (a b c d e : Bool) → (a && b && c && d && e) ≡ true → (a ≡ true) × (d ≡ true) × (e ≡ true)
five true true true true true h = (refl, refl, refl)
five true true true true false h = absurd cc
five true true true false e h = absurd cc
five true true false d e h = absurd cc
five true false c d e h = absurd cc
five false b c d e h = absurd cc

no_more : (a b : ℤ) → int_le a b ≡ true → a ≤ℤ b
no_more a b h = le_z_yes (T_from_true (int_le a b) h)

inside_is : (o : Option ℕ) (shape : Shape) (extent : ℕ) (shift : ℤ) → inside_by o shape extent shift ≡ true → IsAligned shape (along_by o shift) extent
inside_is None shape extent (pos n) h = below n extent (and_second (int_le (pos 0) (pos n)) (int_lt (pos n) (pos extent)) h)
inside_is None shape extent (negsuc n) h = absurd cc
inside_is (Some k) shape extent shift h =
    let f = five (nat_lt k shape.dims) (nat_lt k 2) (fits_i64 shift) _ _ h in
    (below k shape.dims f.0, no_more _ _ f.1, no_more _ _ f.2)

-- an array stands where its aim puts it, if that is inside, and otherwise at the first position
aligned_by : (shape onto : Shape) (t : ℕ) (a : Aim) (b : Bool) → is_inside shape onto t a ≡ b → 1 ≤ extent_of onto t → IsAligned shape (cond b (along_by a.dim (shift_at onto t a)) (Fixed 0)) (extent_of onto t)
aligned_by shape onto t a true e some = inside_is a.dim shape (extent_of onto t) (shift_at onto t a) e
aligned_by shape onto t a false e some = omega arith

aligned_at : (shape onto : Shape) (t : ℕ) (a : Aim) → 1 ≤ extent_of onto t → IsAligned shape (along_at shape onto t a) (extent_of onto t)
aligned_at shape onto t a some = aligned_by shape onto t a (is_inside shape onto t a) refl some

at_first : (n : ℕ) → 1 ≤ n → 0 < n
at_first n h = omega arith

-- in each dimension of its decomposition
pub record IsPlaced (shape onto : Shape) (along : List Along) : Type 0 where
  pub first : IsAligned shape (get_or along 0 (Fixed 0)) (extent_of onto 0)
  pub second : IsAligned shape (get_or along 1 (Fixed 0)) (extent_of onto 1)

two_placed : (shape onto : Shape) (as_ : List Aim) → IsMeasured onto → IsPlaced shape onto (two_alongs shape onto as_)
two_placed shape onto [] m = record { first = at_first (extent_of onto 0) m.first.least; second = at_first (extent_of onto 1) m.second.least }
two_placed shape onto (a ∷ []) m = record { first = aligned_at shape onto 0 a m.first.least; second = at_first (extent_of onto 1) m.second.least }
two_placed shape onto (a ∷ (b ∷ as_)) m = record { first = aligned_at shape onto 0 a m.first.least; second = aligned_at shape onto 1 b m.second.least }

-- an alignment names a decomposition that there is
pub record IsOnto (ds : List Decomp) (shape : Shape) (g : Alignment) : Type 0 where
  pub decomp : Decomp
  pub place : slice_get ds g.decomp ≡ Some decomp
  pub placed : IsPlaced shape decomp.shape g.along

abbrev HasAlignment : List Decomp → Shape → Option Alignment → Type 0
HasAlignment ds shape None = Unit {0}
HasAlignment ds shape (Some g) = IsOnto ds shape g

-- arrays beside their alignments
abbrev AreAligned : List Decomp → List Array → List (Option Alignment) → Type 0
AreAligned ds [] [] = Unit {0}
AreAligned ds [] (g ∷ gs) = ⊥
AreAligned ds (a ∷ xs) [] = ⊥
AreAligned ds (a ∷ xs) (g ∷ gs) = IsMeasured a.shape × HasAlignment ds a.shape g × AreAligned ds xs gs

abbrev IsSpread : Option Dist → Type 0
IsSpread None = Unit {0}
IsSpread (Some dist) = IsRegular dist

-- decompositions beside their distributed dimensions
abbrev AreSpread : List Decomp → List Spread → Type 0
AreSpread [] [] = Unit {0}
AreSpread [] (y ∷ ys) = ⊥
AreSpread (x ∷ xs) [] = ⊥
AreSpread (x ∷ xs) (y ∷ ys) = IsMeasured x.shape × (y.dim < x.shape.dims) × IsSpread y.dist × AreSpread xs ys

record IsLaid (b : Base) : Type 0 where
  aligned : AreAligned b.decomps b.arrays b.alignments
  spread : AreSpread b.decomps b.spreads
  table : TableIn b.decomps b.table

more_onto : (ds : List Decomp) (x : Decomp) (shape : Shape) (g : Option Alignment) → HasAlignment ds shape g → HasAlignment (ds ++ x ∷ []) shape g
more_onto ds x shape None h = tt
more_onto ds x shape (Some g) h = record { decomp = h.decomp; place = still ds (x ∷ []) g.decomp h.decomp h.place; placed = h.placed }

more_aligned : (ds : List Decomp) (x : Decomp) (xs : List Array) (gs : List (Option Alignment)) → AreAligned ds xs gs → AreAligned (ds ++ x ∷ []) xs gs
more_aligned ds x [] [] h = tt
more_aligned ds x [] (g ∷ gs) h = absurd h
more_aligned ds x (a ∷ xs) [] h = absurd h
more_aligned ds x (a ∷ xs) (g ∷ gs) h = (h.0, more_onto ds x a.shape g h.1, more_aligned ds x xs gs h.2)

one_aligned : (ds : List Decomp) (xs : List Array) (gs : List (Option Alignment)) (a : Array) → AreAligned ds xs gs → IsMeasured a.shape → AreAligned ds (xs ++ a ∷ []) (gs ++ None ∷ [])
one_aligned ds [] [] a h m = (m, tt, tt)
one_aligned ds [] (g ∷ gs) a h m = absurd h
one_aligned ds (b ∷ xs) [] a h m = absurd h
one_aligned ds (b ∷ xs) (g ∷ gs) a h m = (h.0, h.1, one_aligned ds xs gs a h.2 m)

one_spread : (xs : List Decomp) (ys : List Spread) (x : Decomp) (y : Spread) → AreSpread xs ys → IsMeasured x.shape → y.dim < x.shape.dims → IsSpread y.dist → AreSpread (xs ++ x ∷ []) (ys ++ y ∷ [])
one_spread [] [] x y h m less is = (m, less, is, tt)
one_spread [] (z ∷ ys) x y h m less is = absurd h
one_spread (w ∷ xs) [] x y h m less is = absurd h
one_spread (w ∷ xs) (z ∷ ys) x y h m less is = (h.0, h.1, h.2, one_spread xs ys x y h.3 m less is)

measured_at : (ds : List Decomp) (ys : List Spread) (j : ℕ) (x : Decomp) → AreSpread ds ys → slice_get ds j ≡ Some x → IsMeasured x.shape
measured_at [] ys j x h e = absurd cc
measured_at (w ∷ ds) [] j x h e = absurd h
measured_at (w ∷ ds) (y ∷ ys) zero x h e = let same : w ≡ x = cc in subst (λ (d : Decomp). IsMeasured d.shape) same h.0
measured_at (w ∷ ds) (y ∷ ys) (suc j) x h e = measured_at ds ys j x h.3 e

array_measured : (ds : List Decomp) (xs : List Array) (gs : List (Option Alignment)) (k : ℕ) (a : Array) → AreAligned ds xs gs → slice_get xs k ≡ Some a → IsMeasured a.shape
array_measured ds [] gs k a h e = absurd cc
array_measured ds (w ∷ xs) [] k a h e = absurd h
array_measured ds (w ∷ xs) (g ∷ gs) zero a h e = let same : w ≡ a = cc in subst (λ (d : Array). IsMeasured d.shape) same h.0
array_measured ds (w ∷ xs) (g ∷ gs) (suc k) a h e = array_measured ds xs gs k a h.2 e

set_aligned : (ds : List Decomp) (xs : List Array) (gs : List (Option Alignment)) (k : ℕ) (a : Array) (g : Alignment) → AreAligned ds xs gs → slice_get xs k ≡ Some a → IsOnto ds a.shape g → AreAligned ds xs (slice_set gs k (Some g))
set_aligned ds [] gs k a g h e i = absurd cc
set_aligned ds (w ∷ xs) [] k a g h e i = absurd h
set_aligned ds (w ∷ xs) (q ∷ gs) zero a g h e i = let same : w ≡ a = cc in (h.0, subst (λ (d : Array). IsOnto ds d.shape g) (sym same) i, h.2)
set_aligned ds (w ∷ xs) (q ∷ gs) (suc k) a g h e i = (h.0, h.1, set_aligned ds xs gs k a g h.2 e i)

set_spread : (ds : List Decomp) (ys : List Spread) (j : ℕ) (x : Decomp) (y : Spread) → AreSpread ds ys → slice_get ds j ≡ Some x → y.dim < x.shape.dims → IsSpread y.dist → AreSpread ds (slice_set ys j y)
set_spread [] ys j x y h e less is = absurd cc
set_spread (w ∷ ds) [] j x y h e less is = absurd h
set_spread (w ∷ ds) (z ∷ ys) zero x y h e less is = let same : w ≡ x = cc in (h.0, subst (λ (d : Decomp). y.dim < d.shape.dims) (sym same) less, is, h.3)
set_spread (w ∷ ds) (z ∷ ys) (suc j) x y h e less is = (h.0, h.1, h.2, set_spread ds ys j x y h.3 e less is)

-- ---- ALIGN

over_laid : (o : Option (Option Alignment)) (k : ℕ) (a : Array) (g : Alignment) (b : Base) → IsLaid b → slice_get b.arrays k ≡ Some a → IsOnto b.decomps a.shape g → IsLaid (alignment_over o k g b)
over_laid None k a g b h e i = h
over_laid (Some None) k a g b h e i = record { aligned = set_aligned b.decomps b.arrays b.alignments k a g h.aligned e i; spread = h.spread; table = h.table }
over_laid (Some (Some old)) k a g b h e i = h

-- whatever its aims are
alignment_is : (b : Base) (k j : ℕ) (a : Array) (x : Decomp) (as_ : List Aim) → IsLaid b → slice_get b.arrays k ≡ Some a → slice_get b.decomps j ≡ Some x → IsOnto b.decomps a.shape (alignment_onto j (array_shape (slice_get b.arrays k)) (decomp_shape (slice_get b.decomps j)) as_)
alignment_is b k j a x as_ h e f = rw (e, f) (record { decomp = x; place = f; placed = two_placed a.shape x.shape as_ (measured_at b.decomps b.spreads j x h.spread f) })

onto_laid : (n : List ℕ) (k d : ℕ) (v : Use) (short : Bool) (as_ : List Aim) (b : Base) → IsLaid b → IsArrayAt b.arrays k n d → UseIn b.decomps v → IsLaid (aligned_onto k v short as_ b)
onto_laid n k d (as_name.Decomp j m) short as_ b h i u =
    over_laid (slice_get b.alignments k) k i.array _ b h i.place (alignment_is b k j i.array u.decomp (all_aims short (array_shape (slice_get b.arrays k)) as_) h i.place u.place)
onto_laid n k d as_name.Scalar short as_ b h i u = h
onto_laid n k d (as_name.Constant z) short as_ b h i u = h
onto_laid n k d (as_name.Array j m) short as_ b h i u = h
onto_laid n k d as_name.Unknown short as_ b h i u = h

aligned_laid : (n : List ℕ) (w v : Use) (short : Bool) (as_ : List Aim) (b : Base) → IsLaid b → KnownUse b.arrays n w → UseIn b.decomps v → IsLaid (with_alignment w v short as_ b)
aligned_laid n (as_name.Array k d) v short as_ b h i u = onto_laid n k d v short as_ b h i u
aligned_laid n as_name.Scalar v short as_ b h i u = h
aligned_laid n (as_name.Constant z) v short as_ b h i u = h
aligned_laid n (as_name.Decomp j d) v short as_ b h i u = h
aligned_laid n as_name.Unknown v short as_ b h i u = h

-- ---- DISTRIBUTE

size_by : (n : ℕ) (b : Bool) → (nat_le 1 n && nat_le n 262144) ≡ b → IsRegular (or_block (cond b (Some (BlockCyclic n)) None))
size_by n true e = at_first n (at_most 1 n (and_first (nat_le 1 n) (nat_le n 262144) e))
size_by n false e = tt

block_regular : (v : Option ℤ) → IsRegular (block_meant v)
block_regular None = tt
block_regular (Some (pos n)) = size_by n (nat_le 1 n && nat_le n 262144) refl
block_regular (Some (negsuc n)) = tt

attr_regular : (d : Declared) (l : Line) (x : AttrTree) (s : Seen) → IsSpread (attr_meant d l x s)
attr_regular d l WholeAttr s = tt
attr_regular d l BlockAttr s = tt
attr_regular d l CyclicAttr s = tt
attr_regular d l (BlockCyclicAttr e) s = block_regular (constant_of (meant d l e s))
attr_regular d l (MapAttr n) s = tt

attrs_regular : (d : Declared) (l : Line) (xs : List AttrTree) (s : Seen) → Each IsSpread (attrs_meant d l xs s)
attrs_regular d l [] s = tt
attrs_regular d l (x ∷ xs) s = (attr_regular d l x s, attrs_regular d l xs (see_attr d l x s))

spread_regular : (xs : List (Option Dist)) → Each IsSpread xs → IsSpread (spread_from xs).dist
spread_regular [] h = tt
spread_regular (Some x ∷ xs) h = h.0
spread_regular (None ∷ []) h = tt
spread_regular (None ∷ (Some x ∷ xs)) h = h.1.0
spread_regular (None ∷ (None ∷ xs)) h = tt

spread_dim_is : (xs : List (Option Dist)) (d : ℕ) → dealt xs ≡ 1 → length xs ≡ d → (spread_from xs).dim < d
spread_dim_is [] d one e = absurd (omega (arith, one))
spread_dim_is (Some x ∷ xs) d one e = omega (arith, e)
spread_dim_is (None ∷ []) d one e = absurd (omega (arith, one))
spread_dim_is (None ∷ (Some x ∷ xs)) d one e = omega (arith, e)
spread_dim_is (None ∷ (None ∷ xs)) d one e = omega (arith, e)

spread_over_laid : (o : Option Spread) (j : ℕ) (x : Decomp) (y : Spread) (b : Base) → IsLaid b → slice_get b.decomps j ≡ Some x → y.dim < x.shape.dims → IsSpread y.dist → IsLaid (spread_over o j y b)
spread_over_laid None j x y b h e less is = h
spread_over_laid (Some old) j x y b h e less is = elim (is_some old.dist) as (λ q. IsLaid (cond q b (record b { spreads = slice_set b.spreads j y }))) [ true ↦ h | false ↦ record { aligned = h.aligned; spread = set_spread b.decomps b.spreads j x y h.spread e less is; table = h.table } ]

own_laid : (n : List ℕ) (k d : ℕ) (m : List ℕ) (y : Spread) (b : Base) → IsLaid b → IsArrayAt b.arrays k m d → y.dim < d → IsSpread y.dist → length (b.decomps ++ decomp_from n (array_shape (slice_get b.arrays k)) ∷ []) ≤ 16384 → IsLaid (own_decomp n k y b)
own_laid n k d m y b h i less is few =
    let shape = array_shape (slice_get b.arrays k) in
    let x = decomp_from n shape in
    let ds = b.decomps ++ x ∷ [] in
    let same : shape ≡ i.array.shape = ap array_shape i.place in
    let measured : IsMeasured shape = subst IsMeasured (sym same) (array_measured b.decomps b.arrays b.alignments k i.array h.aligned i.place) in
    let room : y.dim < shape.dims = subst (λ (q : Shape). y.dim < q.dims) (sym same) (subst (λ (q : ℕ). y.dim < q) (sym i.shape) less) in
    let c = record b { decomps = ds; spreads = b.spreads ++ y ∷ [] } in
    let laid : IsLaid c = record { aligned = more_aligned b.decomps x b.arrays b.alignments h.aligned; spread = one_spread b.decomps b.spreads x y h.spread measured room is; table = more_in b.decomps x b.table h.table } in
    let place : slice_get ds (length b.decomps) ≡ Some x = at_end b.decomps x in
    over_laid (slice_get b.alignments k) k i.array (alignment_onto (length b.decomps) shape shape (identity_aims shape.dims)) c laid i.place
    (record { decomp = x; place = place; placed = subst (λ (q : Shape). IsPlaced q shape (two_alongs shape shape (identity_aims shape.dims))) same (two_placed shape shape (identity_aims shape.dims) measured) })

own_by : (n : List ℕ) (k d : ℕ) (m : List ℕ) (y : Spread) (b : Base) (q : Bool) → IsLaid b → IsArrayAt b.arrays k m d → y.dim < d → IsSpread y.dist → (q ≡ false → length (b.decomps ++ decomp_from n (array_shape (slice_get b.arrays k)) ∷ []) ≤ 16384) → IsLaid (cond q b (own_decomp n k y b))
own_by n k d m y b true h i less is few = h
own_by n k d m y b false h i less is few = own_laid n k d m y b h i less is (few refl)

spread_laid : (n : List ℕ) (u : Use) (y : Spread) (b : Base) → IsLaid b → KnownUse b.arrays n u → UseIn b.decomps u → ((d : ℕ) → dims_of_use u ≡ Some d → y.dim < d) → IsSpread y.dist → ((k d : ℕ) → u ≡ as_name.Array k d → is_aligned_at (slice_get b.alignments k) ≡ false → length (b.decomps ++ decomp_from n (array_shape (slice_get b.arrays k)) ∷ []) ≤ 16384) → IsLaid (with_spread u n y b)
spread_laid n (as_name.Decomp j d) y b h i v less is few = spread_over_laid (slice_get b.spreads j) j v.decomp y b h v.place (subst (λ (q : ℕ). y.dim < q) (sym v.shape) (less d refl)) is
spread_laid n (as_name.Array k d) y b h i v less is few = own_by n k d n y b (is_aligned_at (slice_get b.alignments k)) h i (less d refl) is (few k d refl)
spread_laid n as_name.Scalar y b h i v less is few = h
spread_laid n (as_name.Constant z) y b h i v less is few = h
spread_laid n as_name.Unknown y b h i v less is few = h

as_many : (o : Option ℕ) (n : ℕ) → count_causes o n ≡ [] → (d : ℕ) → o ≡ Some d → n ≡ d
as_many None n ok d e = absurd cc
as_many (Some m) n ok d e = let same : m ≡ d = cc in eqb-true n m (is_fine (nat_eq n m) DistributeBad ok) ∙ same

own_room : (b : Base) (x : Decomp) (m k : ℕ) → m + (k + 1) ≤ 16384 → k ≡ length b.decomps → length (b.decomps ++ x ∷ []) ≤ 16384
own_room b x m k h e = let f = length-append b.decomps (x ∷ []) in omega arith

own_few : (u : Use) (q : Bool) (k d : ℕ) (s : Seen) (b : Base) (x : Decomp) → u ≡ as_name.Array k d → name_limit (see_own_decomp u q s) ≡ [] → s.decomps ≡ length b.decomps → q ≡ false → length (b.decomps ++ x ∷ []) ≤ 16384
own_few as_name.Scalar q k d s b x e ok same f = absurd cc
own_few (as_name.Constant z) q k d s b x e ok same f = absurd cc
own_few (as_name.Decomp j m) q k d s b x e ok same f = absurd cc
own_few as_name.Unknown q k d s b x e ok same f = absurd cc
own_few (as_name.Array j m) true k d s b x e ok same f = absurd cc
own_few (as_name.Array j m) false k d s b x e ok same f = own_room b x (length s.scalars) s.decomps (within (see_decomp s) ok) same

-- ---- declarations

integer_laid : (l : Line) (n : List ℕ) (rs : List Subscripts) (b : Base) → IsLaid b → Each InBounds rs → IsLaid (with_integer l n rs b)
integer_laid l n [] b h m = record { aligned = h.aligned; spread = h.spread; table = put_new_in b.decomps b.table n _ h.table tt }
integer_laid l n (r ∷ rs) b h m = record { aligned = one_aligned b.decomps b.arrays b.alignments (array_of n (r ∷ rs)) h.aligned (shape_measured r rs m); spread = h.spread; table = put_new_in b.decomps b.table n _ h.table tt }

decomp_laid : (l : Line) (n : List ℕ) (rs : List Subscripts) (b : Base) → IsLaid b → Each InBounds rs → 1 ≤ length rs → length (b.decomps ++ decomp_from n (shape_from rs) ∷ []) ≤ 16384 → IsLaid (with_decomp l n rs b)
decomp_laid l n rs b h m some few =
    let x = decomp_from n (shape_from rs) in
    let ds = b.decomps ++ x ∷ [] in
    let measured = shape_with rs m some in
    let place : slice_get ds (length b.decomps) ≡ Some x = at_end b.decomps x in
    record {
      aligned = more_aligned b.decomps x b.arrays b.alignments h.aligned;
      spread = one_spread b.decomps b.spreads x unspread h.spread measured (at_first (shape_from rs).dims measured.dims.0) tt;
      table = put_new_in ds b.table n _ (more_in b.decomps x b.table h.table) (record { decomp = x; place = place; shape = refl });
    }

some_dims : (n : ℕ) → decomp_dims n ≡ true → 1 ≤ n
some_dims n h = at_most 1 n (and_first (nat_le 1 n) (nat_le n 2) h)

dims_some : (n m : ℕ) → n ≡ m → 1 ≤ m → 1 ≤ n
dims_some n m e h = omega arith

decl_laid : (x : DeclTree) (s : Seen) (b : Base) → IsLaid b → IsKnown b.arrays b.table → AreCounted s b → decl_causes b x s ≡ [] → limit_causes x s b ≡ [] → IsLaid (declare x s b)
decl_laid (ConstantDecl l n e) s b h known counts ok limits = record { aligned = h.aligned; spread = h.spread; table = put_value_in b.decomps b.table n _ (find_name b.table n) h.table tt }
decl_laid (IntegerDecl l n xs) s b h known counts ok limits =
    let d = b.table in
    integer_laid l n (dims_meant d l xs s) b h (dims_bounded d l xs s (no_right (given (nat_lt 2 (length xs)) WrongShape) (dims_causes d l xs s) (no_right (given (is_some (find_name d n)) DeclaredTwice) (given (nat_lt 2 (length xs)) WrongShape ++ dims_causes d l xs s) ok)))
decl_laid (DecompDecl l n xs) s b h known counts ok limits =
    let d = b.table in
    let wrong = given (not (decomp_dims (length xs))) WrongShape in
    let rest = no_right (given (is_some (find_name d n)) DeclaredTwice) (wrong ++ dims_causes d l xs s) ok in
    let fits = some_dims (length xs) (is_fine (decomp_dims (length xs)) WrongShape (no_left wrong (dims_causes d l xs s) rest)) in
    let r = see_dims d l xs s in
    decomp_laid l n (dims_meant d l xs s) b h (dims_bounded d l xs s (no_right wrong (dims_causes d l xs s) rest)) (dims_some (length (dims_meant d l xs s)) (length xs) (dims_length d l xs s) fits)
    (own_room b (decomp_from n (shape_from (dims_meant d l xs s))) (length r.scalars) r.decomps (within (see_decomp r) limits) (dims_same d l xs s ∙ counts.decomps))
decl_laid (AlignDecl l n dummies target es) s b h known counts ok limits =
    aligned_laid n (use_of b.table l n) (use_of b.table l target) (is_short dummies es) (aims_of b.table l dummies es s) b h (used b.arrays b.table l n known) (used_in b.decomps b.table l target h.table)
decl_laid (DistributeDecl l n xs) s b h known counts ok limits =
    let u = use_of b.table l n in
    let q = is_aligned b u in
    let as_ = attrs_meant b.table l xs s in
    let wrong = no_right (attrs_causes b.table l xs s) (spread_causes u q (is_spread b u) as_) ok in
    let one = given (not (nat_eq (dealt as_) 1)) DistributeBad in
    let before = given (is_spread b u) DistributeBad in
    let count = count_causes (dims_of_use u) (length as_) in
    let rest = no_right (subject_causes u q) (count ++ (one ++ before)) wrong in
    let single = eqb-true (dealt as_) 1 (is_fine (nat_eq (dealt as_) 1) DistributeBad (no_left one before (no_right count (one ++ before) rest))) in
    let r = see_attrs b.table l xs s in
    spread_laid n u (spread_from as_) b h (used b.arrays b.table l n known) (used_in b.decomps b.table l n h.table)
    (λ d e. spread_dim_is as_ d single (as_many (dims_of_use u) (length as_) (no_left count (one ++ before) rest) d e)) (spread_regular as_ (attrs_regular b.table l xs s))
    (λ k d e f. own_few u q k d r b (decomp_from n (array_shape (slice_get b.arrays k))) e limits (attrs_same b.table l xs s ∙ counts.decomps) (ap (is_aligned b) e ∙ f))

all_laid : (xs : List DeclTree) (s : Seen) (b : Base) → IsLaid b → IsKnown b.arrays b.table → AreCounted s b → decls_refusals xs s b ≡ [] → IsLaid (declare_all xs s b)
all_laid [] s b h known counts ok = h
all_laid (x ∷ xs) s b h known counts ok =
    let rest = decls_refusals xs (see_decl b x s) (declare x s b) in
    let own = clean (line_of x) (decl_causes b x s ++ limit_causes x s b) (no_left (decl_refusals x s b) rest ok) in
    let limits = no_right (decl_causes b x s) (limit_causes x s b) own in
    all_laid xs (see_decl b x s) (declare x s b) (decl_laid x s b h known counts (no_left (decl_causes b x s) (limit_causes x s b) own) limits) (declared x s b known limits) (decl_counted x s b counts) (no_right (decl_refusals x s b) rest ok)

-- ---- the program

attribute_is : (o : Option Dist) → IsSpread o → HasAttribute o
attribute_is None h = tt
attribute_is (Some Block) h = tt
attribute_is (Some Cyclic) h = tt
attribute_is (Some (BlockCyclic size)) h = h
attribute_is (Some Irregular) h = absurd h
attribute_is (Some Later) h = absurd h

decomps_are : (ds : List Decomp) (ys : List Spread) → AreSpread ds ys → All IsDecomp (finished_decomps ds ys)
decomps_are [] [] h = All-nil IsDecomp
decomps_are [] (y ∷ ys) h = absurd h
decomps_are (x ∷ ds) [] h = absurd h
decomps_are (x ∷ ds) (y ∷ ys) h = All-cons IsDecomp (finished_decomp x (Some y)) (finished_decomps ds ys) (record { dims = h.0.dims.1; dim = h.1; first = h.0.first; second = h.0.second; attribute = attribute_is y.dist h.2 }) (decomps_are ds ys h.3)

-- where a decomposition is distributed, regularly
abbrev pub IsRegularOne : Decomp → Type 0
IsRegularOne d = IfSome d.dist IsRegular

regular_is : (o : Option Dist) → IsSpread o → IfSome o IsRegular
regular_is None h = tt
regular_is (Some x) h = h

regular_are : (ds : List Decomp) (ys : List Spread) → AreSpread ds ys → All IsRegularOne (finished_decomps ds ys)
regular_are [] [] h = All-nil IsRegularOne
regular_are [] (y ∷ ys) h = absurd h
regular_are (x ∷ ds) [] h = absurd h
regular_are (x ∷ ds) (y ∷ ys) h = All-cons IsRegularOne (finished_decomp x (Some y)) (finished_decomps ds ys) (regular_is y.dist h.2) (regular_are ds ys h.3)

-- a decomposition with its distributed dimension, in the program
record IsFound (ds : List Decomp) (ys : List Spread) (j : ℕ) (x : Decomp) : Type 0 where
  spread : Spread
  at : slice_get ys j ≡ Some spread
  finished : slice_get (finished_decomps ds ys) j ≡ Some (finished_decomp x (Some spread))
  less : spread.dim < x.shape.dims
  few : x.shape.dims ≤ 2

found_at : (ds : List Decomp) (ys : List Spread) (j : ℕ) (x : Decomp) → AreSpread ds ys → slice_get ds j ≡ Some x → IsFound ds ys j x
found_at [] ys j x h e = absurd cc
found_at (w ∷ ds) [] j x h e = absurd h
found_at (w ∷ ds) (y ∷ ys) zero x h e =
    let same : w ≡ x = cc in
    subst (IsFound (w ∷ ds) (y ∷ ys) zero) same (record { spread = y; at = refl; finished = refl; less = h.1; few = h.0.dims.1 })
found_at (w ∷ ds) (y ∷ ys) (suc j) x h e = let f = found_at ds ys j x h.3 e in record { spread = f.spread; at = f.at; finished = f.finished; less = f.less; few = f.few }

dim_placed : (shape onto : Shape) (along : List Along) (t : ℕ) → IsPlaced shape onto along → t < onto.dims → onto.dims ≤ 2 → IsAligned shape (get_or along t (Fixed 0)) (extent_of onto t)
dim_placed shape onto along zero h less few = h.first
dim_placed shape onto along (suc zero) h less few = h.second
dim_placed shape onto along (suc (suc t)) h less few = absurd (omega (arith, less))

array_is : (p : CheckedProgram) (ds : List Decomp) (ys : List Spread) (a : Array) (g : Option Alignment) → p.decomps ≡ finished_decomps ds ys → AreSpread ds ys → IsMeasured a.shape → HasAlignment ds a.shape g → a.decomp ≡ None → IsShape (finished_array ys a g).shape → IsMappedArray p (finished_array ys a g)
array_is p ds ys a None e h m i alone shape = record { shape = shape; first = m.first; second = m.second; inside = subst (IsInside p a) (sym alone) tt }
array_is p ds ys a (Some g) e h m i alone shape =
    let x = i.decomp in
    let w = found_at ds ys g.decomp x h i.place in
    let made = finished_array ys a (Some g) in
    let dim : spread_dim (slice_get ys g.decomp) ≡ w.spread.dim = ap spread_dim w.at in
    let there = dim_placed a.shape x.shape g.along w.spread.dim i.placed w.less w.few in
    let lies : IsAligned a.shape (get_or g.along (spread_dim (slice_get ys g.decomp)) (Fixed 0)) (extent_of x.shape w.spread.dim) = subst (λ (t : ℕ). IsAligned a.shape (get_or g.along t (Fixed 0)) (extent_of x.shape w.spread.dim)) (sym dim) there in
    record { shape = shape; first = m.first; second = m.second; inside = subst (LiesInside made) (sym (ap (λ (q : List Decomp). slice_get q g.decomp) e ∙ w.finished)) lies }

arrays_are : (p : CheckedProgram) (ds : List Decomp) (ys : List Spread) (xs : List Array) (zs : List Size) (gs : List (Option Alignment)) → p.decomps ≡ finished_decomps ds ys → AreSpread ds ys → AreAligned ds xs gs → AreAlone xs zs → All HasShape (finished_arrays ys xs gs) → All (IsMappedArray p) (finished_arrays ys xs gs)
arrays_are p ds ys [] zs gs e h a alone shapes = All-nil (IsMappedArray p)
arrays_are p ds ys (x ∷ xs) zs [] e h a alone shapes = absurd a
arrays_are p ds ys (x ∷ xs) [] (g ∷ gs) e h a alone shapes = absurd alone
arrays_are p ds ys (x ∷ xs) (z ∷ zs) (g ∷ gs) e h a alone shapes =
    let made = finished_array ys x g in
    let rest = finished_arrays ys xs gs in
    All-cons (IsMappedArray p) made rest (array_is p ds ys x g e h a.0 a.1 alone.0 (All-head HasShape made rest shapes)) (arrays_are p ds ys xs zs gs e h a.2 alone.2 (All-tail HasShape made rest shapes))

pub record IsLaidOut (p : CheckedProgram) : Type 0 where
  pub mapped : IsMapped p
  pub regular : All IsRegularOne p.decomps

pub program_mapped : (t : ProgramTree) (end_line : Line) (at : ℕ) → refusals_of t ≡ [] → IsLaidOut (meaning_of t end_line at)
program_mapped t end_line at ok =
    let clean_parts = parted t ok in
    let b = base_of t in
    let p = meaning_of t end_line at in
    let laid = all_laid t.decls nothing_seen (nothing_declared t.decls) (record { aligned = tt; spread = tt; table = tt }) tt (record { decomps = refl; spreads = refl; alignments = refl }) clean_parts.decls in
    record {
      mapped = record {
        arrays = arrays_are p b.decomps b.spreads b.arrays b.sizes b.alignments refl laid.spread laid.aligned (all_alone t.decls nothing_seen (nothing_declared t.decls) tt) (program_sound t end_line at ok).shapes;
        decomps = decomps_are b.decomps b.spreads laid.spread;
      };
      regular = regular_are b.decomps b.spreads laid.spread;
    }
