-- Who executes at the location of a reference owns the element that the reference names.
use Rattle.std.proofs.Common.{◌≡◌, ℕ, ◌+◌, ◌*◌, ◌<◌, ◌≤◌, ℤ, pos, negsuc, ◌+ℤ◌, ◌-ℤ◌, Bool, true, false, cond, nat_lt, List, [], map, get_or, slice_get, Option, Some, None, option_map, option_and_then, Ok, refl, sym, ap, ◌∙◌, subst, arith}
use Rattle.std.specs.Ordering.{nat_cmp, ordering_then, is_eq}
use Rattle.std.specs.declared.cmp.Ordering.{Ordering}
use Rattle.std.specs.declared.cmp.Ordering.TheVariants.{Less, Equal, Greater}
use Rattle.std.proofs.lemmas.Bool.{lt-ltb, ltb-true}
use Rattle.std.proofs.Math.Nat.{mul-le-mul_left}
use Rattle.std.proofs.lemmas.Int.{ints}
use Rattle.std.proofs.lemmas.Option.{get_or_from_slice_get, slice_get_within}
use Rattle.fd_base.specs.declared.shapes.Dist.{Dist}
use Rattle.fd_base.specs.declared.shapes.Shape.{Shape}
use Rattle.fd_base.specs.Places.{IsAligned, is_owner, position_of}
use Rattle.fd_base.specs.Shapes.{column_major, extent_of, low_of, offset_of, ordinal_of, size_of, within}
use Rattle.fd_prog.specs.declared.program.Array.{Array}
use Rattle.fd_prog.specs.declared.program.Decomp.{Decomp}
use Rattle.fd_prog.specs.Outcomes.{and_then}
use Rattle.fd_prog.specs.Programs.{CheckedProgram}
use Rattle.fd_prog.specs.Expressions.{Expressions}
use Rattle.fd_prog.specs.Statements.{ToElement}
use Rattle.fd_prog.specs.Values.{values_of}
use Rattle.fd_prog.specs.Forms.{LinearForms, form_order}
use Rattle.fd_prog.specs.FormOf.{forms_of_expressions}
use Rattle.fd_prog.specs.FormValues.{AreWords, IsOneNumber, form_value, part_values}
use Rattle.fd_prog.specs.Homes.{Distribution, Executor, EveryRank, RankZero, OwnerOf, Location, distribution_of, distribution_over, element_home, location_of, subscript_along, target_home}
use Rattle.fd_prog.specs.Items.{LinearItem, Setting, all_loop_forms, is_local, item_by, item_names, item_of_reference, item_over, item_unless_local, location_order, widened_over}
use Rattle.fd_prog.specs.Mapped.{IsInside, IsMapped, IsMappedArray, LiesInside}
use Rattle.fd_prog.specs.Mappings.{AreConsistent}
use Rattle.fd_prog.specs.Needs.{Sight, executes_at, owns_some, position_at}
use Rattle.fd_prog.proofs.FormOrders.{form_same, nat_same}
use Rattle.fd_prog.proofs.FormValues.{values-kept}
use Rattle.fd_prog.proofs.Locations.{location-value}
use Rattle.fd_prog.proofs.Mappings.{position-lt}
use Rattle.fd_prog.proofs.Runs.{and_then-ok}

-- ---- distributed arrays

-- what the distribution of an array is taken from
record Placed (p : CheckedProgram) (a : Array) (d : Distribution) : Type 0 where
  decomp : Decomp
  aligned : a.decomp ≡ Some d.decomp
  found : slice_get p.decomps d.decomp ≡ Some decomp
  along : d.along ≡ a.along
  low : d.low ≡ low_of decomp.shape decomp.dim

placed : (p : CheckedProgram) (a : Array) (d : Distribution) → distribution_of p a ≡ Some d → Placed p a d
placed p a d e = by_number a.decomp refl e
  where
    made : (number : ℕ) (x : Decomp) (dist : Dist) → Distribution
    made number x dist = record { decomp = number; along = a.along; low = low_of x.shape x.dim; extent = extent_of x.shape x.dim; dist = dist }

    by_dist : (number : ℕ) (x : Decomp) (o : Option Dist) → a.decomp ≡ Some number → slice_get p.decomps number ≡ Some x → option_map (made number x) o ≡ Some d → Placed p a d
    by_dist number x None eo ef h = absurd cc
    by_dist number x (Some dist) eo ef h =
        let same : made number x dist ≡ d = cc in
        let P : Distribution → Type 0 = Placed p a in
        subst P same (record { decomp = x; aligned = eo; found = ef; along = refl; low = refl })

    by_decomp : (number : ℕ) (o : Option Decomp) → slice_get p.decomps number ≡ o → a.decomp ≡ Some number → option_and_then (distribution_over number a.along) o ≡ Some d → Placed p a d
    by_decomp number None ef eo h = absurd cc
    by_decomp number (Some x) ef eo h = by_dist number x x.dist eo ef h

    by_number : (o : Option ℕ) → a.decomp ≡ o → option_and_then (λ number. option_and_then (distribution_over number a.along) (slice_get p.decomps number)) o ≡ Some d → Placed p a d
    by_number None eo h = absurd cc
    by_number (Some number) eo h = by_decomp number (slice_get p.decomps number) refl eo h

-- its elements lie inside the decomposition
inside : (p : CheckedProgram) (array : ℕ) (a : Array) (d : Distribution) (x : Placed p a d) → IsMapped p → slice_get p.arrays array ≡ Some a
    → (a.shape.dims ≤ 2) × IsAligned a.shape a.along (extent_of x.decomp.shape x.decomp.dim)
inside p array a d x mapped ea =
    let P : Array → Type 0 = IsMappedArray p in
    let here = subst P (get_or_from_slice_get p.arrays array a a ea) (mapped.arrays array a (slice_get_within p.arrays array a ea)) in
    let I : Option ℕ → Type 0 = IsInside p a in
    let L : Option Decomp → Type 0 = LiesInside a in
    (here.shape.dims.1, subst L x.found (subst I x.aligned here.inside))

-- ---- positions

back : (position low : ℤ) → position +ℤ low -ℤ low ≡ position
back position low = omega (arith, ints)

within-position : (extent position : ℕ) (low : ℤ) → position < extent → within extent (pos position +ℤ low -ℤ low) ≡ Some position
within-position extent position low h = ap (within extent) (back (pos position) low) ∙ ap (λ b. cond b (Some position) None) (lt-ltb position extent h)

-- an element that there is has a number below the size
pub element-lt : (shape : Shape) (xs : List ℤ) (element : ℕ) → ordinal_of shape xs ≡ Ok element → element < size_of shape
element-lt shape xs element e = by (offset_of shape 0 (get_or xs 0 (pos 0))) (offset_of shape 1 (get_or xs 1 (pos 0))) refl refl e
  where
    small : (bound : ℕ) (z : ℤ) (n : ℕ) → within bound z ≡ Some n → n < bound
    small bound (pos m) n h = at (nat_lt m bound) refl h
      where
        at : (b : Bool) → nat_lt m bound ≡ b → cond b (Some m) None ≡ Some n → n < bound
        at true t k =
            let same : m ≡ n = cc in
            rw (← same) (ltb-true m bound t)
        at false t k = absurd cc
    small bound (negsuc m) n h = absurd cc

    rows : (i j m n : ℕ) → i < m → j < n → i + m * j < m * n
    rows i j m n a b = omega (arith, a, mul-le-mul_left m b)

    by : (i j : Option ℕ) → offset_of shape 0 (get_or xs 0 (pos 0)) ≡ i → offset_of shape 1 (get_or xs 1 (pos 0)) ≡ j → column_major shape i j ≡ Ok element → element < size_of shape
    by (Some i) (Some j) ei ej h =
        let same : i + extent_of shape 0 * j ≡ element = cc in
        rw (← same) (rows i j (extent_of shape 0) (extent_of shape 1) (small (extent_of shape 0) (get_or xs 0 (pos 0) -ℤ low_of shape 0) i ei) (small (extent_of shape 1) (get_or xs 1 (pos 0) -ℤ low_of shape 1) j ej))
    by (Some i) None ei ej h = absurd cc
    by None j ei ej h = absurd cc

-- ---- locations

-- a rank executes at the location of a reference where it owns the element that the reference names
pub executes-owner : (s : Sight) (array : ℕ) (a : Array) (d : Distribution) (vs : List ℤ) (fs : LinearForms) (xs : List ℤ) (element rank : ℕ)
    → IsMapped s.program → AreConsistent s.program s.array_place s.decomp_place → slice_get s.program.arrays array ≡ Some a → distribution_of s.program a ≡ Some d
    → part_values s.readings vs fs ≡ Ok xs → ordinal_of a.shape xs ≡ Ok element
    → executes_at s vs (OwnerOf (location_of d fs)) rank ≡ is_owner (s.array_place array) element rank
executes-owner s array a d vs fs xs element rank mapped consistent ea ed values named =
    ap (λ o. owns_some (s.decomp_place d.decomp) rank (position_at s.program d.decomp o)) at
    ∙ (ap (λ o. owns_some (s.decomp_place d.decomp) rank (option_and_then (λ (y : Decomp). within (extent_of y.shape y.dim) (pos position +ℤ d.low -ℤ low_of y.shape y.dim)) o)) x.found
    ∙ (ap (λ l. owns_some (s.decomp_place d.decomp) rank (within (extent_of x.decomp.shape x.decomp.dim) (pos position +ℤ l -ℤ low_of x.decomp.shape x.decomp.dim))) x.low
    ∙ (ap (owns_some (s.decomp_place d.decomp) rank) (within-position (extent_of x.decomp.shape x.decomp.dim) position (low_of x.decomp.shape x.decomp.dim) below)
    ∙ sym (consistent.owners array d.decomp a x.decomp ea x.aligned x.found element rank small))))
  where
    x : Placed s.program a d
    x = placed s.program a d ed

    lies : (a.shape.dims ≤ 2) × IsAligned a.shape a.along (extent_of x.decomp.shape x.decomp.dim)
    lies = inside s.program array a d x mapped ea

    position : ℕ
    position = position_of a.shape a.along element

    small : element < size_of a.shape
    small = element-lt a.shape xs element named

    below : position < extent_of x.decomp.shape x.decomp.dim
    below = position-lt a.shape a.along (extent_of x.decomp.shape x.decomp.dim) element lies.0 lies.1 small

    at : form_value s.readings vs (subscript_along d.along d.low fs) ≡ Ok (pos position +ℤ d.low)
    at =
        ap (λ along. form_value s.readings vs (subscript_along along d.low fs)) x.along
        ∙ location-value a.shape a.along d.low (extent_of x.decomp.shape x.decomp.dim) s.readings vs fs xs element lies.0 lies.1 values named

-- ---- targets

-- whoever executes an assignment or a READ to an element of a distributed array owns the element
pub target-owner : (s : Sight) (array site : ℕ) (a : Array) (d : Distribution) (subs : Expressions) (home : Executor) (xs : List ℤ) (element rank : ℕ)
    → IsMapped s.program → AreConsistent s.program s.array_place s.decomp_place → AreWords s.readings → IsOneNumber s.readings → slice_get s.program.arrays array ≡ Some a → distribution_of s.program a ≡ Some d
    → target_home s.program [] (ToElement array subs site) ≡ Ok home → values_of s.readings subs ≡ Ok xs → ordinal_of a.shape xs ≡ Ok element
    → executes_at s [] home rank ≡ is_owner (s.array_place array) element rank
target-owner s array site a d subs home xs element rank mapped consistent words one ea ed eh values named =
    let f = and_then-ok (forms_of_expressions [] subs) (λ gs. Ok (OwnerOf (location_of d gs))) home at in
    let same : OwnerOf (location_of d f.0) ≡ home = cc in
    ap (λ h. executes_at s [] h rank) (sym same)
    ∙ executes-owner s array a d [] f.0 xs element rank mapped consistent ea ed (values-kept s.readings [] subs f.0 xs words one f.1 values) named
  where
    at : element_home (Some d) [] subs ≡ Ok home
    at = ap (λ o. element_home o [] subs) (sym (ap (option_and_then (distribution_of s.program)) ea ∙ ed)) ∙ eh

-- also in an iteration over widened variables, which have their present numbers
pub widened-owner : (s : Sight) (array site : ℕ) (a : Array) (d : Distribution) (subs : Expressions) (bound : List ℕ) (home : Executor) (xs : List ℤ) (element rank : ℕ)
    → IsMapped s.program → AreConsistent s.program s.array_place s.decomp_place → AreWords s.readings → IsOneNumber s.readings → slice_get s.program.arrays array ≡ Some a → distribution_of s.program a ≡ Some d
    → target_home s.program bound (ToElement array subs site) ≡ Ok home → values_of s.readings subs ≡ Ok xs → ordinal_of a.shape xs ≡ Ok element
    → executes_at s (map s.readings.scalar bound) home rank ≡ is_owner (s.array_place array) element rank
widened-owner s array site a d subs bound home xs element rank mapped consistent words one ea ed eh values named =
    let f = and_then-ok (forms_of_expressions bound subs) (λ gs. Ok (OwnerOf (location_of d gs))) home at in
    let same : OwnerOf (location_of d f.0) ≡ home = cc in
    ap (λ h. executes_at s (map s.readings.scalar bound) h rank) (sym same)
    ∙ executes-owner s array a d (map s.readings.scalar bound) f.0 xs element rank mapped consistent ea ed (values-kept s.readings bound subs f.0 xs words one f.1 values) named
  where
    at : element_home (Some d) bound subs ≡ Ok home
    at = ap (λ o. element_home o bound subs) (sym (ap (option_and_then (distribution_of s.program)) ea ∙ ed)) ∙ eh

-- ---- references without an item

equal : (o : Ordering) → is_eq o ≡ true → o ≡ Equal
equal Less h = absurd cc
equal Equal h = refl
equal Greater h = absurd cc

both_equal : (o p : Ordering) → ordering_then o p ≡ Equal → (o ≡ Equal) × (p ≡ Equal)
both_equal Less p h = absurd cc
both_equal Equal p h = (refl, h)
both_equal Greater p h = absurd cc

-- the home of a local reference is its location
pub local-home : (d : Distribution) (fs : LinearForms) (home : Executor) → is_local d fs home ≡ true → home ≡ OwnerOf (location_of d fs)
local-home d fs EveryRank h = absurd cc
local-home d fs RankZero h = absurd cc
local-home d fs (OwnerOf l) h =
    let m : Location = location_of d fs in
    let p = both_equal (nat_cmp l.decomp m.decomp) (form_order l.form m.form) (equal (location_order l m) h) in
    ap (λ k. OwnerOf (record { decomp = k; form = l.form })) (nat_same l.decomp m.decomp p.0) ∙ ap (λ f. OwnerOf (record { decomp = m.decomp; form = f })) (form_same l.form m.form p.1)

-- a reference to a distributed array without an item is local
without-item : (p : CheckedProgram) (t : Setting) (array : ℕ) (d : Distribution) (subs : Expressions) (home : Executor) (fs : LinearForms)
    → item_by p t array subs (Some d) ≡ Ok None → t.home [] ≡ Ok home → forms_of_expressions [] subs ≡ Ok fs → is_local d fs home ≡ true
without-item p t array d subs home fs none eh ef = by (is_local d fs home) refl (ap (λ r. and_then r (item_unless_local p t d array subs)) (sym over) ∙ none)
  where
    plain : LinearItem
    plain = record { array = array; subs = fs; loops = []; home = home }

    over : item_over t array subs [] ≡ Ok plain
    over = rw (ef, eh) refl

    by : (b : Bool) → is_local d fs home ≡ b → item_unless_local p t d array subs plain ≡ Ok None → is_local d fs home ≡ true
    by true e h = e
    by false e h =
        let rest : and_then (item_over t array subs (widened_over p t.around (item_names p plain))) (λ x. Ok (Some x)) ≡ Ok None = ap (λ b. cond b (Ok None) (and_then (item_over t array subs (widened_over p t.around (item_names p plain))) (λ x. Ok (Some x)))) (sym e) ∙ h in
        let found = and_then-ok (item_over t array subs (widened_over p t.around (item_names p plain))) (λ x. Ok (Some x)) None rest in
        let clash = found.2 in
        absurd cc

-- every rank that values a reference without an item owns the element that the reference reads
pub local-owner : (s : Sight) (t : Setting) (array : ℕ) (a : Array) (d : Distribution) (subs : Expressions) (home : Executor) (xs : List ℤ) (element rank : ℕ)
    → IsMapped s.program → AreConsistent s.program s.array_place s.decomp_place → AreWords s.readings → IsOneNumber s.readings → slice_get s.program.arrays array ≡ Some a → distribution_of s.program a ≡ Some d
    → item_of_reference s.program t array subs ≡ Ok None → t.home [] ≡ Ok home → values_of s.readings subs ≡ Ok xs → ordinal_of a.shape xs ≡ Ok element
    → executes_at s [] home rank ≡ is_owner (s.array_place array) element rank
local-owner s t array a d subs home xs element rank mapped consistent words one ea ed none eh values named =
    let p = and_then-ok (item_over t array subs []) (item_unless_local s.program t d array subs) None at in
    let f = and_then-ok (forms_of_expressions [] subs) (λ fs. and_then (t.home []) (λ h. and_then (all_loop_forms [] []) (λ ms. Ok (record { array = array; subs = fs; loops = ms; home = h })))) p.0 p.1 in
    ap (λ h. executes_at s [] h rank) (local-home d f.0 home (without-item s.program t array d subs home f.0 at eh f.1))
    ∙ executes-owner s array a d [] f.0 xs element rank mapped consistent ea ed (values-kept s.readings [] subs f.0 xs words one f.1 values) named
  where
    at : item_by s.program t array subs (Some d) ≡ Ok None
    at = ap (item_by s.program t array subs) (sym (ap (option_and_then (distribution_of s.program)) ea ∙ ed)) ∙ none
