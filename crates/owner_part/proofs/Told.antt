-- Lists of places that grow, and what they tell.
use Rattle.std.proofs.Common.{◌≡◌, ◌≢◌, ◌⊎◌, ℕ, zero, suc, ◌+◌, ◌<◌, ◌≤◌, ◌==◌, Bool, true, false, ℤ, pos, List, [], ◌∷◌, ◌++◌, All, Option, Some, None, inl, inr, length, slice_get, option_map, option_and_then, option_to_list, unwrap_or, refl, sym, ap, subst, ◌∙◌, arith, eq-eqb, ne_eqb, cond}
use Rattle.std.specs.Prelude.{IfSome}
use Rattle.std.proofs.lemmas.Bool.{cases_eq, cases_lt}
use Rattle.std.proofs.lemmas.List.Elements.{All-append}
use Rattle.std.proofs.lemmas.List.FromFn.{get_or-map-range_with_len}
use Rattle.std.proofs.lemmas.Option.{slice_get_cases, slice_get_past}
use Rattle.fd_base.specs.declared.shapes.Along.TheVariants.{Dim}
use Rattle.fd_base.specs.Places as places
use Rattle.fd_prog.specs.declared.program.Array as program
use Rattle.fd_prog.specs.declared.statement.Remapped.TheVariants.{Map}
use Rattle.fd_prog.specs.Programs.{CheckedProgram}
use Rattle.fd_prog.specs.Placing.{line_of_positions}
use Rattle.fd_prog.specs.Mappings as mappings
use Rattle.fd_prog.specs.Mappings.{Mapping, extent_along, given_among, given_place, installed, is_aligned_with, redistributed, redistributed_array, redistributed_decomp}
use Rattle.owner_part.specs.declared.place.Place.{Place}
use Rattle.owner_part.specs.declared.place.Placed.{Placed}
use Rattle.owner_part.specs.declared.place.Placed.TheVariants.{Array, Decomp}
use Rattle.owner_part.specs.Placed.{IsSplitBelow, is_same, place_of, place_told}
use Rattle.owner_part.specs.Installed.{IsInstalled, IsUpdated, TellsNewPlaces, new_decomp_place, new_place, new_place_at, place_by_map}

-- ---- one pair more, or none

-- what a list tells first, and what more pairs tell where it tells nothing
abbrev first_told : Option places.Place → Option places.Place → Option places.Place
first_told (Some place) later = Some place
first_told None later = later

chosen : (b : Bool) (place : places.Place) (rest all later : Option places.Place) → all ≡ first_told rest later → cond b (Some place) all ≡ first_told (cond b (Some place) rest) later
chosen true place rest all later e = refl
chosen false place rest all later e = e

told_append : (pairs more : List (Placed × Place)) (name : Placed) → place_told (pairs ++ more) name ≡ first_told (place_told pairs name) (place_told more name)
told_append [] more name = refl
told_append (pair ∷ pairs) more name = chosen (is_same pair.0 name) (place_of pair.1) (place_told pairs name) (place_told (pairs ++ more) name) (place_told more name) (told_append pairs more name)

-- the pairs of a name with the place that there may be
abbrev pub one_pair : Placed → Option Place → List (Placed × Place)
one_pair name found = option_to_list (option_map (λ place. (name, place)) found)

either_none : (b : Bool) (o : Option places.Place) → o ≡ None → o ≡ cond b o None
either_none true o e = refl
either_none false o e = e

one_told : (name other : Placed) (found : Option Place) → place_told (one_pair name found) other ≡ cond (is_same name other) (option_map place_of found) None
one_told name other None = either_none (is_same name other) None refl
one_told name other (Some place) = refl

-- ---- the arrays so far

-- a list tells the new places of the dimension and of the first so many arrays, and those alone
pub record TellsFirst (p : CheckedProgram) (decomp : ℕ) (values : List ℤ) (ranks count : ℕ) (told : List (Placed × Place)) : Type 0 where
  pub arrays : (array : ℕ) → array < count → place_told told (Array array) ≡ new_place_at p decomp values ranks array
  pub later : (array : ℕ) → count ≤ array → place_told told (Array array) ≡ None
  pub decomps : (number : ℕ) → place_told told (Decomp number) ≡ new_decomp_place p decomp values ranks number
  pub ranks_below : All (λ pair. IsSplitBelow ranks (place_of pair.1)) told

-- the places that there may be are split over the ranks
each_below : (ranks : ℕ) (name : Placed) (found : Option Place) → IfSome found (λ place. IsSplitBelow ranks (place_of place)) → All (λ pair. IsSplitBelow ranks (place_of pair.1)) (one_pair name found)
each_below ranks name None h = λ k d l. absurd (omega (arith, l))
each_below ranks name (Some place) h = one_is ranks (name, place) h
  where
    one_is : (ranks : ℕ) (pair : Placed × Place) → IsSplitBelow ranks (place_of pair.1) → All (λ (x : Placed × Place). IsSplitBelow ranks (place_of x.1)) (pair ∷ [])
    one_is ranks pair h zero d l = h
    one_is ranks pair h (suc k) d l = absurd (omega (arith, l))

-- the first place is that of the dimension
pub none_yet : (p : CheckedProgram) (decomp : ℕ) (values : List ℤ) (ranks : ℕ) (place : Place) → place_of place ≡ place_by_map values ranks (line_of_positions (extent_along p decomp)) (Dim 0 (pos 0))
    → IsSplitBelow ranks (place_of place) → TellsFirst p decomp values ranks 0 ([] ++ (Decomp decomp, place) ∷ [])
none_yet p decomp values ranks place e h = record {
  arrays = λ array l. absurd (omega (arith, l));
  later = λ array l. refl;
  decomps = λ number. by number (cases_eq number decomp);
  ranks_below = each_below ranks (Decomp decomp) (Some place) h;
}
  where
    by : (number : ℕ) → (number ≡ decomp) ⊎ (number ≢ decomp) → place_told ((Decomp decomp, place) ∷ []) (Decomp number) ≡ new_decomp_place p decomp values ranks number
    by number (inl same) = rw (eq-eqb number decomp same) (rw (eq-eqb decomp number (sym same)) (ap Some e))
    by number (inr other) = rw (ne_eqb number decomp other) (rw (ne_eqb decomp number (λ d. other (sym d))) refl)

-- the next array's place
pub one_more : (p : CheckedProgram) (decomp : ℕ) (values : List ℤ) (ranks count : ℕ) (told : List (Placed × Place)) (a : program.Array) (found : Option Place) → TellsFirst p decomp values ranks count told
    → slice_get p.arrays count ≡ Some a → option_map place_of found ≡ new_place decomp values ranks a → IfSome found (λ place. IsSplitBelow ranks (place_of place))
    → TellsFirst p decomp values ranks (count + 1) (told ++ one_pair (Array count) found)
one_more p decomp values ranks count told a found before at e h = record {
  arrays = λ array l. by array l (cases_eq array count);
  later = λ array l.
      told_append told (one_pair (Array count) found) (Array array)
      ∙ (ap (λ o. first_told o (place_told (one_pair (Array count) found) (Array array))) (before.later array (omega (arith, l)))
      ∙ (one_told (Array count) (Array array) found ∙ ap (λ b. cond b (option_map place_of found) None) (ne_eqb count array (omega (arith, l)))));
  decomps = λ number. told_append told (one_pair (Array count) found) (Decomp number) ∙ (ap (first_told (place_told told (Decomp number))) (one_told (Array count) (Decomp number) found) ∙ (only (place_told told (Decomp number)) ∙ before.decomps number));
  ranks_below = All-append (λ pair. IsSplitBelow ranks (place_of pair.1)) told (one_pair (Array count) found) before.ranks_below (each_below ranks (Array count) found h);
}
  where
    only : (o : Option places.Place) → first_told o None ≡ o
    only None = refl
    only (Some place) = refl

    by : (array : ℕ) → array < count + 1 → (array ≡ count) ⊎ (array ≢ count) → place_told (told ++ one_pair (Array count) found) (Array array) ≡ new_place_at p decomp values ranks array
    by array l (inl same) =
        told_append told (one_pair (Array count) found) (Array array)
        ∙ (ap (λ o. first_told o (place_told (one_pair (Array count) found) (Array array))) (before.later array (omega (arith, same)))
        ∙ (one_told (Array count) (Array array) found ∙ (ap (λ b. cond b (option_map place_of found) None) (eq-eqb count array (sym same))
        ∙ (e ∙ sym (ap (option_and_then (new_place decomp values ranks)) (ap (slice_get p.arrays) same ∙ at))))))
    by array l (inr other) =
        told_append told (one_pair (Array count) found) (Array array)
        ∙ (ap (first_told (place_told told (Array array))) (one_told (Array count) (Array array) found ∙ ap (λ b. cond b (option_map place_of found) None) (ne_eqb count array (λ d. other (sym d))))
        ∙ (only (place_told told (Array array)) ∙ before.arrays array (omega (arith, l, other))))

-- behind the last array these are all
pub all_told : (p : CheckedProgram) (decomp : ℕ) (values : List ℤ) (ranks : ℕ) (told : List (Placed × Place)) → TellsFirst p decomp values ranks (length p.arrays) told → TellsNewPlaces p decomp values ranks told
all_told p decomp values ranks told all = record {
  arrays = λ array. by array (cases_lt array (length p.arrays));
  decomps = all.decomps;
}
  where
    by : (array : ℕ) → (array < length p.arrays) ⊎ (length p.arrays ≤ array) → place_told told (Array array) ≡ new_place_at p decomp values ranks array
    by array (inl l) = all.arrays array l
    by array (inr h) = all.later array h ∙ sym (ap (option_and_then (new_place decomp values ranks)) (slice_get_past p.arrays array h))

-- ---- mappings

-- so are the mapping's places behind the DISTRIBUTE
pub installed_by : (p : CheckedProgram) (decomp : ℕ) (values : List ℤ) (ranks : ℕ) (told : List (Placed × Place)) → TellsNewPlaces p decomp values ranks told → IsInstalled p decomp values ranks told
installed_by p decomp values ranks told tells number array_of_map s m given e =
    let next = redistributed p s ranks decomp (Map array_of_map) m in
    let same : installed p ranks decomp number s m ≡ next = ap (λ o. unwrap_or (option_map (λ given. redistributed p s ranks decomp given m) o) m) given in
    subst (IsUpdated p told m) (sym same) (record {
      arrays = λ array l. of_array array l ∙ sym (ap (λ o. unwrap_or o (mappings.array_place m array)) (tells.arrays array));
      decomps = λ decomp l. of_decomp decomp l ∙ sym (ap (λ o. unwrap_or o (mappings.decomp_place m decomp)) (tells.decomps decomp));
    })
  where
    next : Mapping
    next = redistributed p s ranks decomp (Map array_of_map) m

    choose : (b : Bool) (place old : places.Place) → cond b place old ≡ unwrap_or (cond b (Some place) None) old
    choose true place old = refl
    choose false place old = refl

    here : (a : program.Array) (old : places.Place) → redistributed_array p s ranks decomp (Map array_of_map) old a ≡ unwrap_or (new_place decomp values ranks a) old
    here a old =
        ap (λ vs. cond (is_aligned_with decomp a.decomp) (place_by_map vs ranks a.shape a.along) old) e
        ∙ choose (is_aligned_with decomp a.decomp) (place_by_map values ranks a.shape a.along) old

    at : (old : places.Place) (o : Option program.Array) → ((o ≡ None) → ⊥) → unwrap_or (option_map (redistributed_array p s ranks decomp (Map array_of_map) old) o) places.Whole ≡ unwrap_or (option_and_then (new_place decomp values ranks) o) old
    at old None n = absurd (n refl)
    at old (Some a) n = here a old

    there : (array : ℕ) → array < length p.arrays → (slice_get p.arrays array ≡ None) → ⊥
    there array l n =
        elim ((slice_get_cases p.arrays array).1) [
          | inl w ↦ cc
          | inr past ↦ omega (arith, l, past.0)
        ]

    of_array : (array : ℕ) → array < length p.arrays → mappings.array_place next array ≡ unwrap_or (new_place_at p decomp values ranks array) (mappings.array_place m array)
    of_array array l =
        get_or-map-range_with_len (λ k. unwrap_or (option_map (redistributed_array p s ranks decomp (Map array_of_map) (mappings.array_place m k)) (slice_get p.arrays k)) places.Whole) 0 (length p.arrays) array array places.Whole l (omega arith)
        ∙ at (mappings.array_place m array) (slice_get p.arrays array) (there array l)

    of_decomp : (other : ℕ) → other < length p.decomps → mappings.decomp_place next other ≡ unwrap_or (new_decomp_place p decomp values ranks other) (mappings.decomp_place m other)
    of_decomp other l =
        get_or-map-range_with_len (λ k. redistributed_decomp p s ranks decomp (Map array_of_map) (mappings.decomp_place m k) k) 0 (length p.decomps) other other places.Whole l (omega arith)
        ∙ (ap (λ vs. cond (other == decomp) (place_by_map vs ranks (line_of_positions (extent_along p decomp)) (Dim 0 (pos 0))) (mappings.decomp_place m other)) e
        ∙ choose (other == decomp) (place_by_map values ranks (line_of_positions (extent_along p decomp)) (Dim 0 (pos 0))) (mappings.decomp_place m other))
