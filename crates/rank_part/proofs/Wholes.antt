-- The place of a replicated array is whole in every mapping that a run comes by.
use Rattle.std.proofs.Common.{◌≡◌, ◌≢◌, ℕ, zero, suc, ◌<◌, ◌≤◌, List, [], ◌∷◌, ◌++◌, length, map, get_or, slice_get, Some, None, option_map, option_and_then, unwrap_or, ◌⊎◌, inl, inr, sym, subst, ap, ◌∙◌, arith}
use Rattle.std.specs.List.{range_with_len}
use Rattle.std.proofs.lemmas.List.{get_or_past, length-map}
use Rattle.std.proofs.lemmas.List.FromFn.{length-map-range_with_len}
use Rattle.std.proofs.lemmas.Option.{get_or_from_slice_get, slice_get-map, slice_get_cases}
use Rattle.fd_base.specs.declared.numbering.Line.{Line}
use Rattle.fd_base.specs.Places.{Place, Whole}
use Rattle.fd_prog.specs.declared.program.Array.{Array}
use Rattle.fd_prog.specs.declared.statement.Remapped.{Remapped}
use Rattle.fd_prog.specs.Homes.{Distribution, distribution_at, distribution_of, distribution_over}
use Rattle.fd_prog.specs.Mapped.{IsMapped}
use Rattle.fd_prog.specs.Mappings.{AreConsistent, Mapping, array_place, decomp_place, first_mapping, redistributed, redistributed_array}
use Rattle.fd_prog.specs.Placing.{place_by, place_of_array}
use Rattle.fd_prog.specs.Programs.{CheckedProgram}
use Rattle.fd_prog.specs.Statements.{Statement, Distribute, Statements, Empty, Then}
use Rattle.program_laws.specs.Accepted.{IsAcceptedProgram}
use Rattle.program_laws.specs.Maps.{ArePlacedBehind, IsDistribute, IsPlacedBehind, top_statements}
use Rattle.fd_prog.proofs.Mappings.{first-consistent, redistributed-consistent}
use Rattle.rank_part.specs.Reached.{IsReached, begins, behind}
use Rattle.rank_part.proofs.Given.{left-alone}

-- every DISTRIBUTE of an accepted program is one behind the statements before it
distribute-at : (p : CheckedProgram) (before : List Statement) (ss : Statements) (line : Line) (decomp : ℕ) (given : Remapped) → ArePlacedBehind p before ss → (k : ℕ) → k < length (top_statements ss)
    → get_or (top_statements ss) k (Distribute line decomp given) ≡ Distribute line decomp given → (others : List Statement) × IsDistribute p others decomp given
distribute-at p before Empty line decomp given h k lt e = absurd (omega (arith, lt))
distribute-at p before (Then s ss) line decomp given h zero lt e = let P : Statement → Type 0 = IsPlacedBehind p before in (before, subst P e h.0)
distribute-at p before (Then s ss) line decomp given h (suc k) lt e = distribute-at p (before ++ (s ∷ [])) ss line decomp given h.1 k (omega (arith, lt)) e

-- an array that is aligned with a decomposition with an attribute is distributed
is-distributed : (p : CheckedProgram) (a : Array) (decomp : ℕ) (others : List Statement) (given : Remapped) → IsDistribute p others decomp given → a.decomp ≡ Some decomp → distribution_of p a ≢ None
is-distributed p a decomp others given h e none =
    let over : distribution_of p a ≡ distribution_over decomp a.along h.decomposition =
    ap (option_and_then (λ number. option_and_then (distribution_over number a.along) (slice_get p.decomps number))) e ∙ ap (option_and_then (distribution_over decomp a.along)) h.found in
    let irregular = h.irregular in
    absurd (cc)

-- an array that isn't there is whole
past-range : (f : ℕ → Place) (n k : ℕ) → n ≤ k → get_or (map f (range_with_len 0 n)) k Whole ≡ Whole
past-range f n k h = get_or_past (map f (range_with_len 0 n)) k Whole (omega (arith, length-map-range_with_len f 0 n, h))

pub whole : (p : CheckedProgram) (ranks : ℕ) (m : Mapping) (array : ℕ) → IsAcceptedProgram p → IsReached p ranks m → distribution_at p array ≡ None → array_place m array ≡ Whole
whole p ranks m array accepted begins none = by (slice_get_cases p.arrays array).1
  where
    by : ((a : Array) × (array < length p.arrays) × (slice_get p.arrays array ≡ Some a) × (get_or p.arrays array a ≡ a)) ⊎ ((length p.arrays ≤ array) × (slice_get p.arrays array ≡ None)) → array_place (first_mapping p ranks) array ≡ Whole
    by (inl x) =
        let a = x.0 in
        let no : distribution_of p a ≡ None = sym (ap (option_and_then (distribution_of p)) x.2) ∙ none in
        get_or_from_slice_get (map (place_of_array p ranks) p.arrays) array (place_of_array p ranks a) Whole (slice_get-map (place_of_array p ranks) p.arrays array ∙ ap (option_map (place_of_array p ranks)) x.2)
        ∙ ap (λ o. unwrap_or (option_map (λ (d : Distribution). place_by d.dist a.shape d.along d.extent ranks) o) Whole) no
    by (inr x) = get_or_past (map (place_of_array p ranks) p.arrays) array Whole (omega (arith, length-map p.arrays (place_of_array p ranks), x.0))
whole p ranks m array accepted (behind {m = old} s line decomp given reached stands) none = by (slice_get_cases p.arrays array).1 (whole p ranks old array accepted reached none)
  where
    at : (others : List Statement) × IsDistribute p others decomp given
    at = distribute-at p [] p.body line decomp given accepted.maps.placed stands.0 stands.1 stands.2

    by : ((a : Array) × (array < length p.arrays) × (slice_get p.arrays array ≡ Some a) × (get_or p.arrays array a ≡ a)) ⊎ ((length p.arrays ≤ array) × (slice_get p.arrays array ≡ None))
        → array_place old array ≡ Whole → array_place (redistributed p s ranks decomp given old) array ≡ Whole
    by (inl x) before =
        let a = x.0 in
        let no : distribution_of p a ≡ None = sym (ap (option_and_then (distribution_of p)) x.2) ∙ none in
        left-alone p s ranks decomp given old array a x.2 (λ same. is-distributed p a decomp at.0 given at.1 same no) ∙ before
    by (inr x) before = past-range (λ k. unwrap_or (option_map (redistributed_array p s ranks decomp given (array_place old k)) (slice_get p.arrays k)) Whole) (length p.arrays) array x.0

-- and whoever owns an element there owns its position
pub reached-consistent : (p : CheckedProgram) (ranks : ℕ) (m : Mapping) → IsMapped p → IsReached p ranks m → AreConsistent p (array_place m) (decomp_place m)
reached-consistent p ranks m mapped begins = first-consistent p ranks mapped
reached-consistent p ranks m mapped (behind {m = old} s line decomp given reached stands) = redistributed-consistent p s ranks decomp given old mapped (reached-consistent p ranks old mapped reached)
