-- A rank computes the needs of an accepted program's items from its own cells.
use Rattle.std.proofs.Common.{◌≡◌, ◌⊎◌, inl, inr, ℕ, ◌<◌, ◌≤◌, true, length, get_or, slice_get, Option, Some, None, option_map, unwrap_or, refl, sym, subst, ap, ◌∙◌, arith, Contains, List}
use Rattle.std.proofs.lemmas.Option.{slice_get_cases}
use Rattle.fd_base.specs.Places.{Place, Whole, Unset, Split, is_owner}
use Rattle.fd_base.specs.Shapes.{size_of}
use Rattle.fd_prog.specs.declared.program.Array.{Array}
use Rattle.fd_prog.specs.Items.{LinearItem}
use Rattle.fd_prog.specs.Homes.{distribution_at}
use Rattle.fd_prog.specs.Mappings.{Mapping, array_place, decomp_place, sight_of}
use Rattle.fd_prog.specs.Needs.{needs}
use Rattle.fd_prog.specs.Programs.{CheckedProgram}
use Rattle.fd_prog.specs.Stores.{Store, no_shape, shape_of}
use Rattle.fd_prog.specs.Uses.{items_of}
use Rattle.program_laws.specs.Accepted.{IsAcceptedProgram}
use Rattle.rank_part.specs.Local.{IsLocalElement}
use Rattle.rank_part.specs.NeedsRead.{NeedsRead}
use Rattle.rank_part.specs.Parts.{IsAtHand, IsPartOf, Part, is_own, part_readings}
use Rattle.rank_part.specs.Reached.{IsReached}
use Rattle.rank_part.specs.Sizes.{HasSizes}
use Rattle.rank_part.proofs.ItemReading.{item-reads}
use Rattle.rank_part.proofs.OwnNeeds.{needs-map, needs_by_part}
use Rattle.rank_part.proofs.Wholes.{reached-consistent, whole}

-- an array with an element is one of the program
there : (p : CheckedProgram) (array n : ℕ) → n < size_of (shape_of p array) → (a : Array) × (array < length p.arrays) × (slice_get p.arrays array ≡ Some a)
there p array n h = by (slice_get_cases p.arrays array).1
  where
    by : ((a : Array) × (array < length p.arrays) × (slice_get p.arrays array ≡ Some a) × (get_or p.arrays array a ≡ a)) ⊎ ((length p.arrays ≤ array) × (slice_get p.arrays array ≡ None)) → (a : Array) × (array < length p.arrays) × (slice_get p.arrays array ≡ Some a)
    by (inl x) = (x.0, x.1, x.2)
    by (inr x) =
        let none : shape_of p array ≡ no_shape = ap (λ o. unwrap_or (option_map (λ (a : Array). a.shape) o) no_shape) x.1 in
        let small = subst (λ shape. n < size_of shape) none h in
        absurd (omega (arith, small))

own-place : (place : Place) (n rank : ℕ) → is_owner place n rank ≡ true → is_own place n rank ≡ true
own-place Whole n rank e = refl
own-place Unset n rank e = e
own-place (Split owners) n rank e = e

-- what a rank has without a message is at hand
pub local-at_hand : (p : CheckedProgram) (ranks : ℕ) (m : Mapping) (sites : List ℕ) (a : Part) (s : Store) → IsAcceptedProgram p → IsReached p ranks m → HasSizes p s → ((array : ℕ) → a.place array ≡ array_place m array)
    → (array : ℕ) (site : Option ℕ) (n : ℕ) → IsLocalElement p (array_place m) a.rank array site n → IsAtHand sites a s array site n
local-at_hand p ranks m sites a s accepted reached sizes places array site n h =
    let x = there p array n h.inside in
    let shape : shape_of p array ≡ x.0.shape = ap (λ o. unwrap_or (option_map (λ (b : Array). b.shape) o) no_shape) x.2 in
    record {
      array_inside = omega (arith, x.1, sizes.arrays);
      element_inside = subst (λ k. n < k) (sym (sizes.elements array x.0 x.2)) (subst (λ z. n < size_of z) shape h.inside);
      found = inl (ap (λ place. is_own place n a.rank) (places array) ∙ by h.found);
    }
  where
    by : (distribution_at p array ≡ None) ⊎ (is_owner (array_place m array) n a.rank ≡ true) → is_own (array_place m array) n a.rank ≡ true
    by (inl none) = ap (λ place. is_own place n a.rank) (whole p ranks m array accepted reached none)
    by (inr own) = own-place (array_place m array) n a.rank own

-- what the needs of an item depend on is at hand
pub needs-at_hand : (p : CheckedProgram) (ranks : ℕ) (m : Mapping) (sites : List ℕ) (a : Part) (s : Store) (x : LinearItem) → IsAcceptedProgram p → IsReached p ranks m → HasSizes p s → ((array : ℕ) → a.place array ≡ array_place m array)
    → Contains (items_of p) x → NeedsRead (sight_of p s m) (IsAtHand sites a s) x a.rank
needs-at_hand p ranks m sites a s x accepted reached sizes places member =
    needs-map (sight_of p s m) (IsLocalElement p (array_place m) a.rank) (IsAtHand sites a s) x a.rank (local-at_hand p ranks m sites a s accepted reached sizes places)
    (item-reads (sight_of p s m) x a.rank accepted (reached-consistent p ranks m accepted.mapped reached) (λ array. refl) member)

-- so the needs from a rank's own cells are those in the store
pub accepted-needs : (p : CheckedProgram) (ranks : ℕ) (m : Mapping) (sites : List ℕ) (a : Part) (s : Store) (x : LinearItem) (limit : ℕ) → IsAcceptedProgram p → IsReached p ranks m → HasSizes p s → IsPartOf a s
    → ((array : ℕ) → a.place array ≡ array_place m array) → Contains (items_of p) x
    → needs (record { program = p; readings = part_readings p sites a; array_place = array_place m; decomp_place = decomp_place m }) x a.rank limit ≡ needs (sight_of p s m) x a.rank limit
accepted-needs p ranks m sites a s x limit accepted reached sizes part places member =
    needs_by_part p sites a s (array_place m) (decomp_place m) x a.rank limit part (needs-at_hand p ranks m sites a s x accepted reached sizes places member)
