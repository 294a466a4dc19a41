-- The needs of an item depend on two places alone.
use Rattle.std.proofs.Common.{◌≡◌, ℕ, ◌==◌, not, ◌&&◌, ℤ, List, length, refl, ap, ap₂}
use Rattle.std.specs.List.{range_with_len}
use Rattle.std.proofs.lemmas.List.Elements.{filter_agree}
use Rattle.fd_base.specs.Places.{Place, is_owner}
use Rattle.fd_base.specs.Shapes.{ordinal_of, size_of}
use Rattle.fd_prog.specs.Outcomes.{and_then}
use Rattle.fd_prog.specs.FormValues.{form_value, part_values}
use Rattle.fd_prog.specs.Homes.{Executor, EveryRank, RankZero, OwnerOf}
use Rattle.fd_prog.specs.Items.{LinearItem}
use Rattle.fd_prog.specs.Needs.{Sight, executes_at, is_element, is_needed, needs, owns_some, position_at, reads_in, visited}
use Rattle.fd_prog.specs.Stores.{shape_of}
use Rattle.inspector.specs.Placed.{IsHomePlace}
use Rattle.fd_prog.proofs.Agreement.{any_same}

-- the sight with these two places in place of all
abbrev pub narrow : Sight → Place → Place → Sight
narrow s array home = record { program = s.program; readings = s.readings; array_place = λ k. array; decomp_place = λ k. home }

executes_alike : (s : Sight) (array home : Place) (vs : List ℤ) (executor : Executor) (rank : ℕ) → IsHomePlace s.decomp_place executor home → executes_at (narrow s array home) vs executor rank ≡ executes_at s vs executor rank
executes_alike s array home vs EveryRank rank h = refl
executes_alike s array home vs RankZero rank h = refl
executes_alike s array home vs (OwnerOf l) rank h = ap (λ place. owns_some place rank (position_at s.program l.decomp (form_value s.readings vs l.form))) h

reads_alike : (s : Sight) (array home : Place) (x : LinearItem) (rank element : ℕ) → IsHomePlace s.decomp_place x.home home → (vs : List ℤ) → reads_in (narrow s array home) x rank element vs ≡ reads_in s x rank element vs
reads_alike s array home x rank element h vs =
    ap (λ b. (length vs == length x.loops) && (b && is_element element (and_then (part_values s.readings vs x.subs) (ordinal_of (shape_of s.program x.array)))))
    (executes_alike s array home vs x.home rank h)

needed_alike : (s : Sight) (array home : Place) (x : LinearItem) (rank limit : ℕ) → array ≡ s.array_place x.array → IsHomePlace s.decomp_place x.home home → (element : ℕ) → is_needed (narrow s array home) x rank limit element ≡ is_needed s x rank limit element
needed_alike s array home x rank limit e h element =
    ap₂ (λ place b. not (is_owner place element rank) && b) e
    (any_same (reads_in (narrow s array home) x rank element) (reads_in s x rank element) (reads_alike s array home x rank element h) (visited s.readings x limit))

pub needs_alike : (s : Sight) (array home : Place) (x : LinearItem) (rank limit : ℕ) → array ≡ s.array_place x.array → IsHomePlace s.decomp_place x.home home → needs (narrow s array home) x rank limit ≡ needs s x rank limit
needs_alike s array home x rank limit e h =
    filter_agree (is_needed (narrow s array home) x rank limit) (is_needed s x rank limit) (needed_alike s array home x rank limit e h) (range_with_len 0 (size_of (shape_of s.program x.array)))
