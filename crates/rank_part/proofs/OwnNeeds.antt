-- Needs from a rank's own cells.
use Rattle.std.proofs.Common.{◌≡◌, ℕ, ◌==◌, Bool, true, false, not, ◌&&◌, ℤ, List, [], ◌∷◌, ◌++◌, length, flat_map, take, Option, refl, ap, ap₂, ◌∙◌}
use Rattle.std.specs.List.{list_any, range_with_len}
use Rattle.std.proofs.lemmas.List.Elements.{filter_agree}
use Rattle.fd_base.specs.Places.{Place, is_owner}
use Rattle.fd_base.specs.Shapes.{ordinal_of, size_of}
use Rattle.fd_prog.specs.Outcomes.{and_then}
use Rattle.fd_prog.specs.Programs.{CheckedProgram}
use Rattle.fd_prog.specs.Values.{Readings}
use Rattle.fd_prog.specs.FormValues.{part_values}
use Rattle.fd_prog.specs.Stores.{Store, readings_of, shape_of}
use Rattle.fd_prog.specs.Homes.{Executor, EveryRank, RankZero, OwnerOf}
use Rattle.fd_prog.specs.Items.{LinearItem, LinearLoop}
use Rattle.fd_prog.specs.Needs.{Sight, all_iterations, executes_at, is_element, is_needed, iterations_inside, loop_numbers, needs, numbers_in, owns_some, position_at, reads_in, visited}
use Rattle.fd_prog.proofs.Agreement.{any_same, flat_map_same}
use Rattle.rank_part.specs.Seen.{AreAlike, IsSame, FormReads}
use Rattle.rank_part.specs.NeedsRead.{HomeReads, LoopsRead, NeedsRead}
use Rattle.rank_part.specs.Parts.{Part, IsAtHand, IsPartOf, part_readings}
use Rattle.rank_part.proofs.Same.{form_same, parts_same, form-map, forms-map}
use Rattle.rank_part.proofs.Whole.{alike, at_hand-reads}

numbers_same : (r q : Readings) (vs : List ℤ) (l : LinearLoop) → AreAlike r q → FormReads r (IsSame r q) vs l.first × FormReads r (IsSame r q) vs l.last × FormReads r (IsSame r q) vs l.step → loop_numbers q vs l ≡ loop_numbers r vs l
numbers_same r q vs l a h = rw (form_same r q vs a l.first h.0, form_same r q vs a l.last h.1, form_same r q vs a l.step h.2) refl

iterations_same : (r q : Readings) → AreAlike r q → (ls : List LinearLoop) → LoopsRead r (IsSame r q) ls → (vs : List ℤ) → iterations_inside q ls vs ≡ iterations_inside r ls vs
iterations_same r q a [] h vs = refl
iterations_same r q a (l ∷ ls) h vs =
    ap (λ n. flat_map (λ v. (vs ++ v ∷ []) ∷ iterations_inside q ls (vs ++ v ∷ [])) (numbers_in n)) (numbers_same r q vs l a (h.0 vs))
    ∙ flat_map_same (λ v. (vs ++ v ∷ []) ∷ iterations_inside q ls (vs ++ v ∷ [])) (λ v. (vs ++ v ∷ []) ∷ iterations_inside r ls (vs ++ v ∷ [])) (λ v. ap (λ its. (vs ++ v ∷ []) ∷ its) (iterations_same r q a ls h.1 (vs ++ v ∷ []))) (numbers_in (loop_numbers r vs l))

all_same : (r q : Readings) → AreAlike r q → (ls : List LinearLoop) → LoopsRead r (IsSame r q) ls → all_iterations q ls ≡ all_iterations r ls
all_same r q a [] h = refl
all_same r q a (l ∷ ls) h = iterations_same r q a (l ∷ ls) h []

executes_same : (s : Sight) (q : Readings) (vs : List ℤ) (home : Executor) (rank : ℕ) → AreAlike s.readings q → HomeReads s.readings (IsSame s.readings q) vs home
    → executes_at (record s { readings = q }) vs home rank ≡ executes_at s vs home rank
executes_same s q vs EveryRank rank a h = refl
executes_same s q vs RankZero rank a h = refl
executes_same s q vs (OwnerOf l) rank a h = ap (λ z. owns_some (s.decomp_place l.decomp) rank (position_at s.program l.decomp z)) (form_same s.readings q vs a l.form h)

and_same : (a b c d : Bool) → a ≡ c → (c ≡ true → b ≡ d) → (a && b) ≡ (c && d)
and_same a b true d e h = ap₂ (λ x y. x && y) e (h refl)
and_same a b false d e h = ap (λ x. x && b) e

reads_same : (s : Sight) (q : Readings) (x : LinearItem) (rank element : ℕ) → AreAlike s.readings q → NeedsRead s (IsSame s.readings q) x rank → (vs : List ℤ)
    → reads_in (record s { readings = q }) x rank element vs ≡ reads_in s x rank element vs
reads_same s q x rank element a h vs =
    ap (λ b. (length vs == length x.loops) && b)
    (and_same (executes_at (record s { readings = q }) vs x.home rank) (is_element element (and_then (part_values q vs x.subs) (ordinal_of (shape_of s.program x.array)))) (executes_at s vs x.home rank) (is_element element (and_then (part_values s.readings vs x.subs) (ordinal_of (shape_of s.program x.array))))
    (executes_same s q vs x.home rank a (h.home vs))
    (λ e. ap (λ z. is_element element (and_then z (ordinal_of (shape_of s.program x.array)))) (parts_same s.readings q vs a x.subs (h.subs vs e))))

needed_same : (s : Sight) (q : Readings) (x : LinearItem) (rank limit element : ℕ) → AreAlike s.readings q → NeedsRead s (IsSame s.readings q) x rank
    → is_needed (record s { readings = q }) x rank limit element ≡ is_needed s x rank limit element
needed_same s q x rank limit element a h =
    ap (λ b. not (is_owner (s.array_place x.array) element rank) && b)
    (ap (λ its. list_any (reads_in (record s { readings = q }) x rank element) (take limit its)) (all_same s.readings q a x.loops h.loops)
    ∙ any_same (reads_in (record s { readings = q }) x rank element) (reads_in s x rank element) (reads_same s q x rank element a h) (visited s.readings x limit))

-- the needs are the same where all that they depend on reads the same
pub needs_same : (s : Sight) (q : Readings) (x : LinearItem) (rank limit : ℕ) → AreAlike s.readings q → NeedsRead s (IsSame s.readings q) x rank → needs (record s { readings = q }) x rank limit ≡ needs s x rank limit
needs_same s q x rank limit a h =
    filter_agree (is_needed (record s { readings = q }) x rank limit) (is_needed s x rank limit) (λ e. needed_same s q x rank limit e a h) (range_with_len 0 (size_of (shape_of s.program x.array)))

-- ---- from a rank's part

loops-map : (r : Readings) (P Q : ℕ → Option ℕ → ℕ → Type 0) → ((array : ℕ) (site : Option ℕ) (n : ℕ) → P array site n → Q array site n) → (ls : List LinearLoop) → LoopsRead r P ls → LoopsRead r Q ls
loops-map r P Q f [] h = tt
loops-map r P Q f (l ∷ ls) h = (λ vs. (form-map r vs P Q f l.first (h.0 vs).0, form-map r vs P Q f l.last (h.0 vs).1, form-map r vs P Q f l.step (h.0 vs).2), loops-map r P Q f ls h.1)

home-map : (r : Readings) (vs : List ℤ) (P Q : ℕ → Option ℕ → ℕ → Type 0) → ((array : ℕ) (site : Option ℕ) (n : ℕ) → P array site n → Q array site n) → (home : Executor) → HomeReads r P vs home → HomeReads r Q vs home
home-map r vs P Q f EveryRank h = tt
home-map r vs P Q f RankZero h = tt
home-map r vs P Q f (OwnerOf l) h = form-map r vs P Q f l.form h

-- what the needs depend on has each fact that follows
pub needs-map : (s : Sight) (P Q : ℕ → Option ℕ → ℕ → Type 0) (x : LinearItem) (rank : ℕ) → ((array : ℕ) (site : Option ℕ) (n : ℕ) → P array site n → Q array site n) → NeedsRead s P x rank → NeedsRead s Q x rank
needs-map s P Q x rank f h = record {
  loops = loops-map s.readings P Q f x.loops h.loops;
  home = λ vs. home-map s.readings vs P Q f x.home (h.home vs);
  subs = λ vs e. forms-map s.readings vs P Q f x.subs (h.subs vs e);
}

-- a rank's needs from its own cells are those in the whole store
pub needs_by_part : (p : CheckedProgram) (sites : List ℕ) (a : Part) (t : Store) (array_place decomp_place : ℕ → Place) (x : LinearItem) (rank limit : ℕ) → IsPartOf a t
    → NeedsRead (record { program = p; readings = readings_of p t; array_place = array_place; decomp_place = decomp_place }) (IsAtHand sites a t) x rank
    → needs (record { program = p; readings = part_readings p sites a; array_place = array_place; decomp_place = decomp_place }) x rank limit
    ≡ needs (record { program = p; readings = readings_of p t; array_place = array_place; decomp_place = decomp_place }) x rank limit
needs_by_part p sites a t array_place decomp_place x rank limit h k =
    needs_same (record { program = p; readings = readings_of p t; array_place = array_place; decomp_place = decomp_place }) (part_readings p sites a) x rank limit (alike p sites a t h)
    (needs-map (record { program = p; readings = readings_of p t; array_place = array_place; decomp_place = decomp_place }) (IsAtHand sites a t) (IsSame (readings_of p t) (part_readings p sites a)) x rank (at_hand-reads p sites a t h) k)
