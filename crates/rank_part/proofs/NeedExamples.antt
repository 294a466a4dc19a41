-- What ranks need of single items, by computing with the definition.
use Rattle.std.proofs.Common.{◌≡◌, refl, ℕ, ℤ, pos, negsuc, List, [], ◌∷◌, map, Some}
use Rattle.std.specs.List.{range_with_len}
use Rattle.fd_base.specs.declared.shapes.Along.TheVariants.{Dim}
use Rattle.fd_base.specs.declared.shapes.Dist.TheVariants.{Block}
use Rattle.fd_base.specs.declared.shapes.Shape.{Shape}
use Rattle.fd_base.specs.Places.{Place, Split, Unset}
use Rattle.fd_prog.specs.declared.program.Array.{Array}
use Rattle.fd_prog.specs.declared.program.Decomp.{Decomp}
use Rattle.fd_prog.specs.Forms.{LinearAtom, Variable, ScalarOf, QuotientOf, LinearForm, Sum, NoTerms, Term, NoForms, Part}
use Rattle.fd_prog.specs.Homes.{Executor, EveryRank, OwnerOf}
use Rattle.fd_prog.specs.Items.{LinearItem, LinearLoop}
use Rattle.fd_prog.specs.Needs.{Sight, needs}
use Rattle.fd_prog.specs.Programs.{CheckedProgram}
use Rattle.fd_prog.specs.Statements.{Empty}
use Rattle.fd_prog.specs.Stores.{readings_of}

-- ---- one array of eight elements from 1 on, over a decomposition from 1 on, and one scalar

abbrev eight : Shape
eight = record { dims = 1; low = pos 1 ∷ (pos 0 ∷ []); extent = 8 ∷ (1 ∷ []) }

abbrev array : Array
array = record { name = []; shape = eight; decomp = Some 0; along = Dim 0 (negsuc 0) }

abbrev decomposition : Decomp
decomposition = record { name = []; shape = eight; dim = 0; dist = Some Block }

abbrev program : CheckedProgram
program = record { scalars = [] ∷ []; arrays = array ∷ []; decomps = decomposition ∷ []; body = Empty; end_line = record { 0 = 1 }; rest = 0; sites = 0 }

-- two elements a rank
abbrev blocks : Place
blocks = Split (0 ∷ 0 ∷ 1 ∷ 1 ∷ 2 ∷ 2 ∷ 3 ∷ 3 ∷ [])

-- where the scalar has a number
abbrev seen : ℤ → Place → Sight
seen k place = record {
  program = program;
  readings = readings_of program (record { scalars = k ∷ []; arrays = [] ∷ []; taken = 0 });
  array_place = λ a. blocks;
  decomp_place = λ d. place;
}

-- what each of four ranks needs
abbrev on_four : Sight → LinearItem → ℕ → List (List ℕ)
on_four s x limit = map (λ rank. needs s x rank limit) (range_with_len 0 4)

abbrev constant : ℤ → LinearForm
constant z = Sum NoTerms z

abbrev single : LinearAtom → ℤ → LinearForm
single a z = Sum (Term (pos 1) a NoTerms) z

abbrev item : LinearForm → List LinearLoop → Executor → LinearItem
item f loops home = record { array = 0; subs = Part f NoForms; loops = loops; home = home }

abbrev loop : LinearForm → LinearForm → LinearLoop
loop first last = record { first = first; last = last; step = constant (pos 1) }

abbrev none : List ℕ
none = []

-- ---- rows

-- A(3) at all: every rank but the one that owns it
one-element : on_four (seen (pos 0) blocks) (item (constant (pos 3)) [] EveryRank) 100 ≡ (2 ∷ []) ∷ (none ∷ ((2 ∷ []) ∷ ((2 ∷ []) ∷ [])))
one-element = refl

-- A($1+$2) do 1,2 do 1,2 at all: A(2), A(3) and A(4)
abbrev nested : LinearItem
nested = item (Sum (Term (pos 1) (Variable 0) (Term (pos 1) (Variable 1) NoTerms)) (pos 0)) (loop (constant (pos 1)) (constant (pos 2)) ∷ (loop (constant (pos 1)) (constant (pos 2)) ∷ [])) EveryRank

two-loops : on_four (seen (pos 0) blocks) nested 100 ≡ (2 ∷ 3 ∷ []) ∷ ((1 ∷ []) ∷ ((1 ∷ 2 ∷ 3 ∷ []) ∷ ((1 ∷ 2 ∷ 3 ∷ []) ∷ [])))
two-loops = refl

-- cut to three: the first iteration of the outer loop, and both of the inner one in it
two-loops-cut : on_four (seen (pos 0) blocks) nested 3 ≡ (2 ∷ []) ∷ ((1 ∷ []) ∷ ((1 ∷ 2 ∷ []) ∷ ((1 ∷ 2 ∷ []) ∷ [])))
two-loops-cut = refl

-- A($1) do 7,10 at all: A(9) and A(10) are outside
outside : on_four (seen (pos 0) blocks) (item (single (Variable 0) (pos 0)) (loop (constant (pos 7)) (constant (pos 10)) ∷ []) EveryRank) 100 ≡ (6 ∷ 7 ∷ []) ∷ ((6 ∷ 7 ∷ []) ∷ ((6 ∷ 7 ∷ []) ∷ (none ∷ [])))
outside = refl

-- A($1) do 1,8/K at all, where K is 0: the bound faults
faulting : on_four (seen (pos 0) blocks) (item (single (Variable 0) (pos 0)) (loop (constant (pos 1)) (single (QuotientOf (constant (pos 8)) (single (ScalarOf 0) (pos 0))) (pos 0)) ∷ []) EveryRank) 100 ≡ none ∷ (none ∷ (none ∷ (none ∷ [])))
faulting = refl

-- A($1-K) do K+1,K+1 at all, where K+1 is the greatest number: the loop ends where its variable would leave 64 bits
greatest : on_four (seen (pos 9223372036854775806) blocks) (item (Sum (Term (pos 1) (Variable 0) (Term (negsuc 0) (ScalarOf 0) NoTerms)) (pos 0)) (loop (single (ScalarOf 0) (pos 1)) (single (ScalarOf 0) (pos 1)) ∷ []) EveryRank) 100 ≡ none ∷ ((0 ∷ []) ∷ ((0 ∷ []) ∷ ((0 ∷ []) ∷ [])))
greatest = refl

-- A($1-1) do 2,8 at D($1): of each rank the element before its first
abbrev before_own : LinearItem
before_own = item (single (Variable 0) (negsuc 0)) (loop (constant (pos 2)) (constant (pos 8)) ∷ []) (OwnerOf (record { decomp = 0; form = single (Variable 0) (pos 0) }))

shifted : on_four (seen (pos 0) blocks) before_own 100 ≡ none ∷ ((1 ∷ []) ∷ ((3 ∷ []) ∷ ((5 ∷ []) ∷ [])))
shifted = refl

-- nobody executes at a decomposition that has no owners yet
not-placed : on_four (seen (pos 0) Unset) before_own 100 ≡ none ∷ (none ∷ (none ∷ (none ∷ [])))
not-placed = refl
