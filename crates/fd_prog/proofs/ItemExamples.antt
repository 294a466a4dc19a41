-- The items of small programs, and what their nodes take and steal, by computing with the definitions.
use Rattle.std.proofs.Common.{◌≡◌, refl, ℕ, ℤ, pos, negsuc, List, [], ◌∷◌, map, filter, length, Some, None}
use Rattle.std.specs.Prelude.{flat_map, take, drop}
use Rattle.std.specs.List.{range_with_len}
use Rattle.fd_base.specs.Places.{Split}
use Rattle.fd_prog.specs.Needs.{Sight, needs}
use Rattle.fd_prog.specs.Stores.{first_store, readings_of}
use Rattle.fd_base.specs.declared.numbering.Line.{Line}
use Rattle.fd_base.specs.declared.relation.Rel.TheVariants.{Eq, Lt}
use Rattle.fd_base.specs.declared.shapes.Along.TheVariants.{Dim}
use Rattle.fd_base.specs.declared.shapes.Dist.{Dist}
use Rattle.fd_base.specs.declared.shapes.Dist.TheVariants.{Block, Cyclic, Irregular}
use Rattle.fd_base.specs.declared.shapes.Shape.{Shape}
use Rattle.fd_prog.specs.declared.expression.Op2.TheVariants.{Add, Sub, Mul}
use Rattle.fd_prog.specs.declared.program.Array.{Array}
use Rattle.fd_prog.specs.declared.program.Decomp.{Decomp}
use Rattle.fd_prog.specs.declared.statement.Remapped.TheVariants.{Map}
use Rattle.fd_prog.specs.Expressions.{Expression, Number, Scalar, Element, Joined, End, More}
use Rattle.fd_prog.specs.Conditions.{Compared}
use Rattle.fd_prog.specs.Statements.{Target, ToScalar, ToElement, Value, Statement, Assign, If, Do, While, Read, Print, Distribute, Statements, Empty, Then}
use Rattle.fd_prog.specs.Programs.{CheckedProgram}
use Rattle.fd_prog.specs.Forms.{LinearAtom, Variable, ScalarOf, ElementOf, LinearForm, Sum, NoTerms, Term, NoForms, Part}
use Rattle.fd_prog.specs.Homes.{Executor, EveryRank, RankZero, OwnerOf}
use Rattle.fd_prog.specs.Items.{LinearItem, LinearLoop}
use Rattle.fd_prog.specs.Nodes.{node_count}
use Rattle.fd_prog.specs.Uses.{items_of, items_at_sites, takes, steals}

-- ---- words for programs

abbrev line : ℕ → Line
line n = record { 0 = n }

abbrev vector : ℕ → Shape
vector n = record { dims = 1; low = pos 1 ∷ (pos 0 ∷ []); extent = n ∷ (1 ∷ []) }

-- an array from 1 on that lies element by element in a decomposition from 1 on
abbrev aligned : ℕ → ℕ → Array
aligned n d = record { name = []; shape = vector n; decomp = Some d; along = Dim 0 (negsuc 0) }

abbrev replicated : ℕ → Array
replicated n = record { name = []; shape = vector n; decomp = None; along = Dim 0 (pos 0) }

abbrev dealt : ℕ → Dist → Decomp
dealt n dist = record { name = []; shape = vector n; dim = 0; dist = Some dist }

abbrev program : List Array → List Decomp → ℕ → Statements → CheckedProgram
program arrays decomps sites body = record { scalars = [] ∷ ([] ∷ ([] ∷ ([] ∷ []))); arrays = arrays; decomps = decomps; body = body; end_line = line 99; rest = 0; sites = sites }

abbrev number : ℕ → Expression
number n = Number (pos n)

-- the element of an array with this subscript, by the reference of this number
abbrev at : ℕ → Expression → ℕ → Expression
at array e site = Element array (More e End) site

abbrev set_at : ℕ → Expression → ℕ → Target
set_at array e site = ToElement array (More e End) site

abbrev one : Statement → Statements
one s = Then s Empty

abbrev I : Expression
I = Scalar 0

-- ---- words for items

abbrev constant : ℕ → LinearForm
constant n = Sum NoTerms (pos n)

abbrev single : LinearAtom → ℤ → LinearForm
single a c = Sum (Term (pos 1) a NoTerms) c

abbrev item : ℕ → LinearForm → List LinearLoop → Executor → LinearItem
item array f loops home = record { array = array; subs = Part f NoForms; loops = loops; home = home }

abbrev loop : ℕ → ℕ → LinearLoop
loop first last = record { first = constant first; last = constant last; step = constant 1 }

abbrev owner : ℕ → LinearForm → Executor
owner d f = OwnerOf (record { decomp = d; form = f })

-- the items that each node takes, and those that it steals
abbrev taken : CheckedProgram → List (List ℕ)
taken p = map (λ n. filter (takes p n) (range_with_len 1 (length (items_of p)))) (range_with_len 0 (node_count p))

abbrev stolen : CheckedProgram → List (List ℕ)
stolen p = map (λ n. filter (steals p n) (range_with_len 1 (length (items_of p)))) (range_with_len 0 (node_count p))

abbrev none : List ℕ
none = []

abbrev both : List ℕ
both = 1 ∷ (2 ∷ [])

-- ---- DO I = 1, 8 with A(I) = I; DO I = first, 8 with B(I) = A(I-1); PRINT *, B(8)
abbrev shifted_copy : Expression → CheckedProgram
shifted_copy first = program (aligned 8 0 ∷ (aligned 8 0 ∷ [])) (dealt 8 Block ∷ []) 4
    (Then (Do (line 6) 0 (number 1) (number 8) (number 1) (one (Assign (line 7) (set_at 0 I 0) I)))
    (Then (Do (line 9) 0 first (number 8) (number 1) (one (Assign (line 10) (set_at 1 I 1) (at 0 (Joined Sub I (number 1)) 2))))
    (one (Print (line 12) (Value (at 1 (number 8) 3) ∷ [])))))

-- A($1-1) do 2,8,1 at D($1), and B(8) at root
shifted_copy-items : items_of (shifted_copy (number 2))
    ≡ item 0 (single (Variable 0) (negsuc 0)) (loop 2 8 ∷ []) (owner 0 (single (Variable 0) (pos 0))) ∷ (item 1 (constant 8) [] RankZero ∷ [])
shifted_copy-items = refl

shifted_copy-sites : items_at_sites (shifted_copy (number 2)) ≡ 0 ∷ (0 ∷ (1 ∷ (2 ∷ [])))
shifted_copy-sites = refl

shifted_copy-takes : taken (shifted_copy (number 2)) ≡ none ∷ none ∷ none ∷ none ∷ none ∷ none ∷ none ∷ (1 ∷ []) ∷ none ∷ (2 ∷ []) ∷ none ∷ []
shifted_copy-takes = refl

shifted_copy-steals : stolen (shifted_copy (number 2)) ≡ none ∷ none ∷ none ∷ (1 ∷ []) ∷ none ∷ none ∷ none ∷ (2 ∷ []) ∷ none ∷ none ∷ none ∷ []
shifted_copy-steals = refl

-- where the first bound is 2*I the bounds name the loop's own variable: A(I-1) at D(I), which the loops steal
own_variable-items : items_of (shifted_copy (Joined Mul (number 2) I))
    ≡ item 0 (single (ScalarOf 0) (negsuc 0)) [] (owner 0 (single (ScalarOf 0) (pos 0))) ∷ (item 1 (constant 8) [] RankZero ∷ [])
own_variable-items = refl

own_variable-steals : stolen (shifted_copy (Joined Mul (number 2) I)) ≡ none ∷ (1 ∷ []) ∷ none ∷ (1 ∷ []) ∷ (1 ∷ []) ∷ (1 ∷ []) ∷ none ∷ (2 ∷ []) ∷ (1 ∷ []) ∷ none ∷ none ∷ []
own_variable-steals = refl

-- where it is 0*I+1 the name cancels, and the loop is widened
cancelled-items : items_of (shifted_copy (Joined Add (Joined Mul (number 0) I) (number 1)))
    ≡ item 0 (single (Variable 0) (negsuc 0)) (loop 1 8 ∷ []) (owner 0 (single (Variable 0) (pos 0))) ∷ (item 1 (constant 8) [] RankZero ∷ [])
cancelled-items = refl

-- ---- A(1) = 1; DO I = 2, 4 with A(I) = A(I-1)+1; PRINT *, A(4): the body sets the item's array
abbrev recurrence : CheckedProgram
recurrence = program (aligned 4 0 ∷ []) (dealt 4 Block ∷ []) 4
    (Then (Assign (line 3) (set_at 0 (number 1) 0) (number 1))
    (Then (Do (line 4) 0 (number 2) (number 4) (number 1) (one (Assign (line 5) (set_at 0 I 1) (Joined Add (at 0 (Joined Sub I (number 1)) 2) (number 1)))))
    (one (Print (line 7) (Value (at 0 (number 4) 3) ∷ [])))))

recurrence-items : items_of recurrence
    ≡ item 0 (single (ScalarOf 0) (negsuc 0)) [] (owner 0 (single (ScalarOf 0) (pos 0))) ∷ (item 0 (constant 4) [] RankZero ∷ [])
recurrence-items = refl

recurrence-takes : taken recurrence ≡ none ∷ none ∷ none ∷ none ∷ (1 ∷ []) ∷ none ∷ (2 ∷ []) ∷ none ∷ []
recurrence-takes = refl

recurrence-steals : stolen recurrence ≡ none ∷ both ∷ (1 ∷ []) ∷ none ∷ both ∷ (1 ∷ []) ∷ none ∷ none ∷ []
recurrence-steals = refl

-- ---- M(1) = 99; DO WHILE (M(1) .LT. 0) with Y(1) = X(M(1)); PRINT *, Y(1)
abbrev index_array : CheckedProgram
index_array = program (aligned 4 0 ∷ (aligned 4 1 ∷ (replicated 4 ∷ []))) (dealt 4 Block ∷ (dealt 4 Block ∷ [])) 6
    (Then (Assign (line 4) (set_at 2 (number 1) 0) (number 99))
    (Then (While (line 5) (Compared Lt (at 2 (number 1) 1) (number 0)) (one (Assign (line 6) (set_at 1 (number 1) 2) (at 0 (at 2 (number 1) 4) 3))))
    (one (Print (line 8) (Value (at 1 (number 1) 5) ∷ [])))))

-- X(M(1)) at Y(1), and Y(1) at root
index_array-items : items_of index_array
    ≡ item 0 (single (ElementOf 2 (Part (constant 1) NoForms)) (pos 0)) [] (owner 1 (constant 1)) ∷ (item 1 (constant 1) [] RankZero ∷ [])
index_array-items = refl

-- M is among the first item's names
index_array-steals : stolen index_array ≡ none ∷ (1 ∷ []) ∷ none ∷ none ∷ (2 ∷ []) ∷ none ∷ none ∷ none ∷ []
index_array-steals = refl

-- ---- DO J = 1, 4 with A(J) = J; N = 3; DO I = 1, N with S = S + A(I) and N = 1: the body sets a name of the bounds
abbrev changing_bound : CheckedProgram
changing_bound = program (aligned 4 0 ∷ []) (dealt 4 Block ∷ []) 2
    (Then (Do (line 3) 1 (number 1) (number 4) (number 1) (one (Assign (line 4) (set_at 0 (Scalar 1) 0) (Scalar 1))))
    (Then (Assign (line 6) (ToScalar 2) (number 3))
    (Then (Do (line 7) 0 (number 1) (Scalar 2) (number 1)
    (Then (Assign (line 8) (ToScalar 3) (Joined Add (Scalar 3) (at 0 I 1))) (one (Assign (line 9) (ToScalar 2) (number 1)))))
    (one (Print (line 11) (Value (Scalar 3) ∷ (Value (Scalar 2) ∷ (Value I ∷ []))))))))

changing_bound-items : items_of changing_bound ≡ item 0 (single (ScalarOf 0) (pos 0)) [] EveryRank ∷ []
changing_bound-items = refl

-- ---- A(3) = 7; DO I = 1, 3 with IF (I .EQ. 2) S = A(3); S = S + A(3): an IF stands between; both references have one item
abbrev tested : CheckedProgram
tested = program (aligned 4 0 ∷ []) (dealt 4 Cyclic ∷ []) 3
    (Then (Assign (line 3) (set_at 0 (number 3) 0) (number 7))
    (Then (Do (line 4) 0 (number 1) (number 3) (number 1) (one (If (line 5) (Compared Eq I (number 2)) (one (Assign (line 6) (ToScalar 3) (at 0 (number 3) 1))) Empty)))
    (one (Assign (line 9) (ToScalar 3) (Joined Add (Scalar 3) (at 0 (number 3) 2))))))

tested-items : items_of tested ≡ item 0 (constant 3) [] EveryRank ∷ []
tested-items = refl

tested-sites : items_at_sites tested ≡ 0 ∷ (1 ∷ (1 ∷ []))
tested-sites = refl

tested-takes : taken tested ≡ none ∷ none ∷ none ∷ none ∷ none ∷ none ∷ (1 ∷ []) ∷ none ∷ none ∷ none ∷ none ∷ none ∷ (1 ∷ []) ∷ none ∷ []
tested-takes = refl

-- ---- X is permuted by an index array that is local where it is used: X(IA($1)) do 1,2000,1 at D($1), and X($1) do 1,2000,1 at all
abbrev mesh : CheckedProgram
mesh = program (aligned 2000 0 ∷ (aligned 2000 0 ∷ (aligned 2000 0 ∷ (replicated 2000 ∷ [])))) (dealt 2000 Irregular ∷ []) 9
    (Then (Do (line 8) 0 (number 1) (number 2000) (number 1) (one (Read (line 9) (set_at 3 I 0))))
    (Then (Distribute (line 11) 0 (Map 3))
    (Then (Do (line 12) 0 (number 1) (number 2000) (number 1) (Then (Read (line 13) (set_at 2 I 1)) (one (Assign (line 14) (set_at 0 I 2) I))))
    (Then (Do (line 16) 1 (number 1) (number 50) (number 1)
    (Then (Do (line 17) 0 (number 1) (number 2000) (number 1) (one (Assign (line 18) (set_at 1 I 3) (at 0 (at 2 I 5) 4))))
    (one (Do (line 20) 0 (number 1) (number 2000) (number 1) (one (Assign (line 21) (set_at 0 I 6) (at 1 I 7)))))))
    (Then (Do (line 24) 0 (number 1) (number 2000) (number 1) (one (Assign (line 25) (ToScalar 3) (Joined Add (Scalar 3) (at 0 I 8)))))
    (one (Print (line 27) (Value (Scalar 3) ∷ []))))))))

mesh-items : items_of mesh
    ≡ item 0 (single (ElementOf 2 (Part (single (Variable 0) (pos 0)) NoForms)) (pos 0)) (loop 1 2000 ∷ []) (owner 0 (single (Variable 0) (pos 0)))
    ∷ (item 0 (single (Variable 0) (pos 0)) (loop 1 2000 ∷ []) EveryRank ∷ [])
mesh-items = refl

-- the nodes of READ *, IA(I), of both assignments to X and of the DISTRIBUTE steal
mesh-steals : stolen mesh ≡ none
    ∷ none ∷ none ∷ none ∷ none
    ∷ both
    ∷ none ∷ none ∷ (1 ∷ []) ∷ both ∷ none
    ∷ none ∷ none
    ∷ none ∷ none ∷ none ∷ none
    ∷ none ∷ none ∷ both ∷ none
    ∷ none
    ∷ none ∷ none ∷ none ∷ none
    ∷ none ∷ none ∷ []
mesh-steals = refl

-- ---- what ranks need of A($1-1) do 2,8,1 at D($1) on 4 ranks: of two elements a rank, each the one before its first; and of B(8) at root
abbrev on_four : Sight
on_four = record {
  program = shifted_copy (number 2);
  readings = readings_of (shifted_copy (number 2)) (first_store (shifted_copy (number 2)));
  array_place = λ a. Split (0 ∷ 0 ∷ 1 ∷ 1 ∷ 2 ∷ 2 ∷ 3 ∷ 3 ∷ []);
  decomp_place = λ d. Split (0 ∷ 0 ∷ 1 ∷ 1 ∷ 2 ∷ 2 ∷ 3 ∷ 3 ∷ []);
}

abbrev needed_by : ℕ → ℕ → List (List ℕ)
needed_by x limit = map (λ rank. flat_map (λ y. needs on_four y rank limit) (take 1 (drop x (items_of (shifted_copy (number 2)))))) (range_with_len 0 4)

needed-first : needed_by 0 100 ≡ none ∷ ((1 ∷ []) ∷ ((3 ∷ []) ∷ ((5 ∷ []) ∷ [])))
needed-first = refl

-- only the first two iterations are walked
needed-cut : needed_by 0 2 ≡ none ∷ ((1 ∷ []) ∷ (none ∷ (none ∷ [])))
needed-cut = refl

needed-second : needed_by 1 100 ≡ (7 ∷ []) ∷ (none ∷ (none ∷ (none ∷ [])))
needed-second = refl
