-- Listings of small programs, by computing with the definitions.
use Rattle.std.proofs.Common.{◌≡◌, refl, ℕ, ℤ, pos, negsuc, false, eqb, ◌&&◌, ◌||◌, List, [], ◌∷◌, map, codes, None}
use Rattle.std.specs.Fmt.{digits}
use Rattle.fd_base.specs.declared.numbering.Line.{Line}
use Rattle.fd_base.specs.declared.shapes.Along.TheVariants.{Dim}
use Rattle.fd_base.specs.declared.shapes.Shape.{Shape}
use Rattle.fd_prog.specs.declared.expression.Func.TheVariants.{Mod, Abs, Min, Max}
use Rattle.fd_prog.specs.declared.program.Array.{Array}
use Rattle.fd_prog.specs.declared.program.Decomp.{Decomp}
use Rattle.fd_prog.specs.Statements.{Empty}
use Rattle.fd_prog.specs.Programs.{CheckedProgram}
use Rattle.fd_prog.specs.Forms.{LinearAtom, Variable, ScalarOf, ElementOf, FunctionOf, ProductOf, QuotientOf, LinearForm, Sum, NoTerms, Term, LinearForms, NoForms, Part}
use Rattle.fd_prog.specs.Homes.{Executor, EveryRank, RankZero, OwnerOf}
use Rattle.fd_prog.specs.Items.{LinearItem, LinearLoop}
use Rattle.fd_prog.specs.Paths.{Marks}
use Rattle.place_text.specs.FormTexts.{form_text}
use Rattle.place_text.specs.ItemTexts.{item_text}
use Rattle.place_text.specs.Listings.{listing}

-- ---- words for programs, of which only the names are printed

abbrev shape : Shape
shape = record { dims = 1; low = pos 1 ∷ (pos 0 ∷ []); extent = 8 ∷ (1 ∷ []) }

abbrev array : List ℕ → Array
array name = record { name = name; shape = shape; decomp = None; along = Dim 0 (pos 0) }

abbrev decomp : List ℕ → Decomp
decomp name = record { name = name; shape = shape; dim = 0; dist = None }

-- a program with these scalars, arrays and decompositions
abbrev named : List (List ℕ) → List (List ℕ) → List (List ℕ) → CheckedProgram
named scalars arrays decomps = record {
  scalars = scalars;
  arrays = map array arrays;
  decomps = map decomp decomps;
  body = Empty;
  end_line = record { 0 = 99 };
  rest = 0;
  sites = 0;
}

-- scalars I and N; arrays A and B2; a decomposition D
abbrev program : CheckedProgram
program = named (codes "I" ∷ (codes "N" ∷ [])) (codes "A" ∷ (codes "B2" ∷ [])) (codes "D" ∷ [])

-- ---- words for forms and items

abbrev constant : ℤ → LinearForm
constant c = Sum NoTerms c

abbrev single : LinearAtom → ℤ → LinearForm
single a c = Sum (Term (pos 1) a NoTerms) c

-- the variable of the outermost widened loop and of the one in it
abbrev outer : LinearForm
outer = single (Variable 0) (pos 0)

abbrev inner : LinearForm
inner = single (Variable 1) (pos 0)

abbrev I : LinearAtom
I = ScalarOf 0

abbrev N : LinearAtom
N = ScalarOf 1

abbrev one : LinearForm → LinearForms
one f = Part f NoForms

abbrev two : LinearForm → LinearForm → LinearForms
two f g = Part f (Part g NoForms)

abbrev loop : ℕ → ℕ → LinearLoop
loop first last = record { first = constant (pos first); last = constant (pos last); step = constant (pos 1) }

abbrev item : ℕ → LinearForms → List LinearLoop → Executor → LinearItem
item array subs loops home = record { array = array; subs = subs; loops = loops; home = home }

abbrev owner : ℕ → LinearForm → Executor
owner d f = OwnerOf (record { decomp = d; form = f })

-- ---- forms

text-zero : form_text program (constant (pos 0)) ≡ codes "0"
unfolding digits
text-zero = refl

text-negative_constant : form_text program (constant (negsuc 4)) ≡ codes "-5"
unfolding digits
text-negative_constant = refl

text-scalar : form_text program (single I (pos 0)) ≡ codes "I"
unfolding digits
text-scalar = refl

text-less_one : form_text program (single (Variable 0) (negsuc 0)) ≡ codes "$1-1"
unfolding digits
text-less_one = refl

text-minus_scalar : form_text program (Sum (Term (negsuc 0) I NoTerms) (pos 7)) ≡ codes "-I+7"
unfolding digits
text-minus_scalar = refl

text-coefficients : form_text program (Sum (Term (negsuc 1) (Variable 0) (Term (pos 3) I (Term (negsuc 0) N NoTerms))) (pos 0)) ≡ codes "-2*$1+3*I-N"
unfolding digits
text-coefficients = refl

-- $ stands before letters, ( before *, and shorter texts before longer ones; the form has them by another order
text-byte_order : form_text program (Sum (Term (pos 1) (Variable 9) (Term (pos 1) (Variable 1) (Term (pos 1) I (Term (pos 1) (ElementOf 0 (one outer)) (Term (pos 4) (QuotientOf (single I (pos 0)) (single N (pos 0))) NoTerms))))) (pos 0))
    ≡ codes "$10+$2+4*(I)/(N)+A($1)+I"
unfolding digits
text-byte_order = refl

text-nested : form_text program (Sum (Term (pos 1) (ElementOf 1 (two (single (ProductOf (single I (pos 1)) (single N (pos 0))) (pos 0)) (constant (pos 3))))
    (Term (negsuc 0) (FunctionOf Mod (two (single N (negsuc 1)) (constant (pos 2)))) NoTerms)) (pos 0)) ≡ codes "B2((I+1)*(N),3)-MOD(N-2,2)"
unfolding digits
text-nested = refl

text-functions : form_text program (Sum (Term (pos 1) (FunctionOf Max (Part outer (Part inner (one (constant (pos 0)))))) (Term (pos 2) (FunctionOf Min (two inner outer)) (Term (pos 1) (FunctionOf Abs (one inner)) NoTerms))) (pos 1))
    ≡ codes "ABS($2)+MAX($1,$2,0)+2*MIN($2,$1)+1"
unfolding digits
text-functions = refl

-- ---- items

text-indirect : item_text program (item 0 (one (single (ElementOf 1 (one outer)) (pos 0))) (loop 1 2000 ∷ []) (owner 0 outer)) ≡ codes "A(B2($1)) do 1,2000,1 at D($1)"
unfolding digits
text-indirect = refl

-- the outermost loop stands first
text-two_loops : item_text program (item 0 (two outer inner) (loop 1 4 ∷ (record { first = outer; last = single N (pos 0); step = constant (negsuc 0) } ∷ [])) (owner 0 inner)) ≡ codes "A($1,$2) do 1,4,1 do $1,N,-1 at D($2)"
unfolding digits
text-two_loops = refl

-- ---- listings

abbrev lines : List ℕ → List Line
lines ls = map (λ (l : ℕ). record { 0 = l }) ls

abbrev nowhere : Marks
nowhere n x = false

-- a node and an item, and no other
abbrev only : ℕ → ℕ → Marks
only node item n x = eqb n node && eqb x item

abbrev either : Marks → Marks → Marks
either p q n x = p n x || q n x

abbrev AB : CheckedProgram
AB = named [] (codes "A" ∷ (codes "B" ∷ [])) (codes "D" ∷ [])

abbrev shifted : LinearItem
shifted = item 0 (one (single (Variable 0) (negsuc 0))) (loop 2 8 ∷ []) (owner 0 outer)

abbrev last_of_B : LinearItem
last_of_B = item 1 (one (constant (pos 8))) [] RankZero

-- DO I = 1, 8 with A(I) = I on line 6; DO I = 2, 8 with B(I) = A(I-1) on line 9; PRINT *, B(8) on line 12
shifted_copy : listing AB (shifted ∷ (last_of_B ∷ [])) (lines (0 ∷ 6 ∷ 6 ∷ 7 ∷ 6 ∷ 9 ∷ 9 ∷ 10 ∷ 9 ∷ 12 ∷ 13 ∷ []))
    (record { send_in = either (only 5 1) (only 9 2); send_out = nowhere; recv_in = either (only 5 1) (only 9 2); recv_out = nowhere; hoists = only 5 1 })
    ≡ codes "items 2\nitem 1 A($1-1) do 2,8,1 at D($1)\nitem 2 B(8) at root\nplaces 4\nnode 5 line 9 in send 1\nnode 5 line 9 in recv 1\nnode 9 line 12 in send 2\nnode 9 line 12 in recv 2\nhoists 1\nhoist node 5 line 9 item 1\n"
unfolding digits
shifted_copy = refl

-- the same with a loop of other work between the two on line 10, so that the second is on line 13 and the PRINT on line 16
overlapped : listing AB (shifted ∷ (last_of_B ∷ [])) (lines (0 ∷ 7 ∷ 7 ∷ 8 ∷ 7 ∷ 10 ∷ 10 ∷ 11 ∷ 10 ∷ 13 ∷ 13 ∷ 14 ∷ 13 ∷ 16 ∷ 17 ∷ []))
    (record { send_in = either (only 5 1) (only 13 2); send_out = nowhere; recv_in = either (only 9 1) (only 13 2); recv_out = nowhere; hoists = only 9 1 })
    ≡ codes "items 2\nitem 1 A($1-1) do 2,8,1 at D($1)\nitem 2 B(8) at root\nplaces 4\nnode 5 line 10 in send 1\nnode 9 line 13 in recv 1\nnode 13 line 16 in send 2\nnode 13 line 16 in recv 2\nhoists 1\nhoist node 9 line 13 item 1\n"
unfolding digits
overlapped = refl

-- A(4) = 5; IF (S .EQ. 0) THEN S = A(4); S = S + A(4): received on both sides
abbrev last_of_A : LinearItem
last_of_A = item 0 (one (constant (pos 4))) [] EveryRank

both_sides : listing AB (last_of_A ∷ []) (lines (0 ∷ 3 ∷ 4 ∷ 4 ∷ 5 ∷ 4 ∷ 4 ∷ 4 ∷ 4 ∷ 7 ∷ 8 ∷ 9 ∷ []))
    (record { send_in = only 2 1; send_out = nowhere; recv_in = only 4 1; recv_out = only 7 1; hoists = nowhere })
    ≡ codes "items 1\nitem 1 A(4) at all\nplaces 3\nnode 2 line 4 in send 1\nnode 4 line 5 in recv 1\nnode 7 line 4 out recv 1\nhoists 0\n"
unfolding digits
both_sides = refl

nothing : listing AB [] (lines (0 ∷ 3 ∷ 4 ∷ [])) (record { send_in = nowhere; send_out = nowhere; recv_in = nowhere; recv_out = nowhere; hoists = nowhere })
    ≡ codes "items 0\nplaces 0\nhoists 0\n"
unfolding digits
nothing = refl

-- at one place of a node sends come before receives, and each in order of the items; what is done on arrival comes before what is done on leaving
all_at_one : listing AB (last_of_A ∷ (last_of_B ∷ [])) (lines (3 ∷ []))
    (record { send_in = either (only 0 2) (only 0 1); send_out = only 0 1; recv_in = only 0 1; recv_out = only 0 2; hoists = either (only 0 2) (only 0 1) })
    ≡ codes "items 2\nitem 1 A(4) at all\nitem 2 B(8) at root\nplaces 5\nnode 0 line 3 in send 1\nnode 0 line 3 in send 2\nnode 0 line 3 in recv 1\nnode 0 line 3 out send 1\nnode 0 line 3 out recv 2\nhoists 2\nhoist node 0 line 3 item 1\nhoist node 0 line 3 item 2\n"
unfolding digits
all_at_one = refl
