-- Small traces, by computing with the definitions.
use Rattle.std.proofs.Common.{◌≡◌, refl, ℕ, pos, negsuc, true, false, List, [], ◌∷◌, map, length, slice_get, Some, None, option_map, unwrap_or, codes}
use Rattle.fd_base.specs.declared.numbering.Line.{Line}
use Rattle.fd_base.specs.declared.shapes.Along.TheVariants.{Dim}
use Rattle.fd_base.specs.declared.shapes.Dist.TheVariants.{Later}
use Rattle.fd_base.specs.declared.shapes.Shape.{Shape}
use Rattle.fd_base.specs.declared.numbers.FaultKind.TheVariants.{ZeroDivide, StepLimit}
use Rattle.fd_base.specs.Places.{Place, Split, Unset, Whole}
use Rattle.fd_prog.specs.declared.expression.Op2.TheVariants.{Div}
use Rattle.fd_prog.specs.declared.statement.Remapped.TheVariants.{Map}
use Rattle.fd_base.specs.declared.relation.Rel.TheVariants.{Eq}
use Rattle.fd_prog.specs.Conditions.{Compared}
use Rattle.fd_prog.specs.Expressions.{Number, Scalar, Joined, End, More}
use Rattle.fd_prog.specs.Statements as statements
use Rattle.fd_prog.specs.Statements.{ToElement, Value, Distribute, Empty, Then}
use Rattle.exec_code.specs.Instructions.{Instruction, Assign, Install, Print, Skip, Test, Start, Turn, Jump, Stop, FlatJob}
use Rattle.exec_code.specs.Machine.{Configuration, first_configuration}
use Rattle.exec_code.specs.Passing.{Doing, Does, Tests, Starts, Turns, Makes, Decides, marks_of}
use Rattle.exec_code.specs.Traces.{walked, first_noted}

-- a job of a program with one scalar
abbrev job : List Instruction → List Line → ℕ → FlatJob
job is ls limit = record {
  program = record { scalars = codes "I" ∷ []; arrays = []; decomps = []; body = Empty; end_line = record { 0 = 9 }; rest = 0; sites = 0 };
  items = [];
  of_site = [];
  code = record { instructions = is; lines = ls };
  input = [];
  ranks = 2;
  limit = limit;
}

abbrev l : ℕ → Line
l n = record { 0 = n }

-- DO I = 1, 2 with a PRINT of I: two lines, of the steps 3 and 5, and 6 steps
abbrev loop : FlatJob
loop = job (Start 0 (Number (pos 1)) (Number (pos 2)) (Number (pos 1)) ∷ (Turn 0 4 ∷ (Print (Value (Scalar 0) ∷ []) ∷ (Jump 1 ∷ (Stop ∷ []))))) (l 1 ∷ (l 1 ∷ (l 2 ∷ (l 1 ∷ (l 3 ∷ []))))) 100

positions : map (λ (c : Configuration). c.at) (walked loop 20 (first_configuration loop)) ≡ 0 ∷ (1 ∷ (2 ∷ (3 ∷ (1 ∷ (2 ∷ (3 ∷ (1 ∷ (4 ∷ []))))))))
positions = refl

steps : map (λ (c : Configuration). c.now.steps) (walked loop 20 (first_configuration loop)) ≡ 0 ∷ (1 ∷ (2 ∷ (3 ∷ (3 ∷ (4 ∷ (5 ∷ (5 ∷ (6 ∷ []))))))))
steps = refl

-- with a limit of 3 steps the second test is a fault
short : first_noted (record loop { limit = 3 }) (walked (record loop { limit = 3 }) 20 (first_configuration loop)) ≡ Some (record { step = 4; line = l 1; kind = StepLimit })
short = refl

-- a fault of a PRINT is noted, and the trace goes on to Stop
abbrev divided : FlatJob
divided = job (Print (Value (Joined Div (Number (pos 1)) (Number (pos 0))) ∷ []) ∷ (Print (Value (Number (pos 7)) ∷ []) ∷ (Stop ∷ []))) (l 1 ∷ (l 2 ∷ (l 3 ∷ []))) 100

goes_on : length (walked divided 20 (first_configuration divided)) ≡ 3
goes_on = refl

first_is_noted : first_noted divided (walked divided 20 (first_configuration divided)) ≡ Some (record { step = 1; line = l 1; kind = ZeroDivide })
first_is_noted = refl

-- an array of two elements is dealt by the numbers of another, which are 0 and 5, to two ranks: before the DISTRIBUTE it has no owners
abbrev pair : Shape
pair = record { dims = 1; low = pos 1 ∷ (pos 0 ∷ []); extent = 2 ∷ (1 ∷ []) }

abbrev dealt : FlatJob
dealt = record (job (Assign (ToElement 0 (More (Number (pos 2)) End) 0) (Number (pos 5)) ∷ (Install 0 0 ∷ (Stop ∷ []))) (l 1 ∷ (l 2 ∷ (l 3 ∷ []))) 100) {
  program = record {
    scalars = [];
    arrays = record { name = codes "M"; shape = pair; decomp = None; along = Dim 0 (pos 0) } ∷ (record { name = codes "A"; shape = pair; decomp = Some 0; along = Dim 0 (negsuc 0) } ∷ []);
    decomps = record { name = codes "D"; shape = pair; dim = 0; dist = Some Later } ∷ [];
    body = Then (Distribute (l 2) 0 (Map 0)) Empty;
    end_line = l 3;
    rest = 0;
    sites = 1;
  };
}

abbrev mapping_at : ℕ → List Place
mapping_at n = unwrap_or (option_map (λ (c : Configuration). c.mapping.arrays) (slice_get (walked dealt 20 (first_configuration dealt)) n)) []

unset_before : mapping_at 1 ≡ Whole ∷ (Unset ∷ [])
unset_before = refl

dealt_behind : mapping_at 2 ≡ Whole ∷ (Split (0 ∷ (1 ∷ [])) ∷ [])
dealt_behind = refl

-- ---- what is passed

abbrev counted : Doing
counted = Starts (l 1) 0 (Number (pos 1)) (Number (pos 2)) (Number (pos 1))

abbrev shown : Doing
shown = Does (statements.Print (l 2) (Value (Scalar 0) ∷ []))

-- the loop goes on twice and then ends
two_rounds : marks_of loop (walked loop 20 (first_configuration loop))
    ≡ Makes counted ∷ (Makes (Turns (l 1) 0) ∷ (Decides true ∷ (Makes shown ∷ (Makes (Turns (l 1) 0) ∷ (Decides true ∷ (Makes shown ∷ (Makes (Turns (l 1) 0) ∷ (Decides false ∷ []))))))))
two_rounds = refl

-- the second test is not completed within 3 steps, and decides nothing
one_round : marks_of (record loop { limit = 3 }) (walked (record loop { limit = 3 }) 20 (first_configuration loop)) ≡ Makes counted ∷ (Makes (Turns (l 1) 0) ∷ (Decides true ∷ (Makes shown ∷ (Makes (Turns (l 1) 0) ∷ []))))
one_round = refl

-- IF (I .EQ. n) with a CONTINUE on the yes side alone, where I is 0
abbrev fork : ℕ → FlatJob
fork n = job (Test (Compared Eq (Scalar 0) (Number (pos n))) 2 ∷ (Jump 3 ∷ (Jump 5 ∷ (Skip ∷ (Jump 5 ∷ (Stop ∷ [])))))) (l 1 ∷ (l 1 ∷ (l 1 ∷ (l 2 ∷ (l 1 ∷ (l 3 ∷ [])))))) 100

abbrev asked : ℕ → Doing
asked n = Tests (l 1) (Compared Eq (Scalar 0) (Number (pos n)))

yes_side : marks_of (fork 0) (walked (fork 0) 20 (first_configuration (fork 0))) ≡ Makes (asked 0) ∷ (Decides true ∷ (Makes (Does (statements.Continue (l 2))) ∷ []))
yes_side = refl

no_side : marks_of (fork 1) (walked (fork 1) 20 (first_configuration (fork 1))) ≡ Makes (asked 1) ∷ (Decides false ∷ [])
no_side = refl
