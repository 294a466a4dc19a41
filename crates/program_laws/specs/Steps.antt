-- The steps of a program that store a number.
use Rattle.std.specs.Prelude.{◌≡◌, ℕ, ℤ, List, Ok}
use Rattle.fd_base.specs.declared.numbering.Line.{Line}
use Rattle.fd_prog.specs.Expressions.{Expression}
use Rattle.fd_prog.specs.Nodes.{Role, Simple, Loop, Latch}
use Rattle.fd_prog.specs.Programs.{CheckedProgram}
use Rattle.fd_prog.specs.Sequence.{Bounds, bounds_of, gained}
use Rattle.fd_prog.specs.Statements.{Target, Assign, Read, Do, Statements}
use Rattle.fd_prog.specs.Stores.{Store, ScalarCell, assigned, put, read_into, readings_of}

-- a step at a node of this role leads from one store to another: an assignment, a READ, the start of a DO, and what its variable gains before a test
pub data Stores (p : CheckedProgram) (input : List ℤ) : Role → Store → Store → Type 0 where
  assigns : {line : Line} {target : Target} {e : Expression} {s next : Store} → assigned p target e s ≡ Ok next → Stores p input (Simple (Assign line target e)) s next
  reads : {line : Line} {target : Target} {s next : Store} → read_into p input target s ≡ Ok next → Stores p input (Simple (Read line target)) s next
  starts : {line : Line} {var : ℕ} {first last by : Expression} {body : Statements} {latch : ℕ} {b : Bounds} {s : Store} → bounds_of (readings_of p s) first last by ≡ Ok b
      → Stores p input (Loop (Do line var first last by body) latch) s (put (ScalarCell var) b.first s)
  gains : {line : Line} {var : ℕ} {first last by : Expression} {body : Statements} {begin : ℕ} (z : ℤ) {s next : Store} → gained var z s ≡ Ok next
      → Stores p input (Latch (Do line var first last by body) begin) s next
