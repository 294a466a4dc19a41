-- One instruction over one whole store.
use Rattle.std.specs.Prelude.{ℕ, zero, suc, ◌+◌, ℤ, Bool, true, false, nat_lt, List, [], ◌∷◌, slice_get, slice_index_or, Option, Some, None, Result, Ok, Err}
use Rattle.fd_base.specs.declared.numbering.Line.{Line}
use Rattle.fd_base.specs.declared.numbers.FaultKind.{FaultKind}
use Rattle.fd_base.specs.declared.numbers.FaultKind.TheVariants.{StepLimit}
use Rattle.fd_prog.specs.Homes.{Distribution, distribution_at}
use Rattle.fd_prog.specs.Programs.{CheckedProgram}
use Rattle.fd_prog.specs.Sequence.{Progress, bounds_of, gained, line_text, with_line}
use Rattle.fd_prog.specs.Statements.{Target, ToScalar, ToElement}
use Rattle.fd_prog.specs.Stores.{Store, ScalarCell, put, cell_of, read_into, readings_of, first_store}
use Rattle.fd_prog.specs.Values.{value_of, truth_of}
use Rattle.exec_code.specs.Instructions.{Instruction, Assign, Read, Print, Skip, Install, Test, Start, Turn, Jump, Send, Recv, Stop, FlatJob}
use Rattle.fd_prog.specs.Mappings.{Mapping, first_mapping, installed}

-- an open DO: how many iterations haven't begun, its step, and whether its first test was made
pub record OpenLoop : Type 0 where
  pub left : ℕ
  pub by : ℤ
  pub begun : Bool

-- where the machine stands: the position in the code, what the run in sequence has (the store, the count of completed steps and the printed lines), the mapping, and the open DO loops, the innermost first
pub record Configuration : Type 0 where
  pub at : ℕ
  pub now : Progress
  pub mapping : Mapping
  pub loops : List OpenLoop

-- what comes of an instruction: the machine goes on; it goes on, and a fault of some ranks alone is noted; a fault of all ranks ends the trace; the code has ended; or there is no such instruction
pub data Effect : Type 0 where
  Goes : Configuration → Effect
  Notes : FaultKind → Configuration → Effect
  Faults : FaultKind → Effect
  Ends : Effect
  Strays : Effect

-- a step, where the limit allows it
abbrev pub limited : Bool → Effect → Effect
limited true e = e
limited false e = Faults StepLimit

-- what all ranks do: a fault ends the trace
abbrev pub by_all : {A : Type 0} → Result A FaultKind → (A → Effect) → Effect
by_all (Ok x) go = go x
by_all (Err kind) go = Faults kind

-- what some ranks do: where there is a fault, the others go on as if the rest did nothing
abbrev pub by_some : {A : Type 0} → Configuration → Result A FaultKind → (A → Effect) → Effect
by_some without (Ok x) go = go x
by_some without (Err kind) go = Notes kind without

abbrev pub by_home : {A : Type 0} → Option Distribution → Configuration → Result A FaultKind → (A → Effect) → Effect
by_home None without r go = by_all r go
by_home (Some d) without r go = by_some without r go

-- how the array of a target is distributed; none where all ranks have the target
abbrev pub target_distribution : CheckedProgram → Target → Option Distribution
target_distribution p (ToScalar s) = None
target_distribution p (ToElement array subs site) = distribution_at p array

-- one step more
abbrev pub stepped : Progress → Progress
stepped now = record now { steps = now.steps + 1 }

-- behind a step, at a position, with a store
abbrev pub behind : Configuration → ℕ → Store → Configuration
behind c at store = record c { at = at; now = record (stepped c.now) { store = store } }

-- on one way or the other
abbrev pub choice : Bool → ℕ → ℕ → ℕ
choice true so otherwise = so
choice false so otherwise = otherwise

-- a test of a DO is one of its first, or the variable gains the step before it
abbrev pub gained_after : Bool → ℕ → ℤ → Store → Result Store FaultKind
gained_after true var by s = gained var by s
gained_after false var by s = Ok s

-- behind a test: where an iteration is left, it begins; where none is left, the loop is no longer open
abbrev pub turned : Configuration → ℕ → ℕ → ℤ → List OpenLoop → Store → Configuration
turned c exit zero by outer store = record (behind c exit store) { loops = outer }
turned c exit (suc left) by outer store = record (behind c (suc c.at) store) { loops = record { left = left; by = by; begun = true } ∷ outer }

-- a test of the innermost open DO
abbrev pub turn : FlatJob → ℕ → ℕ → Configuration → List OpenLoop → Effect
turn j var exit c [] = Strays
turn j var exit c (l ∷ outer) =
    limited (nat_lt c.now.steps j.limit) (by_all (gained_after l.begun var l.by c.now.store) (λ store. Goes (turned c exit l.left l.by outer store)))

-- what comes of an instruction
abbrev pub act : FlatJob → Instruction → Configuration → Effect
act j (Assign target e) c =
    limited (nat_lt c.now.steps j.limit) (by_all (cell_of (readings_of j.program c.now.store) target)
    (λ cell. by_home (target_distribution j.program target) (behind c (suc c.at) c.now.store) (value_of (readings_of j.program c.now.store) e)
    (λ x. Goes (behind c (suc c.at) (put cell x c.now.store)))))
act j (Read target) c =
    limited (nat_lt c.now.steps j.limit) (by_all (read_into j.program j.input target c.now.store) (λ store. Goes (behind c (suc c.at) store)))
act j (Print items) c =
    limited (nat_lt c.now.steps j.limit) (by_some (behind c (suc c.at) c.now.store) (line_text (readings_of j.program c.now.store) items)
    (λ text. Goes (record c { at = suc c.at; now = with_line text (stepped c.now) })))
act j Skip c = limited (nat_lt c.now.steps j.limit) (Goes (behind c (suc c.at) c.now.store))
act j (Install decomp number) c =
    limited (nat_lt c.now.steps j.limit) (Goes (record (behind c (suc c.at) c.now.store) { mapping = installed j.program j.ranks decomp number c.now.store c.mapping }))
act j (Test condition no_side) c =
    limited (nat_lt c.now.steps j.limit) (by_all (truth_of (readings_of j.program c.now.store) condition) (λ b. Goes (behind c (choice b (suc c.at) no_side) c.now.store)))
act j (Start var first last by) c =
    limited (nat_lt c.now.steps j.limit) (by_all (bounds_of (readings_of j.program c.now.store) first last by)
    (λ b. Goes (record (behind c (suc c.at) (put (ScalarCell var) b.first c.now.store)) { loops = record { left = b.count; by = b.by; begun = false } ∷ c.loops })))
act j (Turn var exit) c = turn j var exit c c.loops
act j (Jump to) c = Goes (record c { at = to })
act j (Send x) c = Goes (record c { at = suc c.at })
act j (Recv x) c = Goes (record c { at = suc c.at })
act j Stop c = Ends

abbrev pub act_where : FlatJob → Option Instruction → Configuration → Effect
act_where j None c = Strays
act_where j (Some i) c = act j i c

-- the instruction at a position
abbrev pub instruction_at : FlatJob → ℕ → Option Instruction
instruction_at j at = slice_get j.code.instructions at

-- the line of the instruction at a position
abbrev pub line_at : FlatJob → ℕ → Line
line_at j at = slice_index_or j.code.lines at (record { 0 = 0 })

-- what comes of the instruction at which the machine stands
abbrev pub effect : FlatJob → Configuration → Effect
effect j c = act_where j (instruction_at j c.at) c

-- where the machine begins
abbrev pub first_configuration : FlatJob → Configuration
first_configuration j = record {
  at = 0;
  now = record { store = first_store j.program; steps = 0; lines = [] };
  mapping = first_mapping j.program j.ranks;
  loops = [];
}
