-- Jobs that may be run on ranks.
use Rattle.std.specs.Prelude.{◌≡◌, ◌+◌, ◌<◌, ◌≤◌, ◌^◌, List, [], ◌∷◌, ◌++◌, length, map}
use Rattle.fd_base.specs.declared.numbering.ItemNo.{ItemNo}
use Rattle.fd_base.specs.declared.numbers.FaultKind.{FaultKind}
use Rattle.fd_prog.specs.declared.item.Item.{Item}
use Rattle.fd_prog.specs.Items.{linear_item_of}
use Rattle.fd_prog.specs.Nodes.{nodes_of, nodes_among}
use Rattle.fd_prog.specs.PathConditions.{IsGoodPlan}
use Rattle.fd_prog.specs.Paths.{Places, Plan}
use Rattle.fd_prog.specs.Programs.{CheckedProgram}
use Rattle.fd_prog.specs.Sequence.{sequential_run}
use Rattle.fd_prog.specs.Uses.{items_of, items_at_sites}
use Rattle.program_laws.specs.Accepted.{IsAcceptedProgram}
use Rattle.program_laws.specs.Plans.{plan_of}
use Rattle.exec_code.specs.Instructions.{FlatJob}
use Rattle.exec_code.specs.Machine.{Configuration, Ends, Faults, effect}
use Rattle.exec_code.specs.Passing.{marks_of}
use Rattle.exec_code.specs.Traces.{IsTrace, run_of_trace}
use Rattle.exec_code.specs.Trails.{IsAlong, Arrives}

-- how a trace ends, with what it passes: at Stop, where it has passed a path to End; or by a fault of all ranks on a path
pub data Finishes (j : FlatJob) (p : Plan) (before : List Configuration) (last : Configuration) : Type 0 where
  stops : effect j last ≡ Ends → Arrives p (nodes_of j.program) (nodes_among j.program.body + 1) (marks_of j (before ++ (last ∷ []))) → Finishes j p before last
  fails : (kind : FaultKind) → effect j last ≡ Faults kind → IsAlong p (nodes_of j.program) (marks_of j (before ++ (last ∷ []))) → Finishes j p before last

-- the job's trace has the lines and the end of the run in sequence, and passes a path
pub record Follows (j : FlatJob) (p : Plan) : Type 0 where
  pub before : List Configuration
  pub last : Configuration
  pub trace : IsTrace j before last
  pub finish : Finishes j p before last
  pub run : run_of_trace j before last ≡ sequential_run j.program j.input j.limit

-- these are the items of a program, and the item of each of its references; there are at most 512
pub record AreItemsOf (p : CheckedProgram) (xs : List Item) (of_site : List ItemNo) : Type 0 where
  pub few : length xs ≤ 512
  pub items : map linear_item_of xs ≡ items_of p
  pub sites : map (λ (x : ItemNo). x.0) of_site ≡ items_at_sites p

-- these places keep the conditions on every path of a program
abbrev pub AreGoodPlaces : CheckedProgram → Places → Type 0
AreGoodPlaces p places = IsGoodPlan (plan_of p places) (nodes_among p.body + 1)

-- a job that may be run on ranks
pub record IsSoundJob (j : FlatJob) : Type 0 where
  -- the program breaks no rule
  pub accepted : IsAcceptedProgram j.program
  pub items : AreItemsOf j.program j.items j.of_site
  -- there are 1 to 16 ranks, and 1 to 100,000,000 steps
  pub some_ranks : 1 ≤ j.ranks
  pub few_ranks : j.ranks ≤ 16
  pub some_steps : 1 ≤ j.limit
  pub few_steps : j.limit ≤ 100000000
  -- positions in the code have 32 bits, and each instruction has a line
  pub short : length j.code.instructions < 2 ^ 32
  pub lines : length j.code.lines ≡ length j.code.instructions
  -- for some good placement, the trace has the lines and the end of the run in sequence, and passes a path
  pub places : Places
  pub good : AreGoodPlaces j.program places
  pub follows : Follows j (plan_of j.program places)
