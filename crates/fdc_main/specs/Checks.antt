-- What mode check finds in a text: which line of it is wrong, or the verdict on the places that it lists.
use Rattle.std.specs.Prelude.{ℕ, ◌+◌, List, map, length}
use Rattle.fd_prog.specs.Programs.{CheckedProgram}
use Rattle.fd_prog.specs.Flow.{graph_of}
use Rattle.fd_prog.specs.Nodes.{Node, nodes_of, nodes_among}
use Rattle.fd_prog.specs.Paths.{Places, taken_inside}
use Rattle.fd_prog.specs.Uses.{items_of, takes}
use Rattle.place_text.specs.Readings.{Layout, IsReadAs, IsFirstWrong, lines_in, opening}
use Rattle.place_check.specs.Verdicts.{IsVerdict}
use Rattle.place_check.specs.declared.verdict.Verdict.{Verdict}
use Rattle.program_laws.specs.Plans.{plan_of}
use Rattle.fdc_main.specs.declared.check.Finding.{Finding}
use Rattle.fdc_main.specs.declared.check.Finding.TheVariants.{WrongLine, Judged}

-- what the lines of a listing can tell of a program: its nodes by their lines, its items, and the items that the body of each loop takes
abbrev pub layout_of : CheckedProgram → Layout
layout_of p = record { lines = map (λ (n : Node). n.line) (nodes_of p); items = length (items_of p); taken = taken_inside (graph_of (nodes_of p)) (takes p) }

-- the first lines of a listing of a program: how many items it has, and its items
abbrev pub front_of : CheckedProgram → List (List ℕ)
front_of p = opening p (items_of p)

-- the text lists these places for a program, and the verdict on them is this
pub record IsJudged (p : CheckedProgram) (text : List ℕ) (v : Verdict) : Type 0 where
  pub places : Places
  pub read : IsReadAs (front_of p) (layout_of p) (lines_in text) places
  pub verdict : IsVerdict (plan_of p places) (nodes_among p.body + 1) v

-- what there is to find in a text; there is one thing at most
abbrev pub IsFound : CheckedProgram → List ℕ → Finding → Type 0
IsFound p text (WrongLine line) = IsFirstWrong (front_of p) (layout_of p) (lines_in text) line.0
IsFound p text (Judged v) = IsJudged p text v
