-- A program with its items and its code, on an input, a number of ranks and a limit of steps.
use Rattle.std.specs.Prelude.{ℕ, ℤ, List}
use Rattle.fd_prog.specs.Programs.{CheckedProgram}
use Rattle.section_num.specs.declared.numbering.Items.{Items}
use Rattle.exec_code.specs.Instructions.{FlatCode, FlatJob}

abbrev pub job_with : CheckedProgram → Items → FlatCode → List ℤ → ℕ → ℕ → FlatJob
job_with p items code input ranks limit =
    record { program = p; items = items.items; of_site = items.of_site; code = code; input = input; ranks = ranks; limit = limit }
