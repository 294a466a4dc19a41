-- A run in sequence: what it prints, and how it ends.
use Rattle.std.specs.Prelude.{ℕ, List, [], ◌∷◌, ◌++◌}
use Rattle.fd_prog.specs.declared.run.Printed.{Printed}
use Rattle.fd_prog.specs.declared.run.Outcome.{Outcome}

-- the printed lines in order, each with its step, and the end
pub record Run : Type 0 where
  pub lines : List Printed
  pub outcome : Outcome

-- the text of printed lines, each with LF behind it
abbrev pub lines_text : List Printed → List ℕ
lines_text [] = []
lines_text (line ∷ lines) = line.text ++ (10 ∷ lines_text lines)
