use Rattle.fd_prog.specs.Programs.{program_of}
use Rattle.owner_part.proofs.Told.{TellsFirst}
use Rattle.owner_part.proofs.installing.install.Given as goal

-- the places of the arrays so far
abbrev pub invariant-loop-number : goal.invariant-loop-number
invariant-loop-number l = TellsFirst (program_of l.program) l.decomp l.values l.ranks l.number l.places
