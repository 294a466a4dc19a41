use Rattle.std.proofs.Common.{◌≡◌, take}
use Rattle.fd_prog.specs.Programs.{program_of}
use Rattle.fd_prog.specs.Stores.{first_store}
use Rattle.seq_meaning.proofs.store.zeros.Given as goal

-- the arrays before the index
abbrev pub invariant-loop-array : goal.invariant-loop-array
invariant-loop-array l = l.arrays.items ≡ take l.array-index (first_store (program_of l.program)).arrays
