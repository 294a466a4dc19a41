-- The mappings that a run comes by.
use Rattle.std.specs.Prelude.{ℕ, Contains}
use Rattle.fd_base.specs.declared.numbering.Line.{Line}
use Rattle.fd_prog.specs.declared.statement.Remapped.{Remapped}
use Rattle.fd_prog.specs.Mappings.{Mapping, first_mapping, redistributed}
use Rattle.fd_prog.specs.Programs.{CheckedProgram}
use Rattle.fd_prog.specs.Statements.{Distribute}
use Rattle.fd_prog.specs.Stores.{Store}
use Rattle.program_laws.specs.Maps.{top_statements}

-- a run on so many ranks comes by the mapping before it, and by that behind each DISTRIBUTE of the program, whatever the store is at that moment
pub data IsReached (p : CheckedProgram) (ranks : ℕ) : Mapping → Type 0 where
  begins : IsReached p ranks (first_mapping p ranks)
  behind : {m : Mapping} (s : Store) (line : Line) (decomp : ℕ) (given : Remapped) → IsReached p ranks m → Contains (top_statements p.body) (Distribute line decomp given)
      → IsReached p ranks (redistributed p s ranks decomp given m)
