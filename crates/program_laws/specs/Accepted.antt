-- What every accepted program keeps to.
use Rattle.fd_prog.specs.Programs.{CheckedProgram}
use Rattle.fd_prog.specs.Checked.{IsCheckedProgram}
use Rattle.fd_prog.specs.Mapped.{IsMapped}
use Rattle.fd_prog.specs.Words.{SetWords}
use Rattle.program_laws.specs.Indexing.{AreIndexedStatements}
use Rattle.program_laws.specs.Maps.{HasMaps}
use Rattle.program_laws.specs.Named.{IsNamed}
use Rattle.program_laws.specs.Own.{HasOwn, IsLimited}

-- the rules on names, shapes and counts, on bounds, alignments and attributes, on DISTRIBUTE by a map, and on the subscripts of distributed references; the numbers that are written in it fit 64 bits
pub record IsAcceptedProgram (p : CheckedProgram) : Type 0 where
  pub checked : IsCheckedProgram p
  pub named : IsNamed p
  pub mapped : IsMapped p
  pub own : HasOwn p
  pub maps : HasMaps p
  pub indexed : AreIndexedStatements p p.body
  pub limits : IsLimited p
  pub words : SetWords p.body
