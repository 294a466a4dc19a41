use Rattle.fd_prog.proofs.Mappings.{first-consistent, redistributed-consistent}
use Rattle.fd_prog.proofs.mapping_laws.mappings_are_consistent.Goals as goal

pub returns-clause-first : goal.returns-clause-first
returns-clause-first c = first-consistent

pub returns-clause-later : goal.returns-clause-later
returns-clause-later c = redistributed-consistent
