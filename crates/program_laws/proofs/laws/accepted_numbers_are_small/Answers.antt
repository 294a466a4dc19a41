use Rattle.program_laws.proofs.Small.{arrays_small, dimension_small, sites_small}
use Rattle.program_laws.proofs.laws.accepted_numbers_are_small.Goals as goal

pub returns-clause-arrays : goal.returns-clause-arrays
returns-clause-arrays c = arrays_small

pub returns-clause-dimensions : goal.returns-clause-dimensions
returns-clause-dimensions c = dimension_small

pub returns-clause-references : goal.returns-clause-references
returns-clause-references c = sites_small
