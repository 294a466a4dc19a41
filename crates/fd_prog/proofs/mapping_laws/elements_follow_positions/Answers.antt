use Rattle.fd_prog.proofs.Mappings.{owners-length, position-lt, owner-of-position}
use Rattle.fd_prog.proofs.mapping_laws.elements_follow_positions.Goals as goal

pub returns-clause-count : goal.returns-clause-count
returns-clause-count c = owners-length

pub returns-clause-inside : goal.returns-clause-inside
returns-clause-inside c = position-lt

pub returns-clause-owner : goal.returns-clause-owner
returns-clause-owner c = owner-of-position
