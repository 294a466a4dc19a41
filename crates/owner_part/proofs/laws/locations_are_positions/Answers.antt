use Rattle.fd_prog.proofs.Locations.{location-value, same_place}
use Rattle.owner_part.proofs.laws.locations_are_positions.Goals as goal

pub returns-clause-location : goal.returns-clause-location
returns-clause-location c = location-value

pub returns-clause-owner : goal.returns-clause-owner
returns-clause-owner c = same_place
