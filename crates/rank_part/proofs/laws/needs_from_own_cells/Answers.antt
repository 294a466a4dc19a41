use Rattle.rank_part.proofs.AcceptedNeeds.{accepted-needs, needs-at_hand}
use Rattle.rank_part.proofs.OwnNeeds.{needs_by_part, needs_same}
use Rattle.rank_part.proofs.laws.needs_from_own_cells.Goals as goal

pub returns-clause-cells : goal.returns-clause-cells
returns-clause-cells c = λ s q x rank limit alike reads. needs_same s q x rank limit alike reads

pub returns-clause-part : goal.returns-clause-part
returns-clause-part c = needs_by_part

pub returns-clause-read : goal.returns-clause-read
returns-clause-read c = needs-at_hand

pub returns-clause-accepted : goal.returns-clause-accepted
returns-clause-accepted c = accepted-needs
