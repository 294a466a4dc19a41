use Rattle.rank_part.proofs.Given.{given-to, left-alone, owner-by-map}
use Rattle.rank_part.proofs.laws.distributes_give_owners.Goals as goal

pub returns-clause-aligned : goal.returns-clause-aligned
returns-clause-aligned c = given-to

pub returns-clause-others : goal.returns-clause-others
returns-clause-others c = left-alone

pub returns-clause-by_map : goal.returns-clause-by_map
returns-clause-by_map c = owner-by-map
