use Rattle.rank_part.proofs.Given.{first-owners, given-owners}
use Rattle.rank_part.proofs.laws.owners_are_ranks.Goals as goal

pub returns-clause-first : goal.returns-clause-first
returns-clause-first c = first-owners

pub returns-clause-given : goal.returns-clause-given
returns-clause-given c = given-owners
