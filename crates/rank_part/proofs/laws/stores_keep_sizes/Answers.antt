use Rattle.rank_part.proofs.Sizes.{assigned-sizes, first-sizes, gained-sizes, put-sizes, read-sizes}
use Rattle.rank_part.proofs.laws.stores_keep_sizes.Goals as goal

pub returns-clause-first : goal.returns-clause-first
returns-clause-first c = first-sizes

pub returns-clause-cell : goal.returns-clause-cell
returns-clause-cell c = put-sizes

pub returns-clause-assignment : goal.returns-clause-assignment
returns-clause-assignment c = assigned-sizes

pub returns-clause-reading : goal.returns-clause-reading
returns-clause-reading c = read-sizes

pub returns-clause-gain : goal.returns-clause-gain
returns-clause-gain c = gained-sizes
