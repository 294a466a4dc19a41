use Rattle.rank_part.proofs.ItemReading.{item-reads}
use Rattle.rank_part.proofs.laws.index_arrays_are_local.Goals as goal

pub returns : goal.returns
returns c = item-reads
