use Rattle.program_laws.proofs.ItemsFound.{for_home, for_ranks}
use Rattle.program_laws.proofs.laws.references_have_items.Goals as goal

pub returns-clause-for_all_ranks : goal.returns-clause-for_all_ranks
returns-clause-for_all_ranks c = for_ranks

pub returns-clause-for_homes : goal.returns-clause-for_homes
returns-clause-for_homes c = for_home
