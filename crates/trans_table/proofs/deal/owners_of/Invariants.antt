use Rattle.std.proofs.Common.{◌≡◌, ◌<◌, map, take}
use Rattle.std.specs.Prelude.{All}
use Rattle.fd_base.specs.Places.{owner_by_value}
use Rattle.trans_table.proofs.deal.owners_of.Given as goal

abbrev pub invariant-loop-value : goal.invariant-loop-value
invariant-loop-value l = (l.owners.items ≡ map (owner_by_value l.ranks) (take l.value-index l.values)) × All (λ owner. owner < l.ranks) l.owners.items
