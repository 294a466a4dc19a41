use Rattle.std.proofs.Common.{◌∙◌, ap}
use Rattle.fd_base.specs.Places as places
use Rattle.owner_part.proofs.ByMap.{owners_of_positions}
use Rattle.owner_part.proofs.installing.place_of_positions.Goals as goal

pub returns-clause-place : goal.returns-clause-place
returns-clause-place c = ap places.Split (c.in_ok-table.ensures.owners ∙ owners_of_positions c.args.values.now c.args.ranks)
