use Rattle.decomp_map.proofs.Dealing.{position_of_number-is}
use Rattle.decomp_map.proofs.positions.Positions.position_of.Goals as goal

pub returns : goal.returns
returns c =
    let s = c.args.self.now in
    rw (c.from-block.ensures, c.from.ensures, c.from-2.ensures) (position_of_number-is s.block s.ranks c.args.rank c.args.number)
