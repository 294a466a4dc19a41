use Rattle.std.proofs.Common.{arith}
use Rattle.std.proofs.lemmas.Int.{ints, to_z-of_z}
use Rattle.fd_base.proofs.Quotients.{remainder_is}
use Rattle.fd_base.proofs.numbers.rem.Goals as goal

pub returns : goal.returns
returns c = grind (arith, ints, to_z-of_z, remainder_is)
