use Rattle.std.proofs.Common.{◌≡◌, rules}
use Rattle.std.specs.Prelude.{option_map}
use Rattle.fd_prog.specs.Homes.{distribution_of}
use Rattle.fd_prog.specs.Programs.{program_of}
use Rattle.owner_part.proofs.Shifts.{small_distribution}
use Rattle.owner_part.proofs.Tables.{lies_along}
use Rattle.owner_part.specs.Distributions.{view_of}
use Rattle.owner_part.proofs.distribution.distribution_of.Goals as goal

pub returns-clause-small : goal.returns-clause-small
returns-clause-small c =
    let value : option_map view_of c.distribution_over.result ≡ distribution_of (program_of c.args.program.now) c.args.array.now = search rules in
    small_distribution (program_of c.args.program.now) c.args.array.now c.requires.program c.requires.array c.distribution_over.result value

pub returns-clause-along : goal.returns-clause-along
returns-clause-along c =
    let value : option_map view_of c.distribution_over.result ≡ distribution_of (program_of c.args.program.now) c.args.array.now = search rules in
    lies_along (program_of c.args.program.now) c.args.array.now c.requires.program c.requires.array c.distribution_over.result value
