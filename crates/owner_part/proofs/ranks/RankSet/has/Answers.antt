use Rattle.std.proofs.Common.{◌∙◌, arith}
use Rattle.std.proofs.lemmas.Bool.{le-ltb}
use Rattle.owner_part.proofs.RankBits.{none_above}
use Rattle.owner_part.proofs.ranks.RankSet.has.Goals as goal

pub returns-else-rank-lt16 : goal.returns-else-rank-lt16
returns-else-rank-lt16 c =
    le-ltb c.args.rank.0 16 c.if-rank-lt16.false ∙ none_above c.args.self.0 c.args.rank.0 (omega arith) c.if-rank-lt16.false
