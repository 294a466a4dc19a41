use Rattle.fd_parser.proofs.Conditions.{relation_at}
use Rattle.fd_parser.proofs.condition.rel_sign.Goals as goal

pub returns-in-Some-rel_of : goal.returns-in-Some-rel_of
returns-in-Some-rel_of c = relation_at c.in-Some.ensures c.in-Some-rel_of.ensures
