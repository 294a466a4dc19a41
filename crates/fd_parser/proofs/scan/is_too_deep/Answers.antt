use Rattle.std.proofs.Common.{refl, arith}
use Rattle.fd_parser.proofs.scan.is_too_deep.Goals as goal

pub loop-token-init : goal.loop-token-init
loop-token-init c = record {
  rest = rw (c.begins_with-one_group.ensures, c.own_of.ensures.value) refl;
  own = c.own_of.ensures.small;
  shallow = omega arith;
}
